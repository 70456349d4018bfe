-- `writer::write_head` meets its contract: mark and edition, then each entry in the part behind what has been written.
use mathlib.Core.Path.{◌≡◌, refl, ap, ap₂, ◌∙◌}
use mathlib.Core.List.{List, [], ◌∷◌, ◌++◌}
use Prim.Native.Nat.{ℕ, ◌+◌, ◌*◌}
use native.Mathlib.Omega.{arith}
use Rattle.directives.specs.Layout.{arrays, vertices, edges}
use Rattle.words.proofs.Buffers.{Front, lends, more}
use Rattle.words.proofs.Written.{part_from}
use Rattle.words.specs.Tables.{wrote}
use Rattle.words.specs.Words.{bytes16}
use Rattle.converted.proofs.Parts.{Counted, rows_place, edges_place, put, counted, fits}
use Rattle.converted.proofs.writer.write_head.Goals as goal
use Rattle.converted.proofs.writer.write_head.Goals.{After-edges_at-edges_at, After-header_of-r, After-write_pair, After-write_pair-2, After-write_mark, Start}

file_counts : (c : After-header_of-r) → Counted c.args.directives.now.bytes c.header_of-r.result
file_counts c = counted c.args.directives.now c.header_of-r.ensures

pub actions_at-rows_at-requires : goal.actions_at-rows_at-requires
actions_at-rows_at-requires c = (file_counts c).limits

pub edges_at-edges_at-requires : goal.edges_at-edges_at-requires
edges_at-edges_at-requires c = (file_counts (goal.at.edges_at-edges_at-requires c).After-header_of-r).limits

abbrev old : Start → List ℕ
old s = s.args.out.now

rows_at : (c : After-edges_at-edges_at) → c.actions_at-rows_at.result ≡ 18 + 4 * arrays c.args.directives.now.bytes
rows_at c = c.actions_at-rows_at.ensures ∙ rows_place (file_counts (goal.at.After-edges_at-edges_at c).After-header_of-r)

edges_at_lem : (c : After-edges_at-edges_at) → let file = c.args.directives.now.bytes in c.edges_at-edges_at.result ≡ 18 + 4 * arrays file + vertices file * arrays file
edges_at_lem c = c.edges_at-edges_at.ensures ∙ edges_place (file_counts (goal.at.After-edges_at-edges_at c).After-header_of-r)

abbrev mark : List ℕ
mark = 72 ∷ 80 ∷ 70 ∷ 82 ∷ 1 ∷ 0 ∷ []

marked : (c : After-write_mark) → Front (old (goal.at.After-write_mark c).Start) mark c.write_mark.new.out
marked c = record { is = c.write_mark.ensures }

-- ---- the arrays

abbrev entry : ℕ → ℕ → List ℕ
entry offset count = bytes16 offset ++ bytes16 count

pub write_pair-requires : goal.write_pair-requires
write_pair-requires c =
    record {
      in_bounds = lends (marked (goal.at.write_pair-requires c).After-write_mark) refl (omega (arith, c.requires.in_bounds));
      first_bound = omega (arith, (file_counts (goal.at.write_pair-requires c).After-header_of-r).limits);
      second_bound = omega (arith, (file_counts (goal.at.write_pair-requires c).After-header_of-r).limits);
    }

abbrev after_arrays : After-write_pair → List ℕ
after_arrays c = put 6 c.write_mark.new.out c.write_pair.new.out

one : (c : After-write_pair) → Front (old (goal.at.After-write_pair c).Start) (mark ++ entry 18 (arrays c.args.directives.now.bytes)) (after_arrays c)
one c =
    let e = (file_counts (goal.at.After-write_pair c).After-header_of-r).arrays_are in
    more (marked (goal.at.After-write_pair c).After-write_mark) refl (entry 18 (arrays c.args.directives.now.bytes))
    (c.write_pair.ensures ∙ ap (λ (n : ℕ). wrote (part_from c.write_mark.new.out 6) (entry 18 n)) e)

pub write_pair-requires-2 : goal.write_pair-requires-2
write_pair-requires-2 c =
    record {
      in_bounds = lends (one (goal.at.write_pair-requires-2 c).After-write_pair) refl (omega (arith, c.requires.in_bounds));
      first_bound = omega (arith, rows_at (goal.at.write_pair-requires-2 c).After-edges_at-edges_at, fits c.args.directives.now, (file_counts (goal.at.write_pair-requires-2 c).After-header_of-r).limits);
      second_bound = omega (arith, rows_at (goal.at.write_pair-requires-2 c).After-edges_at-edges_at, fits c.args.directives.now, (file_counts (goal.at.write_pair-requires-2 c).After-header_of-r).limits);
    }

abbrev after_vertices : After-write_pair-2 → List ℕ
after_vertices c = put 10 (after_arrays (goal.at.After-write_pair-2 c).After-write_pair) c.write_pair-2.new.out

two : (c : After-write_pair-2) → let file = c.args.directives.now.bytes in
    Front (old (goal.at.After-write_pair-2 c).Start) ((mark ++ entry 18 (arrays file)) ++ entry (18 + 4 * arrays file) (vertices file)) (after_vertices c)
two c =
    let file = c.args.directives.now.bytes in
    more (one (goal.at.After-write_pair-2 c).After-write_pair) refl (entry (18 + 4 * arrays file) (vertices file))
    (c.write_pair-2.ensures ∙ ap₂ (λ (o n : ℕ). wrote (part_from (after_arrays (goal.at.After-write_pair-2 c).After-write_pair) 10) (entry o n)) (rows_at (goal.at.After-write_pair-2 c).After-edges_at-edges_at) (file_counts (goal.at.After-write_pair-2 c).After-header_of-r).vertices_are)

pub write_pair-requires-3 : goal.write_pair-requires-3
write_pair-requires-3 c =
    record {
      in_bounds = lends (two (goal.at.write_pair-requires-3 c).After-write_pair-2) refl (omega (arith, c.requires.in_bounds));
      first_bound = omega (arith, edges_at_lem (goal.at.write_pair-requires-3 c).After-edges_at-edges_at, fits c.args.directives.now, (file_counts (goal.at.write_pair-requires-3 c).After-header_of-r).limits);
      second_bound = omega (arith, edges_at_lem (goal.at.write_pair-requires-3 c).After-edges_at-edges_at, fits c.args.directives.now, (file_counts (goal.at.write_pair-requires-3 c).After-header_of-r).limits);
    }

pub returns : goal.returns
returns c =
    let file = c.args.directives.now.bytes in
    (more (two (goal.at.returns c).After-write_pair-2) refl (entry (18 + 4 * arrays file + vertices file * arrays file) (edges file))
    (c.write_pair-3.ensures ∙ ap₂ (λ (o n : ℕ). wrote (part_from (after_vertices (goal.at.returns c).After-write_pair-2) 14) (entry o n)) (edges_at_lem (goal.at.returns c).After-edges_at-edges_at) (file_counts (goal.at.returns c).After-header_of-r).edges_are)).is
