-- `expanded::write_head` meets its contract: the file's first bytes, then the counts and the array records, each in the part behind what has been written.
use mathlib.Core.Path.{◌≡◌, sym, ap, ◌∙◌}
use mathlib.Core.List.{List, ◌++◌}
use Prim.Native.Nat.{ℕ, ◌-◌, ◌*◌, ◌≤◌}
use native.Mathlib.Nat.{mul-le-mul_right}
use native.Mathlib.Omega.{arith}
use lib.ListN.{length, take, drop, length-append}
use lib.Seq.{length-take-le}
use Rattle.words.proofs.Buffers.{Front, lends, more}
use Rattle.words.proofs.Written.{part_from}
use Rattle.words.specs.Tables.{wrote}
use Rattle.words.specs.Words.{bytes16}
use Rattle.calls.specs.Writing.{count_bytes}
use Rattle.calls.proofs.expanded.write_head.Goals as goal
use Rattle.calls.proofs.expanded.write_head.Goals.{After-copy, After-write_counts, Start}

abbrev old : Start → List ℕ
old s = s.args.out.now

first_size : (s : Start) → length (take 12 s.args.routine.now.bytes) ≡ 12
first_size s = length-take-le 12 s.args.routine.now.bytes (omega (arith, s.requires.arrays_same, s.args.routine.now.well.laid.ends))

-- ---- the file's first bytes
pub slice_bounds-copy-end : goal.slice_bounds-copy-end
slice_bounds-copy-end c = rw c.bytes-file.ensures (sym (first_size (goal.at.slice_bounds-copy-end c).Start))

pub copy-requires : goal.copy-requires
copy-requires c = omega (arith, first_size (goal.at.copy-requires c).Start, ap (λ (s : List ℕ). length (take 12 s)) c.bytes-file.ensures, c.requires.in_bounds)

first : (c : After-copy) → Front (old (goal.at.After-copy c).Start) (take 12 c.args.routine.now.bytes) c.copy.new.to
first c = record { is = c.copy.ensures.out_after ∙ ap (λ (s : List ℕ). wrote (old (goal.at.After-copy c).Start) (take 12 s)) c.bytes-file.ensures }

few : (s : Start) → s.args.h.vertices * s.args.h.arrays ≤ 2048
few s = omega (arith, s.requires.limits.few_arrays, mul-le-mul_right s.args.h.arrays s.requires.limits.few_vertices)

pub write_counts-requires : goal.write_counts-requires
write_counts-requires c =
    record {
      in_bounds = lends (first (goal.at.write_counts-requires c).After-copy) (sym (first_size (goal.at.write_counts-requires c).Start)) (omega (arith, c.requires.in_bounds));
      vertices_bound = omega (arith, c.edges_at.ensures, few (goal.at.write_counts-requires c).Start, c.requires.limits);
    }

counted : (c : After-write_counts) →
    let out = c.copy.new.to in
    Front (old (goal.at.After-write_counts c).Start) (take 12 c.args.routine.now.bytes ++ count_bytes c.args.h) (take 12 out ++ (c.write_counts.new.out ++ drop (length out - 12) (drop 12 out)))
counted c =
    let h = c.args.h in
    more (first (goal.at.After-write_counts c).After-copy) (sym (first_size (goal.at.After-write_counts c).Start)) (count_bytes h)
    (c.write_counts.ensures ∙ ap (λ (n : ℕ). wrote (part_from c.copy.new.to 12) (bytes16 h.vertices ++ (bytes16 n ++ bytes16 h.edges))) c.edges_at.ensures)

pub returns : goal.returns
returns c =
    let rest = drop 18 c.bytes-file.result.now in
    let size : c.actions_at-end.result - 18 ≡ 4 * c.args.h.arrays = omega (arith, c.actions_at-end.ensures) in
    let place : 18 ≡ length (take 12 c.args.routine.now.bytes ++ count_bytes c.args.h) = omega (arith, first_size (goal.at.returns c).Start, length-append (take 12 c.args.routine.now.bytes) (count_bytes c.args.h)) in
    (more (counted (goal.at.returns c).After-write_counts) place (take (c.actions_at-end.result - 18) rest) c.copy-2.ensures.out_after).is
    ∙ ap (λ (n : ℕ). wrote (old (goal.at.returns c).Start) ((take 12 c.args.routine.now.bytes ++ count_bytes c.args.h) ++ take n rest)) size
    ∙ ap (λ (s : List ℕ). wrote (old (goal.at.returns c).Start) ((take 12 c.args.routine.now.bytes ++ count_bytes c.args.h) ++ take (4 * c.args.h.arrays) (drop 18 s))) c.bytes-file.ensures
