-- `writer::write` meets its contract: mark and counts, then the contents and the labels, each in the part behind what has been written.
use mathlib.Core.Path.{◌≡◌, refl, ap₂, ◌∙◌}
use mathlib.Core.List.{List, ◌++◌}
use Prim.Native.Nat.{ℕ, ◌+◌, ◌*◌, ◌-◌, ◌≤◌}
use native.Mathlib.Omega.{arith}
use lib.ListN.{length, take, drop}
use Rattle.planbytes.specs.Plan.{label_count, contents, labels, plan_head, plan_bytes, plan_length}
use Rattle.routine.specs.Layout.{vertices}
use Rattle.words.specs.Tables.{wrote}
use Rattle.words.proofs.Buffers.{Front, starts, lends, more}
use Rattle.planbytes.proofs.Sizes.{labels_few, labels_length, labels_at_is, plan_length_lem}
use Rattle.planbytes.proofs.writer.write.Goals as goal
use Rattle.planbytes.proofs.writer.write.Goals.{After-write, After-write_head, Start}

-- ---- the buffer at the call, its first bytes at the end, and where the labels stand

abbrev old : Start → List ℕ
old s = s.args.out.now

abbrev first : Start → List ℕ
first s = plan_head (vertices s.args.routine.now.bytes) (label_count s.args.routine.now.bytes)

room : (s : Start) → 8 + 4 * vertices s.args.routine.now.bytes + length (labels s.args.routine.now.bytes) ≤ length (old s)
unfolding plan_length
room s = omega (arith, plan_length_lem s.args.routine.now.bytes, labels_length s.args.routine.now.bytes)

few : (s : Start) → label_count s.args.routine.now.bytes ≤ 2048
few s = labels_few s.args.routine.now.bytes s.args.routine.now.well.laid

-- ---- mark and counts
pub write_head-requires : goal.write_head-requires
write_head-requires c =
    record {
      in_bounds = omega (arith, room (goal.at.write_head-requires c).Start);
      vertices_bound = omega (arith, c.total.ensures, few (goal.at.write_head-requires c).Start, c.vertices-n.ensures, c.args.routine.now.well.laid.limits.few_vertices);
    }

head : (c : After-write_head) → Front (old (goal.at.After-write_head c).Start) (first (goal.at.After-write_head c).Start) c.write_head.new.out
head c =
    record {
      is = c.write_head.ensures ∙ ap₂ (λ (n k : ℕ). wrote (old (goal.at.After-write_head c).Start) (plan_head n k)) c.vertices-n.ensures c.total.ensures;
    }

-- ---- the contents
pub write-requires-clause-file_in_bounds : goal.write-requires-clause-file_in_bounds
write-requires-clause-file_in_bounds c = lends (head (goal.at.write-requires-clause-file_in_bounds c).After-write_head) {at = 8} refl (omega (arith, room (goal.at.write-requires-clause-file_in_bounds c).Start))

abbrev behind : After-write → List ℕ
behind c =
    let out = c.write_head.new.out in
    take 8 out ++ (c.write.new.out ++ drop (length out - 8) (drop 8 out))

both : (c : After-write) →
    Front (old (goal.at.After-write c).Start) (first (goal.at.After-write c).Start ++ contents c.args.routine.now.bytes) (behind c)
both c = more (head (goal.at.After-write c).After-write_head) {at = 8} refl (contents c.args.routine.now.bytes) c.write.ensures

-- where the labels stand
place : (s : Start) {n : ℕ} → n ≡ vertices s.args.routine.now.bytes → 8 + 4 * n ≡ length (first s ++ contents s.args.routine.now.bytes)
place s e = omega (arith, e, labels_at_is s.args.routine.now.bytes)

pub slice_bounds-write_labels-count : goal.slice_bounds-write_labels-count
slice_bounds-write_labels-count c = starts (both (goal.at.slice_bounds-write_labels-count c).After-write) (place (goal.at.slice_bounds-write_labels-count c).Start c.vertices-n.ensures) (omega (arith, c.vertices-n.ensures, room (goal.at.slice_bounds-write_labels-count c).Start))

pub slice_bounds-write_labels-start : goal.slice_bounds-write_labels-start
slice_bounds-write_labels-start c = slice_bounds-write_labels-count c

pub write_labels-requires-clause-file_in_bounds : goal.write_labels-requires-clause-file_in_bounds
write_labels-requires-clause-file_in_bounds c =
    lends (both (goal.at.write_labels-requires-clause-file_in_bounds c).After-write) (place (goal.at.write_labels-requires-clause-file_in_bounds c).Start c.vertices-n.ensures)
    (omega (arith, c.vertices-n.ensures, room (goal.at.write_labels-requires-clause-file_in_bounds c).Start))

pub returns : goal.returns
unfolding plan_bytes
returns c = (more (both (goal.at.returns c).After-write) (place (goal.at.returns c).Start c.vertices-n.ensures) (labels c.args.routine.now.bytes) c.write_labels.ensures).is
