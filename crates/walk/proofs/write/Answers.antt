-- `walk::write` meets its contract: the records and the counts behind the arrays' entries, and then the entries.
use mathlib.Core.Path.{◌≡◌, sym, ap, ◌∙◌}
use mathlib.Core.List.{List, ◌++◌}
use Prim.Native.Nat.{ℕ, ◌+◌, ◌*◌, ◌≤◌}
use native.Mathlib.Omega.{arith}
use lib.ListN.{length}
use Rattle.report.specs.Bytes.{carried_of, entries_of, records_bytes}
use Rattle.routine.specs.Layout.{arrays, edges}
use Rattle.state.specs.Carrying.{bare}
use Rattle.walk.specs.Report.{counts, report_bytes}
use Rattle.demand.specs.Run.{run_records}
use Rattle.report.proofs.Bytes.{entries-length}
use Rattle.walk.proofs.Bytes.{entries_of_lem, report_parts}
use Rattle.words.specs.Tables.{wrote}
use Rattle.words.proofs.Written.{part_length, lent_length, write_front}
use Rattle.walk.proofs.write.Goals as goal
use Rattle.walk.proofs.write.Goals.{Start}

-- the parts of the report
parts : (s : Start) → 8 * arrays s.args.routine.now.bytes + (length (records_bytes (run_records s.args.routine.now.bytes s.args.path.now)) + 2 * edges s.args.routine.now.bytes) ≡ s.args.size
parts s = omega (arith, s.requires.is_length, report_parts s.args.routine.now.bytes s.args.path.now)

fits : (s : Start) → s.args.size ≤ length s.args.out.now
fits s = s.requires.out_room

pub overflow_sub-records : goal.overflow_sub-records
overflow_sub-records c = omega (arith, parts (goal.at.overflow_sub-records c).Start)

pub overflow_mul-records : goal.overflow_mul-records
overflow_mul-records c = omega (arith, c.edges.ensures, c.args.routine.now.well.laid.limits.few_edges)

pub overflow_sub-records-2 : goal.overflow_sub-records-2
overflow_sub-records-2 c = omega (arith, parts (goal.at.overflow_sub-records-2 c).Start)

pub slice_bounds-write_behind-count : goal.slice_bounds-write_behind-count
slice_bounds-write_behind-count c = omega (arith, parts (goal.at.slice_bounds-write_behind-count c).Start, fits (goal.at.slice_bounds-write_behind-count c).Start)

pub slice_bounds-write_behind-start : goal.slice_bounds-write_behind-start
slice_bounds-write_behind-start c = omega (arith, parts (goal.at.slice_bounds-write_behind-start c).Start, fits (goal.at.slice_bounds-write_behind-start c).Start)

pub write_behind-states-requires : goal.write_behind-states-requires
write_behind-states-requires c =
    record {
      path_checked = c.requires.path_checked;
      letters_and_kept = c.requires.letters_and_kept;
      passes_counted = c.requires.passes_counted;
      records_length = omega (arith, parts (goal.at.write_behind-states-requires c).Start);
      out_room = omega (arith, parts (goal.at.write_behind-states-requires c).Start, fits (goal.at.write_behind-states-requires c).Start, c.edges.ensures, part_length c.args.out.now (8 * c.arrays-m.result));
    }

pub write_entries-requires : goal.write_entries-requires
write_entries-requires c =
    record {
      m_bound = omega (arith, c.arrays-m.ensures, c.args.routine.now.well.laid.limits.few_arrays);
      m_in_bounds = omega (arith, parts (goal.at.write_entries-requires c).Start, fits (goal.at.write_entries-requires c).Start, lent_length c.args.out.now c.write_behind-states.new.out (8 * c.arrays-m.result) (omega (arith, parts (goal.at.write_entries-requires c).Start, fits (goal.at.write_entries-requires c).Start)) c.write_behind-states.auto.out);
    }

pub returns : goal.returns
unfolding report_bytes
returns c =
    let file = c.args.routine.now.bytes in
    let path = c.args.path.now in
    let states = c.write_behind-states.result in
    let rest = records_bytes (run_records file path) ++ counts file path in
    let front = ap (entries_of states) c.arrays-m.ensures ∙ entries_of_lem file path states c.write_behind-states.ensures.by_index in
    let long : 8 * c.arrays-m.result ≡ length (entries_of states c.arrays-m.result) = sym (entries-length (λ b. bare (carried_of states b)) c.arrays-m.result) in
    c.write_entries.ensures
    ∙ write_front c.args.out.now (entries_of states c.arrays-m.result) rest _ (8 * c.arrays-m.result) long (omega (arith, parts (goal.at.returns c).Start, fits (goal.at.returns c).Start)) c.write_behind-states.ensures.out_after
    ∙ ap (λ (e : List ℕ). wrote c.args.out.now (e ++ rest)) front
