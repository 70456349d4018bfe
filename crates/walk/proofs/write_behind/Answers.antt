-- `walk::write_behind` meets its contract: the counts behind the records, and then the records.
use mathlib.Core.Path.{ap, ◌∙◌}
use mathlib.Core.List.{List, ◌++◌}
use Prim.Native.Nat.{ℕ, ◌+◌, ◌*◌, ◌≤◌}
use native.Mathlib.Omega.{arith}
use lib.ListN.{length}
use Rattle.report.specs.Bytes.{records_bytes, counts_of}
use Rattle.demand.specs.Run.{run_records}
use Rattle.walk.proofs.Bytes.{taken-length, counts_of_is}
use Rattle.words.specs.Tables.{wrote}
use Rattle.words.proofs.Written.{part_length, lent_length, write_front}
use Rattle.walk.proofs.write_behind.Goals as goal
use Rattle.walk.proofs.write_behind.Goals.{Start}

-- a count for each edge, and room for them
room : (s : Start) → s.args.records + 2 * length s.args.taken.now ≤ length s.args.out.now
room s = omega (arith, s.requires.out_room, taken-length s.args.routine.now.bytes s.args.path.now s.requires.passes_counted)

pub slice_bounds-write_counts-count : goal.slice_bounds-write_counts-count
slice_bounds-write_counts-count c = omega (arith, room (goal.at.slice_bounds-write_counts-count c).Start)

pub slice_bounds-write_counts-start : goal.slice_bounds-write_counts-start
slice_bounds-write_counts-start c = omega (arith, room (goal.at.slice_bounds-write_counts-start c).Start)

pub write_counts-requires : goal.write_counts-requires
write_counts-requires c =
    record {
      counts_len_bound = omega (arith, taken-length c.args.routine.now.bytes c.args.path.now c.requires.passes_counted, c.args.routine.now.well.laid.limits.few_edges);
      counts_in_bounds = omega (arith, room (goal.at.write_counts-requires c).Start, part_length c.args.out.now c.args.records);
    }

pub follow-requires : goal.follow-requires
follow-requires c =
    record {
      path_checked = c.requires.path_checked;
      letters_and_kept = c.requires.letters_and_kept;
      path_in_bounds = omega (arith, room (goal.at.follow-requires c).Start, c.requires.records_length, lent_length c.args.out.now c.write_counts.new.out c.args.records (omega (arith, room (goal.at.follow-requires c).Start)) c.write_counts.auto.out);
    }

pub returns : goal.returns
returns c =
    let records = records_bytes (run_records c.args.routine.now.bytes c.args.path.now) in
    record {
      by_index = c.follow.ensures.by_index;
      out_after = c.follow.ensures.out_after
          ∙ write_front c.args.out.now records (counts_of c.args.taken.now) _ c.args.records c.requires.records_length (omega (arith, room (goal.at.returns c).Start)) c.write_counts.ensures
          ∙ ap (λ (l : List ℕ). wrote c.args.out.now (records ++ l)) (counts_of_is c.args.routine.now.bytes c.args.path.now c.requires.passes_counted);
    }
