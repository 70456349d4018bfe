-- `write_four` meets its contract: two numbers, and two in the part behind them.
use mathlib.Core.Path.{refl}
use mathlib.Core.List.{◌++◌}
use native.Mathlib.Omega.{arith}
use Rattle.words.proofs.Buffers.{Front, starts, lends, more}
use Rattle.words.specs.Words.{bytes16}
use Rattle.rounds.proofs.write_four.Goals as goal
use Rattle.rounds.proofs.write_four.Goals.{After-write_pair}

pub write_pair-requires : goal.write_pair-requires
write_pair-requires c =
    record {
      in_bounds = omega (arith, c.requires.out_room);
      first_bound = c.requires.four_fit.0;
      second_bound = c.requires.four_fit.1;
    }

-- the first two
front : (w : After-write_pair) → Front w.args.out.now (bytes16 w.args.letters ++ bytes16 w.args.reached) w.write_pair.new.out
front w = record { is = w.write_pair.ensures }

pub slice_bounds-write_pair-count : goal.slice_bounds-write_pair-count
slice_bounds-write_pair-count c = starts (front (goal.at.slice_bounds-write_pair-count c).After-write_pair) {at = 4} refl (omega (arith, c.requires.out_room))

pub slice_bounds-write_pair-start : goal.slice_bounds-write_pair-start
slice_bounds-write_pair-start c = slice_bounds-write_pair-count c

pub write_pair-requires-2 : goal.write_pair-requires-2
write_pair-requires-2 c =
    record {
      in_bounds = lends (front (goal.at.write_pair-requires-2 c).After-write_pair) {at = 4} refl c.requires.out_room;
      first_bound = c.requires.four_fit.2;
      second_bound = c.requires.four_fit.3;
    }

pub returns : goal.returns
returns c = (more (front (goal.at.returns c).After-write_pair) {at = 4} refl (bytes16 c.args.reaching ++ bytes16 c.args.kept) c.write_pair-2.ensures).is
