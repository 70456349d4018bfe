-- `write_six` meets its contract: two numbers, and four in the part behind them.
use mathlib.Core.Path.{refl}
use mathlib.Core.List.{◌++◌}
use native.Mathlib.Omega.{arith}
use Rattle.rounds.specs.Calls.{four_bytes}
use Rattle.words.proofs.Buffers.{Front, starts, lends, more}
use Rattle.words.specs.Words.{bytes16}
use Rattle.rounds.proofs.write_six.Goals as goal
use Rattle.rounds.proofs.write_six.Goals.{After-write_pair}

pub write_pair-requires : goal.write_pair-requires
write_pair-requires c =
    record {
      in_bounds = omega (arith, c.requires.out_room);
      first_bound = c.requires.two_fit.0;
      second_bound = c.requires.two_fit.1;
    }

-- the first two
front : (w : After-write_pair) → Front w.args.out.now (bytes16 w.args.first ++ bytes16 w.args.arriving) w.write_pair.new.out
front w = record { is = w.write_pair.ensures }

pub slice_bounds-write_four-count : goal.slice_bounds-write_four-count
slice_bounds-write_four-count c = starts (front (goal.at.slice_bounds-write_four-count c).After-write_pair) {at = 4} refl (omega (arith, c.requires.out_room))

pub slice_bounds-write_four-start : goal.slice_bounds-write_four-start
slice_bounds-write_four-start c = slice_bounds-write_four-count c

pub write_four-requires : goal.write_four-requires
write_four-requires c =
    record {
      out_room = lends (front (goal.at.write_four-requires c).After-write_pair) {at = 4} refl c.requires.out_room;
      four_fit = c.requires.four_fit;
    }

pub returns : goal.returns
returns c =
    let a = c.args in
    (more (front (goal.at.returns c).After-write_pair) {at = 4} refl (four_bytes a.letters a.reached a.reaching a.kept) c.write_four.ensures).is
