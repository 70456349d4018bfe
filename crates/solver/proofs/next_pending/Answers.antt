-- `solver::next_pending` meets its contract: the lowest member of what stands above b.
use Prim.Native.Nat.{◌/◌, ◌^◌}
use native.Mathlib.Omega.{arith}
use lib.Count.{trailing_le}
use Rattle.solver.proofs.Blocks.{next_end, next_none, next_some}
use Rattle.solver.proofs.next_pending.Goals as goal

pub returns-then-b-ge-BLOCKS : goal.returns-then-b-ge-BLOCKS
returns-then-b-ge-BLOCKS c = next_end c.args.pending c.args.b c.requires c.if-b-ge-BLOCKS.true

pub returns-then-rest-eq0 : goal.returns-then-rest-eq0
returns-then-rest-eq0 c = next_none c.args.pending c.args.b c.requires c.if-rest-eq0.true

pub overflow_cast-result : goal.overflow_cast-result
overflow_cast-result c = record { fits = omega (arith, trailing_le 64 (c.args.pending / 2 ^ c.args.b)) }

pub overflow_add-result : goal.overflow_add-result
overflow_add-result c = record { fits = omega (arith, trailing_le 64 (c.args.pending / 2 ^ c.args.b), c.requires) }

pub returns : goal.returns
returns c = next_some c.args.pending c.args.b c.ranges.pending.fits c.requires c.if-rest-eq0.false
