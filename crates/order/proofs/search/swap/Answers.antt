-- `order::search::swap` meets its contract: both edges and both places are there, and the stores are a swap.
use Prim.Native.Nat.{◌<◌}
use native.Mathlib.Omega.{arith}
use lib.ListN.{length, get_or, length-set}
use Rattle.order.proofs.Turns.{swapped}
use Rattle.order.proofs.search.swap.Goals as goal
use Rattle.order.proofs.search.swap.Goals.{After-slice_known-2-1}

-- edge i has a place, and there is an edge in the slot
there : (c : After-slice_known-2-1)
    → let a = c.args in
    (get_or a.place.now a.i 0 < length a.order.now) × (get_or a.order.now a.slot 0 < length a.order.now)
there c =
    (c.requires.placed.known c.args.i c.requires.i_in_bounds, c.requires.placed.within c.args.slot c.requires.slot_in_bounds)

pub overflow_cast-order : goal.overflow_cast-order
overflow_cast-order c = omega (arith, there c)

pub offset_bounds-order-at : goal.offset_bounds-order-at
offset_bounds-order-at c = omega (arith, there c)

pub bounds-order-at : goal.bounds-order-at
bounds-order-at c = omega (arith, there c)

pub overflow_cast-place : goal.overflow_cast-place
overflow_cast-place c = omega (arith, there c)

pub offset_bounds-place-other : goal.offset_bounds-place-other
offset_bounds-place-other c = omega (arith, there c)

pub bounds-place-other : goal.bounds-place-other
bounds-place-other c = omega (arith, there c)

pub bounds-place-i-2 : goal.bounds-place-i-2
bounds-place-i-2 c = simp length-set (omega arith)

pub returns : goal.returns
returns c = swapped (length c.args.order.now) c.args.order.now c.args.place.now c.requires.placed c.args.slot c.args.i c.requires.slot_in_bounds c.requires.i_in_bounds
