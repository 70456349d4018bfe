-- `scan::any` meets its contract: the action bytes, by the header.
use mathlib.Core.Path.{ap, ap₂}
use Prim.Native.Nat.{◌*◌}
use native.Mathlib.Omega.{arith}
use lib.ListN.{length}
use Rattle.routine.proofs.Form.{header_limits, few_actions}
use Rattle.calls.specs.Calls.{has_calls}
use Rattle.calls.proofs.scan.any.Goals as goal

pub overflow_mul-h : goal.overflow_mul-h
overflow_mul-h c = omega (arith, few_actions (header_limits c.header-h.ensures.read.heads))

pub any_from-requires : goal.any_from-requires
any_from-requires c = omega (arith, ap₂ ◌*◌ c.header-h.ensures.read.heads.vertices_are c.header-h.ensures.read.heads.arrays_are, ap length c.bytes.ensures)

pub returns : goal.returns
unfolding has_calls
returns c = rw (c.any_from.ensures, c.bytes.ensures, c.actions_at.ensures, c.header-h.ensures.read.heads.vertices_are, c.header-h.ensures.read.heads.arrays_are)
