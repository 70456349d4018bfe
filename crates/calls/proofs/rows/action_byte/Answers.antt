-- `rows::action_byte` meets its contract: it is a byte of the row.
use mathlib.Core.Path.{ap, ◌∙◌}
use Prim.Native.Nat.{ℕ}
use native.Mathlib.Omega.{arith}
use lib.ListN.{length}
use Rattle.routine.specs.Actions.{action_byte}
use Rattle.routine.specs.Layout.{arrays}
use Rattle.words.proofs.Tables.{table-length, table_at}
use Rattle.calls.proofs.rows.action_byte.Goals as goal
use Rattle.calls.proofs.rows.action_byte.Goals.{Start}

abbrev byte : Start → ℕ → ℕ
byte s a = action_byte s.args.routine.now.bytes a s.args.v

pub bounds-row-a : goal.bounds-row-a
bounds-row-a c = omega (arith, c.requires.a_bound, ap length c.row.ensures ∙ table-length (byte (goal.at.bounds-row-a c).Start) (arrays c.args.routine.now.bytes))

pub returns : goal.returns
returns c = rw c.row.ensures (table_at (byte (goal.at.returns c).Start) (arrays c.args.routine.now.bytes) c.args.a c.requires.a_bound)
