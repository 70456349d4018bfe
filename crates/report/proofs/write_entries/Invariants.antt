-- `write_entries` meets its contract: the invariant has the entries of the arrays passed at the front.
use Rattle.words.proofs.Buffers.{Filled}
use Rattle.report.specs.Bytes.{entry_bytes, carried_of}
use Rattle.state.specs.Carrying.{bare}
use Rattle.report.proofs.write_entries.Given as goal

abbrev pub invariant-loop-a : goal.invariant-loop-a
invariant-loop-a l = Filled (λ b. entry_bytes (bare (carried_of l.states b))) l.m l.initial.out l.a l.out
