-- `rows::write_row` meets its contract. The invariant: the bytes of the arrays before a are written. The measure is what is left.
use mathlib.Core.List.{[], ◌∷◌}
use Rattle.routine.specs.Layout.{arrays}
use Rattle.words.proofs.Buffers.{Filled}
use Rattle.calls.specs.Expanded.{expanded_byte}
use Rattle.calls.specs.VertexRows.{part_of}
use Rattle.calls.proofs.rows.write_row.Given as goal

abbrev pub invariant-loop-a : goal.invariant-loop-a
invariant-loop-a l = Filled (λ a'. expanded_byte l.routine.bytes a' (part_of l.row l.v) ∷ []) (arrays l.routine.bytes) l.initial.out l.a l.out
