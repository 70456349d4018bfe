-- `writer::write_row` meets its contract. The invariant: the bytes of the arrays before a are written. The measure is what is left.
use mathlib.Core.List.{[], ◌∷◌}
use Rattle.directives.specs.Layout.{arrays}
use Rattle.mappings.specs.Computed.{given_to}
use Rattle.mappings.specs.Converted.{action_for}
use Rattle.words.proofs.Buffers.{Filled}
use Rattle.converted.proofs.writer.write_row.Given as goal

abbrev pub invariant-loop-a : goal.invariant-loop-a
invariant-loop-a l = Filled (λ a'. action_for l.directives.bytes (given_to l.directives.bytes) a' l.v (given_to l.directives.bytes a' l.v) ∷ []) (arrays l.directives.bytes) l.initial.out l.a l.out
