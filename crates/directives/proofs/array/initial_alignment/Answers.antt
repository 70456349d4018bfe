-- `initial_alignment` meets its contract: it stands behind the array's kind.
use mathlib.Core.Path.{ap, ◌∙◌}
use Prim.Native.Nat.{ℕ, ◌+◌}
use Rattle.directives.specs.Directives.{alignment_at}
use Rattle.directives.proofs.array.initial_alignment.Goals as goal

pub returns : goal.returns
returns c = (rw (c.bytes.ensures) at c.alignment_at.ensures) ∙ ap (λ (at : ℕ). alignment_at c.args.laid.now.bytes (at + 1)) c.place.ensures.value
