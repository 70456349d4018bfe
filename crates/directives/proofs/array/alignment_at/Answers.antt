-- `alignment_at` meets its contract: two bytes.
use mathlib.Core.Path.{ap₂}
use Prim.Native.Nat.{ℕ}
use Rattle.directives.specs.Directives.{alignment_at}
use Rattle.directives.proofs.array.alignment_at.Goals as goal

pub returns : goal.returns
unfolding alignment_at
returns c = ap₂ (λ (x y : ℕ). record { template = x; exchanged = y }) c.byte_at.ensures.value c.byte_at-2.ensures.value
