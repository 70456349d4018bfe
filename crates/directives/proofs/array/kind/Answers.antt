-- `array::kind` meets its contract: the array's first byte.
use mathlib.Core.Path.{ap, ◌∙◌}
use Prim.Native.Nat.{ℕ}
use lib.ListN.{get_or}
use Rattle.directives.proofs.array.kind.Goals as goal

pub returns : goal.returns
returns c = c.byte_at.ensures.value ∙ ap (λ (at : ℕ). get_or c.args.laid.now.bytes at 0) c.place.ensures.value
