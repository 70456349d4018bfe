-- `vertex::reference` meets its contract: the array's byte behind the directive.
use mathlib.Core.Path.{ap, ◌∙◌}
use Prim.Native.Nat.{ℕ, ◌+◌}
use lib.ListN.{get_or}
use Rattle.directives.proofs.vertex.reference.Goals as goal

pub returns : goal.returns
returns c =
    let a = c.args in
    c.byte_at.ensures.value ∙ ap (λ (at : ℕ). get_or a.laid.now.bytes (at + 12 + a.a) 0) c.place.ensures.value
