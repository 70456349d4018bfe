-- `check_letter` meets its contract.
use mathlib.Core.Path.{ap, ◌∙◌}
use Prim.Native.Nat.{ℕ}
use lib.Dec.{eqb}
use Rattle.directives.specs.Fields.{field_check}
use Rattle.directives.proofs.header.check_letter.Goals as goal

pub returns : goal.returns
returns c =
    let a = c.args in
    c.check.ensures ∙ ap (λ (n : ℕ). field_check a.file.now (record { at = a.at; wide = 1; right = eqb n a.letter })) c.byte_at.ensures.value
