-- `vertex::at` meets its contract, by cases of the directive's byte.
use mathlib.Core.Path.{ap₂}
use native.Mathlib.Omega.{arith}
use Rattle.directives.specs.declared.vertex.Directive.TheVariants.{Realign, Redistribute}
use Rattle.directives.specs.Directives.{directive}
use Rattle.directives.proofs.vertex.at.Goals as goal

pub returns-in-1 : goal.returns-in-1
unfolding directive
returns-in-1 c =
    rw (← c.place-at.ensures.value, ← c.byte_at-d.ensures.value, c.in-1.is)
    (ap₂ Realign c.byte_at-subject.ensures.value (rw (c.bytes.ensures) at c.alignment_at.ensures))

pub returns-in-2 : goal.returns-in-2
unfolding directive
returns-in-2 c =
    rw (← c.place-at.ensures.value, ← c.byte_at-d.ensures.value, c.in-2.is)
    (ap₂ Redistribute c.byte_at-subject.ensures.value (rw (c.bytes-in-2.ensures) at c.at.ensures))

pub returns-in_default : goal.returns-in_default
unfolding directive
returns-in_default c =
    rw (← c.place-at.ensures.value, ← c.byte_at-d.ensures.value) (grind arith)
