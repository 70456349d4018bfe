-- `count_falling` meets its contract: the invariant counts the falling edges passed.
use mathlib.Core.Path.{◌≡◌, refl, ap, ◌∙◌}
use mathlib.Core.Bool.{Bool, true, false, cond}
use mir.Val.{bool_byte}
use Prim.Native.Nat.{◌+◌}
use native.Mathlib.Omega.{arith}
use Rattle.flow.specs.Paths.{edge_count}
use Rattle.words.specs.Sums.{count_of}
use Rattle.words.proofs.Sums.{total_none, total_more, count_few}
use Rattle.order.specs.Falling.{is_falling}
use Rattle.order.proofs.rising.count_falling.Goals as goal
use Rattle.order.proofs.rising.count_falling.Goals.{After-from-count}

pub loop-i-init : goal.loop-i-init
loop-i-init c = (omega arith, total_none _)

as_number : (b : Bool) → bool_byte b ≡ cond b 1 0
as_number true = refl
as_number false = refl

-- with the edge of this turn
counted : (c : After-from-count) →
    c.loop-i.count + c.from-count.result ≡ count_of (is_falling c.args.edges.now) (c.loop-i.i + 1)
counted c = total_more _ _ c.loop-i.invariant.1 (c.from-count.ensures ∙ as_number _ ∙ ap (λ (b : Bool). cond b 1 0) c.falls.ensures)

pub overflow_add-count : goal.overflow_add-count
overflow_add-count c = omega (arith, counted c, count_few (is_falling c.args.edges.now) (c.loop-i.i + 1))

pub loop-i-preserved : goal.loop-i-preserved
loop-i-preserved c = (omega arith, counted c)

pub returns : goal.returns
returns c =
    let es = c.args.edges.now in
    let all : c.loop-i.i ≡ edge_count es = omega arith in
    c.loop-i.invariant.1 ∙ ap (count_of (is_falling es)) all
