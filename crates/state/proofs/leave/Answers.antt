-- `leave` meets its contract: three tests.
use mathlib.Core.Path.{sym, ap, ◌∙◌}
use mathlib.Core.Bool.{cond}
use Prim.Native.Nat.{ℕ}
use lib.Dec.{eqb}
use Rattle.state.specs.Computed.{single_copy}
use Rattle.state.proofs.Carrying.{left_argument, left_own, left_none}
use Rattle.state.proofs.leave.Goals as goal

pub returns-then-not-at_exit : goal.returns-then-not-at_exit
returns-then-not-at_exit c = λ s row h is. rw (c.if-not-at_exit.true) h

pub returns-then-read_only : goal.returns-then-read_only
returns-then-read_only c =
    λ s row h is.
    let a = c.args in
    rw (c.if-not-at_exit.false)
    (left_own a.r h c.requires (sym c.is_in-read_only.ensures ∙ c.if-read_only.true)
    (c.one_copy.ensures
    ∙ ap (λ (x : ℕ). single_copy a.r.initial x a.c.copies) (c.stamp_of-stamp.ensures ∙ ap (λ (x : ℕ). cond (eqb a.c.current a.r.initial) a.c.stamp x) is)))

pub returns-then-argument : goal.returns-then-argument
returns-then-argument c =
    λ s row h is.
    let a = c.args in
    rw (c.if-not-at_exit.false)
    (left_argument a.r h (sym c.is_in-read_only.ensures ∙ c.if-read_only.false) (sym c.is_argument-argument.ensures ∙ c.if-argument.true))

pub returns : goal.returns
returns c =
    λ s row h is.
    let a = c.args in
    rw (c.if-not-at_exit.false)
    (left_none a.r h (sym c.is_in-read_only.ensures ∙ c.if-read_only.false) (sym c.is_argument-argument.ensures ∙ c.if-argument.false) c.empty.ensures)
