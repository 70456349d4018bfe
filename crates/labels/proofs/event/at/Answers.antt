-- `event::at` meets its contract: the test tells the labels of the entry and of the exit.
use mathlib.Core.Path.{◌≡◌, ap, ap₂, ◌∙◌}
use mathlib.Core.Bool.{Bool, ◌&&◌, ◌||◌, cond}
use mathlib.Core.List.{List}
use Prim.Native.Nat.{ℕ, ◌-◌}
use lib.Dec.{eqb}
use Rattle.labels.specs.Events.{event}
use Rattle.routine.specs.Actions.{action}
use Rattle.routine.specs.Arrays.{array_of, is_out_or_inout}
use Rattle.routine.specs.Layout.{vertices, entry}
use Rattle.routine.specs.declared.action.Action.TheVariants.{Remap}
use Rattle.routine.specs.declared.array.ArrayRecord.{ArrayRecord}
use Rattle.labels.proofs.event.at.Goals as goal

-- the event, by the vertices and the array's record
told : (file : List ℕ) (a v : ℕ) {n : ℕ} {r : ArrayRecord} {b : Bool} → n ≡ vertices file → r ≡ array_of file a → b ≡ is_out_or_inout r.kind
    → cond (eqb v entry || (eqb v (n - 1) && b)) (Remap r.initial) (action file a v) ≡ event file a v
unfolding event
told file a v {n} {r} many recorded e =
    ap (λ (b : Bool). cond (eqb v entry || (eqb v (n - 1) && b)) (Remap r.initial) (action file a v)) e
    ∙ ap₂
    (λ (n : ℕ) (r : ArrayRecord). cond (eqb v entry || (eqb v (n - 1) && is_out_or_inout r.kind)) (Remap r.initial) (action file a v))
    many recorded

pub returns-then-label : goal.returns-then-label
returns-then-label c = rw (← told _ c.args.a c.args.v c.vertices.ensures c.array-r.ensures c.is_out_or_inout.ensures, c.if-label.true)

pub returns : goal.returns
returns c = rw (← told _ c.args.a c.args.v c.vertices.ensures c.array-r.ensures c.is_out_or_inout.ensures, c.if-label.false) c.action.ensures
