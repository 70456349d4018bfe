-- `kept::join` meets its contract: a table is filled in place.
use mathlib.Core.Path.{refl, ap, ap₂, ◌∙◌}
use mathlib.Core.Bool.{Bool, cond}
use Prim.Native.Nat.{ℕ}
use lib.Bits.{bit_or}
use lib.ListN.{get_or}
use Rattle.words.proofs.Filling.{fill_begin, fill_next, fill_end, fill_behind}
use Rattle.passes.proofs.kept.join.Goals as goal

pub loop-i-init : goal.loop-i-init
loop-i-init c = fill_begin _ refl

pub loop-i-preserved : goal.loop-i-preserved
loop-i-preserved c =
    let version = get_or c.args.versions.now c.loop-i.i 0 in
    fill_next c.loop-i.invariant c.loop-i-test.true
    (ap₂ bit_or (c.only_if-leaving.ensures ∙ ap (λ (b : Bool). cond b version 0) c.leaves.ensures)
    (c.only_if.ensures ∙ ap₂ (λ (b : Bool) (m : ℕ). cond b m 0) c.goes_on.ensures (fill_behind c.loop-i.invariant)))

pub returns : goal.returns
returns c = fill_end c.loop-i.invariant c.loop-i-test.false
