-- `Carried::shifted` meets its contract, with one law for its two exits.
use mathlib.Core.Path.{refl, sym, ◌∙◌}
use mathlib.Core.Bool.{true, false}
use Rattle.state.proofs.Carrying.{shifted_is}
use Rattle.state.proofs.Carried.shifted.Goals as goal

pub returns-then-not-takes : goal.returns-then-not-takes
returns-then-not-takes c = shifted_is c.args.u c.args.t c.args.held c.args.self false _ _ (sym (c.if-not-takes.true) ∙ c.takes_up-takes.ensures) refl refl

pub returns : goal.returns
returns c =
    shifted_is c.args.u c.args.t c.args.held c.args.self true _ _ (sym (c.if-not-takes.false) ∙ c.takes_up-takes.ensures)
    c.copies_stamp-copied.ensures c.taken.ensures
