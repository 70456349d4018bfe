-- `directive::aligns_with` meets its contract, by cases.
use mathlib.Core.Path.{sym, ap}
use Rattle.mappings.specs.Computed.{aligns_with}
use Rattle.facts.proofs.directive.aligns_with.Goals as goal

pub returns-in-Realign : goal.returns-in-Realign
returns-in-Realign c = sym (ap (aligns_with c.args.t) c.in-Realign.is)

pub returns-in-Redistribute : goal.returns-in-Redistribute
returns-in-Redistribute c = sym (ap (aligns_with c.args.t) c.in-Redistribute.is)
