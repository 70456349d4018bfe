-- `Carried::target_stamp` meets its contract: two tests.
use mathlib.Core.Path.{sym, ◌∙◌}
use Rattle.state.proofs.Carried.target_stamp.Goals as goal

pub returns-then-live : goal.returns-then-live
returns-then-live c = simp (c.if-copied.false, sym c.member-live.ensures ∙ c.if-live.true)

pub returns : goal.returns
returns c = simp (c.if-copied.false, sym c.member-live.ensures ∙ c.if-live.false)
