-- `Carried::copies_stamp` meets its contract.
use Rattle.state.specs.Moves.{copies_stamp}
use Rattle.state.proofs.Carried.copies_stamp.Goals as goal

pub returns : goal.returns
unfolding copies_stamp
returns c = rw (c.has_current.ensures, c.is_d.ensures, c.member.ensures, c.takes_up.ensures)
