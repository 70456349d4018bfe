-- `Carried::taken` meets its contract.
use Rattle.state.proofs.Carried.taken.Goals as goal

pub returns : goal.returns
returns c = rw (c.counted-copies.ensures, c.single.ensures, c.target_stamp-stamp.ensures)
