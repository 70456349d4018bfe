-- `Header::of` meets its contract: the three counts.
use Rattle.routine.proofs.header.Header.of.Goals as goal

pub returns : goal.returns
returns c = rw (c.at-3.ensures, c.at-2.ensures, c.at.ensures)
