-- `solver::single` meets its contract: a one shifted by less than the width is not cut.
use Rattle.sets.proofs.Laws.{one_shl}
use Rattle.solver.proofs.single.Goals as goal

pub returns : goal.returns
returns c = one_shl 64 c.args.b c.requires
