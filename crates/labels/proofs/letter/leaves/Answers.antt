-- `letter::leaves` meets its contract.
use Rattle.labels.proofs.Letters.{not_n}
use Rattle.labels.proofs.letter.leaves.Goals as goal

pub returns : goal.returns
returns c = not_n c.args.letter
