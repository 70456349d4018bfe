-- `letter::goes_on` meets its contract.
use Rattle.labels.proofs.Letters.{n_or_r}
use Rattle.labels.proofs.letter.goes_on.Goals as goal

pub returns : goal.returns
returns c = n_or_r c.args.letter
