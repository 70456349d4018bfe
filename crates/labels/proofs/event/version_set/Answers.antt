-- `version_set` meets its contract.
use Rattle.labels.proofs.event.version_set.Goals as goal

pub returns : goal.returns
returns c = cc
