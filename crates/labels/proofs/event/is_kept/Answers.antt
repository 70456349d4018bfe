-- `is_kept` meets its contract.
use mathlib.Core.Path.{ap, ap₂}
use mathlib.Core.Bool.{not, ◌&&◌}
use Rattle.labels.proofs.event.is_kept.Goals as goal

pub returns : goal.returns
returns c = ap₂ ◌&&◌ c.is_label.ensures (ap not c.is_n.ensures)
