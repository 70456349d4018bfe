-- `Carried::cleaned` meets its contract: what stays live is kept or current.
use Rattle.state.proofs.Carrying.{cleaned_is}
use Rattle.state.proofs.Carried.cleaned.Goals as goal

pub returns : goal.returns
returns c = cleaned_is c.args.keep c.args.self c.current_set-current.ensures
