-- `Directives::new` meets its contract: a file that 40 passes is within the limits.
use Rattle.directives.proofs.Limits.{read_heads}
use Rattle.directives.proofs.read.Directives.new.Goals as goal

pub new-laid-requires : goal.new-laid-requires
new-laid-requires c = read_heads c.requires
