-- `convert_read` meets its contract: what was prepared is delivered.
use Rattle.convert.proofs.Ways.{converts}
use Rattle.convert.proofs.convert_read.Goals as goal

pub returns : goal.returns
returns c = converts c.args.directives.now.bytes c.args.out.now c.args.directives.now.passed c.convert_into-reply.ensures c.deliver.ensures.value c.deliver.ensures.out_after
