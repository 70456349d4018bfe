-- `start` meets its contract.
use mathlib.Core.Path.{◌∙◌}
use native.Mathlib.Omega.{arith}
use lib.ListN.{length-set}
use Rattle.std.proofs.lemmas.List.{take_more_set}
use Rattle.numbering.proofs.list.start.Goals as goal

pub returns : goal.returns
returns c =
    let list = c.args.list.now in
    record {
      room = length-set list 0 c.args.m ∙ c.requires;
      is = take_more_set list 0 c.args.m (omega arith);
    }
