-- `text::put_mask` meets its contract: eight digits, copied.
use mathlib.Core.Path.{ap, ◌∙◌}
use lib.ListN.{length}
use Rattle.words.specs.Tables.{wrote}
use Rattle.text.proofs.Digits.{mask_digits}
use Rattle.text.proofs.put_mask.Goals as goal

pub returns : goal.returns
returns c =
    let is = c.hex-k.ensures.digits ∙ mask_digits c.args.n _ c.hex-k.ensures.len in
    record {
      value = c.copy.ensures.value ∙ ap length is;
      out_after = c.copy.ensures.out_after ∙ ap (wrote c.args.out.now) is;
    }
