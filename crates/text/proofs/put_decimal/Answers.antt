-- `text::put_decimal` meets its contract: the fewest digits, copied.
use mathlib.Core.Path.{ap, ◌∙◌}
use native.Mathlib.Omega.{arith}
use lib.ListN.{length}
use Rattle.words.specs.Tables.{wrote}
use Rattle.text.proofs.Digits.{decimal_text}
use Rattle.text.proofs.put_decimal.Goals as goal

pub returns : goal.returns
returns c =
    let is = c.decimal-k.ensures.digits ∙ decimal_text c.decimal-k.ensures.len (omega (arith, c.ranges.n.fits)) in
    record {
      value = c.copy.ensures.value ∙ ap length is;
      out_after = c.copy.ensures.out_after ∙ ap (wrote c.args.out.now) is;
    }
