-- `text::put_version` meets its contract: the test decides the text.
use mathlib.Core.Path.{◌≡◌, sym, ap, ◌∙◌}
use mathlib.Core.Bool.{Bool, cond}
use mathlib.Core.List.{[], ◌∷◌}
use Prim.Native.Nat.{ℕ}
use borrow.Author.Tests.{eq-eqb, ne_eqb}
use lib.Dec.{eqb}
use lib.ListN.{length}
use Rattle.words.specs.Tables.{wrote}
use Rattle.text.specs.Text.{decimal, version_text}
use Rattle.text.proofs.put_version.Goals as goal

version_by : (n : ℕ) {none : Bool} → eqb n 255 ≡ none → cond none (45 ∷ []) (decimal n) ≡ version_text n
unfolding version_text
version_by n e = ap (λ t. cond t (45 ∷ []) (decimal n)) (sym e)

pub returns-then-n-eq255 : goal.returns-then-n-eq255
returns-then-n-eq255 c =
    let is = version_by c.args.n (eq-eqb _ _ c.if-n-eq255.true) in
    record {
      value = c.put_character.ensures.value ∙ ap length is;
      out_after = c.put_character.ensures.out_after ∙ ap (wrote c.args.out.now) is;
    }

pub returns : goal.returns
returns c =
    let is = version_by c.args.n (ne_eqb _ _ c.if-n-eq255.false) in
    record {
      value = c.put_decimal.ensures.value ∙ ap length is;
      out_after = c.put_decimal.ensures.out_after ∙ ap (wrote c.args.out.now) is;
    }
