-- `deliver` meets its contract: 1 where the buffer is too short, else the routine copied.
use mathlib.Core.Path.{refl, sym, ap, ◌∙◌}
use native.Mathlib.Omega.{arith}
use lib.ListN.{length}
use lib.Seq.{length-take-le}
use Rattle.refusal.specs.Replies.{Reply}
use Rattle.convert.specs.Steps.{delivered}
use Rattle.convert.proofs.Ways.{short, roomy}
use Rattle.convert.proofs.deliver.Goals as goal

pub returns-then-n-out : goal.returns-then-n-out
returns-then-n-out c =
    record {
      value = short c.if-n-out.true ∙ ap (λ (r : Reply). delivered r (length c.args.out.now)) (sym c.in_ok-n.was);
      out_after = refl;
    }

pub slice_bounds-copy-end : goal.slice_bounds-copy-end
slice_bounds-copy-end c = sym (length-take-le _ c.args.work.now (c.requires _ c.in_ok-n.was))

pub copy-requires : goal.copy-requires
copy-requires c = omega (arith, length-take-le _ c.args.work.now (c.requires _ c.in_ok-n.was), c.if-n-out.false)

pub returns : goal.returns
returns c =
    record {
      value = roomy c.if-n-out.false ∙ ap (λ (x : Reply). delivered x (length c.args.out.now)) (sym c.in_ok-n.was);
      out_after = c.copy.ensures.out_after;
    }
