-- `check_end` meets its contract: one field of width 0.
use mathlib.Core.Path.{ap, ◌∙◌}
use mathlib.Core.List.{[], ◌∷◌}
use Prim.Native.Nat.{ℕ}
use native.Mathlib.Omega.{arith}
use lib.Dec.{leb}
use lib.ListN.{length}
use Rattle.directives.specs.Fields.{in_order}
use Rattle.directives.proofs.Fields.{one}
use Rattle.directives.proofs.Places.{end_place}
use Rattle.directives.proofs.reader.check_end.Goals as goal

pub check-requires : goal.check-requires
check-requires c =
    record {
      at_le_longest = omega (arith, c.end_at-end.ensures, end_place c.args.laid.now.limits);
      wide_bound = omega arith;
    }

pub returns : goal.returns
returns c =
    let file = c.args.laid.now.bytes in
    one file _ (rw (c.bytes.ensures) at c.check.ensures)
    ∙ ap (λ (at : ℕ). in_order file (record { at = at; wide = 0; right = leb (length file) at } ∷ [])) c.end_at-end.ensures
