-- A file that was read has call rows as request 3 has them; one that passes 22 too can be expanded.
-- Assumes nothing.
use Rattle.std.specs.Prelude.{Ok}
use mathlib.Core.Path.{◌≡◌, sym, ◌∙◌}
use mathlib.Core.Bool.{true, false, false≢true}
use mathlib.Core.List.{List}
use Prim.Native.Nat.{ℕ, ◌<◌}
use borrow.Author.Tests.{eqb-true, eqb-false}
use lib.Dec.{eqb}
use Rattle.refusal.proofs.Checks.{parts}
use Rattle.routine.proofs.Accepted.{passed_checks, passed_read, passed_edges}
use Rattle.routine.proofs.WellFormed.{call_below, beside_call}
use Rattle.routine.specs.Actions.{action_byte}
use Rattle.routine.specs.Layout.{arrays, vertices}
use Rattle.routine.specs.Reader.{read_check}
use Rattle.words.proofs.Sums.{none_below}
use Rattle.words.proofs.Tests.{by_test}
use Rattle.calls.specs.Calls.{passes, is_call_row}
use Rattle.calls.specs.Checks.{check22}
use Rattle.calls.specs.Interfaces.{Interfaces, Expandable}

module _ (file : List ℕ) (read : read_check file ≡ Ok tt) where
  -- else no byte of the row would be a call
  calls_only : (a v : ℕ) → a < arrays file → v < vertices file → is_call_row file v ≡ true → passes file a v ≡ false → action_byte file a v ≡ 0
  unfolding is_call_row
  calls_only a v in_a in_v row none =
      by_test (eqb (action_byte file a v) 0) (eqb-true (action_byte file a v) 0)
      (λ other. absurd (false≢true (sym (none_below (λ b. passes file b v) (arrays file) (λ b in_b. by_test (passes file b v)
      (λ call. absurd (eqb-false (action_byte file a v) 0 other (beside_call (passed_checks file read) in_v in_a in_b call none)))
      (λ e. e))) ∙ row)))

  pub interfaces_read : Interfaces file
  interfaces_read = record {
    calls_only = calls_only;
    called_below = λ a v in_a in_v. call_below (passed_checks file read) in_v in_a;
  }

  pub expandable : check22 file ≡ Ok tt → Expandable file
  unfolding check22
  expandable few = record {
    well = passed_read file read;
    interfaces = interfaces_read;
    few_edges = passed_edges file read;
    few_vertices = search parts;
  }
