-- Request 3: demand 3 of the routine that is run, and the version that a call gives back.
-- Assumes nothing.
use Rattle.std.specs.Prelude.{Ok}
use mathlib.Core.Path.{◌≡◌, refl, sym, ◌∙◌}
use mathlib.Core.Bool.{Bool, true, false, true≢false}
use mathlib.Core.List.{List}
use Prim.Native.Nat.{ℕ}
use Rattle.calls.proofs.Calls.{routine_formed, routine_unwritten}
use Rattle.calls.proofs.Checks.{none_passed}
use Rattle.calls.proofs.Formed.{expanded_formed}
use Rattle.calls.specs.Calls.{has_calls}
use Rattle.calls.specs.Expanded.{routine_of}
use Rattle.calls.specs.Interfaces.{Expandable}
use Rattle.calls.specs.Referring.{referring}
use Rattle.demand.proofs.Demand.{demand3}
use Rattle.demand.specs.Demand.{Demand3}
use Rattle.labels.specs.Checks.{check20, check21}
use Rattle.path.proofs.Paths.{walk}
use Rattle.path.specs.Paths.{path_check}
use Rattle.returns.specs.Returns.{ReturnsNamed}
use Rattle.returns.proofs.Named.{names_return}

module _ (file : List ℕ) (can : Expandable file) {path : List ℕ} (accepted : path_check (routine_of file) path ≡ Ok tt) where
  pub demand3_calls : check20 (referring file) ≡ Ok tt → Demand3 (routine_of file) path
  demand3_calls unwritten = demand3 (routine_of file) path (routine_formed file can) accepted (routine_unwritten file can unwritten)

  pub return_named : check21 (referring file) ≡ Ok tt → ReturnsNamed file path
  unfolding routine_of
  return_named sure = go (has_calls file) refl
    where
      go : (b : Bool) → has_calls file ≡ b → ReturnsNamed file path
      go true e = record {
        named = λ i a v h in_a in_v at passed. rw e (names_return file can in_a (walk (expanded_formed file can) (rw e at accepted)) sure i v h in_v at passed);
      }
      go false e = record { named = λ i a v h in_a in_v at passed. absurd (true≢false (sym passed ∙ none_passed file e in_a in_v)) }
