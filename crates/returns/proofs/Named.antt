-- Where a path through the expanded routine arrives at a call, the source names the version to which the call remaps the array back.
-- Assumes nothing.
use Rattle.std.specs.Prelude.{Ok}
use mathlib.Core.Path.{◌≡◌, ap, subst, ◌∙◌}
use mathlib.Core.Bool.{true}
use mathlib.Core.List.{List, [], ◌∷◌}
use mathlib.Core.Option.{some}
use Prim.Native.Nat.{ℕ, zero, suc, ◌<◌}
use native.Mathlib.Omega.{arith}
use Rattle.labels.proofs.Rules.Arrivals.{arrives_append}
use Rattle.labels.specs.Checks.{check21}
use Rattle.labels.specs.Events.{edge_bytes}
use Rattle.labels.specs.Reaching.{ArrivesBy}
use Rattle.path.proofs.Paths.{Walk}
use Rattle.path.specs.Paths.{steps, vertex_at}
use Rattle.routine.specs.Layout.{arrays, vertices}
use Rattle.routine.specs.Reader.{WellFormed}
use Rattle.words.specs.Tables.{table, rows}
use Rattle.calls.specs.Calls.{passes, is_call_row}
use Rattle.calls.specs.Expanded.{expanded}
use Rattle.calls.specs.Interfaces.{Expandable}
use Rattle.calls.specs.Parts.{Part, first_vertex_of}
use Rattle.calls.specs.Referring.{referring, return_version}
use Rattle.calls.proofs.Arriving.{pass_call, return_only}
use Rattle.calls.proofs.Carried.{Carries, named, arrived}
use Rattle.calls.proofs.Events.{call_inner}
use Rattle.calls.proofs.Parts.{passing_at}

module _ (file : List ℕ) (can : Expandable file) {a : ℕ} (in_a : a < arrays file) where
  w : WellFormed file
  w = can.well

  module _ {path : List ℕ} (walk : Walk (expanded file) path) where
    -- the vertices before the one at index i lead there
    leads : (i : ℕ) → i < steps path → ArrivesBy (expanded file) (table (vertex_at path) i) (vertex_at path i)
    unfolding rows
    leads zero h = walk.begins
    leads (suc i) h = arrives_append (edge_bytes (expanded file)) (table (vertex_at path) i) (vertex_at path i) [] (vertex_at path (suc i)) (leads i (omega arith)) (walk.joined i h)

    pub names_return : check21 (referring file) ≡ Ok tt → (i v : ℕ) → i < steps path → v < vertices file → vertex_at path i ≡ first_vertex_of file v → passes file a v ≡ true
        → named file can in_a (table (vertex_at path) i) ≡ some (return_version file a v)
    names_return sure i v h in_v at passed = go (table (vertex_at path) i) (subst (ArrivesBy (expanded file) (table (vertex_at path) i)) at (leads i h))
      where
        call : is_call_row file v ≡ true
        call = pass_call file w can.interfaces in_a v in_v passed

        go : (before : List ℕ) → ArrivesBy (expanded file) before (first_vertex_of file v) → named file can in_a before ≡ some (return_version file a v)
        go [] p = absurd (omega (arith, p, call_inner file w in_v call))
        go (u ∷ us) p =
            let r = arrived file can in_a u us (first_vertex_of file v) p in
            let comes = subst (λ (q : Part). Carries file can in_a q r.0) (passing_at file in_v call) r.2 in
            r.1 ∙ ap some (return_only file w can.interfaces in_a v in_v passed sure comes)
