-- Version sets that the solver makes: what they hold, and that they fit the width.
-- Assumes nothing.
use mathlib.Core.Path.{◌≡◌, subst}
use mathlib.Core.Bool.{Bool, cond}
use mathlib.Core.List.{List}
use mathlib.Core.Logic.{◌↔◌}
use Prim.Native.Nat.{ℕ, ◌^◌, ◌<◌}
use lib.Dec.{T}
use lib.ListN.{get_or}
use lib.Pow.{pow_pos, pow-lt}
use Rattle.flow.specs.Solver.{Leads}
use Rattle.flow.proofs.Exact.{solution_fits}
use Rattle.routine.specs.Layout.{vertices}
use Rattle.sets.specs.Sets.{has, width, every_version}
use Rattle.sets.proofs.Laws.{has_full_if}
use Rattle.labels.specs.Events.{edge_bytes, solved_sets, version}
use Rattle.flow.specs.Paths.{Finds}
use Rattle.labels.proofs.Rules.Proper.{Proper}
use Rattle.labels.proofs.Rules.Events.{version_fits}
use Rattle.labels.proofs.Rules.Tables.{table_all, solved}
use Rattle.flow.proofs.Members.{member_cond, member_single}
use Rattle.words.specs.Tables.{table}
use Rattle.words.proofs.Tests.{at_cond}

module _ (file : List ℕ) (a : ℕ) (proper : Proper file a) where
  -- a set of one version, or none
  pub single_fits : (b : Bool) (v : ℕ) → cond b (2 ^ version file a v) 0 < 2 ^ width
  single_fits b v = at_cond (λ m. m < 2 ^ width) b (λ _. pow-lt (version_fits file a proper v)) (λ _. pow_pos width)

  -- where the vertices that pass `test` give their versions, and those that pass `through` pass every version
  module _ (along : Bool) (gives passes : ℕ → ℕ) (test through : ℕ → Bool) (given : (u : ℕ) → gives u ≡ cond (test u) (2 ^ version file a u) 0) where
    pub versions_exact : ((u : ℕ) → passes u ≡ cond (through u) every_version 0) → (Test : ℕ → Type 0) → ((u : ℕ) → T (test u) ↔ Test u) → (v k : ℕ)
        → T (has (get_or (solved_sets file along gives passes) v 0) k) ↔ Finds (Leads (edge_bytes file) along through) (λ u. Test u × (version file a u ≡ k)) v
    versions_exact passed Test tests v k =
        solved (edge_bytes file) along gives passes (vertices file) proper.ends through _ k
        (λ u. rw (given u) (member_cond (test u) _ k (tests u) (member_single (version file a u) k)))
        (λ w m u. rw (passed u) (has_full_if width k (subst (λ (j : ℕ). j < width) m.1 (version_fits file a proper w)) (through u))) v

    pub versions_fit : (v : ℕ) → get_or (solved_sets file along gives passes) v 0 < 2 ^ width
    versions_fit = solution_fits (edge_bytes file) along (table gives (vertices file)) (table passes (vertices file)) width (vertices file)
        (table_all (λ m. m < 2 ^ width) gives (vertices file) (pow_pos width) (λ u. rw (given u) (single_fits (test u) u)))
