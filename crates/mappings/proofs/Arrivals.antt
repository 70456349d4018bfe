-- The computed sets of last vertices: a set holds the numbers of the last vertex of a kind on the paths from the entry; columns hold the same.
-- Assumes nothing.
use mathlib.Core.Path.{◌≡◌, ap, subst, ◌∙◌}
use mathlib.Core.Bool.{Bool, false, not, ◌&&◌, cond}
use mathlib.Core.List.{List, [], ◌∷◌}
use mathlib.Core.Logic.Iff
use mathlib.Core.Logic.{◌↔◌}
use mathlib.Core.Option.{some, none-ne-some}
use Prim.Native.Nat.{ℕ, ◌+◌, ◌-◌, ◌*◌, ◌/◌, ◌%◌, ◌^◌, ◌<◌}
use native.Mathlib.Omega.{arith}
use lib.Dec.{T, eqb}
use lib.ListN.{get_or}
use Rattle.flow.specs.Solver.{Ends}
use Rattle.flow.proofs.Members.{member_cond, member_single}
use Rattle.labels.proofs.Rules.Arrivals.{reached_exact, reached_below, Carried, Last, last_of, last_there}
use Rattle.labels.proofs.Rules.Tables.{solved}
use Rattle.labels.specs.Reaching.{Arrives, last_version, is_reached_over}
use Rattle.sets.proofs.Laws.{has_full_if}
use Rattle.sets.specs.Sets.{width, every_version, has}
use Rattle.words.proofs.Tests.{and_iff, eqb_iff, cond-not}
use Rattle.mappings.specs.Computed.{last_sets, last_column}

-- edges among n vertices, a kind of vertices, and their numbers, below w
module _ {es : List ℕ} {n : ℕ} (ends : Ends es n) (some_vertex : 0 < n) (w : ℕ) (q : ℕ → Bool) (number : ℕ → ℕ)
    (small : (u : ℕ) → u < n → T (q u) → number u < w) where
  sets_carry : (v k : ℕ) → T (has (get_or (last_sets es n w q number) v 0) k) ↔ Carried q number ends v k
  unfolding last_sets
  sets_carry v k =
      solved es false _ _ n ends (λ u. not (q u)) (λ u. (T (is_reached_over es n u) × T (q u)) × (number u ≡ k)) k
      (λ u. member_cond (is_reached_over es n u && q u) _ k (and_iff (is_reached_over es n u) (q u) Iff.rfl Iff.rfl) (member_single (number u) k))
      (λ u m x. ap (λ (s : ℕ). has s k) (cond-not (q x) 0 (2 ^ w - 1))
      ∙ has_full_if w k (subst (λ (j : ℕ). j < w) m.1 (small u (reached_below ends some_vertex u m.0.0) m.0.1)) (not (q x)))
      v

  -- some path has k as the number of its last vertex of the kind
  pub record LastOn (v k : ℕ) : Type 0 where
    pub before : List ℕ
    pub path : Arrives es before v
    pub last : last_version q number before ≡ some k

  -- the set of v holds k exactly if k is such a number
  pub last_exact : (v k : ℕ) → T (has (get_or (last_sets es n w q number) v 0) k) ↔ LastOn v k
  last_exact v k = (
    λ h. let p = last_there q number ends v k ((sets_carry v k).0 h) in record { before = p.0; path = p.1; last = p.2 },
    λ l. (sets_carry v k).1 (carried l.before l.path l.last),
  )
    where
      carried : (before : List ℕ) → Arrives es before v → last_version q number before ≡ some k → Carried q number ends v k
      carried [] path e = absurd (none-ne-some k e)
      carried (u ∷ us) path e = subst (Last q number ends u v) e (last_of q number ends u us v ((reached_exact ends u).1 ([], path.0)) path.1)

  -- the numbers are below w
  pub last_below : (v k : ℕ) → T (has (get_or (last_sets es n w q number) v 0) k) → k < w
  last_below v k h =
      let c = (sets_carry v k).0 h in
      subst (λ (j : ℕ). j < w) c.met.1 (small c.place (reached_below ends some_vertex c.place c.met.0.0) c.met.0.1)

  -- columns hold the same
  pub column_exact : (c b v : ℕ) → b < width → T (has (get_or (last_column es n q number c) v 0) b) ↔ T (has (get_or (last_sets es n w q number) v 0) (width * c + b))
  unfolding last_column
  column_exact c b v l =
      let one = solved es false (λ u. cond (is_reached_over es n u && (q u && eqb (number u / width) c)) (2 ^ (number u % width)) 0) (λ u. cond (q u) 0 every_version) n ends (λ u. not (q u))
      (λ u. (T (is_reached_over es n u) × (T (q u) × (number u / width ≡ c))) × (number u % width ≡ b)) b
      (λ u. member_cond (is_reached_over es n u && (q u && eqb (number u / width) c)) _ b
      (and_iff (is_reached_over es n u) _ Iff.rfl (and_iff (q u) _ Iff.rfl (eqb_iff (number u / width) c))) (member_single (number u % width) b))
      (λ u m x. ap (λ (s : ℕ). has s b) (cond-not (q x) 0 every_version) ∙ has_full_if width b l (not (q x)))
      v in
      let two = sets_carry v (width * c + b) in (
        λ h. let f = one.0 h in
            two.1 (record { place = f.place; way = f.way; met = ((f.met.0.0, f.met.0.1.0), together (number f.place) f.met.0.1.1 f.met.1) }),
        λ h. let f = two.0 h in
            let p = apart (number f.place) f.met.1 in
            one.1 (record { place = f.place; way = f.way; met = ((f.met.0.0, (f.met.0.1, p.0)), p.1) }),
      )
    where
      together : (k : ℕ) → k / width ≡ c → k % width ≡ b → k ≡ width * c + b
      together k e f = omega arith

      apart : (k : ℕ) → k ≡ width * c + b → (k / width ≡ c) × (k % width ≡ b)
      apart k e = (omega arith, omega arith)
