-- 41 is exact: an array has more versions than the limit exactly if paths can give it more mappings than that; and versions are numbered from
-- the initial mapping on, then by lowest vertex.
-- Assumes nothing.
use mathlib.Core.Path.{subst}
use mathlib.Core.List.{List}
use mathlib.Core.Logic.{◌↔◌, inl, inr, ⊎_elim}
use Prim.Native.Nat.{ℕ, ◌<◌}
use native.Mathlib.Omega.{arith}
use lib.Dec.{T}
use lib.ListN.{length, get_or}
use Rattle.directives.specs.Layout.{arrays, vertices}
use Rattle.directives.specs.declared.spread.Mapping.{Mapping}
use Rattle.mappings.specs.Computed.{given_to, versions_of}
use Rattle.mappings.specs.Converted.{is_listed, version_in}
use Rattle.mappings.specs.Rules.{TooMany, Numbering, initial_mapping}
use Rattle.mappings.specs.Theorem.{Formed}
use Rattle.mappings.proofs.Given.{given_exact, given_listed, initial_listed}
use Rattle.mappings.proofs.Lists.{listed_at, number_of, no_longer, numbered_first, numbered_once, numbered_from, added_at, added, added_rising}

module _ {file : List ℕ} (formed : Formed file) (a : ℕ) (in_a : a < arrays file) where
  abbrev all : List Mapping
  all = versions_of file a

  abbrev first : Mapping
  first = initial_mapping file a

  pub many_exact : (limit : ℕ) → (limit < length all) ↔ TooMany file limit a
  many_exact limit = (
    λ h. record {
      mappings = all;
      more = h;
      differ = numbered_once first (given_to file a) (vertices file);
      had = λ i d l. ⊎_elim inl (λ p. inr (p.0, (given_exact formed a in_a p.0 (get_or all i d)).0 p.1))
          (numbered_from first (given_to file a) (vertices file) (get_or all i d) (listed_at all i d l));
    },
    λ t. omega (arith, t.more, no_longer t.mappings all t.differ (listed t)),
  )
    where
      listed : (t : TooMany file limit a) (m : Mapping) → T (is_listed m t.mappings) → T (is_listed m all)
      listed t m i =
          let k = number_of m t.mappings i in
          subst (λ (x : Mapping). T (is_listed x all)) (k.1 m)
          (⊎_elim
          (λ e. subst (λ (x : Mapping). T (is_listed x all)) e (initial_listed formed a in_a))
          (λ p. given_listed formed a in_a p.1)
          (t.had (version_in t.mappings m) m k.0))

  pub numbering : Numbering file a all
  numbering =
      let given = given_to file a in
      let n = vertices file in
      record {
        starts = numbered_first first given n;
        once = numbered_once first given n;
        all = λ v m g. let p = number_of m all (given_listed formed a in_a g) in (version_in all m, p.0, p.1);
        lowest = added_at first given n;
        given = λ k d h l. (given_exact formed a in_a (added_at first given n k) (get_or all k d)).0 ((added first given n k h l).given_there d);
        none_lower = λ k v d h l q g. (added first given n k h l).none_lower v d q ((given_exact formed a in_a v (get_or all k d)).1 g);
        rising = added_rising first given n;
      }
