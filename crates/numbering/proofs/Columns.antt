-- Laws of the numbering: the column of an array vertex by vertex, and array by array.
-- Assumes nothing.
use Rattle.std.specs.Prelude.{Ok, Err}
use mathlib.Core.Path.{◌≡◌, refl, sym, subst, ◌∙◌}
use mathlib.Core.Bool.{not}
use mathlib.Core.List.{List, []}
use Prim.Native.Nat.{ℕ, suc, ◌+◌, ◌*◌, ◌≤◌, ◌<◌}
use native.Mathlib.Decide.{ℕ_discrete}
use native.Mathlib.Nat.{le_antisymm}
use native.Mathlib.Numerals.{add-one}
use native.Mathlib.Omega.{arith}
use borrow.Author.Tests.{le-ltb, ltb-true, ltb-false}
use lib.Dec.{ltb}
use lib.ListN.{length, get_or, set, length-set}
use lib.Seq.{get_or-set_same, get_or-set_other}
use Rattle.words.proofs.Tests.{by_test}
use Rattle.refusal.specs.Checks.{holds, Verdict}
use Rattle.refusal.specs.declared.Refusal.{Refusal}
use Rattle.refusal.specs.declared.Refusal.TheVariants.{TooManyMappings}
use Rattle.directives.specs.Layout.{arrays, vertices}
use Rattle.directives.specs.declared.spread.Mapping.{Mapping}
use Rattle.mappings.proofs.Lists.{listed_none, extended_longer, extended-set, numbered_all}
use Rattle.mappings.specs.Computed.{given_to, versions_of, version_set, given_set}
use Rattle.mappings.specs.Converted.{numbered}
use Rattle.mappings.specs.Rules.{initial_mapping}
use Rattle.sets.specs.Sets.{width}
use Rattle.numbering.specs.Lists.{Holds, Starts, Grows, ColumnNumbered, AllNumbered}
use Rattle.numbering.specs.declared.list.Numbered.{Numbered}

module _ (file : List ℕ) (a : ℕ) where
  -- the mappings of the first v vertices
  abbrev pub up_to : ℕ → List Mapping
  up_to v = numbered (initial_mapping file a) (given_to file a) v

  -- the column is numbered up to vertex v
  pub record ColumnTo (before after : List ℕ) (list : List Mapping) (count v : ℕ) : Type 0 where
    pub within : v ≤ vertices file
    pub size : length after ≡ 8 * vertices file
    pub most : count ≤ width + 1
    pub holds : Holds (up_to v) [] list (record { count = count; given = 0 })
    pub cells : length (up_to v) ≤ width → (u : ℕ) → u < v → get_or after (8 * u + a) 0 ≡ version_set (up_to v) (given_to file a u)
    pub others : (b u : ℕ) → b < 8 → (b ≡ a → ⊥) → u < vertices file → get_or after (8 * u + b) 0 ≡ get_or before (8 * u + b) 0

module _ {file : List ℕ} {a : ℕ} where
  pub column_start : {before : List ℕ} {list : List Mapping} → length before ≡ 8 * vertices file → Starts (initial_mapping file a) list → ColumnTo file a before before list 1 0
  unfolding numbered version_set
  column_start size s = record {
    within = omega arith;
    size = size;
    most = omega arith;
    holds = record {
      room = s.room;
      listed = λ m t. absurd (listed_none m t);
      few = λ l. (refl, s.is, refl);
      many = λ l. absurd (omega arith);
    };
    cells = λ l u h. absurd (omega arith);
    others = λ b u in_b other in_u. refl;
  }

  module _ {before after : List ℕ} {list list' : List Mapping} {count v : ℕ} {q : Numbered} (in_a : a < 8) (in_v : v < vertices file) where
    pub column_next : ColumnTo file a before after list count v → Grows (given_to file a v) list (record { count = count; given = 0 }) list' q
        → ColumnTo file a before (set after (8 * v + a) q.given) list' q.count (v + 1)
    unfolding numbered version_set
    column_next c g =
        let h = g.holds (up_to file a v) [] c.holds in
        subst (ColumnTo file a before (set after (8 * v + a) q.given) list' q.count) (sym (add-one v)) (record {
          within = omega arith;
          size = length-set after (8 * v + a) q.given ∙ c.size;
          most = g.most;
          holds = record {
            room = h.room;
            listed = λ m t. absurd (listed_none m t);
            few = λ l. ((h.few l).0, (h.few l).1, refl);
            many = h.many;
          };
          cells = λ l u in_u.
              elim (ℕ_discrete u v) [
                | yes e ↦ subst (λ (x : ℕ). get_or (set after (8 * v + a) q.given) (8 * x + a) 0 ≡ version_set (up_to file a (suc v)) (given_to file a x)) (sym e)
                    (get_or-set_same after (8 * v + a) q.given 0 (omega (arith, c.size)) ∙ (h.few l).2)
                | no e ↦ get_or-set_other after (8 * v + a) (8 * u + a) q.given 0 (λ x. e (omega arith))
                    ∙ c.cells (omega (arith, extended_longer (up_to file a v) (given_to file a v))) u (omega arith)
                    ∙ sym (extended-set (up_to file a v) (given_to file a v) (given_to file a u)
                    (λ m t. numbered_all (initial_mapping file a) (given_to file a) v u m (omega arith) t))
              ];
          others = λ b u in_b other in_u.
              get_or-set_other after (8 * v + a) (8 * u + b) q.given 0 (λ x. other (omega arith)) ∙ c.others b u in_b other in_u;
        })

  pub column_end : {before after : List ℕ} {list : List Mapping} {count v : ℕ} → vertices file ≤ v → ColumnTo file a before after list count v → ColumnNumbered file a before count after
  unfolding given_set
  column_end {before} {after} {list} {count} all c =
      let t = subst (ColumnTo file a before after list count) (le_antisymm c.within all) c in
      record {
        size = t.size;
        few = λ l. ((t.holds.few l).0, λ v in_v. t.cells l v in_v);
        many = t.holds.many;
        others = t.others;
      }

-- ---- all arrays: 41, and what is left where it passes

-- 41 of one array
abbrev pub few_check : List ℕ → ℕ → Verdict
few_check file a = holds (not (ltb width (length (versions_of file a)))) (TooManyMappings a)

-- the first a arrays are numbered, none with too many versions
pub record AllTo (file given counts : List ℕ) (a : ℕ) : Type 0 where
  pub given_size : length given ≡ 8 * vertices file
  pub counts_size : length counts ≡ 8
  pub cells : (b v : ℕ) → b < a → v < vertices file → get_or given (8 * v + b) 0 ≡ given_set file b v
  pub are : (b : ℕ) → b < a → get_or counts b 0 ≡ length (versions_of file b)

module _ {file : List ℕ} where
  pub all_start : {given counts : List ℕ} → length given ≡ 8 * vertices file → length counts ≡ 8 → AllTo file given counts 0
  all_start given_size counts_size = record {
    given_size = given_size;
    counts_size = counts_size;
    cells = λ b v h. absurd (omega arith);
    are = λ b h. absurd (omega arith);
  }

  module _ {a count : ℕ} {before after : List ℕ} (c : ColumnNumbered file a before count after) where
    -- what the count tells
    column_few : count ≤ width → length (versions_of file a) ≤ width
    column_few h = by_test (ltb width (length (versions_of file a)))
        (λ t. absurd (omega (arith, c.many (ltb-true width (length (versions_of file a)) t))))
        (ltb-false width (length (versions_of file a)))

    pub few_passes : count ≤ width → (Ok tt) ≡ few_check file a
    few_passes h = rw (le-ltb width (length (versions_of file a)) (column_few h))

    pub many_fails : width < count → Err (TooManyMappings a) ≡ few_check file a
    many_fails h = by_test (ltb width (length (versions_of file a)))
        (λ t. rw t)
        (λ t. let few = ltb-false width (length (versions_of file a)) t in absurd (omega (arith, (c.few few).0)))

    pub all_next : {counts : List ℕ} → a < 8 → count ≤ width → AllTo file before counts a → AllTo file after (set counts a count) (a + 1)
    all_next {counts} in_a h l =
        let f = c.few (column_few h) in
        record {
          given_size = c.size;
          counts_size = length-set counts a count ∙ l.counts_size;
          cells = λ b v in_b in_v.
              elim (ℕ_discrete b a) [
                | yes e ↦ subst (λ (x : ℕ). get_or after (8 * v + x) 0 ≡ given_set file x v) (sym e) (f.1 v in_v)
                | no e ↦ c.others b v (omega arith) e in_v ∙ l.cells b v (omega arith) in_v
              ];
          are = λ b in_b.
              elim (ℕ_discrete b a) [
                | yes e ↦ subst (λ (x : ℕ). get_or (set counts a count) x 0 ≡ length (versions_of file x)) (sym e)
                    (get_or-set_same counts a count 0 (omega (arith, l.counts_size)) ∙ f.0)
                | no e ↦ get_or-set_other counts a b count 0 e ∙ l.are b (omega arith)
              ];
        }

  pub all_end : {given counts : List ℕ} {a : ℕ} → arrays file ≤ a → AllTo file given counts a → AllNumbered file (Ok tt) given counts
  all_end all l = record {
    given_are = λ _. record { size = l.given_size; cells = λ b v in_b in_v. l.cells b v (omega arith) in_v };
    counts_are = λ _. record { size = l.counts_size; are = λ b in_b. l.are b (omega arith) };
  }

-- nothing is promised where 41 fails
pub none_numbered : {file given counts : List ℕ} {r : Refusal} → AllNumbered file (Err r) given counts
none_numbered = record { given_are = λ e. cc; counts_are = λ e. cc }
