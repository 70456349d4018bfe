-- Laws of a list of mappings that grows.
-- Assumes nothing.
use mathlib.Core.Path.{◌≡◌, sym, subst}
use mathlib.Core.Bool.{Bool, true, false, cond}
use mathlib.Core.List.{List, [], ◌∷◌, ◌++◌, append-nil, append_assoc}
use Prim.Native.Nat.{ℕ, ◌+◌, ◌≤◌}
use native.Mathlib.Numerals.{add-one}
use lib.ListN.{length}
use Rattle.words.specs.Tables.{rows}
use Rattle.directives.specs.declared.spread.Mapping.{Mapping}
use Rattle.mappings.proofs.Lists.{extended-append}
use Rattle.mappings.specs.Converted.{extended}
use Rattle.sets.specs.Sets.{width}
use Rattle.numbering.specs.Lists.{Grows}
use Rattle.numbering.specs.declared.list.Numbered.{Numbered}

-- by none
pub grows_none : {list : List Mapping} {p : Numbered} → length list ≡ width → p.count ≤ width + 1 → Grows [] list p list p
unfolding extended
grows_none room most = record { room = room; most = most; holds = λ ms ns h. rw append-nil h }

-- by one mapping, where a test for it holds; else by none
pub grows_in : {b : Bool} {m n : Mapping} {list list' : List Mapping} {p q : Numbered} → b ≡ true → m ≡ n → Grows (m ∷ []) list p list' q → Grows (cond b (n ∷ []) []) list p list' q
grows_in {list = list} {list' = list'} {p = p} {q = q} t e g = rw t (subst (λ (x : Mapping). Grows (x ∷ []) list p list' q) e g)

pub grows_out : {b : Bool} (n : Mapping) {list : List Mapping} {p : Numbered} → b ≡ false → length list ≡ width → p.count ≤ width + 1 → Grows (cond b (n ∷ []) []) list p list p
grows_out n f room most = rw f (grows_none room most)

module _ {list list' list'' : List Mapping} {p q r : Numbered} where
  -- by one list after the other
  grows_more : {xs ys : List Mapping} → Grows xs list p list' q → Grows ys list' q list'' r → Grows (xs ++ ys) list p list'' r
  grows_more {xs} {ys} g h = record {
    room = h.room;
    most = h.most;
    holds = λ ms ns k. rw (extended-append ms xs ys, ← append_assoc ns xs ys) (h.holds _ _ (g.holds ms ns k));
  }

  -- the same list and count, by other names
  pub grows_as : {xs : List Mapping} → list'' ≡ list' → r ≡ q → Grows xs list p list' q → Grows xs list p list'' r
  grows_as {xs} e f g = subst (λ (l : List Mapping). Grows xs list p l r) (sym e) (subst (Grows xs list p list') (sym f) g)

  -- row by row
  pub grows_row : (row : ℕ → List Mapping) (u : ℕ) → Grows (rows row u) list p list' q → Grows (row u) list' q list'' r → Grows (rows row (u + 1)) list p list'' r
  unfolding rows
  grows_row row u g h = subst (λ (n : ℕ). Grows (rows row n) list p list'' r) (sym (add-one u)) (grows_more g h)
