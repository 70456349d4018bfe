-- What the tables hold for array a and vertex v, and the bytes of the label that is made of it.
-- Assumes nothing.
use mathlib.Core.Path.{◌≡◌, refl, sym, ap, ◌∙◌}
use mathlib.Core.Bool.{Bool, true, false, not, cond}
use mathlib.Core.List.{List, [], ◌++◌}
use Prim.Native.Nat.{ℕ, ◌+◌, ◌*◌, ◌≤◌, ◌<◌, ◌^◌, zero-le}
use borrow.Author.Tests.{eq-eqb, ne_eqb, not-true, not-false}
use lib.Dec.{eqb}
use lib.ListN.{get_or, drop}
use Rattle.labels.specs.Events.{event, is_label, version, version_of, version_set}
use Rattle.labels.specs.Letters.{letter_byte, use_of_byte}
use Rattle.labels.specs.Uses.{use_of, is_n, leaving_byte}
use Rattle.planbytes.specs.Plan.{twelve_bytes, label_bytes, label_entry}
use Rattle.planbytes.specs.Tables.{Tabled, Leaving}
use Rattle.routine.specs.Layout.{arrays, vertices}
use Rattle.sets.specs.Sets.{has}
use Rattle.sets.proofs.Laws.{single_is}
use Rattle.words.specs.Tables.{wrote}
use Rattle.words.proofs.Sums.{at_most_one}
use Rattle.words.proofs.Tests.{at_cond, cond-not}
use Rattle.passes.proofs.Steps.{single_none}
use Rattle.labels.proofs.Letters.{letter_use}

-- ---- an entry's bytes

module _ (file : List ℕ) (a v : ℕ) where
  pub labelled_bytes : is_label file a v ≡ true → label_entry file a v ≡ label_bytes file a v
  unfolding label_entry
  labelled_bytes e = rw e

  pub unlabelled_bytes : is_label file a v ≡ false → label_entry file a v ≡ []
  unfolding label_entry
  unlabelled_bytes e = rw e

-- a version stands in the cell of a label, and in no other
module _ (file : List ℕ) (a v : ℕ) {x : ℕ} (e : x ≡ version_set (event file a v)) where
  none : eqb x 0 ≡ not (is_label file a v)
  none = ap (λ (y : ℕ). eqb y 0) e ∙ single_none (is_label file a v) (version_of (event file a v))

  pub no_version : x ≡ 0 → is_label file a v ≡ false
  no_version z = not-true _ (sym none ∙ eq-eqb x 0 z)

  pub some_version : (x ≡ 0 → ⊥) → is_label file a v ≡ true
  some_version z = not-false _ (sym none ∙ ne_eqb x 0 z)

  -- 1 where the cell has a version
  pub counts_label : {r : ℕ} → r ≡ cond (eqb x 0) 0 1 → r ≡ cond (is_label file a v) 1 0
  counts_label f = f ∙ ap (λ (b : Bool). cond b 0 1) none ∙ sym (cond-not (is_label file a v) 1 0)

-- nothing where the column is no array's
pub counts_none : (x : ℕ) {r : ℕ} {b : Bool} → b ≡ false → r ≡ cond (eqb x 0) 0 (cond b 1 0) → r ≡ 0
counts_none x {r} {b} e f = f ∙ ap (λ (q : Bool). cond (eqb x 0) 0 (cond q 1 0)) e ∙ at_cond (λ n. n ≡ 0) (eqb x 0) (λ _. refl) (λ _. refl)

pub counts_one : (x : ℕ) {r : ℕ} {b : Bool} → b ≡ true → r ≡ cond (eqb x 0) 0 (cond b 1 0) → r ≡ cond (eqb x 0) 0 1
counts_one x {r} {b} e f = f ∙ ap (λ (q : Bool). cond (eqb x 0) 0 (cond q 1 0)) e

pub counts_few : (x : ℕ) (b : Bool) → cond (eqb x 0) 0 (cond b 1 0) ≤ 1
counts_few x b = at_cond (λ n. n ≤ 1) (eqb x 0) (λ _. zero-le) (λ _. at_most_one b)

-- the leaving byte that a label's version and letter give
leaving_is : (file : List ℕ) (a v : ℕ) {x letter byte : ℕ} → is_label file a v ≡ true → x ≡ version_set (event file a v) → letter ≡ letter_byte (use_of file a v)
    → Leaving x letter byte → byte ≡ leaving_byte file a v
unfolding leaving_byte version
leaving_is file a v {x} {letter} {byte} l e f h =
    at_cond (λ y. byte ≡ y) (is_n (use_of file a v))
    (λ n. h.none (ap is_n use_is ∙ n))
    (λ n. sym (single_is (version_of (event file a v)) byte (ap (λ (m : ℕ). has m byte) (sym single) ∙ h.some (ap is_n use_is ∙ n))))
  where
    use_is : use_of_byte letter ≡ use_of file a v
    use_is = ap use_of_byte f ∙ letter_use (use_of file a v)

    single : x ≡ 2 ^ version_of (event file a v)
    single = e ∙ ap (λ (b : Bool). cond b (2 ^ version_of (event file a v)) 0) l

module _ {file : List ℕ} {a v : ℕ} (in_a : a < arrays file) (in_v : v < vertices file) {versions letters reaching kept : List ℕ} (t : Tabled file versions letters reaching kept) where
  -- the label made of the tables' entries is the one that the plan has
  pub made : {leaving : ℕ} (old : List ℕ) {new : List ℕ} → is_label file a v ≡ true → Leaving (get_or versions (8 * v + a) 0) (get_or letters (8 * v + a) 0) leaving
      → new ≡ twelve_bytes a (get_or letters (8 * v + a) 0) leaving (get_or reaching (8 * v + a) 0) (get_or kept (8 * v + a) 0) ++ drop 12 old
      → new ≡ wrote old (label_bytes file a v)
  unfolding label_bytes
  made old l f g =
      let letter = t.letters_and_kept.letters_are.cells a v in_a in_v in
      g ∙ rw (leaving_is file a v l (t.versions_are.cells a v in_a in_v) letter f, letter, t.reaching_are.cells a v in_a in_v, t.letters_and_kept.kept_are.cells a v in_a in_v)
