-- How many labels a routine has, how long the parts of its plan are, and bounds of both.
-- Assumes nothing.
use mathlib.Core.Path.{◌≡◌, refl, sym, ap, subst, ◌∙◌}
use mathlib.Core.Bool.{Bool, true, false, cond}
use mathlib.Core.List.{List, [], ◌++◌}
use Prim.Native.Nat.{ℕ, ◌+◌, ◌-◌, ◌*◌, ◌≤◌, ◌<◌, min}
use native.Mathlib.Decide.{dec_lt}
use native.Mathlib.Omega.{arith}
use lib.ListN.{length, get_or, set, length-append}
use Rattle.labels.specs.Events.{is_label}
use Rattle.labels.specs.Routines.{ReadAs}
use Rattle.planbytes.specs.Plan.{labels_at, labels_before, label_count, contents_entry, contents, label_bytes, label_entry, label_row, labels, plan_head, plan_bytes, plan_length}
use Rattle.planbytes.specs.Tables.{Firsts}
use Rattle.routine.specs.declared.header.Header.{Header}
use Rattle.routine.specs.Layout.{arrays, vertices}
use Rattle.routine.specs.Reader.{Laid}
use Rattle.words.specs.Sums.{total}
use Rattle.words.specs.Tables.{rows}
use Rattle.words.proofs.Filling.{Filling, fill_length, fill_next, fill_at}
use Rattle.words.proofs.Sums.{total_none, total_more, total_few, count_few, rows-total}
use Rattle.words.proofs.Tables.{rows_empty, rows-length}

-- ---- a count over columns of which those from m on count for nothing

pub none_yet : (size : ℕ → ℕ) (m : ℕ) → 0 ≡ total size (min 0 m)
none_yet size m = let e : 0 ≡ min 0 m = omega arith in total_none size ∙ ap (total size) e

pub next_column : {count more : ℕ} (size : ℕ → ℕ) (m a : ℕ) → count ≡ total size (min a m) → (a < m → more ≡ size a) → (m ≤ a → more ≡ 0)
    → count + more ≡ total size (min (a + 1) m)
next_column {count} {more} size m a e f g = elim (dec_lt a m) [
  | yes l ↦
      let before : min a m ≡ a = omega arith in
      let after : a + 1 ≡ min (a + 1) m = omega arith in
      total_more size a (e ∙ ap (total size) before) (f l) ∙ ap (total size) after
  | no l ↦
      let same : min a m ≡ min (a + 1) m = omega arith in
      let none : count + more ≡ count = omega (arith, g (omega arith)) in
      none ∙ e ∙ ap (total size) same
]

-- ---- counts

pub record IndexEntry (file firsts : List ℕ) (v : ℕ) : Type 0 where
  pub inside : v + 1 < length firsts
  pub first_is : get_or firsts v 0 ≡ labels_before file v
  pub count_is : get_or firsts (v + 1) 0 - get_or firsts v 0 ≡ labels_at file v
  pub rises : get_or firsts v 0 ≤ get_or firsts (v + 1) 0
  pub few : get_or firsts (v + 1) 0 ≤ 2048

module _ (file : List ℕ) where
  pub before_more : {count more : ℕ} (v : ℕ) → count ≡ labels_before file v → more ≡ labels_at file v → count + more ≡ labels_before file (v + 1)
  unfolding labels_before
  before_more v e f = total_more (labels_at file) v e f

  -- the last entry: how many labels there are
  pub firsts_done : {old new : List ℕ} {size v n count : ℕ} → Filling (labels_before file) size old new v → v ≡ n → n ≡ vertices file → vertices file < size → count ≡ labels_before file v
      → Firsts file (set new n count)
  firsts_done {old} {new} {size} {v} {n} {count} t e f room g =
      let done = fill_next t (omega (arith, e, f)) g in
      subst (λ (m : ℕ). Firsts file (set new m count)) e (record { size = omega (arith, fill_length done); first = λ u l. fill_at done u (omega (arith, e, f)) })

  module _ (laid : Laid file) where
    pub at_few : (v : ℕ) → labels_at file v ≤ 8
    unfolding labels_at
    at_few v = omega (arith, count_few (λ a. is_label file a v) (arrays file), laid.limits.few_arrays)

    pub before_few : (v : ℕ) → labels_before file v ≤ 8 * v
    unfolding labels_before
    before_few v = total_few (labels_at file) 8 at_few v

    -- counts and indices fit 16 bits
    pub labels_few : label_count file ≤ 2048
    unfolding label_count
    labels_few = omega (arith, before_few (vertices file), laid.limits.few_vertices)

    pub plan_few : plan_length file ≤ 25608
    unfolding plan_length
    plan_few = omega (arith, labels_few, laid.limits.few_vertices)

  -- a vertex without labels writes nothing
  pub row_none : (v : ℕ) → ((a : ℕ) → a < arrays file → is_label file a v ≡ false) → label_row file v ≡ []
  unfolding label_row label_entry
  row_none v none = rows_empty (λ a. label_entry file a v) (arrays file) (λ a l. ap (λ (b : Bool). cond b (label_bytes file a v) []) (none a l))

  -- vertex v's entry of the contents, from two indices
  pub entry-holds : {firsts : List ℕ} → Laid file → Firsts file firsts → {v : ℕ} → v < vertices file → IndexEntry file firsts v
  entry-holds {firsts} laid f {v} l =
      let here = f.first v (omega arith) in
      let behind = f.first (v + 1) (omega arith) ∙ sym (before_more v refl refl) in
      record {
        inside = omega (arith, f.size);
        first_is = here;
        count_is = omega (arith, here, behind);
        rises = omega (arith, here, behind);
        few = omega (arith, behind, before_few laid v, at_few laid v, laid.limits.few_vertices);
      }

  -- ---- lengths

  -- where the entry of vertex v stands
  pub entry_at : (v : ℕ) → 4 * v ≡ length (rows (contents_entry file) v)
  unfolding contents_entry
  entry_at v = sym (rows-length (contents_entry file) 4 (λ v. refl) v)

  entry_length : (a v : ℕ) → length (label_entry file a v) ≡ 12 * cond (is_label file a v) 1 0
  unfolding label_entry label_bytes
  entry_length a v = go (is_label file a v)
    where
      go : (b : Bool) → length (cond b (label_bytes file a v) []) ≡ 12 * cond b 1 0
      go true = refl
      go false = refl

  label_row_length : (v : ℕ) → length (label_row file v) ≡ 12 * labels_at file v
  unfolding label_row labels_at
  label_row_length v = rows-total (λ a. label_entry file a v) (λ a. cond (is_label file a v) 1 0) 12 (λ a. entry_length a v) (arrays file)

  pub labels_length : length (labels file) ≡ 12 * label_count file
  unfolding labels label_count labels_before
  labels_length = rows-total (label_row file) (labels_at file) 12 label_row_length (vertices file)

  -- where the labels stand
  pub labels_at_is : 8 + 4 * vertices file ≡ length (plan_head (vertices file) (label_count file) ++ contents file)
  unfolding contents
  labels_at_is = omega (arith, entry_at (vertices file))

  -- by the header and the count
  pub length_is : {h : Header} {count : ℕ} → ReadAs file h → count ≡ label_count file → 8 + 4 * h.vertices + 12 * count ≡ plan_length file
  unfolding plan_length
  length_is is e = omega (arith, is.heads.vertices_are, e)

  -- contents 4 bytes a vertex, 12 bytes a label
  pub plan_length_lem : length (plan_bytes file) ≡ plan_length file
  unfolding plan_bytes plan_length
  plan_length_lem =
      length-append (plan_head (vertices file) (label_count file) ++ contents file) (labels file) ∙ omega (arith, labels_at_is, labels_length)
