-- What the tables of each pass say, cell by cell.
-- Assumes nothing.
use mathlib.Core.Path.{◌≡◌, refl, sym, ap, ap₂, subst, ◌∙◌}
use mathlib.Core.Bool.{Bool, true, false, not, ◌&&◌, ◌||◌, cond, and_comm, or-false}
use mathlib.Core.List.{List}
use Prim.Native.Nat.{ℕ, zero, suc, ◌+◌, ◌*◌, ◌≤◌, ◌<◌, ◌^◌}
use native.Mathlib.Nat.{le_refl}
use native.Mathlib.Omega.{arith}
use borrow.Author.Tests.{lt-ltb, le-ltb, eq-eqb, ne_eqb}
use lib.Bits.{bit_or}
use lib.Dec.{eqb, ltb, eqb-suc-zero}
use lib.Ieee.Bits.{is_true}
use lib.ListN.{length, get_or}
use lib.Pow.{pow_pos}
use Rattle.flow.proofs.Cells.{cells_table, cells_row, none_table, cells_solved}
use Rattle.flow.proofs.Counted.{stops_after}
use Rattle.flow.specs.Cells as columns
use Rattle.flow.specs.Solver.{Rounds}
use Rattle.routine.specs.Layout.{arrays, vertices, entry, exit}
use Rattle.routine.specs.Reader.{WellFormed}
use Rattle.routine.specs.declared.action.Action.{Action}
use Rattle.halves.proofs.Tables.{test_halves, test_doubled}
use Rattle.halves.specs.Halves.{AreHalves, doubled}
use Rattle.sets.specs.Sets.{has, every_version, every_half}
use Rattle.words.specs.Tables.{table, with_row}
use Rattle.labels.specs.Ambiguity.{brought_gives, brought_passes, brought_sets, brought_of}
use Rattle.labels.specs.Events.{edge_bytes, event, is_label, version_of, version}
use Rattle.labels.specs.Routines.{EdgeOrder}
use Rattle.routine.specs.Arrays.{kind, initial, is_in_or_inout}
use Rattle.labels.specs.Kept.{is_n_or_r, passes_kept, leaving_set, kept_sets, kept_of}
use Rattle.labels.specs.Letters.{letter_byte, use_of_byte}
use Rattle.labels.specs.Reaching.{reached_over, is_reached_over, is_reached, reach_gives, reach_passes, reach_sets, reaching_of}
use Rattle.passes.specs.Counted.{Stops}
use Rattle.passes.specs.Marks.{AllReached}
use Rattle.passes.specs.Tables.{Cells, CellsAlone, reached_cell, Versions, UseGives, Reached, Letters, Pass}
use Rattle.labels.specs.declared.Use.TheVariants.{W}
use Rattle.labels.specs.Uses.{use_gives, use_passes, passes_by, use_sets, letter_of, use_of, is_n, is_kept}
use Rattle.labels.specs.declared.Use.{Use}
use Rattle.labels.proofs.Rules.Events.{by_event}
use Rattle.labels.proofs.Rules.Proper.{ends_within_lem}
use Rattle.words.proofs.Tables.{table-length}
use Rattle.words.proofs.Tests.{cond-not}
use Rattle.passes.proofs.Cells.{cells_are, few_columns, in_eight, alone_table, alone_row}
use Rattle.labels.proofs.Letters.{letter_use}

-- ---- use

use_passes_lem : (x : Action) → passes_by (use_gives x) ≡ use_passes x
use_passes_lem = by_event (λ x. passes_by (use_gives x) ≡ use_passes x) refl refl refl refl refl (λ k. refl) refl

-- ---- cells and tests

-- the entry's row
first_row : (m v a : ℕ) → m ≤ 8 → a < m → ltb (8 * v + a) m ≡ eqb v entry
first_row m zero a few h = lt-ltb (8 * 0 + a) m (omega arith)
first_row m (suc v) a few h = le-ltb (8 * suc v + a) m (omega arith) ∙ sym (eqb-suc-zero v)

-- a test within a test
cond_and : (b c : Bool) (x : ℕ) → cond b (cond c x 0) 0 ≡ cond (b && c) x 0
cond_and true c x = refl
cond_and false c x = refl

-- nothing is given either way
none_given : (b : Bool) {x : ℕ} → x ≡ 0 → cond b x 0 ≡ 0
none_given true e = e
none_given false e = refl

-- a set of one version is not empty
pub single_none : (b : Bool) (k : ℕ) → eqb (cond b (2 ^ k) 0) 0 ≡ not b
single_none true k = ne_eqb (2 ^ k) 0 (λ e. omega (arith, pow_pos k))
single_none false k = refl

-- where a set of one version stands nothing is passed, elsewhere every version
single_passes : (b : Bool) (k : ℕ) → cond (eqb (cond b (2 ^ k) 0) 0) every_version 0 ≡ cond b 0 every_version
single_passes b k = ap (λ (t : Bool). cond t every_version 0) (single_none b k) ∙ sym (cond-not b 0 every_version)

-- ---- reached vertices, in m columns of n vertices

module _ {m n : ℕ} (few : m ≤ 8) where
  pub reached_gives : {s : List ℕ} {k : ℕ} → k ≡ 8 * n → s ≡ table (λ i. cond (ltb i m) 1 0) k → columns.Cells m n (λ a v. cond (eqb v entry) 1 0) s
  reached_gives size e =
      cells_table few (λ i. cond (ltb i m) 1 0) size e (λ a v in_a in_v. ap (λ (b : Bool). cond b 1 0) (first_row m v a few in_a))

  reached_none : {s : List ℕ} {k : ℕ} → k ≡ 8 * n → s ≡ table (λ i. cond (ltb i m) 1 0) k → columns.NoneBeyond m n s
  reached_none size e = none_table few (λ i. cond (ltb i m) 1 0) size e (λ a v out col in_v. ap (λ (b : Bool). cond b 1 0) (le-ltb (8 * v + a) m (omega arith)))

  pub reached_passes : {s : List ℕ} {k : ℕ} → k ≡ 8 * n → s ≡ table (λ i. 1) k → columns.Cells m n (λ a v. 1) s
  reached_passes size e = cells_table few (λ i. 1) size e (λ a v in_a in_v. refl)

  pub reached_sets_lem : {es gives passes sets : List ℕ} → columns.Cells m n (λ a v. cond (eqb v entry) 1 0) gives → columns.Cells m n (λ a v. 1) passes
      → columns.Pass es n false gives passes sets → columns.Cells m n (λ a v. get_or (reached_over es n) v 0) sets
  unfolding reached_over
  reached_sets_lem g p h = cells_solved few (λ a v. cond (eqb v entry) 1 0) (λ a v. 1) g p h

-- ---- what is passed, by halves: the same in both

pub record Passing (file : List ℕ) (P : ℕ → ℕ → ℕ) (s : List ℕ) : Type 0 where
  pub size : length s ≡ 8 * vertices file
  pub halves : AreHalves s
  pub cells : Cells file P (doubled s)

module _ {file : List ℕ} (well : WellFormed file) where
  -- every version where a test passes
  passing : (test : ℕ → Bool) {P : ℕ → ℕ → ℕ} {s : List ℕ} {k : ℕ} → k ≡ 8 * vertices file
      → ((a v : ℕ) → a < arrays file → v < vertices file → cond (test (8 * v + a)) every_version 0 ≡ P a v) → s ≡ table (λ i. cond (test i) every_half 0) k → Passing file P s
  passing test {k = k} size is e = record {
    size = ap length e ∙ table-length _ k ∙ size;
    halves = test_halves test k e;
    cells = cells_table (few_columns well) (λ i. cond (test i) every_version 0) size (test_doubled test k e) is;
  }

  -- ---- the number of rounds

  pub pass_stops : {order gives passes : List ℕ} {along : Bool} {r : ℕ} {G P : ℕ → ℕ → ℕ} → EdgeOrder file order → CellsAlone file G gives → Cells file P passes
      → Rounds (edge_bytes file) order along gives passes (vertices file) r → Stops file along G P r
  pass_stops {order} {gives} {passes} {along} {G = G} {P} ord g p h =
      stops_after (edge_bytes file) order along gives passes (vertices file) G P (few_columns well) ord (ends_within_lem file well) (cells_are g) p g.beyond h

  -- ---- reached vertices, in a column for each array

  pub reached_alone : {s : List ℕ} {m k : ℕ} → m ≡ arrays file → k ≡ 8 * vertices file → s ≡ table (λ i. cond (ltb i m) 1 0) k
      → CellsAlone file (λ a v. cond (eqb v entry) 1 0) s
  reached_alone {k = k} all size e =
      let now = e ∙ ap (λ (x : ℕ). table (λ i. cond (ltb i x) 1 0) k) all in
      let c = reached_gives (few_columns well) size now in
      record { size = c.size; cells = c.cells; beyond = reached_none (few_columns well) size now }

  reached_at : {reached : List ℕ} → Reached file reached → (a v : ℕ) → a < arrays file → v < vertices file → reached_cell (8 * v + a) (get_or reached (8 * v + a) 0) ≡ is_reached file v
  unfolding is_reached_over
  reached_at h a v in_a in_v = ap₂ ◌||◌ (first_row 8 v a (le_refl 8) (in_eight well in_a)) (ap (λ (m : ℕ). has m 0) (h.cells a v in_a in_v))

  -- ---- the versions that paths bring

  module _ {versions : List ℕ} (vs : Versions file versions) where
    pub brought_gives_lem : {reached s : List ℕ} → Reached file reached → s ≡ table (λ i. cond (reached_cell i (get_or reached i 0)) (get_or versions i 0) 0) (length versions)
        → CellsAlone file (brought_gives file) s
    unfolding brought_gives version
    brought_gives_lem {reached} h e =
        alone_table well (λ i. cond (reached_cell i (get_or reached i 0)) (get_or versions i 0) 0) vs.size e
        (λ a v in_a in_v.
        ap₂ (λ (b : Bool) (x : ℕ). cond b x 0) (reached_at h a v in_a in_v) (vs.cells a v in_a in_v)
        ∙ cond_and (is_reached file v) (is_label file a v) (2 ^ version_of (event file a v)))
        (λ a v out col in_v. none_given (reached_cell (8 * v + a) (get_or reached (8 * v + a) 0)) (vs.beyond.empty a v out col in_v))

    -- every vertex is reached
    pub brought_versions : AllReached file → {s : List ℕ} → s ≡ versions → CellsAlone file (brought_gives file) s
    unfolding brought_gives version
    brought_versions all e = subst (CellsAlone file (brought_gives file)) (sym e) (record {
      size = vs.size;
      cells = λ a v in_a in_v. vs.cells a v in_a in_v
          ∙ sym (ap (λ (b : Bool). cond (b && is_label file a v) (2 ^ version_of (event file a v)) 0) (is_true (is_reached file v) (all.reached v in_v)));
      beyond = vs.beyond;
    })

    pub brought_passes_lem : {s : List ℕ} → s ≡ table (λ i. cond (eqb (get_or versions i 0) 0) every_half 0) (length versions) → Passing file (brought_passes file) s
    unfolding brought_passes
    brought_passes_lem =
        passing (λ i. eqb (get_or versions i 0) 0) vs.size
        (λ a v in_a in_v. ap (λ (x : ℕ). cond (eqb x 0) every_version 0) (vs.cells a v in_a in_v) ∙ single_passes (is_label file a v) (version_of (event file a v)))

  pub brought_sets_lem : {gives passes sets : List ℕ} → CellsAlone file (brought_gives file) gives → Cells file (brought_passes file) passes
      → Pass file false gives passes sets → Cells file (brought_of file) sets
  unfolding brought_sets brought_of
  brought_sets_lem g p h = cells_solved (few_columns well) (brought_gives file) (brought_passes file) (cells_are g) p h

  -- ---- letters

  pub letter_passes : {uses s : List ℕ} → UseGives file uses → s ≡ table (λ i. passes_by (get_or uses i 0)) (length uses) → Cells file (λ a v. use_passes (event file a v)) s
  letter_passes {uses} h e =
      cells_table (few_columns well) (λ i. passes_by (get_or uses i 0)) h.size e (λ a v in_a in_v. ap passes_by (h.cells a v in_a in_v) ∙ use_passes_lem (event file a v))

  letter_sets : {gives passes sets : List ℕ} → UseGives file gives → Cells file (λ a v. use_passes (event file a v)) passes
      → Pass file true gives passes sets → Cells file (λ a v. get_or (use_sets file a) v 0) sets
  unfolding use_sets
  letter_sets g p h = cells_solved (few_columns well) (λ a v. use_gives (event file a v)) (λ a v. use_passes (event file a v)) (cells_are g) p h

  -- away from the exit, and at it
  letter_at : (a v : ℕ) {last : Bool} → eqb v (exit file) ≡ last
      → letter_byte (cond last W (letter_of (get_or (use_sets file a) v 0))) ≡ letter_byte (use_of file a v)
  unfolding use_of
  letter_at a v e = ap (λ (b : Bool). letter_byte (cond b W (letter_of (get_or (use_sets file a) v 0)))) (sym e)

  pub letters_are : {gives passes sets mid s : List ℕ} → UseGives file gives → Cells file (λ a v. use_passes (event file a v)) passes → Pass file true gives passes sets
      → mid ≡ table (λ i. letter_byte (letter_of (get_or sets i 0))) (length sets)
      → s ≡ with_row mid (exit file) (λ a. letter_byte W) (arrays file) → Letters file s
  letters_are {gives} {passes} {sets} {mid} {s} g p h e f =
      let found = letter_sets g p h in
      let first : Cells file (λ a v. letter_byte (letter_of (get_or (use_sets file a) v 0))) mid =
      cells_table (few_columns well) (λ i. letter_byte (letter_of (get_or sets i 0))) found.size e (λ a v in_a in_v. ap (λ (m : ℕ). letter_byte (letter_of m)) (found.cells a v in_a in_v)) in
      subst (Letters file) (sym f)
      (cells_row (few_columns well) (λ a. letter_byte W) (exit file) (omega (arith, well.laid.limits.two_vertices)) first
      (λ a in_a. letter_at a (exit file) (eq-eqb (exit file) (exit file) refl)) (λ a v in_a away. letter_at a v (ne_eqb v (exit file) away)))

  -- ---- kept labels

  module _ {versions letters : List ℕ} (vs : Versions file versions) (ls : Letters file letters) where
    abbrev leaving : ℕ → ℕ
    leaving i = cond (not (is_n (use_of_byte (get_or letters i 0)))) (get_or versions i 0) 0

    use_at_lem : (a v : ℕ) → a < arrays file → v < vertices file → use_of_byte (get_or letters (8 * v + a) 0) ≡ use_of file a v
    use_at_lem a v in_a in_v = ap use_of_byte (ls.cells a v in_a in_v) ∙ letter_use (use_of file a v)

    leaving_at : (a v : ℕ) → a < arrays file → v < vertices file → leaving (8 * v + a) ≡ cond (is_kept file a v) (2 ^ version file a v) 0
    unfolding is_kept version
    leaving_at a v in_a in_v =
        ap₂ (λ (u : Use) (x : ℕ). cond (not (is_n u)) x 0) (use_at_lem a v in_a in_v) (vs.cells a v in_a in_v)
        ∙ cond_and (not (is_n (use_of file a v))) (is_label file a v) (2 ^ version_of (event file a v))
        ∙ ap (λ (b : Bool). cond b (2 ^ version_of (event file a v)) 0) (and_comm (not (is_n (use_of file a v))) (is_label file a v))

    leaving_beyond : (a v : ℕ) → arrays file ≤ a → a < 8 → v < vertices file → leaving (8 * v + a) ≡ 0
    leaving_beyond a v out col in_v = none_given (not (is_n (use_of_byte (get_or letters (8 * v + a) 0)))) (vs.beyond.empty a v out col in_v)

    leaving_none : (a v : ℕ) → a < arrays file → v < vertices file → cond (eqb (leaving (8 * v + a)) 0) every_version 0 ≡ cond (is_kept file a v) 0 every_version
    leaving_none a v in_a in_v =
        ap (λ (x : ℕ). cond (eqb x 0) every_version 0) (leaving_at a v in_a in_v) ∙ single_passes (is_kept file a v) (version file a v)

    -- ---- reaching sets

    -- away from the entry, and at it
    reach_elsewhere : (a v : ℕ) → (v ≡ entry → ⊥) → cond (is_reached file v && is_kept file a v) (2 ^ version file a v) 0 ≡ reach_gives file a v
    unfolding reach_gives
    reach_elsewhere a v h =
        ap (λ (b : Bool). cond (is_reached file v && b) (2 ^ version file a v) 0)
        (sym (or-false (is_kept file a v)) ∙ ap (λ (b : Bool). is_kept file a v || (b && is_in_or_inout (kind file a))) (sym (ne_eqb v entry h)))

    reach_entry : (a : ℕ) → a < arrays file
        → cond (not (is_n (use_of_byte (get_or letters a 0))) || is_in_or_inout (kind file a)) (2 ^ initial file a) 0 ≡ reach_gives file a entry
    unfolding reach_gives is_reached_over is_kept version event
    reach_entry a in_a =
        let place : a ≡ 8 * entry + a = omega arith in
        ap (λ (i : ℕ). cond (not (is_n (use_of_byte (get_or letters i 0))) || is_in_or_inout (kind file a)) (2 ^ initial file a) 0) place
        ∙ ap (λ (u : Use). cond (not (is_n u) || is_in_or_inout (kind file a)) (2 ^ initial file a) 0) (use_at_lem a entry in_a (omega (arith, well.laid.limits.two_vertices)))

    -- a table of what kept labels give where they are reached, then the entry's own row
    reach_row : {mid s : List ℕ} → CellsAlone file (λ a v. cond (is_reached file v && is_kept file a v) (2 ^ version file a v) 0) mid
        → s ≡ with_row mid entry (λ a. cond (not (is_n (use_of_byte (get_or letters a 0))) || is_in_or_inout (kind file a)) (2 ^ initial file a) 0) (arrays file)
        → CellsAlone file (reach_gives file) s
    reach_row first f =
        subst (CellsAlone file (reach_gives file)) (sym f)
        (alone_row well (λ a. cond (not (is_n (use_of_byte (get_or letters a 0))) || is_in_or_inout (kind file a)) (2 ^ initial file a) 0) entry
        (omega (arith, well.laid.limits.two_vertices)) first (λ a in_a. reach_entry a in_a) (λ a v in_a away. reach_elsewhere a v away))

    pub reach_gives_lem : {reached mid s : List ℕ} → Reached file reached → mid ≡ table (λ i. cond (reached_cell i (get_or reached i 0)) (leaving i) 0) (length versions)
        → s ≡ with_row mid entry (λ a. cond (not (is_n (use_of_byte (get_or letters a 0))) || is_in_or_inout (kind file a)) (2 ^ initial file a) 0) (arrays file)
        → CellsAlone file (reach_gives file) s
    reach_gives_lem {reached} h e =
        reach_row
        (alone_table well (λ i. cond (reached_cell i (get_or reached i 0)) (leaving i) 0) vs.size e
        (λ a v in_a in_v.
        ap₂ (λ (b : Bool) (x : ℕ). cond b x 0) (reached_at h a v in_a in_v) (leaving_at a v in_a in_v)
        ∙ cond_and (is_reached file v) (is_kept file a v) (2 ^ version file a v))
        (λ a v out col in_v. none_given (reached_cell (8 * v + a) (get_or reached (8 * v + a) 0)) (leaving_beyond a v out col in_v)))

    -- every vertex is reached
    pub reach_versions : {mid s : List ℕ} → AllReached file → mid ≡ table leaving (length versions)
        → s ≡ with_row mid entry (λ a. cond (not (is_n (use_of_byte (get_or letters a 0))) || is_in_or_inout (kind file a)) (2 ^ initial file a) 0) (arrays file)
        → CellsAlone file (reach_gives file) s
    reach_versions all e =
        reach_row
        (alone_table well leaving vs.size e
        (λ a v in_a in_v.
        leaving_at a v in_a in_v
        ∙ sym (ap (λ (b : Bool). cond (b && is_kept file a v) (2 ^ version file a v) 0) (is_true (is_reached file v) (all.reached v in_v))))
        leaving_beyond)

    pub reach_passes_lem : {s : List ℕ} → s ≡ table (λ i. cond (eqb (leaving i) 0) every_half 0) (length versions) → Passing file (reach_passes file) s
    unfolding reach_passes
    reach_passes_lem = passing (λ i. eqb (leaving i) 0) vs.size leaving_none

    -- ---- kept sets

    pub kept_gives : {s : List ℕ} → s ≡ table leaving (length versions) → CellsAlone file (leaving_set file) s
    unfolding leaving_set
    kept_gives e = alone_table well leaving vs.size e leaving_at leaving_beyond

    pub kept_passes : {s : List ℕ} → s ≡ table (λ i. cond (eqb (get_or versions i 0) 0 || is_n_or_r (use_of_byte (get_or letters i 0))) every_half 0) (length versions)
        → Passing file (λ a v. cond (passes_kept file a v) every_version 0) s
    unfolding passes_kept
    kept_passes =
        passing (λ i. eqb (get_or versions i 0) 0 || is_n_or_r (use_of_byte (get_or letters i 0))) vs.size
        (λ a v in_a in_v. ap₂ (λ (b : Bool) (u : Use). cond (b || is_n_or_r u) every_version 0)
        (ap (λ (x : ℕ). eqb x 0) (vs.cells a v in_a in_v) ∙ single_none (is_label file a v) (version_of (event file a v))) (use_at_lem a v in_a in_v))

    pub kept_sets_are : {gives passes sets s : List ℕ} → CellsAlone file (leaving_set file) gives → Cells file (λ a v. cond (passes_kept file a v) every_version 0) passes
        → Pass file true gives passes sets
        → s ≡ table (λ i. bit_or (leaving i) (cond (is_n_or_r (use_of_byte (get_or letters i 0))) (get_or sets i 0) 0)) (length sets) → Cells file (kept_of file) s
    unfolding leaving_set kept_sets kept_of
    kept_sets_are {gives} {passes} {sets} g p h e =
        let found = cells_solved (few_columns well) (leaving_set file) (λ a v. cond (passes_kept file a v) every_version 0) (cells_are g) p h in
        cells_table (few_columns well) (λ i. bit_or (leaving i) (cond (is_n_or_r (use_of_byte (get_or letters i 0))) (get_or sets i 0) 0)) h.size e
        (λ a v in_a in_v. ap₂ bit_or (leaving_at a v in_a in_v) (ap₂ (λ (u : Use) (x : ℕ). cond (is_n_or_r u) x 0) (use_at_lem a v in_a in_v) (found.cells a v in_a in_v)))

  -- away from the entry the reaching set is the solver's
  reaching_elsewhere : (a v : ℕ) → (v ≡ entry → ⊥) → get_or (reach_sets file a) v 0 ≡ reaching_of file a v
  unfolding reaching_of
  reaching_elsewhere a v h = ap (λ (b : Bool). cond b (cond (is_in_or_inout (kind file a)) (2 ^ initial file a) 0) (get_or (reach_sets file a) v 0)) (sym (ne_eqb v entry h))

  pub reaching_sets : {gives passes sets s : List ℕ} → CellsAlone file (reach_gives file) gives → Cells file (reach_passes file) passes → Pass file false gives passes sets
      → s ≡ with_row sets entry (λ a. reaching_of file a entry) (arrays file) → Cells file (reaching_of file) s
  unfolding reach_sets
  reaching_sets {gives} {passes} {sets} g p h e =
      subst (Cells file (reaching_of file)) (sym e)
      (cells_row (few_columns well) (λ a. reaching_of file a entry) entry (omega (arith, well.laid.limits.two_vertices)) (cells_solved (few_columns well) (reach_gives file) (reach_passes file) (cells_are g) p h)
      (λ a in_a. refl) (λ a v in_a away. reaching_elsewhere a v away))
