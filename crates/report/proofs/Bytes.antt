-- The bytes of entries, records and counts, and their number.
-- Assumes nothing.
use mathlib.Core.Path.{◌≡◌, refl, sym, ap, ◌∙◌}
use mathlib.Core.Bool.{cond}
use mathlib.Core.List.{List, [], ◌∷◌, ◌++◌, append_assoc}
use Prim.Native.Nat.{ℕ, zero, suc, ◌*◌}
use lib.ListN.{length}
use Rattle.report.specs.Bytes.{entry_bytes, record_bytes, records_bytes}
use Rattle.report.specs.Records.{records_at, by_step}
use Rattle.report.specs.declared.record.Record.{Record}
use Rattle.routine.specs.Actions.{is_reference}
use Rattle.routine.specs.declared.action.Action.{Action}
use Rattle.routine.specs.declared.action.Action.TheVariants.{Nothing, Reference, Remap, Unknown}
use Rattle.state.specs.States.{State}
use Rattle.words.specs.Tables.{rows}
use Rattle.words.specs.Words.{bytes16}
use Rattle.words.proofs.Tables.{rows-length, rows_same}

-- eight bytes an array
pub entries-length : (state : ℕ → State) (m : ℕ) → length (rows (λ a. entry_bytes (state a)) m) ≡ 8 * m
entries-length state m = rows-length (λ a. entry_bytes (state a)) 8 (λ a. refl) m

-- two bytes a count
pub counts-length : (count : ℕ → ℕ) (n : ℕ) → length (rows (λ i. bytes16 (count i)) n) ≡ 2 * n
counts-length count n = rows-length (λ i. bytes16 (count i)) 2 (λ i. refl) n

-- ---- records

records_bytes-append : (rs ss : List Record) → records_bytes (rs ++ ss) ≡ records_bytes rs ++ records_bytes ss
records_bytes-append [] ss = refl
records_bytes-append (r ∷ rs) ss =
    ap (λ (l : List ℕ). record_bytes r ++ l) (records_bytes-append rs ss) ∙ sym (append_assoc (record_bytes r) (records_bytes rs) (records_bytes ss))

-- the bytes of rows of records are the rows of their bytes
records_rows : (row : ℕ → List Record) (n : ℕ) → records_bytes (rows row n) ≡ rows (λ i. records_bytes (row i)) n
unfolding rows
records_rows row zero = refl
records_rows row (suc n) = records_bytes-append (rows row n) (row n) ∙ ap (λ (l : List ℕ). l ++ records_bytes (row n)) (records_rows row n)

pub by_step_bytes : (at : ℕ → ℕ → List Record) (m n : ℕ) → records_bytes (by_step at m n) ≡ rows (λ i. rows (λ a. records_bytes (at i a)) m) n
by_step_bytes at m n = records_rows (λ i. rows (at i) m) n ∙ rows_same _ _ n (λ i _. records_rows (at i) m)

-- ten bytes for a reference
pub ten : (x : Action) (step array version stamp : ℕ) → length (records_bytes (records_at x step array version stamp)) ≡ 10 * cond (is_reference x) 1 0
ten Nothing step array version stamp = refl
ten (Reference r) step array version stamp = refl
ten (Remap k) step array version stamp = refl
ten Unknown step array version stamp = refl
