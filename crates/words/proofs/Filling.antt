-- Laws of the loops that fill a table from the front.
-- Assumes nothing.
use mathlib.Core.Path.{◌≡◌, sym, ap, ◌∙◌}
use mathlib.Core.List.{List}
use Prim.Native.Nat.{ℕ, ◌+◌, ◌≤◌, ◌<◌}
use native.Mathlib.Omega.{arith}
use lib.ListN.{length, get_or, set}
use lib.Seq.{ext_get_or}
use Rattle.words.specs.Tables.{table}
use Rattle.words.proofs.Replaced.{replaced_at, Replacing, replacing_begin, replacing_behind, replacing_next}
use Rattle.words.proofs.Tables.{table-length, table_at}

-- a table of n entries, of which the first v have been filled in
pub record Filling (f : ℕ → ℕ) (n : ℕ) (old new : List ℕ) (v : ℕ) : Type 0 where
  pub whole : length old ≡ n
  pub replacing : Replacing old 0 f n new v

pub fill_begin : (f : ℕ → ℕ) {n : ℕ} {old : List ℕ} → length old ≡ n → Filling f n old old 0
fill_begin f {n} {old} e = record { whole = e; replacing = replacing_begin old 0 f n }

module _ {f : ℕ → ℕ} {n : ℕ} {old new : List ℕ} {v : ℕ} (t : Filling f n old new v) where
  pub fill_length : length new ≡ n
  fill_length = t.replacing.sized ∙ t.whole

  -- the next entry
  pub fill_next : {x : ℕ} → v < n → x ≡ f v → Filling f n old (set new v x) (v + 1)
  fill_next h e = record { whole = t.whole; replacing = replacing_next t.replacing h (omega arith) e }

  -- an entry that has been filled in
  pub fill_at : (u : ℕ) → u < v → get_or new u 0 ≡ f u
  fill_at u h = ap (λ (l : List ℕ). get_or l u 0) t.replacing.is ∙ replaced_at old 0 f 0 v u (omega arith) h (omega (arith, t.whole, t.replacing.within))

  -- the entries behind are as they were
  pub fill_behind : get_or new v 0 ≡ get_or old v 0
  fill_behind = replacing_behind t.replacing 0 (omega arith)

  pub fill_end : n ≤ v → new ≡ table f n
  fill_end h =
      ext_get_or 0 new (table f n) (fill_length ∙ sym (table-length f n))
      (λ i l. fill_at i (omega (arith, fill_length)) ∙ sym (table_at f n i (omega (arith, fill_length))))
