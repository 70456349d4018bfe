-- Checks in a row: the first that fails is the answer.
-- Assumes nothing.
use Rattle.std.specs.Prelude.{Bool, true, false, ℕ, zero, suc, ◌+◌, Result, Ok, Err, ⊤}
use Rattle.refusal.specs.declared.Refusal.{Refusal}

-- what one check says, or a row of them: passed, or the refusal
abbrev pub Verdict : Type 0
Verdict = Result ⊤ Refusal

-- the first failure of the two
infixr 20 ◌and_then◌
abbrev pub ◌and_then◌ : Verdict → Verdict → Verdict
◌and_then◌ (Ok _) w = w
◌and_then◌ (Err r) w = Err r

-- passed where the test holds, else the refusal
abbrev pub holds : Bool → Refusal → Verdict
holds true r = Ok tt
holds false r = Err r

-- the first failure of the n items from `from` on
unfoldable pub first_failed : (ℕ → Verdict) → ℕ → ℕ → Verdict
first_failed item from zero = Ok tt
first_failed item from (suc n) = item from and_then first_failed item (from + 1) n
