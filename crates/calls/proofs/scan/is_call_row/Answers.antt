-- `scan::is_call_row` meets its contract: the bytes of the row are those of the vertex.
use mathlib.Core.Path.{◌≡◌, refl, ap, ap₂, ◌∙◌}
use mathlib.Core.Bool.{Bool, ◌||◌}
use Prim.Native.Nat.{ℕ, zero, suc, ◌+◌, ◌<◌}
use native.Mathlib.Omega.{arith}
use lib.ListN.{length, get_or}
use Rattle.routine.specs.Actions.{is_call, action_byte}
use Rattle.routine.specs.Layout.{arrays}
use Rattle.words.specs.Sums.{any_below}
use Rattle.words.specs.Tables.{table}
use Rattle.words.proofs.Tables.{table-length, table_at}
use Rattle.calls.specs.Calls.{is_call_row}
use Rattle.calls.proofs.scan.is_call_row.Goals as goal

any_same : (f g : ℕ → Bool) (n : ℕ) → ((i : ℕ) → i < n → f i ≡ g i) → any_below f n ≡ any_below g n
unfolding any_below
any_same f g zero same = refl
any_same f g (suc n) same = ap₂ ◌||◌ (any_same f g n (λ i h. same i (omega arith))) (same n (omega arith))

pub any_from-requires : goal.any_from-requires
any_from-requires c = omega (arith, c.arrays.ensures, ap length c.row.ensures ∙ table-length (λ a. action_byte c.args.routine.now.bytes a c.args.v) (arrays c.args.routine.now.bytes))

pub returns : goal.returns
unfolding is_call_row
returns c =
    let file = c.args.routine.now.bytes in
    let byte : ℕ → ℕ = λ a. action_byte file a c.args.v in
    let row = table byte (arrays file) in
    rw (c.any_from.ensures, c.row.ensures, c.arrays.ensures)
    (any_same (λ i. is_call (get_or row (0 + i) 0)) (λ a. is_call (byte a)) (arrays file)
    (λ a h. let i : 0 + a ≡ a = omega arith in ap (λ (k : ℕ). is_call (get_or row k 0)) i ∙ ap is_call (table_at byte (arrays file) a h)))
