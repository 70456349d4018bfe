-- `fill_reached` meets its contract: the entry's row of an empty table is replaced, and the other table filled.
use mathlib.Core.Path.{◌≡◌, sym, ap, ◌∙◌}
use mathlib.Core.Bool.{Bool, cond}
use mathlib.Core.List.{List}
use Prim.Native.Nat.{ℕ, ◌*◌, ◌≤◌, ◌<◌}
use native.Mathlib.Decide.{dec_lt}
use native.Mathlib.Omega.{arith}
use borrow.Author.Tests.{lt-ltb, le-ltb}
use lib.Dec.{ltb}
use lib.ListN.{length, replicate, length-replicate}
use lib.Seq.{ext_get_or}
use Rattle.routine.specs.Layout.{entry}
use Rattle.words.proofs.Replaced.{replaced-length, replaced_other, replaced_at}
use Rattle.words.proofs.Tables.{table-length, table_at, zeros_at}
use Rattle.words.specs.Tables.{table, with_row}
use Rattle.passes.proofs.reaching.fill_reached.Goals as goal

-- an empty table with the first m cells replaced
first_cells : (n m : ℕ) → m ≤ n → with_row (replicate n 0) entry (λ a. 1) m ≡ table (λ i. cond (ltb i m) 1 0) n
first_cells n m few =
    let none : List ℕ = replicate n 0 in
    let size : length none ≡ n = length-replicate n 0 in
    let sized = replaced-length none (8 * entry) (λ a. 1) m in
    let at = table_at (λ i. cond (ltb i m) 1 0) n in
    ext_get_or 0 _ _ (sized ∙ size ∙ sym (table-length (λ i. cond (ltb i m) 1 0) n))
    (λ i l. let in_i : i < n = omega (arith, sized, size) in
    elim (dec_lt i m) [
      | yes h ↦ replaced_at none (8 * entry) (λ a. 1) 0 m i (omega arith) h (omega (arith, size))
          ∙ sym (at i in_i ∙ ap (λ (b : Bool). cond b 1 0) (lt-ltb i m h))
      | no h ↦ replaced_other none (8 * entry) (λ a. 1) 0 m i (λ a in_a e. h (omega arith)) ∙ zeros_at n i
          ∙ sym (at i in_i ∙ ap (λ (b : Bool). cond b 1 0) (le-ltb i m (omega arith)))
    ])

pub returns : goal.returns
returns c =
    let n = length c.args.gives.now in
    record {
      gives_after = c.enter_reached.ensures ∙ ap (λ (t : List ℕ). with_row t entry (λ a. 1) c.args.m) (c.fill.ensures.after (λ y e. e)) ∙ first_cells n c.args.m c.requires;
      passes_after = c.pass_reached.ensures;
    }
