-- Laws of a list of fields: fields in turn, lists one after the other, rows by a scan; and what a list that passes tells.
-- Assumes nothing.
use Rattle.std.specs.Prelude.{Ok, Err, IsErr, IsErrAnd}
use mathlib.Core.Path.{◌≡◌, refl, sym, ap, ◌∙◌}
use mathlib.Core.Bool.{true}
use mathlib.Core.List.{List, [], ◌∷◌, ◌++◌}
use Prim.Native.Nat.{ℕ, zero, suc, ◌+◌, ◌≤◌, ◌<◌}
use native.Mathlib.Nat.{zero-add}
use borrow.Author.Tests.{leb-true}
use lib.Dec.{leb}
use lib.ListN.{length, drop}
use Rattle.words.specs.Tables.{rows}
use Rattle.refusal.specs.Checks.{◌and_then◌, holds, first_failed, Verdict}
use Rattle.refusal.specs.declared.Refusal.{Refusal}
use Rattle.refusal.specs.declared.Refusal.TheVariants.{MalformedDirectives}
use Rattle.refusal.proofs.Checks.{exit_fails, passes, then_passed, then_assoc, first_last, passed_left, passed_right, holds_true, each_passed}
use Rattle.directives.specs.Fields.{Field, field_check, in_order}

module _ (file : List ℕ) where
  -- two lists, one after the other
  pub order_append : (fs gs : List Field) → in_order file (fs ++ gs) ≡ (in_order file fs and_then in_order file gs)
  unfolding in_order
  order_append [] gs = refl
  order_append (f ∷ fs) gs = ap (λ (w : Verdict). field_check file f and_then w) (order_append fs gs) ∙ sym (then_assoc (field_check file f) (in_order file fs) (in_order file gs))

  -- rows: the first row that fails
  pub order_rows : (row : ℕ → List Field) (n : ℕ) → in_order file (rows row n) ≡ first_failed (λ i. in_order file (row i)) 0 n
  unfolding rows in_order first_failed
  order_rows row zero = refl
  order_rows row (suc n) =
      order_append (rows row n) (row n)
      ∙ ap (λ (w : Verdict). w and_then in_order file (row n)) (order_rows row n)
      ∙ ap (λ (i : ℕ). first_failed (λ i. in_order file (row i)) 0 n and_then in_order file (row i)) (sym (zero-add n))
      ∙ sym (first_last (λ i. in_order file (row i)) 0 n)

  -- ---- as the code checks them: the verdict v is that of the fields fs, and the fields gs follow

  -- a failure is the answer
  pub stops : (fs gs : List Field) {v r : Verdict} {e : Refusal} → v ≡ in_order file fs → v ≡ Err e → IsErr r × IsErrAnd r (λ x. x ≡ e) → r ≡ in_order file (fs ++ gs)
  stops fs gs is e p = exit_fails _ is e p ∙ sym (order_append fs gs)

  -- after a pass the rest answers
  pub goes_on : (fs gs : List Field) {v r : Verdict} → v ≡ in_order file fs → v ≡ Ok tt → r ≡ in_order file gs → r ≡ in_order file (fs ++ gs)
  goes_on fs gs is e rest = passes is e rest ∙ sym (order_append fs gs)

  -- one field
  pub one : (f : Field) {v : Verdict} → v ≡ field_check file f → v ≡ in_order file (f ∷ [])
  unfolding in_order
  one f e = e ∙ sym (then_passed _)

  -- ---- what a list that passes tells

  pub passed_front : (fs gs : List Field) → in_order file (fs ++ gs) ≡ Ok tt → in_order file fs ≡ Ok tt
  passed_front fs gs e = passed_left (in_order file fs) (in_order file gs) (sym (order_append fs gs) ∙ e)

  pub passed_back : (fs gs : List Field) → in_order file (fs ++ gs) ≡ Ok tt → in_order file gs ≡ Ok tt
  passed_back fs gs e = passed_right (in_order file fs) (in_order file gs) (sym (order_append fs gs) ∙ e)

  pub passed_row : (row : ℕ → List Field) (n : ℕ) → in_order file (rows row n) ≡ Ok tt → (i : ℕ) → i < n → in_order file (row i) ≡ Ok tt
  passed_row row n e i h = each_passed (λ i. in_order file (row i)) n (sym (order_rows row n) ∙ e) i h

  -- the first field is right and within the file, and the rest passes
  pub passed_right_here : (f : Field) (fs : List Field) → in_order file (f ∷ fs) ≡ Ok tt → f.right ≡ true
  unfolding in_order
  passed_right_here f fs e = holds_true f.right _ (passed_right (holds (leb (f.at + f.wide) (length file)) (MalformedDirectives (length file))) (holds f.right (MalformedDirectives f.at)) (passed_left (field_check file f) (in_order file fs) e))

  pub passed_within : (f : Field) (fs : List Field) → in_order file (f ∷ fs) ≡ Ok tt → f.at + f.wide ≤ length file
  unfolding in_order
  passed_within f fs e = leb-true _ _ (holds_true (leb (f.at + f.wide) (length file)) _ (passed_left (holds (leb (f.at + f.wide) (length file)) (MalformedDirectives (length file))) (holds f.right (MalformedDirectives f.at)) (passed_left (field_check file f) (in_order file fs) e)))

  pub passed_rest : (f : Field) (fs : List Field) → in_order file (f ∷ fs) ≡ Ok tt → in_order file fs ≡ Ok tt
  unfolding in_order
  passed_rest f fs e = passed_right (field_check file f) (in_order file fs) e

  -- the fields behind n others
  pub behind : (n : ℕ) (fs : List Field) → in_order file fs ≡ Ok tt → in_order file (drop n fs) ≡ Ok tt
  behind zero fs e = e
  behind (suc n) [] e = e
  behind (suc n) (f ∷ fs) e = behind n fs (passed_rest f fs e)
