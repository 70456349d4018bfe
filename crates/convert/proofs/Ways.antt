-- The ways out of the call `convert`: what the checks say, as the definition's answer.
-- Assumes nothing.
use Rattle.std.specs.Prelude.{Ok, Err}
use mathlib.Core.Path.{◌≡◌, refl, sym, ap, subst, ◌∙◌}
use mathlib.Core.Bool.{Bool, true, false, not}
use mathlib.Core.List.{List}
use Prim.Native.Nat.{ℕ, ◌≤◌, ◌<◌}
use native.Mathlib.Omega.{arith}
use borrow.Author.Tests.{le-leb, lt-leb, leb-true, not-true}
use lib.Dec.{leb}
use lib.ListN.{length, take}
use Rattle.directives.specs.Fields.{check40}
use Rattle.directives.specs.Layout.{arrays, vertices, edges}
use Rattle.labels.specs.Checks.{programmer_check}
use Rattle.labels.specs.Routines.{ReadAs}
use Rattle.mappings.proofs.Bytes.{edges_are}
use Rattle.mappings.proofs.Demand.{demand4}
use Rattle.mappings.proofs.Faults.{mapping_faults}
use Rattle.mappings.proofs.Left.{given_single}
use Rattle.mappings.specs.Computed.{check41, check42, converted, given_to, given_set, left_set}
use Rattle.mappings.specs.Convert.{directives_check, convert_check, convert_of, convert_into, Converts}
use Rattle.refusal.proofs.Checks.{written_passed, passed_left, passed_right, holds_true, each_passed}
use Rattle.refusal.specs.Checks.{◌and_then◌, holds, first_failed, Verdict}
use Rattle.refusal.specs.Faults.{first_fault}
use Rattle.refusal.specs.Replies.{written, reply_outcome, Reply}
use Rattle.refusal.specs.declared.Refusal.{Refusal}
use Rattle.refusal.specs.declared.Refusal.TheVariants.{ShortRoutineBuffer, TwoMappings}
use Rattle.routine.proofs.Accepted.{accepted}
use Rattle.routine.specs.Layout as R
use Rattle.sets.specs.Sets.{several}
use Rattle.words.specs.Tables.{wrote}
use Rattle.convert.specs.Steps.{later_checks, Prepared, delivered, delivered_into}

-- ---- 40

-- a refusal by 40 is the answer
pub malformed : (file before : List ℕ) {r : Refusal} → check40 file ≡ Err r → Converts file before (Err r) before
unfolding convert_of convert_check directives_check
malformed file before {r} e = record {
  answer = same;
  outcome = ap reply_outcome same;
  buffer = refl;
  faults = mapping_faults file;
  demand = λ p. absurd (let z : ◌≡◌ {A = ℕ} 0 1 = cc (sym e ∙ passed_left (check40 file) _ p) in omega arith);
}
  where
    same : Err r ≡ convert_of file (length before)
    same = sym (ap (λ (v : Verdict). written ((v and_then check41 file and_then check42 file and_then programmer_check (converted file)) and_then holds (leb (length (converted file)) (length before)) (ShortRoutineBuffer (length (converted file)))) (length (converted file))) e)

-- ---- 41 and 42

-- a refusal is no routine
not_written : {A : Type 0} {r : Refusal} {n : ℕ} → Err r ≡ Ok n → A
not_written e = absurd (let z : ◌≡◌ {A = ℕ} 0 1 = cc in omega arith)

module _ (file work : List ℕ) where
  -- it leaves nothing to deliver
  denied_prepared : {r : Refusal} → Err r ≡ written (later_checks file) (length (converted file)) → Prepared file (Err r) work
  denied_prepared e = record { answer = e; routine = λ n w. not_written w; room = λ n w. not_written w }

  module _ {v : Verdict} (is : v ≡ check41 file) where
    pub many_refused : {r : Refusal} → v ≡ Err r → Prepared file (Err r) work
    unfolding later_checks
    many_refused e = denied_prepared (rw (← is, e))

    pub two_refused : {w : Verdict} {r : Refusal} → v ≡ Ok tt → w ≡ check42 file → w ≡ Err r → Prepared file (Err r) work
    unfolding later_checks
    two_refused passed also e = denied_prepared (rw (← is, passed, ← also, e))

-- ---- 1

-- a buffer that is too short, and one that is not
pub short : {n room : ℕ} → room < n → Err (ShortRoutineBuffer n) ≡ delivered (Ok n) room
short {n} {room} h = sym (ap (λ (b : Bool). written (holds b (ShortRoutineBuffer n)) n) (lt-leb n room h))

pub roomy : {n room : ℕ} → n ≤ room → Ok n ≡ delivered (Ok n) room
roomy {n} {room} h = sym (ap (λ (b : Bool). written (holds b (ShortRoutineBuffer n)) n) (le-leb n room h))

-- what is delivered was prepared
reply_of : (reply : Reply) (room n : ℕ) → delivered reply room ≡ Ok n → reply ≡ Ok n
reply_of (Ok k) room n e = go (leb k room) e
  where
    go : (b : Bool) → written (holds b (ShortRoutineBuffer k)) k ≡ Ok n → ◌≡◌ {A = Reply} (Ok k) (Ok n)
    go true e = e
    go false e = not_written e
reply_of (Err r) room n e = not_written e

module _ (file before : List ℕ) {reply r : Reply} {work : List ℕ} (passed : check40 file ≡ Ok tt) (p : Prepared file reply work) (d : r ≡ delivered reply (length before)) where
  abbrev size : ℕ
  size = length (converted file)

  last : (v : Verdict) → delivered (written v size) (length before) ≡ written (v and_then holds (leb size (length before)) (ShortRoutineBuffer size)) size
  last (Ok tt) = refl
  last (Err x) = refl

  checks_are : later_checks file ≡ directives_check file
  unfolding later_checks directives_check
  checks_are = sym (ap (λ (v : Verdict). v and_then check41 file and_then check42 file and_then programmer_check (converted file)) passed)

  answers : r ≡ convert_of file (length before)
  unfolding convert_of convert_check
  answers =
      d ∙ ap (λ (x : Reply). delivered x (length before)) p.answer
      ∙ last (later_checks file)
      ∙ ap (λ (v : Verdict). written (v and_then holds (leb size (length before)) (ShortRoutineBuffer size)) size) checks_are

  filled : (x : Reply) → r ≡ x → delivered_into x work before ≡ convert_into x file before
  filled (Ok n) e = ap (wrote before) (p.routine n (reply_of reply (length before) n (sym d ∙ e)))
  filled (Err y) e = refl

  pub converts : {after : List ℕ} → after ≡ delivered_into r work before → Converts file before r after
  converts e = record {
    answer = answers;
    outcome = ap reply_outcome answers;
    buffer = e ∙ filled r refl;
    faults = mapping_faults file;
    demand = λ q. let later = passed_right (check40 file) _ q in demand4 file passed (passed_left (check41 file) _ later) (passed_right (check41 file) _ later);
  }

-- what is written fits the buffer
pub written_fits : (file before : List ℕ) {reply : Reply} {after : List ℕ} {n : ℕ} → Converts file before reply after → reply ≡ Ok n → n ≤ length before
unfolding convert_of convert_check
written_fits file before c e =
    let w = sym c.answer ∙ e in
    let p = written_passed (convert_check file (length before)) (length (converted file)) w in
    omega (arith, same_size (convert_check file (length before)) w, leb-true (length (converted file)) (length before) (holds_true _ _ (passed_right (directives_check file) _ p)))
  where
    same_size : (v : Verdict) {m n : ℕ} → written v m ≡ Ok n → m ≡ n
    same_size (Ok tt) q = cc
    same_size (Err r) q = not_written q

-- ---- 20 and 21

module _ (file : List ℕ) (passed : check40 file ≡ Ok tt) (few : check41 file ≡ Ok tt) (single : check42 file ≡ Ok tt) where
  -- the converted routine is read
  pub read_converted : ReadAs (converted file) (R.header_of (converted file))
  read_converted = let r = accepted (converted file) (demand4 file passed few single).read in record { well = r.0; heads = r.1 }

  pub vertices_kept : R.vertices (converted file) ≡ vertices file
  vertices_kept = (demand4 file passed few single).vertices_kept

  pub edges_kept : R.edges (converted file) ≡ edges file
  unfolding converted
  edges_kept = edges_are file (given_to file)

  -- a directive gives one version, as 42 has passed
  pub one_given : (a v : ℕ) → a < arrays file → v < vertices file → several (given_set file a v) ≡ false
  unfolding check42 first_fault
  one_given a v in_a in_v =
      let row = each_passed (λ v. first_failed (λ a. holds (not (several (left_set file a v))) (TwoMappings v a)) 0 (arrays file)) (vertices file) single v in_v in
      given_single file a v (not-true _ (holds_true _ _ (each_passed (λ a. holds (not (several (left_set file a v))) (TwoMappings v a)) (arrays file) row a in_a)))

  -- what they say of it
  module _ {v : Verdict} {work : List ℕ} (is : v ≡ programmer_check (converted file)) where
    pub programmer_refused : {r : Refusal} → v ≡ Err r → Prepared file (Err r) work
    unfolding later_checks
    programmer_refused e = denied_prepared file work (rw (few, single, ← is, e))

    pub prepared : {n : ℕ} → v ≡ Ok tt → n ≡ length (converted file) → n ≤ length work → take n work ≡ converted file → Prepared file (Ok n) work
    unfolding later_checks
    prepared {n} e end room front = record {
      answer = rw (few, single, ← is, e) (ap Ok end);
      routine = λ m q. ap (λ (k : ℕ). take k work) (sym (same_length q)) ∙ front;
      room = λ m q. subst (λ (k : ℕ). k ≤ length work) (same_length q) room;
    }
      where
        same_length : {m : ℕ} → ◌≡◌ {A = Reply} (Ok n) (Ok m) → n ≡ m
        same_length q = cc
