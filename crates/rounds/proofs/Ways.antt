-- The ways out of the call `rounds`: what the checks say, as the definition's answer.
-- Assumes nothing.
use Rattle.std.specs.Prelude.{Ok, Err}
use mathlib.Core.Path.{◌≡◌, refl, sym, ap, ◌∙◌}
use mathlib.Core.Bool.{Bool, true, false, true≢false}
use mathlib.Core.List.{List, ◌++◌}
use mathlib.Core.Logic.{⊎_elim}
use Prim.Native.Nat.{ℕ, ◌≤◌, ◌<◌}
use native.Mathlib.Omega.{arith}
use borrow.Author.Tests.{le-leb, lt-leb}
use lib.ListN.{length}
use Rattle.calls.proofs.Checks.{no_calls_check, calls_routine, calls_expanded}
use Rattle.calls.specs.Calls.{has_calls}
use Rattle.calls.specs.Checks.{calls_check}
use Rattle.calls.specs.Expanded.{expanded}
use Rattle.calls.specs.Referring.{referring}
use Rattle.checks.proofs.Rows.{not_passed}
use Rattle.labels.specs.Checks.{programmer_check}
use Rattle.passes.specs.Counted.{Stops, BroughtStops, ReachedFirst}
use Rattle.refusal.specs.Replies.{reply_outcome, Reply}
use Rattle.refusal.specs.declared.Refusal.{Refusal}
use Rattle.refusal.specs.declared.Refusal.TheVariants.{ShortPlanBuffer}
use Rattle.rounds.specs.Calls.{four_bytes, FourPasses, SixPasses, PassBytes, rounds_length, rounds_check, rounds_of, Rounded, Counted}
use Rattle.rounds.specs.declared.Passes.{Passes}
use Rattle.routine.proofs.Accepted.{passed_read}
use Rattle.routine.specs.Layout.{vertices}
use Rattle.routine.specs.Reader.{read_check}
use Rattle.words.specs.Tables.{wrote}
use Rattle.words.specs.Words.{bytes16}

-- ---- the numbers

-- a number has 16 bits
pub few : (file : List ℕ) {along : Bool} {gives passes : ℕ → ℕ → ℕ} {r : ℕ} → vertices file ≤ 256 → Stops file along gives passes r → r < 65536
few file h s = omega (arith, s.most)

pub few_first : (file : List ℕ) {r : ℕ} → vertices file ≤ 256 → ReachedFirst file r → r < 65536
few_first file {r} h s = ⊎_elim (λ p. few file h p) (λ p. let e : r ≡ 0 = p.0 in omega arith) s

-- 20 or 21 refuses: there are none
pub counted_none : {routine : List ℕ} {p : Passes} {r : Refusal} → p.verdict ≡ programmer_check routine → p.verdict ≡ Err r → Counted routine p
counted_none is e = record {
  answers = is;
  letters_stop = not_passed e;
  reached_first = not_passed e;
  reaching_stops = not_passed e;
  kept_stops = not_passed e;
}

four : {routine : List ℕ} {p : Passes} → Counted routine p → p.verdict ≡ Ok tt → FourPasses routine (four_bytes p.letters p.reached p.reaching p.kept)
four {p} c e = record {
  letters = p.letters;
  reached = p.reached;
  reaching = p.reaching;
  kept = p.kept;
  letters_stop = c.letters_stop e;
  reached_first = c.reached_first e;
  reaching_stops = c.reaching_stops e;
  kept_stops = c.kept_stops e;
  are = refl;
}

-- ---- the call, for every list of bytes

not_denied : {A : Type 0} {r : Refusal} {n : ℕ} → Ok n ≡ Err r → A
not_denied e = absurd (let z : ◌≡◌ {A = ℕ} 0 1 = cc in omega arith)

not_written : {A : Type 0} {r : Refusal} {n : ℕ} → Err r ≡ Ok n → A
not_written e = absurd (let z : ◌≡◌ {A = ℕ} 0 1 = cc in omega arith)

module _ (file before : List ℕ) where
  -- a refusal that is handed on
  denied : {reply : Reply} {r : Refusal} → rounds_check file (length before) ≡ Err r → reply ≡ Err r → Rounded file before reply before
  unfolding rounds_of
  denied {reply} failed e =
      let is : reply ≡ rounds_of file (length before) = e ∙ sym (rw failed) in
      record {
        answer = is;
        outcome = ap reply_outcome is;
        numbers = λ n w. not_written (sym e ∙ w);
        unwritten = λ r w. refl;
      }

  -- 10 to 19
  pub read_denied : {reply : Reply} {r : Refusal} → read_check file ≡ Err r → reply ≡ Err r → Rounded file before reply before
  unfolding rounds_check
  read_denied failed = denied (rw failed)

  module _ (read : read_check file ≡ Ok tt) where
    -- 22, 20 or 21
    pub calls_denied : {reply : Reply} {r : Refusal} → calls_check file ≡ Err r → reply ≡ Err r → Rounded file before reply before
    unfolding rounds_check
    calls_denied failed = denied (rw (read, failed))

    module _ (passed : calls_check file ≡ Ok tt) {needed : ℕ} (is : rounds_length file ≡ needed) where
      -- 1
      short : length before < needed → Rounded file before (Err (ShortPlanBuffer needed)) before
      unfolding rounds_check
      short h = denied (rw (read, passed, is, lt-leb needed (length before) h)) refl

      all_passed : needed ≤ length before → Ok needed ≡ rounds_of file (length before)
      unfolding rounds_of rounds_check
      all_passed h = rw (read, passed, is, le-leb needed (length before) h)

      numbers : {bytes after : List ℕ} → needed ≤ length before → PassBytes file bytes → after ≡ wrote before bytes → Rounded file before (Ok needed) after
      numbers {bytes} h p w = record {
        answer = all_passed h;
        outcome = ap reply_outcome (all_passed h);
        numbers = λ n e. (bytes, p, w);
        unwritten = λ r e. not_denied e;
      }

    -- ---- no calls

    module _ (none : has_calls file ≡ false) {p : Passes} (c : Counted file p) where
      same : calls_check file ≡ p.verdict
      same = no_calls_check file none (passed_read file read) ∙ sym c.answers

      eight : rounds_length file ≡ 8
      eight = rw none

      pub plain_denied : {reply : Reply} {r : Refusal} → p.verdict ≡ Err r → reply ≡ Err r → Rounded file before reply before
      plain_denied e = calls_denied (same ∙ e)

      module _ (e : p.verdict ≡ Ok tt) where
        pub plain_short : length before < 8 → Rounded file before (Err (ShortPlanBuffer 8)) before
        plain_short = short (same ∙ e) eight

        pub plain_rounded : {after : List ℕ} → 8 ≤ length before → after ≡ wrote before (four_bytes p.letters p.reached p.reaching p.kept) → Rounded file before (Ok 8) after
        plain_rounded h w =
            numbers (same ∙ e) eight h record { plain = λ _. four c e; calls = λ some. absurd (true≢false (sym some ∙ none)) } w

    -- ---- calls

    module _ (some : has_calls file ≡ true) (passed : calls_check file ≡ Ok tt) where
      twelve : rounds_length file ≡ 12
      twelve = rw some

      pub calls_short : length before < 12 → Rounded file before (Err (ShortPlanBuffer 12)) before
      calls_short = short passed twelve

      module _ {p : Passes} (c : Counted (expanded file) p) where
        pub counted_passed : p.verdict ≡ Ok tt
        counted_passed = c.answers ∙ ap programmer_check (sym (calls_expanded file some)) ∙ calls_routine file read passed

        pub calls_rounded : {reached arriving : ℕ} {after : List ℕ} → 12 ≤ length before → ReachedFirst (referring file) reached → BroughtStops (referring file) arriving
            → after ≡ wrote before (bytes16 reached ++ (bytes16 arriving ++ four_bytes p.letters p.reached p.reaching p.kept)) → Rounded file before (Ok 12) after
        calls_rounded {reached} {arriving} h first stops w =
            numbers passed twelve h record { plain = λ none. absurd (true≢false (sym some ∙ none)); calls = λ _. six } w
          where
            six : SixPasses file (bytes16 reached ++ (bytes16 arriving ++ four_bytes p.letters p.reached p.reaching p.kept))
            six = record {
              reached = reached;
              arriving = arriving;
              rest = four_bytes p.letters p.reached p.reaching p.kept;
              reached_first = first;
              arriving_stops = stops;
              four = four c counted_passed;
              are = refl;
            }
