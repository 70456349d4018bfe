-- The file with calls as references, judged by what was read of the file itself; and the ways out of `expand`: what the checks say, as the
-- definition's answer.
-- Assumes nothing.
use Rattle.std.specs.Prelude.{Ok, Err}
use mathlib.Core.Path.{◌≡◌, sym, ap, ◌∙◌}
use mathlib.Core.List.{List}
use Prim.Native.Nat.{ℕ, ◌+◌, ◌≤◌, ◌<◌}
use native.Mathlib.Nat.{mul-le-mul_right}
use native.Mathlib.Omega.{arith}
use borrow.Author.Tests.{le-leb, lt-leb}
use lib.ListN.{length}
use Rattle.calls.proofs.Referring.{same_arrays, same_vertices, same_count, referring_formed}
use Rattle.calls.proofs.Written.{expanded_size, more_edges, size_few}
use Rattle.calls.specs.Checks.{check22, calls_check}
use Rattle.calls.specs.Expanded.{expanded}
use Rattle.calls.specs.Interfaces.{Interfaces, Expandable}
use Rattle.calls.specs.Parts.{expanded_vertices}
use Rattle.calls.specs.Referring.{referring, arriving}
use Rattle.calls.specs.Writing.{Arrivals}
use Rattle.checks.proofs.Rows.{not_passed}
use Rattle.checks.specs.Rows.{Judged}
use Rattle.checks.specs.declared.Judgement.{Judgement}
use Rattle.expansion.specs.Expansion.{JudgedCalls, Expansion}
use Rattle.expansion.specs.declared.Expanded.{Expanded}
use Rattle.labels.specs.Ambiguity.{brought_of}
use Rattle.labels.specs.Routines.{ReadAs}
use Rattle.passes.specs.Tables.{Cells}
use Rattle.refusal.specs.declared.Refusal.{Refusal}
use Rattle.refusal.specs.declared.Refusal.TheVariants.{TooManyVertices}
use Rattle.routine.specs.Layout.{arrays, vertices, edges, header_of}
use Rattle.routine.specs.Reader.{WellFormed}
use Rattle.routine.specs.declared.header.Header.{Header}
use Rattle.words.specs.Tables.{wrote}

-- ---- the file with calls as references

module _ {file : List ℕ} (interfaces : Interfaces file) where
  pub refers_read : {h : Header} → ReadAs file h → ReadAs (referring file) h
  refers_read read =
      let w = referring_formed file read.well interfaces in
      record {
        well = w;
        heads = record {
          laid = w.laid;
          arrays_are = read.heads.arrays_are ∙ sym (same_arrays file read.well.laid);
          vertices_are = read.heads.vertices_are ∙ sym (same_vertices file read.well.laid);
          edges_are = read.heads.edges_are ∙ sym (same_count file read.well.laid);
        };
      }

module _ {file : List ℕ} (well : WellFormed file) where
  arrivals : {s : List ℕ} → Cells (referring file) (brought_of (referring file)) s → Arrivals file s
  unfolding arriving
  arrivals c =
      let arrays_same = same_arrays file well.laid in
      let vertices_same = same_vertices file well.laid in
      record {
        room = omega (arith, c.size, vertices_same);
        are = λ a v in_a in_v. c.cells a v (omega (arith, arrays_same)) (omega (arith, vertices_same));
      }

  pub judged_calls : {answer : Judgement} {s : List ℕ} → Judged (referring file) answer s → JudgedCalls file answer s
  judged_calls j = record {
    answers = j.answers;
    arrivals_are = λ e. arrivals (j.brought_are e);
    reached_first = j.reached_first;
    arriving_stops = j.brought_stops;
  }

-- ---- the buffer

module _ {file : List ℕ} (can : Expandable file) where
  -- for any file
  pub fits : length (expanded file) ≤ 6866
  fits = omega (arith, expanded_size can, size_few can)

  -- at most 32 vertices and 128 edges
  pub small_fits : expanded_vertices file ≤ 32 → edges file + expanded_vertices file ≤ 128 + vertices file → length (expanded file) ≤ 818
  small_fits v e = omega (arith, expanded_size can, more_edges can, can.well.laid.limits.few_arrays, mul-le-mul_right (arrays file) v)

-- ---- the answer

module _ (file : List ℕ) where
  -- no routine is written
  refused : {x : Expanded} {r : Refusal} {after : List ℕ} → calls_check file ≡ Err r → x.answer ≡ Err r → Expansion file x after
  refused e is = record {
    answers = is ∙ sym (rw e);
    bytes = not_passed e;
    reached_first = not_passed e;
    arriving_stops = not_passed e;
  }

  -- 22
  pub too_many : {x : Expanded} {after : List ℕ} → 256 < expanded_vertices file → x.answer ≡ Err (TooManyVertices (expanded_vertices file)) → Expansion file x after
  unfolding calls_check check22
  too_many h = refused (rw (lt-leb (expanded_vertices file) 256 h))

  module _ (few : expanded_vertices file ≤ 256) {answer : Judgement} {s : List ℕ} (j : JudgedCalls file answer s) where
    same_check : calls_check file ≡ answer.verdict
    unfolding calls_check check22
    same_check = rw (le-leb (expanded_vertices file) 256 few) (sym j.answers)

    -- 20 or 21
    pub calls_refused : {x : Expanded} {r : Refusal} {after : List ℕ} → answer.verdict ≡ Err r → x.answer ≡ Err r → Expansion file x after
    calls_refused e = refused (same_check ∙ e)

    pub calls_expanded : {h : Header} (before : List ℕ) {after : List ℕ} → answer.verdict ≡ Ok tt → h ≡ header_of (expanded file) → after ≡ wrote before (expanded file) → Expansion file record { answer = Ok h; reached = answer.reached; arriving = answer.brought } after
    calls_expanded before e g w = record {
      answers = ap Ok g ∙ sym (rw (same_check ∙ e));
      bytes = λ _. (before, w);
      reached_first = λ _. j.reached_first e;
      arriving_stops = λ _. j.arriving_stops e;
    }
