-- What the answer of `expand` tells: a refusal, or the expanded routine at the front of the buffer.
-- Assumes nothing.
use Rattle.std.specs.Prelude.{Ok, Err}
use mathlib.Core.Path.{◌≡◌, sym, ap₂, ◌∙◌}
use mathlib.Core.List.{List}
use Prim.Native.Nat.{ℕ, ◌+◌, ◌*◌, ◌≤◌}
use native.Mathlib.Omega.{arith}
use lib.ListN.{length, take, drop}
use lib.Seq.{take-append_seam}
use Rattle.calls.proofs.Checks.{expandable_calls}
use Rattle.calls.proofs.Formed.{expanded_formed}
use Rattle.calls.specs.Checks.{calls_check}
use Rattle.calls.specs.Expanded.{expanded}
use Rattle.expansion.specs.Expansion.{Expansion}
use Rattle.expansion.specs.declared.Expanded.{Expanded}
use Rattle.labels.specs.Routines.{ReadAs}
use Rattle.refusal.specs.declared.Refusal.{Refusal}
use Rattle.routine.proofs.Accepted.{answered_passed, answered_failed}
use Rattle.routine.proofs.Form.{heads, few_actions}
use Rattle.routine.specs.Layout.{header_of}
use Rattle.routine.specs.Reader.{WellFormed, read_check}
use Rattle.routine.specs.declared.header.Header.{Header}

module _ {file : List ℕ} {result : Expanded} {after : List ℕ} (x : Expansion file result after) where
  pub calls_failed : {r : Refusal} → result.answer ≡ Err r → calls_check file ≡ Err r
  calls_failed e = answered_failed (calls_check file) (header_of (expanded file)) (sym x.answers ∙ e)

  module _ {h : Header} (e : result.answer ≡ Ok h) where
    passed : (calls_check file ≡ Ok tt) × (h ≡ header_of (expanded file))
    passed = answered_passed (calls_check file) (header_of (expanded file)) h (sym x.answers ∙ e)

    pub calls_passed : calls_check file ≡ Ok tt
    calls_passed = passed.0

    module _ (read : read_check file ≡ Ok tt) where
      formed : WellFormed (expanded file)
      formed = expanded_formed file (expandable_calls file read calls_passed)

      pub read_expanded : ReadAs (expanded file) h
      read_expanded = record { well = formed; heads = rw passed.1 (heads (expanded file) formed.laid) }

      -- it ends where its header says, within 6,866 bytes
      pub end_is : 18 + 4 * h.arrays + h.vertices * h.arrays + 4 * h.edges ≡ length (expanded file)
      end_is = rw passed.1 (sym formed.laid.ends)

      pub end_fits : length (expanded file) ≤ 6866
      end_fits = let l = formed.laid in omega (arith, l.ends, few_actions l.limits, l.limits.few_arrays, l.limits.few_edges)

      pub front_is : {n : ℕ} → n ≡ length (expanded file) → take n after ≡ expanded file
      front_is e =
          let w = x.bytes calls_passed in
          ap₂ take e w.1 ∙ take-append_seam (expanded file) (drop (length (expanded file)) w.0)
