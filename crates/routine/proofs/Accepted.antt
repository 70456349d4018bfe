-- An accepted file is well formed and laid out, and the answer is its own header; a file that passes the checks is accepted.
-- Assumes nothing.
use Rattle.std.specs.Prelude.{Ok, Err}
use mathlib.Core.Path.{◌≡◌, refl}
use mathlib.Core.List.{List}
use Prim.Native.Nat.{ℕ, ◌≤◌}
use Rattle.routine.specs.declared.header.Header.{Header}
use Rattle.refusal.specs.declared.Refusal.{Refusal}
use Rattle.refusal.specs.Checks.{Verdict}
use Rattle.routine.specs.Actions.{action_check, row_check, actions_check}
use Rattle.routine.specs.Arrays.{array_check, check14}
use Rattle.routine.specs.Edges.{edge_check, check16}
use Rattle.routine.specs.Layout.{arrays, vertices, edges, header_of}
use Rattle.routine.specs.Reader.{Laid, form_check, body_check, read_check, answered, read_of, WellFormed, ChecksPassed, Heads}
use Rattle.routine.proofs.Form.{few_edges, laid, heads}
use Rattle.routine.proofs.WellFormed.{well_formed}
use Rattle.refusal.proofs.Checks.{parts, each_passed, all_passed}

-- ---- checks 14 to 19

bodies_passed : (file : List ℕ) → Laid file → body_check file ≡ Ok tt → ChecksPassed file
unfolding body_check check14 actions_check check16
bodies_passed file l e =
    record {
      laid = l;
      arrays_pass = each_passed (array_check file) (arrays file) (search parts);
      actions_pass = λ a v in_a in_v. each_passed (λ a. action_check file a v) (arrays file) (each_passed (row_check file) (vertices file) (search parts) v in_v) a in_a;
      edges_pass = each_passed (edge_check file) (edges file) (search parts);
    }

passed_bodies : (file : List ℕ) → ChecksPassed file → body_check file ≡ Ok tt
unfolding body_check check14 actions_check check16
passed_bodies file w =
    rw (
      all_passed (array_check file) (arrays file) w.arrays_pass,
      all_passed (row_check file) (vertices file) (λ v in_v. all_passed (λ a. action_check file a v) (arrays file) (λ a in_a. w.actions_pass a v in_a in_v)),
    ) (all_passed (edge_check file) (edges file) w.edges_pass)

-- ---- the reader's answer

pub answered_passed : (v : Verdict) (h g : Header) → answered v h ≡ Ok g → (v ≡ Ok tt) × (g ≡ h)
answered_passed (Ok tt) h g e = (refl, cc)
answered_passed (Err r) h g e = (cc, cc)

pub answered_failed : (v : Verdict) (h : Header) {r : Refusal} → answered v h ≡ Err r → v ≡ Err r
answered_failed (Ok tt) h e = cc
answered_failed (Err s) h e = cc

pub read_passed : (file : List ℕ) {h : Header} → read_of file ≡ Ok h → read_check file ≡ Ok tt
unfolding read_of
read_passed file {h} e = (answered_passed (read_check file) (header_of file) h e).0

pub read_failed : (file : List ℕ) {r : Refusal} → read_of file ≡ Err r → read_check file ≡ Err r
unfolding read_of
read_failed file e = answered_failed (read_check file) (header_of file) e

-- a file that passes 10 to 19
pub passed_checks : (file : List ℕ) → read_check file ≡ Ok tt → ChecksPassed file
unfolding read_check
passed_checks file e = bodies_passed file (laid file (search parts)) (search parts)

pub passed_read : (file : List ℕ) → read_check file ≡ Ok tt → WellFormed file
passed_read file e = well_formed (passed_checks file e)

pub passed_edges : (file : List ℕ) → read_check file ≡ Ok tt → edges file ≤ 1024
unfolding read_check form_check
passed_edges file e = few_edges file (search parts)

pub accepted : (file : List ℕ) {h : Header} → read_of file ≡ Ok h → WellFormed file × Heads h file × (h ≡ header_of file)
unfolding read_of
accepted file {h} e =
    let p = answered_passed (read_check file) (header_of file) h e in
    let w = passed_read file p.0 in
    (w, rw p.1 (heads file w.laid), p.1)

pub accepts : (file : List ℕ) → form_check file ≡ Ok tt → ChecksPassed file → read_of file ≡ Ok (header_of file)
unfolding read_of read_check
accepts file f w = rw (f, passed_bodies file w)
