-- A file whose head passes is within the limits, and so is one that check 40 passes.
-- Assumes nothing.
use Rattle.std.specs.Prelude.{Ok}
use mathlib.Core.Path.{◌≡◌, refl, sym, subst}
use mathlib.Core.Bool.{true}
use mathlib.Core.List.{List}
use Prim.Native.Nat.{ℕ, ◌≤◌}
use borrow.Author.Tests.{leb-true}
use lib.Dec.{leb}
use Rattle.words.proofs.Tests.{and_left, and_right}
use Rattle.routine.specs.Layout.{within}
use Rattle.directives.specs.Fields.{in_order, mark_fields, contents_fields, head_fields, body_fields, fields, check40, DirectivesRead}
use Rattle.directives.specs.Layout.{templates, arrays, vertices, edges, header_of, Limits, Heads}
use Rattle.directives.specs.Read.{ReadFile}
use Rattle.directives.specs.declared.header.Header.{Header}
use Rattle.directives.proofs.Fields.{passed_front, passed_right_here, behind}

within_limits : (low high n : ℕ) → within low high n ≡ true → (low ≤ n) × (n ≤ high)
within_limits low high n e = (leb-true low n (and_left (leb low n) (leb n high) e), leb-true n high (and_right (leb low n) (leb n high) e))

module _ (file : List ℕ) where
  pub limits : in_order file (head_fields file) ≡ Ok tt → Limits file
  unfolding head_fields mark_fields contents_fields
  limits e =
      let t = within_limits 1 8 (templates file) (passed_right_here file _ _ (behind file 6 (head_fields file) e)) in
      let a = within_limits 1 8 (arrays file) (passed_right_here file _ _ (behind file 8 (head_fields file) e)) in
      let v = within_limits 2 256 (vertices file) (passed_right_here file _ _ (behind file 10 (head_fields file) e)) in
      let n = within_limits 0 1024 (edges file) (passed_right_here file _ _ (behind file 12 (head_fields file) e)) in
      record {
        some_template = t.0;
        few_templates = t.1;
        some_array = a.0;
        few_arrays = a.1;
        two_vertices = v.0;
        few_vertices = v.1;
        few_edges = n.1;
      }

  pub heads : Limits file → Heads (header_of file) file
  heads l = record { limits = l; templates_are = refl; arrays_are = refl; vertices_are = refl; edges_are = refl }

  -- what the reading functions ask, of a file that check 40 passes
  pub passed_heads : check40 file ≡ Ok tt → Heads (header_of file) file
  unfolding check40 fields
  passed_heads e = heads (limits (passed_front file (head_fields file) (body_fields file) e))

pub read_heads : {file : List ℕ} {h : Header} → DirectivesRead file h → Heads h file
read_heads {file} is = subst (λ (h : Header). Heads h file) (sym is.header) (passed_heads file is.passed)

pub read_limits : (d : ReadFile) → Limits d.bytes
read_limits d = (passed_heads d.bytes d.passed).limits
