-- What checks 10 to 13 leave when they pass; files that are alike in a record; the limits of a header.
-- Assumes nothing.
use Rattle.std.specs.Prelude.{Ok}
use mathlib.Core.Path.{◌≡◌, sym, ◌∙◌}
use mathlib.Core.List.{List}
use Prim.Native.Nat.{ℕ, ◌+◌, ◌*◌, ◌≤◌, ◌<◌}
use native.Mathlib.Nat.{mul-le-mul}
use native.Mathlib.Omega.{arith}
use lib.Dec.{lit<}
use lib.ListN.{length, get_or, take, drop}
use lib.Seq.{get_or-take, get_or-drop}
use Rattle.routine.specs.declared.header.Header.{Header}
use Rattle.routine.specs.Arrays.{array_of}
use Rattle.routine.specs.Layout.{edges, record_at, end_at, header_of, check10, check12, check13}
use Rattle.routine.specs.Reader.{form_check, Limits, Laid, Heads}
use Rattle.refusal.proofs.Checks.{parts}

module _ (file : List ℕ) where
  pub long_enough : check10 file ≡ Ok tt → 18 ≤ length file
  unfolding check10
  long_enough e = search parts

  pub few_edges : check12 file ≡ Ok tt → edges file ≤ 1024
  unfolding check12
  few_edges e = search parts

  pub in_limits : check12 file ≡ Ok tt → Limits (header_of file)
  unfolding check12
  in_limits e =
      record { some_array = search parts; few_arrays = search parts; two_vertices = search parts; few_vertices = search parts; few_edges = omega (arith, few_edges e) }

  ends_there : check13 file ≡ Ok tt → length file ≡ end_at file
  unfolding check13
  ends_there e = search parts

  pub laid : form_check file ≡ Ok tt → Laid file
  unfolding form_check
  laid e = record { limits = in_limits (search parts); ends = ends_there (search parts) }

  pub heads : Laid file → Heads (header_of file) file
  heads l = search

-- ---- files that are alike in the bytes of an array record

pub array_alike : (s t : List ℕ) (a : ℕ) → ((j : ℕ) → j < 4 → get_or s (record_at a + j) 0 ≡ get_or t (record_at a + j) 0) → array_of s a ≡ array_of t a
unfolding array_of
array_alike s t a same = cc (field 0 (lit< tt), field 1 (lit< tt), field 2 (lit< tt), field 3 (lit< tt))
  where
    field : (j : ℕ) → j < 4 → get_or (take 4 (drop (record_at a) s)) j 0 ≡ get_or (take 4 (drop (record_at a) t)) j 0
    field j h =
        get_or-take 4 (drop (record_at a) s) j 0 h ∙ get_or-drop (record_at a) s j 0 ∙ same j h
        ∙ sym (get_or-drop (record_at a) t j 0) ∙ sym (get_or-take 4 (drop (record_at a) t) j 0 h)

-- ---- by the header

-- a file's own header is within the limits
pub header_limits : {h : Header} {file : List ℕ} → Heads h file → Limits h
header_limits is = record {
  some_array = omega (arith, is.arrays_are, is.laid.limits.some_array);
  few_arrays = omega (arith, is.arrays_are, is.laid.limits.few_arrays);
  two_vertices = omega (arith, is.vertices_are, is.laid.limits.two_vertices);
  few_vertices = omega (arith, is.vertices_are, is.laid.limits.few_vertices);
  few_edges = omega (arith, is.edges_are, is.laid.limits.few_edges);
}

-- at most 256 vertices of 8 arrays
pub few_actions : {h : Header} → Limits h → h.vertices * h.arrays ≤ 2048
few_actions l = mul-le-mul l.few_vertices l.few_arrays
