-- `Routine::row` meets its contract: the row stands before the edges.
use mathlib.Core.Path.{◌≡◌, sym, ap, ◌∙◌}
use mathlib.Core.List.{List}
use Prim.Native.Nat.{ℕ, ◌+◌, ◌*◌, ◌≤◌, ◌<◌}
use native.Mathlib.Nat.{mul-le-mul_right}
use native.Mathlib.Omega.{arith}
use lib.ListN.{length, get_or, take, drop, length-drop}
use lib.Seq.{length-take-le, get_or-take, get_or-drop, ext_get_or}
use Rattle.routine.specs.Actions.{action_byte}
use Rattle.routine.specs.Layout.{arrays, vertices, action_at}
use Rattle.routine.specs.Reader.{Heads}
use Rattle.routine.specs.declared.header.Header.{Header}
use Rattle.words.specs.Tables.{table}
use Rattle.words.proofs.Tables.{table-length, table_at}
use Rattle.labels.specs.Routines.{Read}
use Rattle.labels.proofs.read.Routine.row.Goals as goal

module _ {h : Header} {file : List ℕ} (is : Heads h file) {v : ℕ} (in_v : v < vertices file) where
  place : (18 + 4 * h.arrays + v * h.arrays ≡ action_at file 0 v) × (action_at file 0 v + arrays file ≤ length file)
  place = omega (arith, is.arrays_are, is.laid.ends, ap (λ (n : ℕ). v * n) is.arrays_are, mul-le-mul_right (arrays file) in_v)

  row_bytes : {at m : ℕ} → at ≡ 18 + 4 * h.arrays + v * h.arrays → m ≡ h.arrays → take m (drop at file) ≡ table (λ a. action_byte file a v) (arrays file)
  row_bytes {at} {m} here many =
      let byte : ℕ → ℕ = λ a. action_byte file a v in
      let size : length (take m (drop at file)) ≡ m = length-take-le m (drop at file) (omega (arith, length-drop at file, place, is.arrays_are)) in
      ext_get_or 0 (take m (drop at file)) (table byte (arrays file)) (size ∙ many ∙ is.arrays_are ∙ sym (table-length byte (arrays file))) (λ a in_a.
      let i : at + a ≡ action_at file a v = omega (arith, place) in
      get_or-take m (drop at file) a 0 (omega (arith, size)) ∙ get_or-drop at file a 0 ∙ ap (λ (k : ℕ). get_or file k 0) i
      ∙ sym (table_at byte (arrays file) a (omega (arith, size, is.arrays_are))))

pub returns : goal.returns
returns c =
    let e = ap (λ (r : Read). r.bytes) c.self.view_is in
    rw (← e, c.bytes.ensures)
    (row_bytes c.header-h.ensures.heads (rw e c.requires) (omega (arith, c.actions_at.ensures)) (omega arith))
