-- `Laid::array` meets its contract: the four bytes read are those of the file's part.
use mathlib.Core.Path.{ap, ◌∙◌}
use native.Mathlib.Nat.{add-zero}
use lib.Dec.{lit<}
use lib.Seq.{get_or-take, get_or-drop}
use Rattle.routine.specs.Arrays.{array_of}
use Rattle.routine.specs.Reader.{LaidBytes}
use Rattle.routine.proofs.laid.Laid.array.Goals as goal

pub returns : goal.returns
unfolding array_of
returns c =
    let e = ap (λ (r : LaidBytes). r.bytes) c.self.view_is in
    rw (← e) (c.from_bytes.ensures ∙ simp (get_or-take, get_or-drop, add-zero, lit< {m = 0} {n = 4} tt, lit< {m = 1} {n = 4} tt, lit< {m = 2} {n = 4} tt, lit< {m = 3} {n = 4} tt))
