-- `at_entry` meets its contract.
use mathlib.Core.Path.{◌≡◌}
use mathlib.Core.Bool.{Bool, cond}
use mathlib.Core.List.{List}
use Prim.Native.Nat.{ℕ, ◌^◌}
use Rattle.routine.specs.Layout.{entry}
use Rattle.labels.specs.Reaching.{reaching_of}
use Rattle.routine.specs.Arrays.{array_of, is_in_or_inout}
use Rattle.routine.specs.declared.array.ArrayRecord.{ArrayRecord}
use Rattle.passes.proofs.reaching.at_entry.Goals as goal

-- the set, by what the calls say
brought : (file : List ℕ) (a : ℕ) {r : ArrayRecord} {b : Bool} {m n : ℕ} → r ≡ array_of file a → b ≡ is_in_or_inout r.kind → m ≡ 2 ^ r.initial → n ≡ cond b m 0
    → n ≡ reaching_of file a entry
unfolding reaching_of
brought file a e f g h = cc

pub returns : goal.returns
returns c =
    let a = c.args in
    brought a.routine.now.bytes a.a c.array-r.ensures c.is_in_or_inout.ensures c.single.ensures c.only_if.ensures
