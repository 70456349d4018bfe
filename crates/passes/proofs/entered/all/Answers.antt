-- `entered::all` meets its contract: where no vertex is unmarked, each is reached.
use mathlib.Core.Path.{◌≡◌, refl, sym, subst, ◌∙◌}
use mathlib.Core.Bool.{Bool, true, false, not}
use mathlib.Core.List.{List}
use Prim.Native.Nat.{ℕ}
use lib.ListN.{length, set, length-set}
use Rattle.passes.specs.Marks.{Marked}
use Rattle.passes.proofs.Marks.{marks_begin, all_marked}
use Rattle.passes.proofs.entered.all.Goals as goal
use Rattle.passes.proofs.entered.all.Goals.{After-one_unmarked-unmarked}

pub mark_all-requires-clause-marked : goal.mark_all-requires-clause-marked
mark_all-requires-clause-marked c = subst (λ (l : List ℕ). Marked c.args.routine.now.bytes (set l 0 1)) (sym (c.fill.ensures.after (λ y e. e))) (marks_begin c.args.routine.now.bytes (length c.args.marks.now))

size : (c : After-one_unmarked-unmarked) → length c.mark_all.new.marks ≡ length c.args.marks.now
size c =
    let first : length (set c.fill.new.self 0 1) ≡ length c.args.marks.now = simp length-set c.fill.auto.self in
    c.mark_all.auto.marks ∙ first

off : (b : Bool) → not b ≡ true → b ≡ false
off true e = sym e
off false e = refl

pub returns : goal.returns
returns c = λ e. all_marked c.args.routine.now.well c.mark_all.ensures (size c ∙ c.requires.marks_len) (sym c.one_unmarked-unmarked.ensures ∙ off c.one_unmarked-unmarked.result e)
