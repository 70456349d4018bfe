-- `judge` meets its contract: the routine is read as the header says, and 20 and 21 are those of it.
use mathlib.Core.Path.{◌≡◌, sym, ap, subst, ◌∙◌}
use mathlib.Core.List.{List}
use Prim.Native.Nat.{ℕ, ◌*◌}
use lib.ListN.{length}
use Rattle.directives.specs.Layout.{vertices}
use Rattle.labels.specs.Checks.{programmer_check}
use Rattle.labels.specs.Routines.{ReadAs}
use Rattle.mappings.specs.Computed.{converted}
use Rattle.routine.specs.Layout as R
use Rattle.convert.proofs.Ways.{read_converted, vertices_kept, edges_kept}
use Rattle.convert.proofs.judge.Goals as goal
use Rattle.convert.proofs.judge.Goals.{After-new-routine}

pub new-routine-requires : goal.new-routine-requires
new-routine-requires c =
    let file = c.args.directives.now.bytes in
    subst (λ (s : List ℕ). ReadAs s c.header_of.result) (sym c.requires.routine_value)
    (subst (ReadAs (converted file)) (sym c.header_of.ensures) (read_converted file c.args.directives.now.passed c.requires.file_value c.requires.file_value_2))

-- the routine, and its counts
module _ (c : After-new-routine) where
  is : c.new-routine.result.bytes ≡ converted c.args.directives.now.bytes
  is = c.new-routine.ensures ∙ c.requires.routine_value

  rows : (s : List ℕ) → length s ≡ 8 * vertices c.args.directives.now.bytes → length s ≡ 8 * R.vertices c.new-routine.result.bytes
  rows s e = e ∙ ap (λ (n : ℕ). 8 * n) (sym (ap R.vertices is ∙ vertices_kept c.args.directives.now.bytes c.args.directives.now.passed c.requires.file_value c.requires.file_value_2))

pub judge-answer-requires : goal.judge-answer-requires
judge-answer-requires c =
    let a = c.args in
    let read = (goal.at.judge-answer-requires c).After-new-routine in
    record {
      order_len = c.requires.order_len ∙ sym (ap R.edges (is read) ∙ edges_kept a.directives.now.bytes a.directives.now.passed c.requires.file_value c.requires.file_value_2);
      versions_len = rows read a.versions.now c.requires.versions_len;
      uses_len = rows read a.uses.now c.requires.uses_len;
      brought_len = rows read a.brought.now c.requires.brought_len;
      gives_len = rows read a.gives.now c.requires.gives_len;
      passes_len = rows read a.passes.now c.requires.passes_len;
      halves_len = rows read a.halves.now c.requires.halves_len;
    }

pub returns : goal.returns
returns c = c.judge-answer.ensures.answers ∙ ap programmer_check (is (goal.at.returns c).After-new-routine)
