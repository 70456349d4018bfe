-- `check_layout` meets its contract, by cases of the tests.
use mathlib.Core.Path.{◌≡◌, sym, ap, ◌∙◌}
use mathlib.Core.Bool.{true}
use Prim.Native.Nat.{◌+◌, ◌*◌}
use borrow.Author.Tests.{eq-eqb, ne_eqb}
use lib.Dec.{eqb}
use lib.ListN.{length}
use Rattle.words.specs.Words.{word}
use Rattle.routine.specs.declared.header.Header.{Header}
use Rattle.routine.specs.Layout.{actions_at, edges_at, end_at, check13}
use Rattle.routine.specs.Reader.{Limits}
use Rattle.routine.proofs.header.check_layout.Goals as goal
use Rattle.routine.proofs.header.check_layout.Goals.{After-actions_at-actions_at, After-edges_at-edges_at, After-end_at-end_at, After-of-h, Else-arrays_offset-ne-SIZE, Else-edges_offset-edges_at, Else-vertices_offset-actions_at}

-- what the header gives, in the file's terms
limits : (c : After-of-h) → Limits c.of-h.result
limits c = rw c.of-h.ensures c.requires.limits

actions : (c : After-actions_at-actions_at) → c.actions_at-actions_at.result ≡ actions_at c.args.file.now
actions c =
    c.actions_at-actions_at.ensures ∙ ap (λ (h : Header). 18 + 4 * h.arrays) c.of-h.ensures

edges : (c : After-edges_at-edges_at) → c.edges_at-edges_at.result ≡ edges_at c.args.file.now
edges c =
    c.edges_at-edges_at.ensures
    ∙ ap (λ (h : Header). 18 + 4 * h.arrays + h.vertices * h.arrays) c.of-h.ensures

-- the tests that passed, in the file's terms
first : (c : Else-arrays_offset-ne-SIZE) → eqb (word c.args.file.now 6) 18 ≡ true
first c = eq-eqb _ _ (sym c.at-arrays_offset.ensures ∙ c.if-arrays_offset-ne-SIZE.false)

second : (c : Else-vertices_offset-actions_at) → let file = c.args.file.now in eqb (word file 10) (actions_at file) ≡ true
second c = eq-eqb _ _ (sym c.at-vertices_offset.ensures ∙ c.if-vertices_offset-actions_at.false ∙ c.actions_at-actions_at.ensures ∙ ap (λ (h : Header). 18 + 4 * h.arrays) c.of-h.ensures)

third : (c : Else-edges_offset-edges_at) → let file = c.args.file.now in eqb (word file 14) (edges_at file) ≡ true
third c = eq-eqb _ _ (sym c.at-edges_offset.ensures ∙ c.if-edges_offset-edges_at.false ∙ c.edges_at-edges_at.ensures ∙ ap (λ (h : Header). 18 + 4 * h.arrays + h.vertices * h.arrays) c.of-h.ensures)

end : (c : After-end_at-end_at) → c.end_at-end_at.result ≡ end_at c.args.file.now
end c =
    c.end_at-end_at.ensures
    ∙ ap (λ (h : Header). 18 + 4 * h.arrays + h.vertices * h.arrays + 4 * h.edges) c.of-h.ensures

pub returns-then-arrays_offset-ne-SIZE : goal.returns-then-arrays_offset-ne-SIZE
unfolding check13
returns-then-arrays_offset-ne-SIZE c = rw (← c.at-arrays_offset.ensures, ne_eqb _ _ c.if-arrays_offset-ne-SIZE.true)

pub actions_at-actions_at-requires : goal.actions_at-actions_at-requires
actions_at-actions_at-requires c = limits (goal.at.actions_at-actions_at-requires c).After-of-h

pub returns-then-vertices_offset-actions_at : goal.returns-then-vertices_offset-actions_at
unfolding check13
returns-then-vertices_offset-actions_at c = rw (first (goal.at.returns-then-vertices_offset-actions_at c).Else-arrays_offset-ne-SIZE, ← c.at-vertices_offset.ensures, ← actions (goal.at.returns-then-vertices_offset-actions_at c).After-actions_at-actions_at, ne_eqb _ _ c.if-vertices_offset-actions_at.true)

pub edges_at-edges_at-requires : goal.edges_at-edges_at-requires
edges_at-edges_at-requires c = limits (goal.at.edges_at-edges_at-requires c).After-of-h

pub returns-then-edges_offset-edges_at : goal.returns-then-edges_offset-edges_at
unfolding check13
returns-then-edges_offset-edges_at c = rw (first (goal.at.returns-then-edges_offset-edges_at c).Else-arrays_offset-ne-SIZE, second (goal.at.returns-then-edges_offset-edges_at c).Else-vertices_offset-actions_at, ← c.at-edges_offset.ensures, ← edges (goal.at.returns-then-edges_offset-edges_at c).After-edges_at-edges_at, ne_eqb _ _ c.if-edges_offset-edges_at.true)

pub end_at-end_at-requires : goal.end_at-end_at-requires
end_at-end_at-requires c = limits (goal.at.end_at-end_at-requires c).After-of-h

pub returns-then-file-end_at : goal.returns-then-file-end_at
unfolding check13
returns-then-file-end_at c =
    let file = c.args.file.now in
    rw (
      first (goal.at.returns-then-file-end_at c).Else-arrays_offset-ne-SIZE,
      second (goal.at.returns-then-file-end_at c).Else-vertices_offset-actions_at,
      third (goal.at.returns-then-file-end_at c).Else-edges_offset-edges_at,
      ne_eqb (length file) (end_at file) (λ e. c.if-file-end_at.true (e ∙ sym (end (goal.at.returns-then-file-end_at c).After-end_at-end_at))),
    )

pub returns : goal.returns
unfolding check13
returns c = rw (first (goal.at.returns c).Else-arrays_offset-ne-SIZE, second (goal.at.returns c).Else-vertices_offset-actions_at, third (goal.at.returns c).Else-edges_offset-edges_at, eq-eqb _ _ (c.if-file-end_at.false ∙ end (goal.at.returns c).After-end_at-end_at))
