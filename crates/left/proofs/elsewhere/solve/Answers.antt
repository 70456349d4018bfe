-- `elsewhere::solve` meets its contract: template after template is joined to a table that was cleared.
use mathlib.Core.Path.{refl, sym, ◌∙◌}
use native.Mathlib.Nat.{le_antisymm}
use native.Mathlib.Omega.{arith}
use Rattle.left.proofs.Cells.{others_none, others_all}
use Rattle.left.proofs.elsewhere.solve.Goals as goal

pub loop-t-init : goal.loop-t-init
loop-t-init c = (omega arith, others_none c.args.directives.now.bytes c.args.others.now c.requires.others_len (c.fill.ensures.after (λ y e. e)), refl, refl, refl, refl)

pub add_template-requires : goal.add_template-requires
add_template-requires c =
    let l = c.loop-t.invariant in
    let p = c.requires in
    record {
      edge_order = p.edge_order;
      given = p.given;
      array_cells = l.1;
      held_len = l.2 ∙ p.held_len;
      gives_len = l.3 ∙ p.gives_len;
      passes_len = l.4 ∙ p.passes_len;
      halves_len = l.5 ∙ p.halves_len;
    }

pub loop-t-preserved : goal.loop-t-preserved
loop-t-preserved c =
    let l = c.loop-t.invariant in (
      omega arith,
      c.add_template.ensures,
      c.add_template.auto.held ∙ l.2,
      c.add_template.auto.gives ∙ l.3,
      c.add_template.auto.passes ∙ l.4,
      c.add_template.auto.halves ∙ l.5,
    )

pub shape_of-others : goal.shape_of-others
shape_of-others c = c.loop-t.invariant.1.size ∙ sym c.requires.others_len

pub shape_of-held : goal.shape_of-held
shape_of-held c = c.loop-t.invariant.2

pub shape_of-gives : goal.shape_of-gives
shape_of-gives c = c.loop-t.invariant.3

pub shape_of-passes : goal.shape_of-passes
shape_of-passes c = c.loop-t.invariant.4

pub shape_of-halves : goal.shape_of-halves
shape_of-halves c = c.loop-t.invariant.5

pub returns : goal.returns
returns c =
    let l = c.loop-t.invariant in
    others_all c.args.directives.now.bytes (le_antisymm l.0 c.loop-t-test.false ∙ c.templates-t-end.ensures) l.1
