-- `spreads::solve` meets its contract: template after template.
use mathlib.Core.Path.{sym, ◌∙◌}
use Prim.Native.Nat.{◌<◌}
use native.Mathlib.Omega.{arith}
use Rattle.directives.proofs.Limits.{read_limits}
use Rattle.brought.proofs.SpreadRows.{spreads_begin, spreads_end}
use Rattle.brought.proofs.spreads.solve.Goals as goal
use Rattle.brought.proofs.spreads.solve.Goals.{In-loop-t}

-- what holds in a turn
module _ (c : In-loop-t) where
  small : c.loop-t.t < 8
  small = omega (arith, c.loop-t-test.true, c.templates-t-end.ensures, (read_limits c.args.directives.now).few_templates)

pub loop-t-init : goal.loop-t-init
loop-t-init c = (omega arith, spreads_begin c.requires.spreads_len, c.requires.sets_len, c.requires.gives_len, c.requires.passes_len, c.requires.halves_len)

pub solve_template-requires : goal.solve_template-requires
solve_template-requires c =
    let inv = c.loop-t.invariant in
    record {
      edge_order = c.requires.edge_order;
      reached = c.requires.reached;
      spreads_to = inv.1;
      sets_len = inv.2;
      gives_len = inv.3;
      passes_len = inv.4;
      halves_len = inv.5;
    }

pub loop-t-smaller : goal.loop-t-smaller
loop-t-smaller c = omega (arith, c.loop-t-test.true)

pub loop-t-preserved : goal.loop-t-preserved
loop-t-preserved c =
    let inv = c.loop-t.invariant in (
      omega (arith, c.loop-t-test.true),
      c.solve_template.ensures.spreads_to_2,
      c.solve_template.auto.sets ∙ inv.2,
      c.solve_template.auto.gives ∙ inv.3,
      c.solve_template.auto.passes ∙ inv.4,
      c.solve_template.auto.halves ∙ inv.5,
    )

pub shape_of-spreads : goal.shape_of-spreads
shape_of-spreads c = c.loop-t.invariant.1.size ∙ sym c.requires.spreads_len

pub shape_of-sets : goal.shape_of-sets
shape_of-sets c = c.loop-t.invariant.2 ∙ sym c.requires.sets_len

pub shape_of-gives : goal.shape_of-gives
shape_of-gives c = c.loop-t.invariant.3 ∙ sym c.requires.gives_len

pub shape_of-passes : goal.shape_of-passes
shape_of-passes c = c.loop-t.invariant.4 ∙ sym c.requires.passes_len

pub shape_of-halves : goal.shape_of-halves
shape_of-halves c = c.loop-t.invariant.5 ∙ sym c.requires.halves_len

pub returns : goal.returns
returns c = spreads_end c.args.directives.now (omega (arith, c.loop-t-test.false, c.templates-t-end.ensures)) c.loop-t.invariant.1
