-- `flow::sweep` meets its contract.
use mathlib.Core.Path.{sym, subst}
use Prim.Native.Nat.{ℕ, ◌<◌}
use Rattle.flow.specs.Paths.{edge_count}
use Rattle.flow.proofs.Rounds.{turn_lt}
use Rattle.flow.proofs.Rows.{sweeping_none, sweeping_length, sweeping_more, sweeping_done, tables}
use Rattle.flow.proofs.sweep.Goals as goal

pub loop-j-init : goal.loop-j-init
loop-j-init g c = sweeping_none _ _ _ _ _ _ c.untouched-last.ensures

pub relax-last-requires : goal.relax-last-requires
relax-last-requires g c =
    record {
      tables = tables _ _ _ c.args.sets.now _ c.requires.tables (sweeping_length _ _ _ _ c.requires.order c.loop-j.invariant.0);
      i_bound = subst (λ (i : ℕ). i < edge_count c.args.edges.now) (sym c.edge_at-i.ensures) (turn_lt c.requires.order _ c.loop-j.j c.loop-j-test.true);
      recent = c.loop-j.invariant.1;
    }

pub loop-j-preserved : goal.loop-j-preserved
loop-j-preserved g c = (sweeping_more _ _ _ _ c.requires.order c.loop-j.invariant.0 c.requires.tables c.loop-j-test.true c.edge_at-i.ensures c.relax-last.ensures.sets_after c.relax-last.ensures.note_value, c.relax-last.ensures.recent_2)

pub shape_of-sets : goal.shape_of-sets
shape_of-sets g c = sweeping_length _ _ _ _ c.requires.order c.loop-j.invariant.0

pub returns : goal.returns
returns g c = sweeping_done _ _ _ _ c.requires.order c.loop-j.invariant.0 c.loop-j-test.false c.any.ensures
