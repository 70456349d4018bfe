-- `edges::outer` meets its contract: the last vertex of the tail stands before the first of the next vertex.
use mathlib.Core.Path.{◌≡◌, sym, ap, ap₂, subst, ◌∙◌}
use Prim.Native.Nat.{◌-◌}
use native.Mathlib.Omega.{arith}
use Rattle.routine.specs.Layout.{vertices}
use Rattle.routine.specs.Reader.{EdgeLimits}
use Rattle.routine.specs.declared.edge.Edge.{Edge}
use Rattle.calls.specs.Expanded.{edge}
use Rattle.calls.specs.Parts.{first_vertex_of, last_of}
use Rattle.calls.proofs.Written.{first_after}
use Rattle.calls.proofs.edges.outer.Goals as goal
use Rattle.calls.proofs.edges.outer.Goals.{After-edge-e}

-- the edge's ends are vertices
limits : (c : After-edge-e) → EdgeLimits c.edge-e.result (vertices c.args.routine.now.bytes)
limits c = subst (λ (e : Edge). EdgeLimits e (vertices c.args.routine.now.bytes)) (sym c.edge-e.ensures) (c.args.routine.now.well.edge_limits c.requires.i_bound)

pub overflow_add-e : goal.overflow_add-e
overflow_add-e c = record { fits = omega (arith, (limits (goal.at.overflow_add-e c).After-edge-e).from_below, c.args.routine.now.well.laid.limits.few_vertices) }

pub first_of-requires : goal.first_of-requires
first_of-requires c =
    record {
      firsts = c.requires.firsts;
      file_bound = c.requires.file_bound;
      v_bound = omega (arith, (limits (goal.at.first_of-requires c).After-edge-e).from_below);
    }

pub overflow_sub-result : goal.overflow_sub-result
overflow_sub-result c = omega (arith, c.first_of.ensures.value, first_after c.args.routine.now.bytes c.edge-e.result.from)

pub first_of-requires-2 : goal.first_of-requires-2
first_of-requires-2 c =
    record {
      firsts = c.requires.firsts;
      file_bound = c.requires.file_bound;
      v_bound = omega (arith, (limits (goal.at.first_of-requires-2 c).After-edge-e).to_below);
    }

pub returns : goal.returns
returns c =
    let file = c.args.routine.now.bytes in
    let tail : c.first_of.result - 1 ≡ last_of file c.edge-e.result.from = omega (arith, c.first_of.ensures.value, first_after file c.edge-e.result.from) in
    record {
      value = ap₂ edge tail c.first_of-2.ensures.value ∙ ap (λ (e : Edge). edge (last_of file e.from) (first_vertex_of file e.to)) c.edge-e.ensures;
      from_bound = omega (arith, c.first_of.ensures.upper_bound, c.first_of-2.ensures.upper_bound);
    }
