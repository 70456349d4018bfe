-- `pass::solve_sets` meets its contract: what is lent of the file is the bytes of the edges, whose ends are vertices.
use mathlib.Core.Path.{sym, ap, subst, ◌∙◌}
use mathlib.Core.List.{List}
use Prim.Native.Nat.{ℕ}
use native.Mathlib.Omega.{arith}
use Rattle.flow.specs.Order.{Order}
use Rattle.flow.specs.Paths.{edge_count}
use Rattle.flow.proofs.Cells.{solved_pass}
use Rattle.passes.proofs.Cells.{rows_are, tables_lent, solved_over}
use Rattle.directives.proofs.Limits.{read_limits}
use Rattle.mappings.proofs.Formed.{formed}
use Rattle.facts.proofs.Edges.{few_edges}
use Rattle.facts.proofs.pass.solve_sets.Goals as goal

pub solve-requires : goal.solve-requires
solve-requires c =
    let is = c.args.directives.now in
    record {
      order = subst (λ (es : List ℕ). Order (edge_count es) c.args.order.now) (sym c.edge_bytes.ensures) c.requires.edge_order;
      edges_bound = omega (arith, ap edge_count c.edge_bytes.ensures, few_edges is);
      tables = tables_lent c.args.halves.now c.requires.halves_len c.edge_bytes.ensures (formed c.args.directives.now.bytes is.passed).ends c.requires.gives_len c.requires.passes_len;
      are_halves = c.requires.are_halves;
      sets_len = c.requires.sets_len ∙ sym c.requires.halves_len;
      halves_bound = omega (arith, rows_are c.args.halves.now c.requires.halves_len, (read_limits c.args.directives.now).few_vertices);
    }

pub returns : goal.returns
returns c =
    let h = solved_over c.args.halves.now c.requires.halves_len c.edge_bytes.ensures c.solve.ensures in
    record {
      pass = solved_pass h;
      rounds = h.counted;
    }
