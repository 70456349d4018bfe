-- `elsewhere::add_template` meets its contract.
use Rattle.std.proofs.Common.{rules}
use Rattle.words.proofs.Sums.{none_below}
use Rattle.directives.specs.Directives.{directive}
use Rattle.directives.specs.Layout.{vertices}
use Rattle.left.specs.Cells.{redistributes_other}
use Rattle.left.proofs.Cells.{others_unasked}
use Rattle.left.proofs.elsewhere.add_template.Goals as goal

pub returns-else-any : goal.returns-else-any
returns-else-any c =
    let file = c.args.directives.now.bytes in
    let t = c.args.t in
    others_unasked file t
    (none_below (λ v. redistributes_other t (directive file v)) (vertices file) (λ v h. let told = c.any.ensures.none c.if-any.false v h in search rules))
    c.requires.array_cells

pub solve-requires : goal.solve-requires
solve-requires c =
    record {
      edge_order = c.requires.edge_order;
      given = c.requires.given;
      held_len = c.requires.held_len;
      gives_len = c.requires.gives_len;
      passes_len = c.requires.passes_len;
      halves_len = c.requires.halves_len;
    }

pub join-requires : goal.join-requires
join-requires c =
    record {
      array_cells = c.solve.ensures.array_cells;
      array_cells_2 = c.requires.array_cells;
    }
