-- `Directives::edge_bytes` meets its contract: the edges are the end of the file.
use mathlib.Core.Path.{ap}
use native.Mathlib.Omega.{arith}
use lib.ListN.{length}
use Rattle.directives.proofs.Parts.{ends_there}
use Rattle.directives.proofs.read.Directives.edge_bytes.Goals as goal

pub slice_bounds-result-count : goal.slice_bounds-result-count
slice_bounds-result-count c =
    omega (arith, c.edges_at.ensures, ap length c.bytes.ensures, ends_there c.self.inside.laid.bytes c.self.inside.passed)

pub slice_bounds-result-start : goal.slice_bounds-result-start
slice_bounds-result-start c = slice_bounds-result-count c
