-- `convert_into` meets its contract: the large tables hold any file that check 40 passes.
use native.Mathlib.Omega.{arith}
use Rattle.directives.proofs.Limits.{read_limits}
use Rattle.convert.proofs.convert_into.Goals as goal

pub convert_in-requires-2-clause-edges_room : goal.convert_in-requires-2-clause-edges_room
convert_in-requires-2-clause-edges_room c = (read_limits c.args.directives.now).few_edges

pub convert_in-requires-2-clause-cells_room : goal.convert_in-requires-2-clause-cells_room
convert_in-requires-2-clause-cells_room c = omega (arith, (read_limits c.args.directives.now).few_vertices)
