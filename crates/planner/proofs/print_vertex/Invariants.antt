-- So many labels have been printed.
use Rattle.listing.specs.Lines.{vertex_lines}
use Rattle.std.specs.Io.KnownBytes.{Appends}
use Rattle.planner.proofs.print_vertex.Given as goal

abbrev pub invariant-loop-label : goal.invariant-loop-label
invariant-loop-label g l =
    Appends (g.W.Write.contents l.initial.out) (g.W.Write.contents l.out) (vertex_lines l.plan l.vertex l.at l.label)
