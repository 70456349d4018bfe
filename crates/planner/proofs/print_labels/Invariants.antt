-- The labels of so many vertices have been printed.
use Rattle.listing.specs.Lines.{lines_before}
use Rattle.std.specs.Io.KnownBytes.{Appends}
use Rattle.planner.proofs.print_labels.Given as goal

abbrev pub invariant-loop-vertex : goal.invariant-loop-vertex
invariant-loop-vertex g l =
    Appends (g.W.Write.contents l.initial.out) (g.W.Write.contents l.out) (lines_before l.plan l.vertex)
