-- The entries of so many arrays have been printed.
use Rattle.listing.specs.Lines.{entry_lines}
use Rattle.std.specs.Io.KnownBytes.{Appends}
use Rattle.runner.proofs.print_entries.Given as goal

abbrev pub invariant-loop-array : goal.invariant-loop-array
invariant-loop-array g l =
    Appends (g.W.Write.contents l.initial.out) (g.W.Write.contents l.out) (entry_lines l.report l.array)
