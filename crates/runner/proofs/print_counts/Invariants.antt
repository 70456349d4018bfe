-- So many counts have been printed, and the next starts at `at`.
use Rattle.listing.specs.Lines.{counts_from}
use Rattle.std.proofs.Common.{◌≡◌, ℕ, ◌+◌, ◌*◌, ◌≤◌, max}
use Rattle.std.specs.Io.KnownBytes.{Appends}
use Rattle.runner.proofs.print_counts.Given as goal

abbrev pub invariant-loop-at : goal.invariant-loop-at
invariant-loop-at g l =
    (i : ℕ)
    × (l.at ≡ l.from + 2 * i)
    × (l.at ≤ max l.from l.end)
    × Appends (g.W.Write.contents l.initial.out) (g.W.Write.contents l.out) (counts_from l.report l.from i)
