-- `entered::mark` meets its contract: the edge leaves an earlier vertex where the mark is set.
use mathlib.Core.Path.{sym, ap, subst}
use native.Mathlib.Omega.{arith}
use lib.ListN.{set}
use Rattle.passes.specs.Marks.{Marked}
use Rattle.routine.specs.declared.edge.Edge.{Edge}
use Rattle.passes.proofs.Marks.{marks_next}
use Rattle.passes.proofs.entered.mark.Goals as goal
use Rattle.passes.proofs.entered.mark.Goals.{Else-e-to}

pub returns-then-e-to : goal.returns-then-e-to
returns-then-e-to c = c.requires.marked

pub returns : goal.returns
returns c =
    subst (λ (e : Edge). Marked c.args.routine.now.bytes (set c.args.marks.now e.to 1)) (sym c.edge-e.ensures)
    (marks_next c.args.routine.now.well c.requires.marked c.args.i c.requires.i_bound
    (omega (arith, ap (λ (e : Edge). e.from) c.edge-e.ensures, ap (λ (e : Edge). e.to) c.edge-e.ensures, c.if-e-to.false)))
