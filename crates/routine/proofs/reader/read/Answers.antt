-- `read` meets its contract: checks 10 to 13, then those of the bodies, and a refusal as soon as one fails.
use mathlib.Core.Path.{◌≡◌, sym, ap, ◌∙◌}
use native.Mathlib.Omega.{arith}
use Rattle.refusal.proofs.Checks.{exits}
use Rattle.routine.specs.Reader.{body_check, read_of, Laid}
use Rattle.routine.proofs.Form.{laid, heads}
use Rattle.routine.proofs.reader.read.Goals as goal
use Rattle.routine.proofs.reader.read.Goals.{In_ok-check_form, After-check_bodies}

pub returns-in_err-check_form : goal.returns-in_err-check_form
unfolding read_of
returns-in_err-check_form c = rw (← c.check_form.ensures, c.in_err-check_form.was) (exits c.from_residual.ensures)

-- checks 10 to 13 passed
laid_file : (c : In_ok-check_form) → Laid c.args.file.now
laid_file c = laid _ (sym c.check_form.ensures ∙ c.in_ok-check_form.was)

pub of-h-requires : goal.of-h-requires
of-h-requires c = omega (arith, laid_file (goal.at.of-h-requires c).In_ok-check_form)

pub new-laid-requires : goal.new-laid-requires
new-laid-requires c = rw c.of-h.ensures (heads _ (laid_file (goal.at.new-laid-requires c).In_ok-check_form))

-- the checks of the bodies are those of the file
bodies : (c : After-check_bodies) → body_check c.args.file.now ≡ c.check_bodies.result
bodies c = ap body_check (sym c.new-laid.ensures) ∙ sym c.check_bodies.ensures

pub returns-in_err-check_bodies : goal.returns-in_err-check_bodies
unfolding read_of
returns-in_err-check_bodies c =
    rw (← c.check_form.ensures, c.in_ok-check_form.was, bodies (goal.at.returns-in_err-check_bodies c).After-check_bodies, c.in_err-check_bodies.was) (exits c.from_residual-in_err-check_bodies.ensures)

pub returns : goal.returns
unfolding read_of
returns c = rw (← c.check_form.ensures, c.in_ok-check_form.was, bodies (goal.at.returns c).After-check_bodies, c.in_ok-check_bodies.was, c.of-h.ensures)
