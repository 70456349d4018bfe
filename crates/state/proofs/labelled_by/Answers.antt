-- `labelled_by` meets its contract: after the move a version or none is current.
use mathlib.Core.Path.{sym, subst}
use Rattle.labels.specs.Letters.{use_of_byte}
use Rattle.state.specs.declared.Carried.{Carried}
use Rattle.state.specs.Carrying.{bare}
use Rattle.state.specs.States.{Current}
use Rattle.state.proofs.Carrying.{shifted_current, labelled_is}
use Rattle.state.proofs.labelled_by.Goals as goal

pub shifted-requires : goal.shifted-requires
shifted-requires c =
    record {
      t_lt_width = c.requires.t_lt_width;
      copies_bound = c.requires.sound.few_copies;
    }

pub cleaned-requires : goal.cleaned-requires
cleaned-requires c = subst (λ (n : Carried). Current (bare n)) (sym c.shifted.ensures) (shifted_current c.from-u.result c.args.t c.args.held c.args.c c.requires.sound.current c.requires.t_lt_width)

pub returns : goal.returns
returns c =
    let a = c.args in
    labelled_is (use_of_byte a.letter) a.t a.keep a.held a.c c.requires.t_lt_width c.from-u.ensures c.shifted.ensures c.cleaned.ensures
