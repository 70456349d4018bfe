-- `relabelled` meets its contract, event by event.
use mathlib.Core.Path.{ap}
use native.Mathlib.Omega.{arith}
use Rattle.labels.specs.Letters.{use_of_byte}
use Rattle.routine.specs.Actions.{is_remap}
use Rattle.state.proofs.Carrying.{relabelled_is, not-labelled}
use Rattle.state.proofs.relabelled.Goals as goal

pub bounds-others-at : goal.bounds-others-at
bounds-others-at c = omega (arith, c.requires.a_bound.0, c.requires.a_bound.1, c.requires.visits.at_remap _ c.in-Remap.is)

pub stepped-requires : goal.stepped-requires
stepped-requires c =
    let p = c.requires.visits in
    record {
      t_lt_width = p.at_remap _ c.in-Remap.is;
      sound = p.sound;
    }

pub returns-in-Nothing : goal.returns-in-Nothing
returns-in-Nothing c =
    let s = c.args in
    not-labelled s.x (use_of_byte s.letter) s.keep s.a s.c s.others.now (ap is_remap c.in-Nothing.is)

pub returns-in-Reference : goal.returns-in-Reference
returns-in-Reference c =
    let s = c.args in
    not-labelled s.x (use_of_byte s.letter) s.keep s.a s.c s.others.now (ap is_remap c.in-Reference.is)

pub returns-in-Remap : goal.returns-in-Remap
returns-in-Remap c =
    let g = c.args in
    relabelled_is g.c g.a g.others.now c.requires.visits.sound.current c.requires.a_bound.0 c.requires.a_bound.1 (use_of_byte g.letter) g.keep c.in-Remap.is
    c.store.ensures c.stepped.ensures

pub returns-in-Unknown : goal.returns-in-Unknown
returns-in-Unknown c =
    let s = c.args in
    not-labelled s.x (use_of_byte s.letter) s.keep s.a s.c s.others.now (ap is_remap c.in-Unknown.is)
