-- `Action::from` meets its contract: a key of the match is the byte, and the ranges decide the rest.
use mathlib.Core.Path.{sym, ap}
use Rattle.routine.specs.Actions.{action_of}
use Rattle.words.proofs.Tests.{tests}
use Rattle.routine.proofs.action.ActionFromU8.from.Goals as goal

pub returns-in-0 : goal.returns-in-0
unfolding action_of
returns-in-0 c = sym (ap action_of c.in-0.is)

pub returns-in-16 : goal.returns-in-16
unfolding action_of
returns-in-16 c = sym (ap action_of c.in-16.is)

pub returns-in-32 : goal.returns-in-32
unfolding action_of
returns-in-32 c = sym (ap action_of c.in-32.is)

pub returns-in-48 : goal.returns-in-48
unfolding action_of
returns-in-48 c = sym (ap action_of c.in-48.is)

pub returns-in-128 : goal.returns-in-128
unfolding action_of
returns-in-128 c = sym (ap action_of c.in-128.is)

pub returns-in-64-to-95 : goal.returns-in-64-to-95
unfolding action_of
returns-in-64-to-95 c = search tests

pub returns-in_default : goal.returns-in_default
unfolding action_of
returns-in_default c = search tests

pub returns-in_default-2 : goal.returns-in_default-2
unfolding action_of
returns-in_default-2 c = search tests
