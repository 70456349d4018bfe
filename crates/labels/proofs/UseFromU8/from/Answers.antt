-- `Use::from` meets its contract: a key of the match is the byte.
use mathlib.Core.Path.{sym, ap}
use borrow.Author.Tests.{ne_eqb}
use Rattle.labels.specs.Letters.{use_of_byte}
use Rattle.labels.proofs.UseFromU8.from.Goals as goal

pub returns-in-78 : goal.returns-in-78
returns-in-78 c = sym (ap use_of_byte c.in-78.is)

pub returns-in-68 : goal.returns-in-68
returns-in-68 c = sym (ap use_of_byte c.in-68.is)

pub returns-in-82 : goal.returns-in-82
returns-in-82 c = sym (ap use_of_byte c.in-82.is)

pub returns-in_default : goal.returns-in_default
returns-in_default c = rw (ne_eqb _ _ c.in_default.in_default-own.rest.0.0.1, ne_eqb _ _ c.in_default.in_default-own.rest.0.1, ne_eqb _ _ c.in_default.in_default-own.rest.1)
