-- `references::intent_byte` meets its contract: the ranges decide.
use Rattle.words.proofs.Tests.{tests}
use Rattle.calls.proofs.references.intent_byte.Goals as goal

pub returns-then-b-lt128 : goal.returns-then-b-lt128
returns-then-b-lt128 c = search tests

pub returns-then-b-lt192 : goal.returns-then-b-lt192
returns-then-b-lt192 c = search tests

pub returns : goal.returns
returns c = search tests
