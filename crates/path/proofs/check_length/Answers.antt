-- `check_length` meets its contract, by cases of the tests.
use native.Mathlib.Omega.{arith}
use borrow.Author.Tests.{le-leb, lt-leb}
use Rattle.path.proofs.check_length.Goals as goal

pub returns-then-length-lt1 : goal.returns-then-length-lt1
returns-then-length-lt1 c =
    let n = c.count-length.result in
    simp (← c.count-length.ensures, lt-leb 1 n (omega arith))

pub returns-then-length-gt-MAX : goal.returns-then-length-gt-MAX
returns-then-length-gt-MAX c =
    let n = c.count-length.result in
    simp (← c.count-length.ensures, le-leb 1 n (omega arith), lt-leb n 4096 (omega arith))

pub returns : goal.returns
returns c =
    let n = c.count-length.result in
    simp (← c.count-length.ensures, le-leb 1 n (omega arith), le-leb n 4096 (omega arith))
