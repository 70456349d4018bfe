-- `add` meets its contract: too many already, one too many, one that is listed, a new one.
use mathlib.Core.Path.{refl, ap, ◌∙◌}
use Prim.Native.Nat.{◌<◌}
use native.Mathlib.Omega.{arith}
use lib.Bits.{bit_or}
use lib.ListN.{length-set}
use Rattle.std.proofs.lemmas.List.{take_more_set}
use Rattle.sets.specs.Sets.{width}
use Rattle.numbering.proofs.Holding.{Found, found_within, grows_full, grows_over, grows_listed, grows_new}
use Rattle.numbering.proofs.list.add.Goals as goal
use Rattle.numbering.proofs.list.add.Goals.{After-number_of-k, Else-k-eq-WIDTH}

-- once the number is found
module _ (c : After-number_of-k) where
  found : Found c.args.list.now c.args.p c.args.m c.number_of-k.result
  found = record { room = c.requires.list_len; few = c.if-p-gt-WIDTH.false; is = c.number_of-k.ensures }

-- and is not the limit
below : (c : Else-k-eq-WIDTH) → c.number_of-k.result < width
below c = let f = found (goal.at.Else-k-eq-WIDTH c).After-number_of-k in omega (arith, found_within f)

pub returns-then-p-gt-WIDTH : goal.returns-then-p-gt-WIDTH
returns-then-p-gt-WIDTH c = grows_full c.args.m c.requires.list_len c.if-p-gt-WIDTH.true c.requires.count_bound

pub returns-then-k-eq-WIDTH : goal.returns-then-k-eq-WIDTH
returns-then-k-eq-WIDTH c = grows_over (found (goal.at.returns-then-k-eq-WIDTH c).After-number_of-k) c.if-k-eq-WIDTH.true refl

pub overflow_cast-k : goal.overflow_cast-k
overflow_cast-k c = omega (arith, below c)

pub single-requires : goal.single-requires
single-requires c = below c

pub returns-then-k-p : goal.returns-then-k-p
returns-then-k-p c = grows_listed (found (goal.at.returns-then-k-p c).After-number_of-k) c.if-k-p.true refl (ap (bit_or c.args.p.given) c.single.ensures)

pub offset_bounds-list-k : goal.offset_bounds-list-k
offset_bounds-list-k c = omega (arith, below (goal.at.offset_bounds-list-k c).Else-k-eq-WIDTH)

pub bounds-list-k : goal.bounds-list-k
bounds-list-k c = omega (arith, below (goal.at.bounds-list-k c).Else-k-eq-WIDTH, c.requires.list_len)

pub overflow_add-result-2 : goal.overflow_add-result-2
overflow_add-result-2 c = omega (arith, below (goal.at.overflow_add-result-2 c).Else-k-eq-WIDTH)

pub returns : goal.returns
returns c = grows_new (found (goal.at.returns c).After-number_of-k) (length-set c.args.list.now _ c.args.m ∙ c.requires.list_len) (below (goal.at.returns c).Else-k-eq-WIDTH) c.if-k-p.false (take_more_set c.args.list.now _ c.args.m (omega (arith, below (goal.at.returns c).Else-k-eq-WIDTH, c.requires.list_len))) refl (ap (bit_or c.args.p.given) c.single.ensures)
