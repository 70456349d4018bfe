-- `reaching::fill_brought_everywhere` meets its contract: two tables are filled, the first with what stands in another.
use mathlib.Core.Bool.{cond}
use lib.Dec.{eqb}
use lib.ListN.{get_or}
use Rattle.sets.specs.Sets.{every_half}
use Rattle.words.proofs.Filling.{Filling}
use Rattle.passes.proofs.reaching.fill_brought_everywhere.Given as goal

abbrev pub invariant-loop-i : goal.invariant-loop-i
invariant-loop-i l = Filling (λ i'. get_or l.versions i' 0) l.i-end l.initial.gives l.gives l.i × Filling (λ i'. cond (eqb (get_or l.versions i' 0) 0) every_half 0) l.i-end l.initial.passes l.passes l.i
