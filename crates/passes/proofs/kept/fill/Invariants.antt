-- `kept::fill` meets its contract: two tables are filled.
use mathlib.Core.Bool.{cond, not, ◌||◌}
use lib.Dec.{eqb}
use lib.ListN.{get_or}
use Rattle.labels.specs.Kept.{is_n_or_r}
use Rattle.labels.specs.Letters.{use_of_byte}
use Rattle.labels.specs.Uses.{is_n}
use Rattle.words.proofs.Filling.{Filling}
use Rattle.sets.specs.Sets.{every_half}
use Rattle.passes.proofs.kept.fill.Given as goal

abbrev pub invariant-loop-i : goal.invariant-loop-i
invariant-loop-i l = Filling (λ i'. cond (not (is_n (use_of_byte (get_or l.letters i' 0)))) (get_or l.versions i' 0) 0) l.i-end l.initial.gives l.gives l.i
    × Filling (λ i'. cond (eqb (get_or l.versions i' 0) 0 || is_n_or_r (use_of_byte (get_or l.letters i' 0))) every_half 0) l.i-end l.initial.passes l.passes l.i
