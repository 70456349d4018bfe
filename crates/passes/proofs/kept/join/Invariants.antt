-- `kept::join` meets its contract: a table is filled in place.
use mathlib.Core.Bool.{cond, not}
use lib.Bits.{bit_or}
use lib.ListN.{get_or}
use Rattle.labels.specs.Kept.{is_n_or_r}
use Rattle.labels.specs.Letters.{use_of_byte}
use Rattle.labels.specs.Uses.{is_n}
use Rattle.words.proofs.Filling.{Filling}
use Rattle.passes.proofs.kept.join.Given as goal

abbrev pub invariant-loop-i : goal.invariant-loop-i
invariant-loop-i l = Filling (λ i'. bit_or (cond (not (is_n (use_of_byte (get_or l.letters i' 0)))) (get_or l.versions i' 0) 0) (cond (is_n_or_r (use_of_byte (get_or l.letters i' 0))) (get_or l.initial.sets i' 0) 0)) l.i-end l.initial.sets l.sets l.i
