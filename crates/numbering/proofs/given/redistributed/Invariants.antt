-- `given::redistributed` meets its contract: the list grows by the spread straight, then exchanged.
use mathlib.Core.Bool.{cond}
use mathlib.Core.List.{List, [], ◌∷◌}
use Prim.Native.Nat.{ℕ, ◌+◌, ◌*◌, ◌≤◌}
use Rattle.words.specs.Tables.{rows}
use Rattle.directives.specs.declared.spread.Mapping.{Mapping}
use Rattle.mappings.specs.Along.{turned}
use Rattle.numbering.specs.Lists.{Grows}
use Rattle.sets.specs.Sets.{has}
use Rattle.numbering.proofs.given.redistributed.Given as goal

-- the spread, exchanged e, if an alignment makes it so
abbrev pub row : ℕ → Mapping → ℕ → ℕ → List Mapping
row t m aligned e = cond (has aligned (2 * t + e)) (turned e m ∷ []) []

abbrev pub invariant-loop-e : goal.invariant-loop-e
invariant-loop-e l = (l.e ≤ 2) × Grows (rows (row l.t l.m l.aligned) l.e) l.initial.list l.initial.q l.list l.q
