-- `given::realigned` meets its contract: the list grows by what each vertex gave.
use mathlib.Core.Bool.{cond}
use mathlib.Core.List.{List, [], ◌∷◌}
use Prim.Native.Nat.{ℕ, ◌≤◌}
use lib.ListN.{get_or}
use Rattle.words.specs.Tables.{rows}
use Rattle.directives.specs.Layout.{vertices}
use Rattle.directives.specs.declared.array.Alignment.{Alignment}
use Rattle.directives.specs.declared.spread.Mapping.{Mapping}
use Rattle.mappings.specs.Along.{turned}
use Rattle.mappings.specs.Computed.{spread_sets, spread_by}
use Rattle.numbering.specs.Lists.{Grows}
use Rattle.sets.specs.Sets.{has}
use Rattle.numbering.proofs.given.realigned.Given as goal

-- what the spread that vertex u gave is to the array
abbrev pub row : List ℕ → ℕ → Alignment → ℕ → List Mapping
row file v x u = cond (has (get_or (spread_sets file x.template) v 0) u) (turned x.exchanged (spread_by file x.template u) ∷ []) []

abbrev pub invariant-loop-u : goal.invariant-loop-u
invariant-loop-u l = (l.u ≤ vertices l.directives.bytes) × Grows (rows (row l.directives.bytes l.v l.x) l.u) l.initial.list l.initial.q l.list l.q
