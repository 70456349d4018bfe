-- Document 02, request 5: after how many rounds the pass for versions that paths bring stops.
-- Assumes nothing.
use Rattle.std.specs.Prelude.{List, ℕ}
use Rattle.directives.specs.Layout.{arrays}
use Rattle.facts.specs.Counted.{Stops}
use Rattle.mappings.specs.Computed.{given_set}
use Rattle.left.specs.Cells.{held_gives, held_passes}

-- the pass for the versions in which paths bring arrays that are aligned with template t
abbrev pub HeldStops : List ℕ → ℕ → ℕ → Type 0
HeldStops file t r = Stops file (arrays file) (λ a v. held_gives file t a v (given_set file a v)) (held_passes file t) r
