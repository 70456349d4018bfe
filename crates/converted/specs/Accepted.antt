-- How the code keeps it: the versions that directives give, where 42 leaves each directive one version for each array.
-- Assumes nothing.
use Rattle.std.specs.Prelude.{◌≡◌, false, List, ℕ, ◌<◌}
use Rattle.directives.specs.Layout.{arrays, vertices}
use Rattle.mappings.specs.Computed.{given_set}
use Rattle.mappings.specs.Tables.{Given}
use Rattle.sets.specs.Sets.{several}

pub record Single (file given : List ℕ) : Type 0 where
  pub given_are : Given file given
  pub one : (a v : ℕ) → a < arrays file → v < vertices file → several (given_set file a v) ≡ false
