-- How the code keeps it: what functions over a directive file are handed.
-- Assumes nothing.
use Rattle.std.specs.Prelude.{◌≡◌, List, ℕ, Ok}
use Rattle.directives.specs.Fields.{check40}
use Rattle.directives.specs.Layout.{Limits}

-- a directive file whose head is within the limits: its bytes, and that its counts are
pub record LaidFile : Type 0 where
  pub bytes : List ℕ
  pub limits : Limits bytes

-- a directive file that was read: its bytes, which 40 passes
pub record ReadFile : Type 0 where
  pub bytes : List ℕ
  pub passed : check40 bytes ≡ Ok tt
