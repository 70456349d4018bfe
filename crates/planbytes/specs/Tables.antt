-- How the code keeps it: what the tables of a planned routine hold, the cell of vertex v and array a at 8 v + a.
-- Assumes nothing.
use Rattle.std.specs.Prelude.{◌≡◌, true, false, List, ℕ, ◌≤◌, ◌<◌, length, get_or, Option, None, Some}
use Rattle.labels.specs.Letters.{use_of_byte}
use Rattle.labels.specs.Reaching.{reaching_of}
use Rattle.passes.specs.Tables.{Cells, Versions, LettersAndKept}
use Rattle.labels.specs.Uses.{is_n}
use Rattle.planbytes.specs.Plan.{labels_before}
use Rattle.routine.specs.Layout.{vertices}
use Rattle.sets.specs.Sets.{has}

-- versions, letters, reaching sets and kept sets: what the plan is written from
pub record Tabled (file versions letters reaching kept : List ℕ) : Type 0 where
  pub versions_are : Versions file versions
  pub reaching_are : Cells file (reaching_of file) reaching
  pub letters_and_kept : LettersAndKept file letters kept

-- the index of each vertex's first label, and behind the last vertex how many there are
pub record Firsts (file firsts : List ℕ) : Type 0 where
  pub size : vertices file < length firsts
  pub first : (v : ℕ) → v ≤ vertices file → get_or firsts v 0 ≡ labels_before file v

-- the byte of a version, or of none
abbrev pub or_none : Option ℕ → ℕ
or_none None = 255
or_none (Some k) = k

-- the leaving byte of a label with this version, as a set, and this letter
pub record Leaving (version letter byte : ℕ) : Type 0 where
  pub none : is_n (use_of_byte letter) ≡ true → byte ≡ 255
  pub some : is_n (use_of_byte letter) ≡ false → has version byte ≡ true
