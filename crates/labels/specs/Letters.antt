-- The letters as bytes: in the tables that the later passes, the plan and the run read.
-- Assumes nothing.
use Rattle.std.specs.Prelude.{cond, ℕ, eqb}
use Rattle.labels.specs.declared.Use.{Use}
use Rattle.labels.specs.declared.Use.TheVariants.{N, D, R, W}

-- a letter in ASCII
abbrev pub letter_byte : Use → ℕ
letter_byte N = 78
letter_byte D = 68
letter_byte R = 82
letter_byte W = 87

-- and back
abbrev pub use_of_byte : ℕ → Use
use_of_byte b = cond (eqb b 78) N (cond (eqb b 68) D (cond (eqb b 82) R W))
