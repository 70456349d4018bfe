-- How the code keeps it: what functions over a routine are handed: a file that was read with its header, an order of the edges.
-- Assumes nothing.
use Rattle.std.specs.Prelude.{List, ℕ}
use Rattle.flow.specs.Order.{Order}
use Rattle.flow.specs.Paths.{edge_count}
use Rattle.labels.specs.Events.{edge_bytes}
use Rattle.routine.specs.Reader.{Heads, WellFormed}
use Rattle.routine.specs.declared.header.Header.{Header}

-- a routine that was read, and its header
pub record ReadAs (file : List ℕ) (h : Header) : Type 0 where
  pub well : WellFormed file
  pub heads : Heads h file

-- an order of the routine's edges
abbrev pub EdgeOrder : List ℕ → List ℕ → Type 0
EdgeOrder file order = Order (edge_count (edge_bytes file)) order

-- a routine that was read: its bytes, of which all holds that the label rules ask
pub record Read : Type 0 where
  pub bytes : List ℕ
  pub well : WellFormed bytes
