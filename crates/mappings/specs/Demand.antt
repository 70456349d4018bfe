-- Document 02, request 4: what 41 and 42 say of every directive file that 40 passes, and what holds of every file that all three pass.
-- Assumes nothing.
use Rattle.std.specs.Prelude.{◌≡◌, List, ◌↔◌, ℕ, ◌+◌, ◌≤◌, ◌<◌, length, get_or, Ok, Err}
use Rattle.labels.specs.Events as L
use Rattle.refusal.specs.Faults.{FirstOf, FirstFault}
use Rattle.refusal.specs.declared.Refusal.{Refusal}
use Rattle.refusal.specs.declared.Refusal.TheVariants.{TooManyMappings, TwoMappings}
use Rattle.routine.specs.Actions.{action_byte}
use Rattle.routine.specs.Arrays.{array_of}
use Rattle.routine.specs.Layout as R
use Rattle.routine.specs.Reader.{read_of}
use Rattle.sets.specs.Sets.{width}
use Rattle.directives.specs.Layout.{arrays, vertices, array_at, reference_at, edge_bytes}
use Rattle.directives.specs.declared.spread.Mapping.{Mapping}
use Rattle.mappings.specs.Computed.{given_to, versions_of, check41, check42, converted}
use Rattle.mappings.specs.Rules.{Gives, Remaps, TooMany, InTwo, Numbering}
use Rattle.mappings.specs.Theorem.{KeepsMappings}

-- 41 and 42, of a file that 40 passes
pub record MappingFaults (file : List ℕ) : Type 0 where
  -- 41 is passed exactly if no array has too many mappings, else it names the first that has
  pub few : (check41 file ≡ Ok tt) ↔ ((a : ℕ) → a < arrays file → TooMany file width a → ⊥)
  pub many : (r : Refusal) → (check41 file ≡ Err r) ↔ ((a : ℕ) × FirstOf (TooMany file width) (arrays file) a × (r ≡ TooManyMappings a))
  -- where it is passed, 42 is passed exactly if no directive can leave an array that it remaps in two mappings, else it names the first place,
  -- by vertex, then by array
  pub single : check41 file ≡ Ok tt → (check42 file ≡ Ok tt) ↔ ((v a : ℕ) → v < vertices file → a < arrays file → InTwo file a v → ⊥)
  pub double :
      check41 file ≡ Ok tt → (r : Refusal)
      → (check42 file ≡ Err r) ↔ ((v : ℕ) × (a : ℕ) × FirstFault (λ v a. InTwo file a v) (vertices file) (arrays file) v a × (r ≡ TwoMappings v a))

-- the routine, of a file that 41 and 42 pass too
pub record Demand4 (file : List ℕ) : Type 0 where
  -- the converted routine passes 10 to 19, and is no longer than 8 arrays, 256 vertices and 1,024 edges make it
  pub read : read_of (converted file) ≡ Ok (R.header_of (converted file))
  pub fits : length (converted file) ≤ 6194
  -- arrays, vertices and edges keep their numbers
  pub arrays_kept : R.arrays (converted file) ≡ arrays file
  pub vertices_kept : R.vertices (converted file) ≡ vertices file
  pub edges_kept : L.edge_bytes (converted file) ≡ edge_bytes file
  -- an array keeps its kind, has its number of mappings as versions, and starts in version 0
  pub array_is :
      (a : ℕ) → a < arrays file
      → array_of (converted file) a ≡ record { kind = get_or file (array_at file a) 0; versions = length (versions_of file a); initial = 0; zero = 0 }
  -- versions are numbered for each array from its initial mapping on, then by lowest vertex
  pub numbered : (a : ℕ) → a < arrays file → Numbering file a (versions_of file a)
  -- a directive that remaps an array becomes 40+k, where version k is the mapping that it gives
  pub remapped :
      (a v : ℕ) (m : Mapping) → a < arrays file → v < vertices file → Gives file a v m
      → (k : ℕ) × (action_byte (converted file) a v ≡ 0x40 + k) × ((d : Mapping) → get_or (versions_of file a) k d ≡ m)
  -- rows keep their references; an array that a directive does not remap gets 00, the byte that stands there
  pub bytes_kept :
      (a v : ℕ) → a < arrays file → v < vertices file → (Remaps file a v → ⊥) → action_byte (converted file) a v ≡ get_or file (reference_at file v a) 0
  -- at each reference on a path from the entry the mapping that the directives give is that of the version which the routine names
  pub mappings_kept : KeepsMappings file (given_to file)
