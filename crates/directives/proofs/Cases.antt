-- Check 40 of the example of docs/DIRECTIVES.md and of files that differ from it in a byte or two, computed from the definitions.
-- Assumes nothing.
use Rattle.std.specs.Prelude.{Ok, Err}
use mathlib.Core.Path.{◌≡◌, refl}
use mathlib.Core.List.{List, [], ◌∷◌, ◌++◌}
use Prim.Native.Nat.{ℕ}
use lib.ListN.{set, take}
use Rattle.words.specs.Tables.{rows}
use Rattle.words.specs.Words.{word}
use Rattle.refusal.specs.declared.Refusal.TheVariants.{MalformedDirectives}
use Rattle.refusal.specs.Checks.{Verdict}
use Rattle.routine.specs.Actions.{action_of}
use Rattle.directives.specs.Fields.{in_order, mark_fields, contents_fields, head_fields, dimension_fields, spread_fields, array_fields, vertex_fields, rises, edge_fields, fields, check40}

-- a template (block, not spread), a local array aligned with it; 1 defines it, 2 redistributes the template as (cyclic(3), not spread), 3 reads it
abbrev example : List ℕ
example =
    72 ∷ 80 ∷ 70 ∷ 68 ∷ 1 ∷ 0 ∷ 22 ∷ 0 ∷ 1 ∷ 0 ∷ 30 ∷ 0 ∷ 1 ∷ 0 ∷ 34 ∷ 0 ∷ 5 ∷ 0 ∷ 99 ∷ 0 ∷ 4 ∷ 0
    ∷ 1 ∷ 0 ∷ 0 ∷ 0 ∷ 0 ∷ 0 ∷ 0 ∷ 0
    ∷ 0 ∷ 0 ∷ 0 ∷ 0
    ∷ 0 ∷ 0 ∷ 0 ∷ 0 ∷ 0 ∷ 0 ∷ 0 ∷ 0 ∷ 0 ∷ 0 ∷ 0 ∷ 0 ∷ 0x00
    ∷ 0 ∷ 0 ∷ 0 ∷ 0 ∷ 0 ∷ 0 ∷ 0 ∷ 0 ∷ 0 ∷ 0 ∷ 0 ∷ 0 ∷ 0x20
    ∷ 2 ∷ 0 ∷ 0 ∷ 0 ∷ 2 ∷ 0 ∷ 3 ∷ 0 ∷ 0 ∷ 0 ∷ 0 ∷ 0 ∷ 0x00
    ∷ 0 ∷ 0 ∷ 0 ∷ 0 ∷ 0 ∷ 0 ∷ 0 ∷ 0 ∷ 0 ∷ 0 ∷ 0 ∷ 0 ∷ 0x10
    ∷ 0 ∷ 0 ∷ 0 ∷ 0 ∷ 0 ∷ 0 ∷ 0 ∷ 0 ∷ 0 ∷ 0 ∷ 0 ∷ 0 ∷ 0x00
    ∷ 0 ∷ 0 ∷ 1 ∷ 0 ∷ 1 ∷ 0 ∷ 2 ∷ 0 ∷ 2 ∷ 0 ∷ 3 ∷ 0 ∷ 3 ∷ 0 ∷ 4 ∷ 0 ∷ []

-- the first bad byte
abbrev at : ℕ → Verdict
at byte = Err (MalformedDirectives byte)

right : check40 example ≡ Ok tt
unfolding check40 fields in_order head_fields mark_fields contents_fields spread_fields dimension_fields array_fields vertex_fields rises edge_fields rows word action_of
right = refl

-- no byte at all
empty : check40 [] ≡ at 0
unfolding check40 fields in_order head_fields mark_fields contents_fields spread_fields dimension_fields array_fields vertex_fields rises edge_fields rows word action_of
empty = refl

-- `HPFR`
wrong_mark : check40 (set example 3 82) ≡ at 3
unfolding check40 fields in_order head_fields mark_fields contents_fields spread_fields dimension_fields array_fields vertex_fields rises edge_fields rows word action_of
wrong_mark = refl

-- a count above its limit
nine_templates : check40 (set example 8 9) ≡ at 8
unfolding check40 fields in_order head_fields mark_fields contents_fields spread_fields dimension_fields array_fields vertex_fields rises edge_fields rows word action_of
nine_templates = refl

-- an offset that leaves a gap
wrong_offset : check40 (set example 10 31) ≡ at 10
unfolding check40 fields in_order head_fields mark_fields contents_fields spread_fields dimension_fields array_fields vertex_fields rises edge_fields rows word action_of
wrong_offset = refl

-- the file ends within b of the template
ends_in_template : check40 (take 25 example) ≡ at 25
unfolding check40 fields in_order head_fields mark_fields contents_fields spread_fields dimension_fields array_fields vertex_fields rises edge_fields rows word action_of
ends_in_template = refl

-- block with b
block_with_size : check40 (set example 24 1) ≡ at 24
unfolding check40 fields in_order head_fields mark_fields contents_fields spread_fields dimension_fields array_fields vertex_fields rises edge_fields rows word action_of
block_with_size = refl

-- an array aligned with a template that is not there
no_template : check40 (set example 31 1) ≡ at 31
unfolding check40 fields in_order head_fields mark_fields contents_fields spread_fields dimension_fields array_fields vertex_fields rises edge_fields rows word action_of
no_template = refl

-- a reference at the entry
read_at_entry : check40 (set example 46 0x10) ≡ at 46
unfolding check40 fields in_order head_fields mark_fields contents_fields spread_fields dimension_fields array_fields vertex_fields rises edge_fields rows word action_of
read_at_entry = refl

-- the high byte of b where there is no directive: the field starts at its low byte
spread_alone : check40 (set example 54 1) ≡ at 53
unfolding check40 fields in_order head_fields mark_fields contents_fields spread_fields dimension_fields array_fields vertex_fields rises edge_fields rows word action_of
spread_alone = refl

-- cyclic(0)
cyclic_zero : check40 (set example 66 0) ≡ at 66
unfolding check40 fields in_order head_fields mark_fields contents_fields spread_fields dimension_fields array_fields vertex_fields rises edge_fields rows word action_of
cyclic_zero = refl

-- a reference beside a directive
read_beside : check40 (set example 72 0x10) ≡ at 72
unfolding check40 fields in_order head_fields mark_fields contents_fields spread_fields dimension_fields array_fields vertex_fields rises edge_fields rows word action_of
read_beside = refl

-- an edge into the entry
into_entry : check40 (set example 101 0) ≡ at 101
unfolding check40 fields in_order head_fields mark_fields contents_fields spread_fields dimension_fields array_fields vertex_fields rises edge_fields rows word action_of
into_entry = refl

-- edge 0-1 twice
edge_twice : check40 (set (set example 103 0) 105 1) ≡ at 103
unfolding check40 fields in_order head_fields mark_fields contents_fields spread_fields dimension_fields array_fields vertex_fields rises edge_fields rows word action_of
edge_twice = refl

-- the last byte is missing
ends_in_edge : check40 (take 114 example) ≡ at 114
unfolding check40 fields in_order head_fields mark_fields contents_fields spread_fields dimension_fields array_fields vertex_fields rises edge_fields rows word action_of
ends_in_edge = refl

-- a byte too many
one_more : check40 (example ++ 0 ∷ []) ≡ at 115
unfolding check40 fields in_order head_fields mark_fields contents_fields spread_fields dimension_fields array_fields vertex_fields rises edge_fields rows word action_of
one_more = refl
