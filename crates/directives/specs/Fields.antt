-- docs/DIRECTIVES.md and refusal 40: the file is one list of fields, read from front to back. The first that the file ends in gives the
-- file's length, the first that is wrong its first byte.
-- Assumes nothing.
use Rattle.std.specs.Prelude.{◌≡◌, Bool, true, not, ◌&&◌, ◌||◌, cond, List, [], ◌∷◌, ◌++◌, ℕ, zero, suc, ◌+◌, eqb, leb, ltb, length, get_or, Ok}
use Rattle.words.specs.Tables.{rows}
use Rattle.words.specs.Words.{word}
use Rattle.refusal.specs.Checks.{◌and_then◌, holds, Verdict}
use Rattle.refusal.specs.declared.Refusal.TheVariants.{MalformedDirectives}
use Rattle.routine.specs.Actions.{action_of, is_reference}
use Rattle.routine.specs.Edges.{before}
use Rattle.routine.specs.Layout.{within}
use Rattle.routine.specs.declared.edge.Edge.{Edge}
use Rattle.directives.specs.Layout.{templates, arrays, vertices, edges, header_of, entry, exit, template_at, arrays_at, array_at, vertices_at, vertex_at, reference_at, edges_at, edge_at, end_at}
use Rattle.directives.specs.declared.header.Header.{Header}

-- ---- fields

-- where it starts, how many bytes it has, and whether what stands there is right
pub record Field : Type 0 where
  pub at : ℕ
  pub wide : ℕ
  pub right : Bool

-- a byte
abbrev pub byte_field : List ℕ → ℕ → (ℕ → Bool) → Field
byte_field file at test = record { at = at; wide = 1; right = test (get_or file at 0) }

-- a number of 16 bits
abbrev pub word_field : List ℕ → ℕ → (ℕ → Bool) → Field
word_field file at test = record { at = at; wide = 2; right = test (word file at) }

-- the file ends before the field does; else the field is wrong
abbrev pub field_check : List ℕ → Field → Verdict
field_check file f =
    holds (leb (f.at + f.wide) (length file)) (MalformedDirectives (length file)) and_then holds f.right (MalformedDirectives f.at)

-- the first field that fails
unfoldable pub in_order : List ℕ → List Field → Verdict
in_order file [] = (Ok tt)
in_order file (f ∷ fs) = field_check file f and_then in_order file fs

-- ---- head

-- the four bytes `HPFD`, the edition
unfoldable pub mark_fields : List ℕ → List Field
mark_fields file =
    byte_field file 0 (λ b. eqb b 72)
    ∷ byte_field file 1 (λ b. eqb b 80)
    ∷ byte_field file 2 (λ b. eqb b 70)
    ∷ byte_field file 3 (λ b. eqb b 68)
    ∷ word_field file 4 (λ n. eqb n 1)
    ∷ []

-- an entry of the table of contents: a body's offset, and its count within limits
unfoldable pub contents_fields : List ℕ → ℕ → ℕ → ℕ → ℕ → List Field
contents_fields file at offset low high =
    word_field file at (λ n. eqb n offset)
    ∷ word_field file (at + 2) (within low high)
    ∷ []

-- templates 1 to 8, arrays 1 to 8, vertices 2 to 256, edges 0 to 1,024
unfoldable pub head_fields : List ℕ → List Field
unfolding mark_fields contents_fields
head_fields file =
    mark_fields file
    ++ (contents_fields file 6 (template_at 0) 1 8
    ++ (contents_fields file 10 (arrays_at file) 1 8
    ++ (contents_fields file 14 (vertices_at file) 2 256
    ++ contents_fields file 18 (edges_at file) 0 1024)))

-- ---- spreads: for each dimension a kind (0 not spread, 1 block, 2 cyclic), zero, b (1 to 65,535 for cyclic, else 0)

-- a dimension at its place, of no kind above `highest`
unfoldable pub dimension_fields : List ℕ → ℕ → ℕ → List Field
dimension_fields file highest at =
    byte_field file at (λ kind. leb kind highest)
    ∷ byte_field file (at + 1) (λ zero. eqb zero 0)
    ∷ word_field file (at + 2) (λ b. cond (eqb (get_or file at 0) 2) (ltb 0 b) (eqb b 0))
    ∷ []

-- two dimensions
unfoldable pub spread_fields : List ℕ → ℕ → ℕ → List Field
unfolding dimension_fields
spread_fields file highest at = dimension_fields file highest at ++ dimension_fields file highest (at + 4)

-- a template may be spread in each way
abbrev pub template_fields : List ℕ → ℕ → List Field
template_fields file t = spread_fields file 2 (template_at t)

-- ---- arrays: kind, template, exchanged (0 straight, 1 exchanged), zero

-- an array at its place
abbrev pub array_fields_at : List ℕ → ℕ → List Field
array_fields_at file at =
    byte_field file at (λ kind. leb kind 3)
    ∷ byte_field file (at + 1) (λ t. ltb t (templates file))
    ∷ byte_field file (at + 2) (λ e. leb e 1)
    ∷ byte_field file (at + 3) (λ zero. eqb zero 0)
    ∷ []

-- array a
unfoldable pub array_fields : List ℕ → ℕ → List Field
array_fields file a = array_fields_at file (array_at file a)

-- ---- vertices

-- the first byte of a vertex: 0 no directive, 1 realign, 2 redistribute
abbrev pub directive_byte : List ℕ → ℕ → ℕ
directive_byte file v = get_or file (vertex_at file v) 0

-- the entry and the exit have neither directive nor reference
abbrev pub is_entry_or_exit : List ℕ → ℕ → Bool
is_entry_or_exit file v = eqb v entry || eqb v (exit file)

-- the subject of a realign is an array, that of a redistribute a template, else it is 0
abbrev pub subjects : List ℕ → ℕ → ℕ
subjects file d = cond (eqb d 1) (arrays file) (cond (eqb d 2) (templates file) 1)

-- a directive at its place, of no first byte above `highest`: it, its subject, template and exchanged of a realign, which are else 0
abbrev pub directive_fields_at : List ℕ → ℕ → ℕ → List Field
directive_fields_at file highest at =
    byte_field file at (λ d. leb d highest)
    ∷ byte_field file (at + 1) (λ s. ltb s (subjects file (get_or file at 0)))
    ∷ byte_field file (at + 2) (λ t. ltb t (cond (eqb (get_or file at 0) 1) (templates file) 1))
    ∷ byte_field file (at + 3) (λ e. leb e (cond (eqb (get_or file at 0) 1) 1 0))
    ∷ []

-- then the spread of a redistribute, which is else all 0
abbrev pub given_fields_at : List ℕ → ℕ → List Field
given_fields_at file at = spread_fields file (cond (eqb (get_or file at 0) 2) 2 0) (at + 4)

-- both at vertex v
abbrev pub directive_fields : List ℕ → ℕ → List Field
directive_fields file v = directive_fields_at file (cond (is_entry_or_exit file v) 0 2) (vertex_at file v)

abbrev pub given_fields : List ℕ → ℕ → List Field
given_fields file v = given_fields_at file (vertex_at file v)

-- 00, or a reference where there is no directive
abbrev pub is_right_reference : List ℕ → ℕ → ℕ → Bool
is_right_reference file v b = eqb b 0 || (is_reference (action_of b) && (eqb (directive_byte file v) 0 && not (is_entry_or_exit file v)))

-- a byte for each array
abbrev pub reference_fields : List ℕ → ℕ → List Field
reference_fields file v = rows (λ a. byte_field file (reference_at file v a) (is_right_reference file v) ∷ []) (arrays file)

-- vertex v
unfoldable pub vertex_fields : List ℕ → ℕ → List Field
unfolding spread_fields
vertex_fields file v = directive_fields file v ++ (given_fields file v ++ reference_fields file v)

-- ---- edges: from, to; none leaves the exit, none enters the entry; strictly rising by from, then to

-- edge i
abbrev pub edge_of : List ℕ → ℕ → Edge
edge_of file i = record { from = word file (edge_at file i); to = word file (edge_at file i + 2) }

-- edge i stands behind the one before it
unfoldable pub rises : List ℕ → ℕ → Bool
rises file zero = true
rises file (suc i) = before (edge_of file i) (edge_of file (suc i))

-- an edge at its place; its order is a field of four bytes
abbrev pub edge_fields_at : List ℕ → Bool → ℕ → List Field
edge_fields_at file rises at =
    word_field file at (λ from. ltb from (exit file))
    ∷ word_field file (at + 2) (λ to. ltb 0 to && ltb to (vertices file))
    ∷ record { at = at; wide = 4; right = rises }
    ∷ []

-- those of edge i
unfoldable pub edge_fields : List ℕ → ℕ → List Field
unfolding rises
edge_fields file i = edge_fields_at file (rises file i) (edge_at file i)

-- ---- the whole file

-- no byte stands behind the last edge
abbrev pub end_fields : List ℕ → List Field
end_fields file = record { at = end_at file; wide = 0; right = leb (length file) (end_at file) } ∷ []

-- the bodies, from front to back
abbrev pub body_fields : List ℕ → List Field
body_fields file =
    rows (template_fields file) (templates file)
    ++ (rows (array_fields file) (arrays file)
    ++ (rows (vertex_fields file) (vertices file)
    ++ (rows (edge_fields file) (edges file)
    ++ end_fields file)))

-- all fields
unfoldable pub fields : List ℕ → List Field
unfolding head_fields spread_fields array_fields vertex_fields edge_fields
fields file = head_fields file ++ body_fields file

-- 40: a malformed directive file
unfoldable pub check40 : List ℕ → Verdict
unfolding fields in_order
check40 file = in_order file (fields file)

-- ---- how the code keeps it: a file that 40 passes, and its header
pub record DirectivesRead (file : List ℕ) (h : Header) : Type 0 where
  pub passed : check40 file ≡ Ok tt
  pub header : h ≡ header_of file
