-- docs/DIRECTIVES.md: spreads, alignments and directives, as they stand in the file.
-- Assumes nothing.
use Rattle.std.specs.Prelude.{cond, List, ℕ, ◌+◌, ◌*◌, eqb, get_or}
use Rattle.words.specs.Words.{word}
use Rattle.directives.specs.declared.array.Alignment.{Alignment}
use Rattle.directives.specs.declared.spread.Mapping.{Mapping}
use Rattle.directives.specs.declared.vertex.Directive.{Directive}
use Rattle.directives.specs.declared.vertex.Directive.TheVariants.{Nothing, Realign, Redistribute}
use Rattle.directives.specs.Layout.{vertex_at}

-- a dimension as it is written: 0 not spread, 1 block, 2 + 256 b cyclic(b)
abbrev pub dimension_at : List ℕ → ℕ → ℕ
dimension_at file at = get_or file at 0 + 256 * word file (at + 2)

-- a spread: two dimensions
unfoldable pub spread_at : List ℕ → ℕ → Mapping
spread_at file at = record { first = dimension_at file at; second = dimension_at file (at + 4) }

-- an alignment: template, exchanged
unfoldable pub alignment_at : List ℕ → ℕ → Alignment
alignment_at file at = record { template = get_or file at 0; exchanged = get_or file (at + 1) 0 }

-- a directive, by its first byte, with its subject in the second
abbrev pub directive_at : List ℕ → ℕ → Directive
directive_at file at =
    cond (eqb (get_or file at 0) 1) (Realign (get_or file (at + 1) 0) (alignment_at file (at + 2)))
    (cond (eqb (get_or file at 0) 2) (Redistribute (get_or file (at + 1) 0) (spread_at file (at + 4)))
    Nothing)

-- what vertex v says
unfoldable pub directive : List ℕ → ℕ → Directive
unfolding spread_at alignment_at
directive file v = directive_at file (vertex_at file v)
