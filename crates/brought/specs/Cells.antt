-- How the code keeps it: what each vertex gives to the sets of a pass and passes, cell by cell.
-- Assumes nothing.
use Rattle.std.specs.Prelude.{◌≡◌, Bool, false, ◌&&◌, ◌||◌, cond, List, ℕ, ◌+◌, ◌-◌, ◌*◌, ◌/◌, ◌%◌, ◌^◌, ◌<◌, eqb, length, get_or}
use Rattle.labels.specs.Reaching.{is_reached_over}
use Rattle.sets.specs.Sets.{width, every_version, every_half}
use Rattle.directives.specs.Directives.{directive}
use Rattle.directives.specs.Layout.{vertices, entry, edge_bytes}
use Rattle.directives.specs.declared.array.Alignment.{Alignment}
use Rattle.directives.specs.declared.vertex.Directive.{Directive}
use Rattle.directives.specs.declared.vertex.Directive.TheVariants.{Nothing, Realign, Redistribute}
use Rattle.mappings.specs.Along.{initial_state}
use Rattle.mappings.specs.Computed.{realigns, alignment_of, code, redistributes}
use Rattle.mappings.specs.Tables.{spread_column}

-- ---- alignments

-- the entry, and each vertex that realigns array a
abbrev pub is_aligner : List ℕ → ℕ → ℕ → Bool
is_aligner file a v = eqb v entry || realigns a (directive file v)

-- what vertex v gives, and passes
unfoldable pub align_gives : List ℕ → ℕ → ℕ → ℕ
unfolding is_reached_over directive
align_gives file a v =
    cond (is_reached_over (edge_bytes file) (vertices file) v && is_aligner file a v)
    (2 ^ code (alignment_of ((initial_state file).aligned a) (directive file v))) 0

unfoldable pub align_passes : List ℕ → ℕ → ℕ → ℕ
unfolding directive
align_passes file a v = cond (is_aligner file a v) 0 (2 ^ 16 - 1)

-- ---- spreads

-- a realign with template t
abbrev pub realigns_with : ℕ → Directive → Bool
realigns_with t Nothing = false
realigns_with t (Realign b x) = eqb x.template t
realigns_with t (Redistribute s m) = false

-- the entry, and each vertex that redistributes template t
abbrev pub is_spreader : List ℕ → ℕ → ℕ → Bool
is_spreader file t v = eqb v entry || redistributes t (directive file v)

-- what vertex v gives in column c, and passes
unfoldable pub spread_gives : List ℕ → ℕ → ℕ → ℕ → ℕ
unfolding is_reached_over directive
spread_gives file t c v =
    cond (is_reached_over (edge_bytes file) (vertices file) v && (is_spreader file t v && eqb (v / width) c)) (2 ^ (v % width)) 0

unfoldable pub spread_passes : List ℕ → ℕ → ℕ → ℕ
unfolding directive
spread_passes file t v = cond (is_spreader file t v) 0 every_version

-- what it passes of each half
unfoldable pub spread_halves : List ℕ → ℕ → ℕ → ℕ
unfolding directive
spread_halves file t v = cond (is_spreader file t v) 0 every_half

-- the columns of spreads where the templates below t are done
pub record SpreadsTo (file : List ℕ) (t : ℕ) (s : List ℕ) : Type 0 where
  pub size : length s ≡ 8 * vertices file
  pub cells :
      (v b c : ℕ) (x : Alignment) → v < vertices file → c < 8 → directive file v ≡ Realign b x → x.template < t
      → get_or s (8 * v + c) 0 ≡ get_or (spread_column file x.template c) v 0
