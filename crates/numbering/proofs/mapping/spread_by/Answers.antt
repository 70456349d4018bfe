-- `spread_by` meets its contract: a redistribute has its own spread, a vertex that is none leaves the initial one.
use mathlib.Core.Path.{◌≡◌, refl, sym, ap, ◌∙◌}
use Prim.Native.Nat.{ℕ}
use Rattle.directives.specs.Directives.{spread_at}
use Rattle.directives.specs.Layout.{template_at}
use Rattle.directives.specs.declared.spread.Mapping.{Mapping}
use Rattle.directives.specs.declared.vertex.Directive.{Directive}
use Rattle.directives.specs.declared.vertex.Directive.TheVariants.{Nothing, Realign, Redistribute}
use Rattle.mappings.specs.Computed.{spread_of}
use Rattle.numbering.proofs.mapping.spread_by.Goals as goal

-- no redistribute
other : (initial : Mapping) (d : Directive) → ((t : ℕ) (m : Mapping) → d ≡ Redistribute t m → ⊥) → spread_of initial d ≡ initial
other initial Nothing h = refl
other initial (Realign b x) h = refl
other initial (Redistribute t m) h = absurd (h t m refl)

pub directive-requires : goal.directive-requires
directive-requires c = c.requires.u_bound

pub returns-in-Redistribute : goal.returns-in-Redistribute
returns-in-Redistribute c =
    let initial = spread_at c.args.directives.now.bytes (template_at c.args.t) in
    ap (spread_of initial) (sym c.in-Redistribute.is ∙ c.directive.ensures)

pub returns-in_default : goal.returns-in_default
returns-in_default c =
    let initial = spread_at c.args.directives.now.bytes (template_at c.args.t) in
    c.spread.ensures
    ∙ sym (other initial c.directive.result c.in_default.not-Redistribute)
    ∙ ap (spread_of initial) c.directive.ensures
