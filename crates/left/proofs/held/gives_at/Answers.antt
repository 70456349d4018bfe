-- `held::gives_at` meets its contract.
use mathlib.Core.Path.{sym, ap, ◌∙◌}
use mathlib.Core.Bool.{Bool, cond}
use mathlib.Core.List.{List}
use Prim.Native.Nat.{ℕ}
use borrow.Author.Tests.{eq-eqb, ne_eqb}
use lib.Dec.{eqb}
use Rattle.directives.specs.Directives.{directive}
use Rattle.directives.specs.declared.array.Alignment.{Alignment}
use Rattle.mappings.specs.Along.{initial_state}
use Rattle.mappings.specs.Computed.{aligns_with}
use Rattle.left.specs.Cells.{held_gives}
use Rattle.left.proofs.held.gives_at.Goals as goal

-- the choice by whether the vertex is the entry
abbrev by_entry : (file : List ℕ) (a t v given : ℕ) → Bool → ℕ
by_entry file a t v given b =
    cond b (cond (eqb ((initial_state file).aligned a).template t) 1 0)
    (cond (aligns_with t (directive file v)) given 0)

pub alignment-requires : goal.alignment-requires
alignment-requires c = c.requires.a_bound

pub returns-then-v-eq0 : goal.returns-then-v-eq0
unfolding held_gives
returns-then-v-eq0 c =
    c.only_if.ensures
    ∙ ap (λ (x : Alignment). cond (eqb x.template c.args.t) 1 0) c.alignment.ensures
    ∙ ap (by_entry c.args.directives.now.bytes c.args.a c.args.t c.args.v c.args.given) (sym (eq-eqb c.args.v 0 c.if-v-eq0.true))

pub returns : goal.returns
unfolding held_gives
returns c =
    c.only_if-2.ensures
    ∙ ap (λ (b : Bool). cond b c.args.given 0) (c.aligns_with.ensures ∙ ap (aligns_with c.args.t) c.requires.d_value)
    ∙ ap (by_entry c.args.directives.now.bytes c.args.a c.args.t c.args.v c.args.given) (sym (ne_eqb c.args.v 0 c.if-v-eq0.false))
