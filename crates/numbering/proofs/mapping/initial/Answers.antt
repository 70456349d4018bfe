-- `initial` meets its contract: the template of an alignment is one of the file.
use mathlib.Core.Path.{sym, ap, subst, ◌∙◌}
use Prim.Native.Nat.{◌<◌}
use Rattle.directives.specs.Directives.{spread_at}
use Rattle.directives.specs.Layout.{templates, template_at}
use Rattle.directives.specs.declared.array.Alignment.{Alignment}
use Rattle.mappings.proofs.Formed.{formed}
use Rattle.mappings.specs.Along.{turned}
use Rattle.numbering.proofs.mapping.initial.Goals as goal

pub alignment-x-requires : goal.alignment-x-requires
alignment-x-requires c = c.requires.a_bound

pub spread-requires : goal.spread-requires
spread-requires c =
    let file = c.args.directives.now.bytes in
    subst (λ (x : Alignment). x.template < templates file) (sym c.alignment-x.ensures) ((formed file c.args.directives.now.passed).aligned c.args.a c.requires.a_bound).0

pub returns : goal.returns
returns c =
    let file = c.args.directives.now.bytes in
    c.turned.ensures
    ∙ ap (turned c.alignment-x.result.exchanged) c.spread.ensures
    ∙ ap (λ (x : Alignment). turned x.exchanged (spread_at file (template_at x.template))) c.alignment-x.ensures
