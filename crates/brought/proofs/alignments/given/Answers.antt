-- `alignments::given` meets its contract: an alignment of the file is below 16 as a number.
use mathlib.Core.Path.{◌≡◌, sym, ap, subst, ◌∙◌}
use mathlib.Core.Bool.{Bool, cond}
use Prim.Native.Nat.{◌^◌}
use native.Mathlib.Omega.{arith}
use Rattle.directives.specs.declared.array.Alignment.{Alignment}
use Rattle.directives.proofs.Limits.{read_limits}
use Rattle.mappings.specs.Along.{initial_state}
use Rattle.mappings.specs.Computed.{alignment_of, code}
use Rattle.mappings.specs.Theorem.{Right}
use Rattle.brought.proofs.alignments.given.Goals as goal
use Rattle.brought.proofs.alignments.given.Goals.{Start, After-alignment_of}

-- the alignment of the contract
abbrev alignment : Start → Alignment
alignment s = alignment_of ((initial_state s.args.directives.now.bytes).aligned s.args.a) s.args.d

-- the alignment that is made a set
is_alignment : (c : After-alignment_of) → c.alignment_of.result ≡ alignment (goal.at.After-alignment_of c).Start
is_alignment c =
    c.alignment_of.ensures ∙ ap (λ (x : Alignment). alignment_of x c.args.d) c.alignment.ensures

pub alignment-requires : goal.alignment-requires
alignment-requires c = c.requires.a_bound

pub single-requires : goal.single-requires
single-requires c =
    let right = subst (Right c.args.directives.now.bytes) (sym (is_alignment (goal.at.single-requires c).After-alignment_of)) c.requires.right in
    (omega (arith, right.0, (read_limits c.args.directives.now).few_templates), right.1)

pub returns-then-aligns : goal.returns-then-aligns
returns-then-aligns c =
    c.single.ensures
    ∙ ap (λ (x : Alignment). 2 ^ code x) (is_alignment (goal.at.returns-then-aligns c).After-alignment_of)
    ∙ ap (λ (b : Bool). cond b (2 ^ code (alignment (goal.at.returns-then-aligns c).Start)) 0) (sym c.if-aligns.true)
