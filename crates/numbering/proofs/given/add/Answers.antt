-- `given::add` meets its contract, by what the directive is.
use mathlib.Core.Path.{◌≡◌, refl, sym, ap, subst, ◌∙◌}
use mathlib.Core.Bool.{cond}
use mathlib.Core.List.{List, [], ◌∷◌}
use Prim.Native.Nat.{ℕ, ◌+◌, ◌*◌, ◌<◌}
use native.Mathlib.Omega.{arith}
use borrow.Author.Tests.{ne_eqb}
use Rattle.words.specs.Tables.{rows}
use Rattle.flow.proofs.Cells.{in_cells}
use Rattle.directives.proofs.Limits.{read_limits}
use Rattle.directives.specs.Directives.{directive}
use Rattle.directives.specs.declared.array.Alignment.{Alignment}
use Rattle.directives.specs.declared.spread.Mapping.{Mapping}
use Rattle.directives.specs.declared.vertex.Directive.{Directive}
use Rattle.directives.specs.declared.vertex.Directive.TheVariants.{Realign}
use Rattle.mappings.proofs.Formed.{vertex_redistributed}
use Rattle.mappings.specs.Along.{turned}
use Rattle.mappings.specs.Computed.{given_by, given_to}
use Rattle.numbering.specs.Lists.{Grows}
use Rattle.numbering.specs.declared.list.Numbered.{Numbered}
use Rattle.numbering.proofs.Growth.{grows_none}
use Rattle.sets.specs.Sets.{has}
use Rattle.numbering.proofs.given.add.Goals as goal
use Rattle.numbering.proofs.given.add.Goals.{Start, Then-a-b}

-- the list has grown by these mappings
abbrev Grown : Start → List Mapping → List Mapping → Numbered → Type 0
Grown s ms list q = Grows ms s.args.list.now (record { count = s.args.count; given = 0 }) list q

-- by those of the directive
gives : (s : Start) {d : Directive} {list : List Mapping} {q : Numbered} → directive s.args.directives.now.bytes s.args.v ≡ d
    → Grown s (given_by s.args.directives.now.bytes s.args.a s.args.v d) list q → Grown s (given_to s.args.directives.now.bytes s.args.a s.args.v) list q
unfolding given_to
gives s {list = list} {q = q} e g = subst (λ (d : Directive). Grown s (given_by s.args.directives.now.bytes s.args.a s.args.v d) list q) (sym e) g

-- by none
stays : (s : Start) {ms : List Mapping} → ms ≡ [] → Grown s ms s.args.list.now (record { count = s.args.count; given = 0 })
stays s e = rw e (grows_none s.requires.list_len s.requires.count_bound)

-- a realign of another array
other_by : (file : List ℕ) (a v b : ℕ) (x : Alignment) → (a ≡ b → ⊥) → given_by file a v (Realign b x) ≡ []
other_by file a v b x other = rw (ne_eqb a b other)

-- ---- a redistribute
pub directive-requires : goal.directive-requires
directive-requires c = c.requires.v_bound

few : (s : Start) → 8 * s.args.v + s.args.a < 2048
few s = let l = (read_limits s.args.directives.now) in omega (arith, s.requires.a_bound, s.requires.v_bound, l.few_arrays, l.few_vertices)

pub overflow_add-at : goal.overflow_add-at
overflow_add-at c = omega (arith, few (goal.at.overflow_add-at c).Start)

pub offset_bounds-aligned-at : goal.offset_bounds-aligned-at
offset_bounds-aligned-at c = omega (arith, few (goal.at.offset_bounds-aligned-at c).Start)

pub bounds-aligned-at : goal.bounds-aligned-at
bounds-aligned-at c = omega (arith, c.requires.alignments.size, in_cells (read_limits c.args.directives.now).few_arrays c.requires.a_bound c.requires.v_bound)

pub overflow_cast-aligned : goal.overflow_cast-aligned
overflow_cast-aligned c = let a = c.args in omega (arith, c.type_inv.aligned (8 * a.v + a.a))

pub redistributed-requires : goal.redistributed-requires
redistributed-requires c =
    let t = vertex_redistributed c.args.directives.now.bytes c.args.directives.now.passed c.args.v c.requires.v_bound _ _ (sym c.directive.ensures ∙ c.in-Redistribute.is) in
    record {
      t_bound = omega (arith, t, (read_limits c.args.directives.now).few_templates);
      list_len = c.requires.list_len;
      count_bound = c.requires.count_bound;
    }

pub returns-in-Redistribute : goal.returns-in-Redistribute
returns-in-Redistribute c =
    gives (goal.at.returns-in-Redistribute c).Start (sym c.directive.ensures ∙ c.in-Redistribute.is)
    (subst (λ (set : ℕ). Grown (goal.at.returns-in-Redistribute c).Start (rows (λ e. cond (has set (2 * c.in-Redistribute.t + e)) (turned e c.in-Redistribute.m ∷ []) []) 2) c.redistributed.new.list c.redistributed.result)
    (c.requires.alignments.cells c.args.a c.args.v c.requires.a_bound c.requires.v_bound)
    c.redistributed.ensures)

is_realign : (c : Then-a-b) → directive c.args.directives.now.bytes c.args.v ≡ Realign c.args.a c.in-Realign.x
is_realign c =
    sym c.directive.ensures ∙ c.in-Realign.is ∙ ap (λ (b : ℕ). Realign b c.in-Realign.x) (sym c.if-a-b.true)

pub realigned-requires : goal.realigned-requires
realigned-requires c =
    record {
      v_bound = c.requires.v_bound;
      v_value = is_realign (goal.at.realigned-requires c).Then-a-b;
      spreads = c.requires.spreads;
      list_len = c.requires.list_len;
      count_bound = c.requires.count_bound;
    }

pub returns-in-Realign : goal.returns-in-Realign
returns-in-Realign c = gives (goal.at.returns-in-Realign c).Start (is_realign (goal.at.returns-in-Realign c).Then-a-b) c.realigned.ensures

-- ---- nothing
pub returns-in_default : goal.returns-in_default
returns-in_default c =
    gives (goal.at.returns-in_default c).Start (sym c.directive.ensures ∙ c.in-Realign.is)
    (stays (goal.at.returns-in_default c).Start (other_by c.args.directives.now.bytes c.args.a c.args.v c.in-Realign.b c.in-Realign.x c.if-a-b.false))

pub returns-in_default-2 : goal.returns-in_default-2
returns-in_default-2 c =
    gives (goal.at.returns-in_default-2 c).Start (sym c.directive.ensures ∙ c.in_default.is)
    (stays (goal.at.returns-in_default-2 c).Start refl)
