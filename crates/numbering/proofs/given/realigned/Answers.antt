-- `given::realigned` meets its contract: the list grows by what each vertex gave.
use mathlib.Core.Path.{◌≡◌, refl, sym, ap, subst, ◌∙◌}
use Prim.Native.Nat.{ℕ, ◌<◌}
use native.Mathlib.Omega.{arith}
use borrow.Author.Tests.{eq-eqb}
use Rattle.words.specs.Tables.{rows}
use Rattle.directives.specs.Layout.{vertices}
use Rattle.mappings.proofs.Formed.{formed}
use Rattle.mappings.specs.Along.{turned}
use Rattle.mappings.specs.Computed.{spread_by}
use Rattle.numbering.specs.Lists.{Grows}
use Rattle.numbering.proofs.Growth.{grows_none, grows_in, grows_out, grows_as, grows_row}
use Rattle.numbering.proofs.given.realigned.Goals as goal
use Rattle.numbering.proofs.given.realigned.Invariants.{row}
use Rattle.numbering.proofs.given.realigned.Goals.{In-loop-u, then-is_brought, else-is_brought}

pub loop-u-init : goal.loop-u-init
unfolding rows
loop-u-init c = (omega arith, grows_none c.requires.list_len c.requires.count_bound)

-- in the loop there is such a vertex
in_u : (c : In-loop-u) → c.loop-u.u < vertices c.args.directives.now.bytes
in_u c = omega (arith, c.vertices-u-end.ensures)

pub is_brought-requires : goal.is_brought-requires
is_brought-requires c =
    record {
      v_bound = c.requires.v_bound;
      u_bound = in_u c;
      v_value = c.requires.v_value;
      spreads = c.requires.spreads;
    }

pub spread_by-requires : goal.spread_by-requires
spread_by-requires c =
    record {
      t_bound = ((formed c.args.directives.now.bytes c.args.directives.now.passed).realigned c.args.v c.args.a c.args.x c.requires.v_bound c.requires.v_value).0;
      u_bound = in_u (goal.at.spread_by-requires c).In-loop-u;
    }

pub add-q-requires : goal.add-q-requires
add-q-requires c =
    let g = c.loop-u.invariant.1 in
    record {
      list_len = g.room;
      count_bound = g.most;
    }

pub loop-u-preserved : goal.loop-u-preserved
loop-u-preserved c =
    let s = c.args in (
      omega (arith, in_u (goal.at.loop-u-preserved c).In-loop-u),
      grows_row (row s.directives.now.bytes s.v s.x) c.loop-u.u c.loop-u.invariant.1
          (elim c.if-is_brought.branch [
            | then-is_brought w ↦ grows_as w.list-is w.q-is (grows_in (sym c.is_brought.ensures ∙ w.if-is_brought.true) (w.turned.ensures ∙ ap (turned s.x.exchanged) w.spread_by.ensures) w.add-q.ensures)
            | else-is_brought w ↦ grows_as w.list-is w.q-is (grows_out (turned s.x.exchanged (spread_by s.directives.now.bytes s.x.template c.loop-u.u)) (sym c.is_brought.ensures ∙ w.if-is_brought.false) c.loop-u.invariant.1.room c.loop-u.invariant.1.most)
          ]),
    )

pub shape_of-list : goal.shape_of-list
shape_of-list c = c.loop-u.invariant.1.room ∙ sym c.requires.list_len

pub returns : goal.returns
returns c =
    let e : c.loop-u.u ≡ vertices c.args.directives.now.bytes = omega (arith, c.loop-u.invariant.0, c.vertices-u-end.ensures) in
    rw (eq-eqb c.args.a c.args.a refl)
    (subst (λ (n : ℕ). Grows (rows (row c.args.directives.now.bytes c.args.v c.args.x) n) c.args.list.now c.args.p c.loop-u.list c.loop-u.q) e c.loop-u.invariant.1)
