-- `given::redistributed` meets its contract: the list grows by the spread straight, then exchanged.
use mathlib.Core.Path.{◌≡◌, sym, subst, ◌∙◌}
use Prim.Native.Nat.{ℕ}
use native.Mathlib.Omega.{arith}
use Rattle.words.specs.Tables.{rows}
use Rattle.mappings.specs.Along.{turned}
use Rattle.numbering.specs.Lists.{Grows}
use Rattle.numbering.proofs.Growth.{grows_none, grows_in, grows_out, grows_as, grows_row}
use Rattle.numbering.proofs.given.redistributed.Goals as goal
use Rattle.numbering.proofs.given.redistributed.Invariants.{row}
use Rattle.numbering.proofs.given.redistributed.Goals.{then-member, else-member}

pub loop-e-init : goal.loop-e-init
unfolding rows
loop-e-init c = (omega arith, grows_none c.requires.list_len c.requires.count_bound)

pub add-q-requires : goal.add-q-requires
add-q-requires c =
    let g = c.loop-e.invariant.1 in
    record {
      list_len = g.room;
      count_bound = g.most;
    }

pub loop-e-preserved : goal.loop-e-preserved
loop-e-preserved c =
    let s = c.args in (
      omega arith,
      grows_row (row s.t s.m s.aligned) c.loop-e.e c.loop-e.invariant.1
          (elim c.if-member.branch [
            | then-member w ↦ grows_as w.list-is w.q-is (grows_in (sym c.member.ensures ∙ w.if-member.true) w.turned.ensures w.add-q.ensures)
            | else-member w ↦ grows_as w.list-is w.q-is (grows_out (turned c.loop-e.e s.m) (sym c.member.ensures ∙ w.if-member.false) c.loop-e.invariant.1.room c.loop-e.invariant.1.most)
          ]),
    )

pub shape_of-list : goal.shape_of-list
shape_of-list c = c.loop-e.invariant.1.room ∙ sym c.requires.list_len

pub returns : goal.returns
returns c =
    let s = c.args in
    let e : c.loop-e.e ≡ 2 = omega (arith, c.loop-e.invariant.0) in
    subst (λ (n : ℕ). Grows (rows (row s.t s.m s.aligned) n) s.list.now s.p c.loop-e.list c.loop-e.q) e c.loop-e.invariant.1
