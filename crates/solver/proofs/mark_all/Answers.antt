-- `solver::mark_all` meets its contract. The invariant: the blocks of the turns so far are marked. The measure is what is left of the turns.
use mathlib.Core.Path.{◌≡◌, refl, sym, ap, subst, ◌∙◌}
use mathlib.Core.List.{List}
use Prim.Native.Nat.{ℕ, ◌^◌, ◌<◌, zero-le}
use native.Mathlib.Omega.{arith}
use lib.Bits.{bit_or}
use lib.ListN.{length, get_or, set, length-set}
use Rattle.sets.specs.Sets.{has}
use Rattle.flow.specs.Paths.{edge_count}
use Rattle.flow.specs.Solver.{far, turn}
use Rattle.flow.proofs.Rounds.{turn_lt, far_lt}
use Rattle.solver.specs.Blocks.{block_of}
use Rattle.solver.proofs.Blocks.{marked_more}
use Rattle.solver.proofs.mark_all.Goals as goal
use Rattle.solver.proofs.mark_all.Goals.{After-far_end-v}

pub loop-j-init : goal.loop-j-init
loop-j-init c = (refl, zero-le, λ k l. absurd (omega arith))

-- the far end of the edge whose turn it is
module _ (c : After-far_end-v) where
  far_is : c.far_end-v.result ≡ far c.args.edges.now c.args.along (turn c.args.order.now c.args.along c.loop-j.j)
  far_is = c.far_end-v.ensures ∙ ap (far c.args.edges.now c.args.along) c.edge_at.ensures

  far_fits : c.far_end-v.result < length c.loop-j.marks
  far_fits = omega (
    arith,
    far_is,
    c.loop-j.invariant.0,
    far_lt c.requires.ends c.args.along (turn c.args.order.now c.args.along c.loop-j.j) (turn_lt c.requires.order c.args.along c.loop-j.j c.loop-j-test.true),
  )

  few : block_of c.loop-j.j < 64
  few = omega (arith, c.loop-j-test.true, c.requires.order.all, c.requires.edges_bound)

pub edge_at-requires : goal.edge_at-requires
edge_at-requires c = omega (arith, c.loop-j-test.true)

pub far_end-v-requires : goal.far_end-v-requires
far_end-v-requires c = subst (λ (i : ℕ). i < edge_count c.args.edges.now) (sym c.edge_at.ensures) (turn_lt c.requires.order c.args.along c.loop-j.j c.loop-j-test.true)

pub mark-requires : goal.mark-requires
mark-requires c =
    record {
      v_in_bounds = far_fits (goal.at.mark-requires c).After-far_end-v;
      b_bound = few (goal.at.mark-requires c).After-far_end-v;
    }

pub loop-j-preserved : goal.loop-j-preserved
loop-j-preserved c =
    let made : c.mark.new.marks ≡ set c.loop-j.marks (far c.args.edges.now c.args.along (turn c.args.order.now c.args.along c.loop-j.j)) _ = c.mark.ensures ∙ ap (λ (v : ℕ). set c.loop-j.marks v (bit_or (get_or c.loop-j.marks v 0) (2 ^ block_of c.loop-j.j))) (far_is (goal.at.loop-j-preserved c).After-far_end-v) in (
      ap length made ∙ simp length-set c.loop-j.invariant.0,
      omega (arith, c.loop-j-test.true),
      λ k h. ap (λ (m : List ℕ). has (get_or m (far c.args.edges.now c.args.along (turn c.args.order.now c.args.along k)) 0) (block_of k)) made
          ∙ marked_more c.args.edges.now c.args.order.now c.args.along c.loop-j.marks c.loop-j.j (subst (λ (v : ℕ). v < length c.loop-j.marks) (far_is (goal.at.loop-j-preserved c).After-far_end-v) (far_fits (goal.at.loop-j-preserved c).After-far_end-v)) c.loop-j.invariant.2 k h,
    )

pub shape_of-marks : goal.shape_of-marks
shape_of-marks c = c.loop-j.invariant.0

pub returns : goal.returns
returns c = record { each = λ k h. c.loop-j.invariant.2 k (omega (arith, c.loop-j-test.false)) }
