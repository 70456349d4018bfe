-- `flow::relax` meets its contract: both ends of the edge are vertices, and the row that grows is the one that `relaxed_row` makes.
use mathlib.Core.Path.{ap, ap₂, ◌∙◌}
use mathlib.Core.List.{List}
use Prim.Native.Nat.{ℕ, ◌+◌, ◌*◌, ◌≤◌}
use native.Mathlib.Omega.{arith}
use lib.ListN.{length}
use Rattle.flow.specs.Solver.{handed_row, grown, noted}
use Rattle.flow.proofs.Rounds.{near_lt, far_lt}
use Rattle.flow.proofs.Rows.{handed_by, noted_by, grown_by, recent_by}
use Rattle.flow.proofs.relax.Goals as goal
use Rattle.flow.proofs.relax.Goals.{After-far_end-far}

-- the rows of both ends are within the tables
module _ (c : After-far_end-far) where
  near_row : 8 * c.near_end-near.result + 8 ≤ length c.args.sets.now
  near_row =
      let h = c.requires.tables in
      omega (arith, c.near_end-near.ensures, near_lt h.ends c.args.along c.args.i c.requires.i_bound, h.whole)

  far_row : 8 * c.far_end-far.result + 8 ≤ length c.args.sets.now
  far_row =
      let h = c.requires.tables in
      omega (arith, c.far_end-far.ensures, far_lt h.ends c.args.along c.args.i c.requires.i_bound, h.whole)

pub near_end-near-requires : goal.near_end-near-requires
near_end-near-requires c = c.requires.i_bound

pub far_end-far-requires : goal.far_end-far-requires
far_end-far-requires c = c.requires.i_bound

pub held_row-requires : goal.held_row-requires
held_row-requires c =
    record {
      v_in_bounds = far_row (goal.at.held_row-requires c).After-far_end-far;
      recent = c.requires.recent;
    }

pub handed-brought-requires : goal.handed-brought-requires
handed-brought-requires c =
    let h = c.requires.tables in
    record {
      u_in_bounds = omega (arith, far_row (goal.at.handed-brought-requires c).After-far_end-far, h.gives_all);
      u_in_bounds_2 = omega (arith, far_row (goal.at.handed-brought-requires c).After-far_end-far, h.passes_all);
    }

pub held_row-held-requires : goal.held_row-held-requires
held_row-held-requires c =
    record {
      v_in_bounds = near_row (goal.at.held_row-held-requires c).After-far_end-far;
      recent = c.requires.recent;
    }

pub put-requires : goal.put-requires
put-requires c = near_row (goal.at.put-requires c).After-far_end-far

pub returns : goal.returns
returns c =
    let a = c.args in
    let sets = a.sets.now in
    let row = c.handed-brought.ensures ∙ handed_by sets c.far_end-far.result c.held_row.ensures a.gives.now a.passes.now
    ∙ ap (handed_row a.gives.now a.passes.now sets) c.far_end-far.ensures in
    let made = c.put.ensures ∙ grown_by sets c.near_end-near.result c.held_row-held.ensures c.handed-brought.result c.joined-row.ensures in
    record {
      note_value = c.noted-note.ensures ∙ noted_by sets c.near_end-near.result c.held_row-held.ensures a.last.note c.handed-brought.result ∙ ap₂ (noted a.last.note sets) c.near_end-near.ensures row;
      vertex_value = c.near_end-near.ensures;
      recent_2 = recent_by sets c.near_end-near.result c.held_row-held.ensures c.handed-brought.result c.joined-row.ensures (near_row (goal.at.returns c).After-far_end-far) made;
      sets_after = made ∙ ap₂ (λ (v : ℕ) (r : List ℕ). grown sets v r 8) c.near_end-near.ensures row;
    }
