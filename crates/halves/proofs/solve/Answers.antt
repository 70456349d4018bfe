-- `halves::solve` meets its contract: the low halves are solved, then, where there are any, the high ones.
use mathlib.Core.Path.{sym, ap, subst, ◌∙◌}
use Prim.Native.Nat.{ℕ, ◌/◌, ◌≤◌}
use lib.ListN.{length}
use Rattle.words.proofs.Tables.{table-length}
use Rattle.halves.proofs.Tables.{tables_given, tables_kept, solved_narrow, solved_wide}
use Rattle.halves.proofs.solve.Goals as goal

pub solve-low-requires : goal.solve-low-requires
solve-low-requires c =
    let size = ap length c.take_low-wide.ensures.halves_after ∙ table-length _ _ ∙ c.requires.sets_len in
    record {
      order = c.requires.order;
      edges_bound = c.requires.edges_bound;
      tables = tables_given c.requires.tables size;
      sets_bound = c.requires.halves_bound;
    }

pub returns-then-not-wide : goal.returns-then-not-wide
returns-then-not-wide c = solved_narrow _ c.requires.tables c.requires.are_halves c.requires.sets_len c.requires.order c.take_low-wide.ensures.halves_after c.solve-low.ensures (c.take_low-wide.ensures.i_value (c.if-not-wide.true)) c.widen.ensures

pub solve_high-high-requires : goal.solve_high-high-requires
solve_high-high-requires c =
    let found = c.solve-low.ensures.size ∙ sym c.requires.tables.whole in
    let given = ap length c.take_low-wide.ensures.halves_after ∙ table-length _ _ ∙ c.requires.sets_len in
    let made = ap length c.put_low.ensures ∙ table-length _ _ ∙ c.requires.sets_len in
    record {
      order = c.requires.order;
      edges_bound = c.requires.edges_bound;
      tables = tables_kept (tables_given c.requires.tables given) found;
      sets_len = made ∙ sym found;
      halves_bound = subst (λ (x : ℕ). x / 8 ≤ 256) (sym found) c.requires.halves_bound;
    }

pub returns : goal.returns
returns c =
    let rows = ap (λ (x : ℕ). x / 8) (c.solve-low.ensures.size ∙ sym c.requires.tables.whole) in
    solved_wide c.args.sets.now c.requires.tables c.requires.are_halves c.requires.sets_len c.requires.order c.take_low-wide.ensures.halves_after c.solve-low.ensures
    c.put_low.ensures rows c.solve_high-high.ensures.solved c.solve_high-high.ensures.sets_after c.max.ensures
