-- `events::tabulate` meets its contract: both tables are emptied, then all rows filled by the actions, and those of the entry and the exit by their events.
use mathlib.Core.Path.{ap}
use Prim.Native.Nat.{ℕ, ◌-◌}
use Rattle.labels.specs.Events.{version_set}
use Rattle.labels.specs.Uses.{use_gives}
use Rattle.passes.proofs.Cells.{cells_events}
use Rattle.passes.proofs.events.tabulate.Goals as goal

pub returns : goal.returns
returns c =
    let well = c.args.routine.now.well in
    let last = ap (λ (n : ℕ). n - 1) c.vertices.ensures in
    record {
      versions = cells_events well version_set c.action_rows.ensures.cells_alone c.event_rows.ensures.versions_after last c.event_rows-2.ensures.versions_after;
      use_gives = cells_events well use_gives c.action_rows.ensures.cells_alone_2 c.event_rows.ensures.uses_after last c.event_rows-2.ensures.uses_after;
    }
