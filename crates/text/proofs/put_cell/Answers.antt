-- `text::put_cell` meets its contract: one byte behind the column.
use mathlib.Core.Path.{◌≡◌, ap₂, ◌∙◌}
use mathlib.Core.Bool.{cond}
use mathlib.Core.List.{List}
use Prim.Native.Nat.{ℕ}
use native.Mathlib.Omega.{arith}
use lib.ListN.{length, set}
use Rattle.words.proofs.Written.{wrote-length, write_one}
use Rattle.text.specs.Text.{column_text}
use Rattle.text.proofs.Cells.{column_most}
use Rattle.text.proofs.put_cell.Goals as goal
use Rattle.text.proofs.put_cell.Goals.{After-put_column-at}

fits : (c : After-put_column-at) → length c.put_column-at.new.out ≡ length c.args.out.now
fits c =
    wrote-length c.args.out.now (column_text c.args.column) c.put_column-at.ensures.out_after (omega (arith, column_most c.args.column, c.requires))

pub bounds-out-at : goal.bounds-out-at
bounds-out-at c = omega (arith, fits (goal.at.bounds-out-at c).After-put_column-at, column_most c.args.column, c.put_column-at.ensures.value, c.requires)

pub returns-clause-out_after : goal.returns-clause-out_after
returns-clause-out_after c =
    let text = column_text c.args.column in
    let last : ℕ = cond c.args.last 10 32 in
    ap₂ (λ (l : List ℕ) (b : ℕ). set l c.put_column-at.result b) c.put_column-at.ensures.out_after c.separator_after.ensures
    ∙ write_one c.args.out.now text last _ c.put_column-at.ensures.value (omega (arith, column_most c.args.column, c.put_column-at.ensures.value, c.requires))
