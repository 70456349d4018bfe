-- `put` meets its contract: a reference has one record, any other event none.
use mathlib.Core.Path.{◌≡◌, sym, ap, ◌∙◌}
use mathlib.Core.Bool.{cond}
use mathlib.Core.List.{List, append-nil}
use Prim.Native.Nat.{ℕ, ◌*◌}
use native.Mathlib.Omega.{arith}
use lib.ListN.{length}
use Rattle.routine.specs.Actions.{is_reference}
use Rattle.routine.specs.declared.action.Access.{Access}
use Rattle.routine.specs.declared.action.Action.{Action}
use Rattle.routine.specs.declared.action.Action.TheVariants.{Reference}
use Rattle.report.specs.declared.record.Record.{Record}
use Rattle.report.specs.Records.{record_of, records_at}
use Rattle.report.specs.Bytes.{record_bytes, records_bytes}
use Rattle.words.specs.Tables.{wrote}
use Rattle.report.proofs.Bytes.{ten}
use Rattle.report.proofs.put.Goals as goal

-- a reference has one record of ten bytes
module _ {x : Action} {y : Access} (step a version stamp : ℕ) (e : x ≡ Reference y) where
  one : record_bytes (record_of y step a version stamp) ≡ records_bytes (records_at x step a version stamp)
  one = rw (e, append-nil)

  one_length : length (records_bytes (records_at x step a version stamp)) ≡ 10
  one_length = ten x step a version stamp ∙ ap (λ (z : Action). 10 * cond (is_reference z) 1 0) e

pub write_record-requires : goal.write_record-requires
write_record-requires c =
    let g = c.args in
    omega (arith, one_length g.step g.a g.version g.stamp c.in-Reference.is, c.requires.stamp_in_bounds)

pub returns-in-Reference : goal.returns-in-Reference
returns-in-Reference c =
    let g = c.args in
    let e = c.in-Reference.is in
    record {
      value = sym (one_length g.step g.a g.version g.stamp e);
      out_after = c.write_record.ensures ∙ ap (λ (r : Record). wrote g.out.now (record_bytes r)) c.made.ensures
          ∙ ap (λ (r : List ℕ). wrote g.out.now r) (one g.step g.a g.version g.stamp e);
    }
