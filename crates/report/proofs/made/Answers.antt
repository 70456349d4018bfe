-- `made` meets its contract, case by case.
use mathlib.Core.Path.{sym, ap}
use Rattle.routine.specs.declared.action.Access.{Access}
use Rattle.report.specs.Records.{record_of}
use Rattle.report.proofs.made.Goals as goal

pub returns-in-Read : goal.returns-in-Read
returns-in-Read c =
    let a = c.args in
    sym (ap (λ (x : Access). record_of x a.step a.array a.version a.stamp) c.in-Read.is)

pub returns-in-Define : goal.returns-in-Define
returns-in-Define c =
    let a = c.args in
    sym (ap (λ (x : Access). record_of x a.step a.array a.version a.stamp) c.in-Define.is)

pub returns-in-Modify : goal.returns-in-Modify
returns-in-Modify c =
    let a = c.args in
    sym (ap (λ (x : Access). record_of x a.step a.array a.version a.stamp) c.in-Modify.is)

pub returns-in-Kill : goal.returns-in-Kill
returns-in-Kill c =
    let a = c.args in
    sym (ap (λ (x : Access). record_of x a.step a.array a.version a.stamp) c.in-Kill.is)
