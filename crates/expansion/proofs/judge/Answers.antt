-- `judge` meets its contract: what is judged is the file with calls as references.
use mathlib.Core.Path.{◌≡◌, sym, ap, subst, ◌∙◌}
use mathlib.Core.List.{List}
use Prim.Native.Nat.{ℕ, ◌*◌}
use Rattle.calls.proofs.Referring.{same_vertices, same_count}
use Rattle.calls.specs.Referring.{referring}
use Rattle.checks.specs.Rows.{Judged}
use Rattle.labels.specs.Routines.{ReadAs}
use Rattle.routine.specs.Layout.{vertices, edges}
use Rattle.expansion.proofs.Ways.{refers_read, judged_calls}
use Rattle.expansion.proofs.judge.Goals as goal
use Rattle.expansion.proofs.judge.Goals.{After-new-referring}

pub new-referring-requires : goal.new-referring-requires
new-referring-requires c = subst (λ (s : List ℕ). ReadAs s c.header.result) (sym c.write.ensures) (refers_read c.requires.interfaces c.header.ensures.read)

referring_is : (c : After-new-referring) → c.new-referring.result.bytes ≡ referring c.args.routine.now.bytes
referring_is c = c.new-referring.ensures ∙ c.write.ensures

pub judge-requires : goal.judge-requires
judge-requires c =
    let file = c.args.routine.now.bytes in
    let is = sym (referring_is (goal.at.judge-requires c).After-new-referring) in
    let all = ap (λ (n : ℕ). 8 * n) (sym (same_vertices file c.args.routine.now.well.laid) ∙ ap vertices is) in
    record {
      order_len = c.requires.order_len ∙ sym (same_count file c.args.routine.now.well.laid) ∙ ap edges is;
      versions_len = c.requires.versions_len ∙ all;
      uses_len = c.requires.uses_len ∙ all;
      brought_len = c.requires.brought_len ∙ all;
      gives_len = c.requires.gives_len ∙ all;
      passes_len = c.requires.passes_len ∙ all;
      halves_len = c.requires.halves_len ∙ all;
    }

pub returns : goal.returns
returns c =
    judged_calls c.args.routine.now.well
    (subst (λ (s : List ℕ). Judged s c.judge.result c.judge.new.brought) (referring_is (goal.at.returns c).After-new-referring) c.judge.ensures)
