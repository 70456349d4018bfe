-- `edges::of_expanded` meets its contract: the header is that of the expanded routine.
use Rattle.std.specs.Prelude.{Ok}
use Rattle.std.proofs.Common.{rules}
use Rattle.std.proofs.lemmas.Result.{MatchResult-at_ok}
use mathlib.Core.Path.{◌≡◌, sym, ap, ◌∙◌}
use Rattle.calls.proofs.Checks.{calls_expanded}
use Rattle.calls.proofs.Interfaces.{interfaces_read}
use Rattle.routine.proofs.Accepted.{passed_edges}
use Rattle.routine.specs.Layout.{edges, header_of}
use Rattle.routine.specs.Reader.{answered}
use Rattle.refusal.specs.Checks.{Verdict}
use Rattle.calls.specs.Expanded.{expanded}
use Rattle.run.proofs.edges.of_expanded.Goals as goal

pub expand-expanded-requires : goal.expand-expanded-requires
expand-expanded-requires c =
    let file = c.args.routine.now.bytes in
    record {
      interfaces = interfaces_read file c.requires.calls_read.passed;
      few_edges = passed_edges file c.requires.calls_read.passed;
      out_len = c.requires.work_len;
    }

pub returns : goal.returns
returns c = λ passed.
    let file = c.args.routine.now.bytes in
    let e : c.expand-expanded.result.answer ≡ Ok (header_of (expanded file)) = c.expand-expanded.ensures.answers ∙ ap (λ (v : Verdict). answered v (header_of (expanded file))) passed in
    let p = MatchResult-at_ok _ _ (header_of (expanded file)) e c.map_or.ensures in
    let is : c.map_or.result ≡ edges (expanded file) = search rules in
    is ∙ sym (ap edges (calls_expanded file c.requires.calls_read.some))
