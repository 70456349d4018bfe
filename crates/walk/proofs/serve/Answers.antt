-- `walk::serve` meets its contract: a vertex that may have labels has no references.
use mathlib.Core.Path.{subst}
use Rattle.walk.specs.Walks.{Labels}
use Rattle.walk.proofs.Held.{nothing_referred}
use Rattle.walk.proofs.serve.Goals as goal

pub returns-then-labels : goal.returns-then-labels
returns-then-labels c =
    let file = c.args.routine.now.bytes in
    let none = subst (Labels file c.args.v) c.if-labels.true c.has_labels-labels.ensures in
    record {
      referred = nothing_referred file c.args.v c.args.step c.args.versions.now c.args.stamps.now c.args.out.now none;
      labels = c.has_labels-labels.ensures;
    }

pub refer-bytes-requires : goal.refer-bytes-requires
refer-bytes-requires c =
    let none = subst (Labels c.args.routine.now.bytes c.args.v) c.if-labels.false c.has_labels-labels.ensures in
    record {
      v_bound = c.requires.v_bound;
      unlabelled = none;
      stamps_len = c.requires.stamps_len;
      stamps_in_bounds = c.requires.stamps_in_bounds;
    }

pub returns : goal.returns
returns c =
    record {
      referred = c.refer-bytes.ensures;
      labels = c.has_labels-labels.ensures;
    }
