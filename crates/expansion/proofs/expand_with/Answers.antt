-- `expand_with` meets its contract: 20 and 21, and where both pass the expanded routine.
use mathlib.Core.Path.{refl, sym, ap, ◌∙◌}
use mathlib.Core.List.{◌++◌}
use native.Mathlib.Omega.{arith}
use lib.ListN.{length, drop}
use lib.Seq.{length-take-le, length_front}
use Rattle.calls.proofs.Written.{no_shorter}
use Rattle.expansion.proofs.Ways.{calls_refused, calls_expanded}
use Rattle.expansion.proofs.expand_with.Goals as goal

pub slice_bounds-judge-end : goal.slice_bounds-judge-end
slice_bounds-judge-end c = omega (arith, ap length c.bytes-size.ensures, no_shorter c.requires.expandable, c.requires.out_room)

pub slice_bounds-judge-end-2 : goal.slice_bounds-judge-end-2
slice_bounds-judge-end-2 c = sym (length-take-le (length c.bytes-size.result.now) c.args.out.now (omega (arith, ap length c.bytes-size.ensures, no_shorter c.requires.expandable, c.requires.out_room)))

pub judge-judged-requires : goal.judge-judged-requires
judge-judged-requires c =
    record {
      interfaces = c.requires.expandable.interfaces;
      judged_len = length-take-le (length c.bytes-size.result.now) c.args.out.now (omega (arith, ap length c.bytes-size.ensures, no_shorter c.requires.expandable, c.requires.out_room)) ∙ ap length c.bytes-size.ensures;
      order_len = c.requires.order_len;
      versions_len = c.requires.versions_len;
      uses_len = c.requires.uses_len;
      brought_len = c.requires.brought_len;
      gives_len = c.requires.gives_len;
      passes_len = c.requires.passes_len;
      halves_len = c.requires.halves_len;
    }

pub returns-in-Err : goal.returns-in-Err
returns-in-Err c = calls_refused c.args.routine.now.bytes c.requires.expandable.few_vertices c.judge-judged.ensures c.in-Err.is refl

pub write-e-requires : goal.write-e-requires
write-e-requires c =
    let can = c.requires.expandable in
    let front = length_front c.args.out.now c.judge-judged.new.judged (length c.bytes-size.result.now) c.judge-judged.auto.judged in
    record {
      interfaces = can.interfaces;
      file_bound = can.few_edges;
      file_bound_2 = can.few_vertices;
      vertices_value = c.requires.vertices_counted;
      firsts = c.requires.firsts;
      arrivals = c.judge-judged.ensures.arrivals_are c.in_default.is;
      file_in_bounds = omega (arith, c.requires.out_room, front);
    }

pub returns : goal.returns
returns c =
    calls_expanded c.args.routine.now.bytes c.requires.expandable.few_vertices c.judge-judged.ensures
    (c.judge-judged.new.judged ++ drop (length c.bytes-size.result.now) c.args.out.now) c.in_default.is c.write-e.ensures.value c.write-e.ensures.out_after
