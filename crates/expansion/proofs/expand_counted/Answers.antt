-- `expand_counted` meets its contract: 22, and where it passes the rest.
use Rattle.std.specs.Prelude.{Err}
use mathlib.Core.Path.{ap}
use Prim.Native.Nat.{ℕ}
use native.Mathlib.Omega.{arith}
use Rattle.refusal.specs.declared.Refusal.TheVariants.{TooManyVertices}
use Rattle.expansion.proofs.Ways.{too_many}
use Rattle.expansion.proofs.expand_counted.Goals as goal

pub returns-then-count-gt-MAX_VERTICES : goal.returns-then-count-gt-MAX_VERTICES
returns-then-count-gt-MAX_VERTICES c = too_many c.args.routine.now.bytes (omega (arith, c.fill_firsts-count.ensures.value)) (ap (λ (n : ℕ). Err (TooManyVertices n)) c.fill_firsts-count.ensures.value)

pub expand_few-requires : goal.expand_few-requires
expand_few-requires c =
    record {
      expandable = record { well = c.args.routine.now.well; interfaces = c.requires.interfaces; few_edges = c.requires.few_edges; few_vertices = omega (arith, c.fill_firsts-count.ensures.value) };
      firsts = c.fill_firsts-count.ensures.firsts;
      vertices_counted = c.fill_firsts-count.ensures.value;
      out_len = c.requires.out_len;
    }
