-- `numbers::check` meets its contract: a scan of the arrays, each of which is numbered.
use mathlib.Core.Path.{refl, sym, ◌∙◌}
use Prim.Native.Nat.{◌<◌}
use native.Mathlib.Omega.{arith}
use Rattle.directives.proofs.Limits.{read_limits}
use Rattle.directives.specs.Layout.{arrays}
use Rattle.mappings.specs.Computed.{check41}
use Rattle.refusal.proofs.Checks.{scan_start, scan_stop, scan_next, scan_done}
use Rattle.numbering.proofs.Columns.{few_passes, many_fails, all_start, all_next, all_end, none_numbered}
use Rattle.numbering.proofs.numbers.check.Goals as goal
use Rattle.numbering.proofs.numbers.check.Goals.{In-loop-a}

pub loop-a-init : goal.loop-a-init
loop-a-init c = (scan_start _ _, all_start c.requires.given_len c.requires.counts_len)

-- in the loop there is such an array
in_a : (c : In-loop-a) → c.loop-a.a < arrays c.args.directives.now.bytes
in_a c = omega (arith, c.arrays-a-end.ensures)

few : (c : In-loop-a) → c.loop-a.a < 8
few c = omega (arith, in_a c, (read_limits c.args.directives.now).few_arrays)

pub number_array-count-requires : goal.number_array-count-requires
number_array-count-requires c =
    record {
      a_bound = in_a (goal.at.number_array-count-requires c).In-loop-a;
      alignments = c.requires.alignments;
      spreads = c.requires.spreads;
      given_len = c.loop-a.invariant.1.given_size;
    }

pub shape_of-given-then-count-gt-WIDTH : goal.shape_of-given-then-count-gt-WIDTH
shape_of-given-then-count-gt-WIDTH c = c.number_array-count.ensures.size ∙ sym c.requires.given_len

pub shape_of-counts-then-count-gt-WIDTH : goal.shape_of-counts-then-count-gt-WIDTH
shape_of-counts-then-count-gt-WIDTH c = c.loop-a.invariant.1.counts_size ∙ sym c.requires.counts_len

pub returns-then-count-gt-WIDTH : goal.returns-then-count-gt-WIDTH
unfolding check41
returns-then-count-gt-WIDTH c =
    record {
      value = scan_stop c.loop-a.invariant.0 (in_a (goal.at.returns-then-count-gt-WIDTH c).In-loop-a) (many_fails c.number_array-count.ensures c.if-count-gt-WIDTH.true) refl;
      all_numbered = none_numbered;
    }

pub bounds-counts-a : goal.bounds-counts-a
bounds-counts-a c = omega (arith, few (goal.at.bounds-counts-a c).In-loop-a, c.loop-a.invariant.1.counts_size)

pub loop-a-preserved : goal.loop-a-preserved
loop-a-preserved c = (scan_next c.loop-a.invariant.0 (in_a (goal.at.loop-a-preserved c).In-loop-a) (few_passes c.number_array-count.ensures c.if-count-gt-WIDTH.false) refl, all_next c.number_array-count.ensures (few (goal.at.loop-a-preserved c).In-loop-a) c.if-count-gt-WIDTH.false c.loop-a.invariant.1)

pub shape_of-given : goal.shape_of-given
shape_of-given c = c.loop-a.invariant.1.given_size ∙ sym c.requires.given_len

pub shape_of-counts : goal.shape_of-counts
shape_of-counts c = c.loop-a.invariant.1.counts_size ∙ sym c.requires.counts_len

pub returns : goal.returns
unfolding check41
returns c =
    let e = c.arrays-a-end.ensures in
    record {
      value = scan_done c.loop-a.invariant.0 (omega arith);
      all_numbered = all_end (omega arith) c.loop-a.invariant.1;
    }
