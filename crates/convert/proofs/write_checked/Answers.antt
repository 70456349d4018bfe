-- `write_checked` meets its contract: the routine is written, and 20 and 21 are asked of it.
use mathlib.Core.Path.{◌≡◌, refl, sym, ap₂, ◌∙◌}
use mathlib.Core.List.{List}
use Prim.Native.Nat.{ℕ, ◌≤◌}
use native.Mathlib.Omega.{arith}
use lib.ListN.{length, take, drop}
use lib.Seq.{length-take-le, take-append_seam}
use Rattle.mappings.proofs.Demand.{demand4}
use Rattle.mappings.specs.Computed.{converted}
use Rattle.refusal.proofs.Checks.{exits}
use Rattle.convert.proofs.Ways.{one_given, programmer_refused, prepared}
use Rattle.convert.proofs.write_checked.Goals as goal
use Rattle.convert.proofs.write_checked.Goals.{After-write-n}

-- what the writer leaves
module _ (w : After-write-n) where
  abbrev file : List ℕ
  file = w.args.directives.now.bytes

  abbrev work : List ℕ
  work = w.write-n.new.out

  fits : length (converted file) ≤ 6194
  fits = (demand4 file w.args.directives.now.passed w.requires.file_value w.requires.file_value_2).fits

  within : w.write-n.result ≤ length work
  within = omega (arith, fits, w.write-n.ensures.value, w.write-n.auto.out, w.requires.work_len)

  front : take w.write-n.result work ≡ converted file
  front =
      let bytes = converted file in
      ap₂ take w.write-n.ensures.value w.write-n.ensures.out_after ∙ take-append_seam bytes (drop (length bytes) w.args.work.now)

pub write-n-requires : goal.write-n-requires
write-n-requires c =
    let n = c.requires.all_numbered in
    record {
      single = record { given_are = n.given_are refl; one = one_given c.args.directives.now.bytes c.args.directives.now.passed c.requires.file_value c.requires.file_value_2 };
      version_counts = n.counts_are refl;
      in_bounds = omega (arith, c.requires.work_len);
    }

pub slice_bounds-judge-end : goal.slice_bounds-judge-end
slice_bounds-judge-end c = within (goal.at.slice_bounds-judge-end c).After-write-n

pub slice_bounds-judge-end-2 : goal.slice_bounds-judge-end-2
slice_bounds-judge-end-2 c = sym (length-take-le _ _ (within (goal.at.slice_bounds-judge-end-2 c).After-write-n))

pub judge-requires : goal.judge-requires
judge-requires c =
    record {
      file_value = c.requires.file_value;
      file_value_2 = c.requires.file_value_2;
      routine_value = front (goal.at.judge-requires c).After-write-n;
      order_len = c.requires.order_len;
      versions_len = (c.requires.all_numbered.given_are refl).size;
      uses_len = c.requires.uses_len;
      brought_len = c.requires.brought_len;
      gives_len = c.requires.gives_len;
      passes_len = c.requires.passes_len;
      halves_len = c.requires.halves_len;
    }

pub returns-in_err-judge : goal.returns-in_err-judge
returns-in_err-judge c =
    rw (exits c.from_residual.ensures)
    (programmer_refused c.args.directives.now.bytes c.args.directives.now.passed c.requires.file_value c.requires.file_value_2 c.judge.ensures c.in_err-judge.was)

pub returns : goal.returns
returns c = prepared c.args.directives.now.bytes c.args.directives.now.passed c.requires.file_value c.requires.file_value_2 c.judge.ensures c.in_ok-judge.was c.write-n.ensures.value (within (goal.at.returns c).After-write-n) (front (goal.at.returns c).After-write-n)
