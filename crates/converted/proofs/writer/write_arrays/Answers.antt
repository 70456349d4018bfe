-- `writer::write_arrays` meets its contract. The invariant: the records of the arrays before a are written. The measure is what is left.
use mathlib.Core.Path.{◌≡◌, sym, ap₂, ◌∙◌}
use mathlib.Core.List.{[], ◌∷◌}
use Prim.Native.Nat.{ℕ, ◌*◌, ◌≤◌, ◌<◌}
use native.Mathlib.Omega.{arith}
use lib.ListN.{length}
use Rattle.directives.proofs.Limits.{read_limits}
use Rattle.directives.specs.Layout.{arrays}
use Rattle.mappings.proofs.Bytes.{records_size}
use Rattle.mappings.specs.Computed.{given_to}
use Rattle.mappings.specs.Converted.{array_bytes}
use Rattle.words.proofs.Buffers.{begin, buffer_length, end, lies, lent, next_row}
use Rattle.words.proofs.Written.{part_from}
use Rattle.words.specs.Tables.{rows, wrote}
use Rattle.converted.proofs.writer.write_arrays.Goals as goal
use Rattle.converted.proofs.writer.write_arrays.Goals.{At-loop-a, In-loop-a}

pub loop-a-init : goal.loop-a-init
loop-a-init c =
    let file = c.args.directives.now.bytes in
    begin _ _ _ (omega (arith, c.requires.file_in_bounds, records_size file (given_to file) (arrays file)))

-- where the record of array a is to stand
here : (c : At-loop-a) → let file = c.args.directives.now.bytes in
    4 * c.loop-a.a ≡ length (rows (array_bytes file (given_to file)) c.loop-a.a)
here c = let file = c.args.directives.now.bytes in sym (records_size file (given_to file) c.loop-a.a)

-- array a is one of the file's
listed : (c : In-loop-a) → (c.loop-a.a < arrays c.args.directives.now.bytes) × (arrays c.args.directives.now.bytes ≤ 8)
listed c =
    omega (arith, c.loop-a-test.true, c.arrays-a-end.ensures, (read_limits c.args.directives.now).few_arrays)

pub overflow_mul-at : goal.overflow_mul-at
overflow_mul-at c = omega (arith, listed c)

pub slice_bounds-write_record-count : goal.slice_bounds-write_record-count
slice_bounds-write_record-count c = lies c.loop-a.invariant (here (goal.at.slice_bounds-write_record-count c).At-loop-a) (listed c).0

pub slice_bounds-write_record-start : goal.slice_bounds-write_record-start
slice_bounds-write_record-start c = slice_bounds-write_record-count c

pub kind-requires : goal.kind-requires
kind-requires c = (listed (goal.at.kind-requires c).In-loop-a).0

pub bounds-counts-a : goal.bounds-counts-a
bounds-counts-a c = omega (arith, listed (goal.at.bounds-counts-a c).In-loop-a, c.requires.version_counts.size)

pub write_record-requires : goal.write_record-requires
write_record-requires c = lent c.loop-a.invariant (here (goal.at.write_record-requires c).At-loop-a) (listed (goal.at.write_record-requires c).In-loop-a).0

pub loop-a-preserved : goal.loop-a-preserved
loop-a-preserved c =
    let a = c.loop-a.a in
    let part = part_from c.loop-a.out (4 * a) in
    next_row c.loop-a.invariant (here (goal.at.loop-a-preserved c).At-loop-a) (listed (goal.at.loop-a-preserved c).In-loop-a).0
    (c.write_record.ensures
    ∙ ap₂ (λ (x y : ℕ). wrote part (x ∷ y ∷ 0 ∷ 0 ∷ [])) c.kind.ensures (c.requires.version_counts.are a (listed (goal.at.loop-a-preserved c).In-loop-a).0))

pub shape_of-out : goal.shape_of-out
shape_of-out c = buffer_length c.loop-a.invariant

pub returns : goal.returns
returns c = end c.loop-a.invariant (omega (arith, c.arrays-a-end.ensures))
