-- `convert_file` needs that what was written fits the buffer.
use Rattle.std.proofs.Common.{arith, sym}
use lib.Seq.{length-take-le}
use Rattle.convert.proofs.Ways.{written_fits}
use Rattle.converter.proofs.convert_file.Goals as goal

pub slice_bounds-write_all-end : goal.slice_bounds-write_all-end
slice_bounds-write_all-end c = omega (arith, written_fits c.args.file.now c.args.out.now c.convert.ensures c.in-Ok.is, c.convert.auto.out)

pub slice_bounds-write_all-end-in-Ok : goal.slice_bounds-write_all-end-in-Ok
slice_bounds-write_all-end-in-Ok c =
    sym (length-take-le _ _ (omega (arith, written_fits c.args.file.now c.args.out.now c.convert.ensures c.in-Ok.is, c.convert.auto.out)))
