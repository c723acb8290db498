use Rattle.std.proofs.Common.{sym, arith, length-take-le}
use Rattle.windows.proofs.output.flush.Goals as goal

pub slice_bounds-write_all-end : goal.slice_bounds-write_all-end
slice_bounds-write_all-end g c = sym (length-take-le _ _ (omega arith))
