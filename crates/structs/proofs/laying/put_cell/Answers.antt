-- Three numbers.
use native.Mathlib.Omega.{arith}
use Rattle.structs.proofs.LayLaws.{put_three}
use Rattle.structs.proofs.laying.put_cell.Goals as goal

-- Three numbers.
pub returns : goal.returns
returns c = put_three c.args.cells c.args.i c.args.c.there c.args.c.a c.args.c.b (omega arith)
