-- Three numbers put down, one after the other.
use native.Mathlib.Omega.{arith}
use lib.ListN.{length-set}
use Rattle.reads.proofs.LoopLaws.{put_three}
use Rattle.reads.proofs.kind_rows.put.Goals as goal

-- Three numbers put down, one after the other.
pub returns : goal.returns
returns c = put_three c.args.cells.now c.args.at c.args.cell.there c.args.cell.a c.args.cell.b c.requires
