-- A byte that fits is stored, and one that does not is counted.
use Rattle.printing.specs.Writes.{one_in, one_out}
use Rattle.printing.proofs.PutLaws.{wrote_to}
use Rattle.printing.proofs.bytes.put_byte.Goals as goal
use Rattle.printing.proofs.bytes.put_byte.Goals.{then-at-out, else-at-out}

pub returns : goal.returns
returns c = elim c.if-at-out.branch [ then-at-out w ↦ wrote_to w.out-is (one_in _ _ _) | else-at-out w ↦ wrote_to w.out-is (one_out _ _ _ w.if-at-out.false) ]
