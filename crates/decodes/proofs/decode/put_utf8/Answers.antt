-- The invariant: of the first k bytes those of the character are put.
use Rattle.decodes.proofs.DecodeLaws.{putting_byte, byte_behind}
use Rattle.decodes.proofs.decode.put_utf8.Goals as goal
use Rattle.decodes.proofs.decode.put_utf8.Goals.{then-n-k, else-n-k}

pub loop-k-preserved : goal.loop-k-preserved
loop-k-preserved c =
    elim c.if-n-k.branch [
      | then-n-k w ↦ putting_byte c.loop-k.k c.loop-k.invariant c.requires.1 _ c.utf8_bytes.ensures.bytes w.if-n-k.true w.out-is
      | else-n-k w ↦ byte_behind c.loop-k.k c.loop-k.invariant c.requires.1 w.if-n-k.false w.out-is
    ]
