-- There is room for the longest, or the bytes are measured first.
use native.Mathlib.Omega.{arith}
use Rattle.written_back.proofs.ReplyLaws.{framed_small, first_fits, first_full}
use Rattle.written_back.proofs.framed.framed.Goals as goal

-- There is room for the longest, or the bytes are measured first.
pub put_framed-n-requires : goal.put_framed-n-requires
put_framed-n-requires c = omega (arith, framed_small c.args.front.now c.args.text.now c.args.back.now c.requires.0 c.requires.1 c.requires.2)

pub returns-then-out-ge-LARGEST : goal.returns-then-out-ge-LARGEST
returns-then-out-ge-LARGEST c = first_fits c.put_framed-n.ensures (omega (arith, c.if-out-ge-LARGEST.true, framed_small c.args.front.now c.args.text.now c.args.back.now c.requires.0 c.requires.1 c.requires.2))

pub put_framed-n-requires-2 : goal.put_framed-n-requires-2
put_framed-n-requires-2 c = omega (arith, framed_small c.args.front.now c.args.text.now c.args.back.now c.requires.0 c.requires.1 c.requires.2)

pub returns-then-out-n : goal.returns-then-out-n
returns-then-out-n c = first_full _ _ (omega (arith, c.if-out-n.true, c.put_framed-n-2.ensures.next))

pub put_framed-n-requires-3 : goal.put_framed-n-requires-3
put_framed-n-requires-3 c = omega (arith, framed_small c.args.front.now c.args.text.now c.args.back.now c.requires.0 c.requires.1 c.requires.2)

pub returns : goal.returns
returns c = first_fits c.put_framed-n-3.ensures (omega (arith, c.if-out-n.false, c.put_framed-n-2.ensures.next))
