-- The loop moves the power of ten out of the number.
use mathlib.Core.Path.{◌≡◌, ap, ◌∙◌}
use Prim.Native.Nat.{◌-◌}
use native.Mathlib.Omega.{arith}
use Rattle.number.specs.Positive.{no_number}
use Rattle.numerals.specs.Scan.{millionths_of, tenths}
use Rattle.numerals.proofs.CodeLaws.{low_start, low_zero, low_more, low_over, low_end}
use Rattle.numerals.proofs.positive.lowered.Goals as goal

pub returns-then-n-eq0 : goal.returns-then-n-eq0
unfolding millionths_of
returns-then-n-eq0 c =
    let e : no_number ≡ tenths c.args.k c.args.n = rw c.if-n-eq0.true (low_zero c.args.k) in
    ap millionths_of e

pub loop-init : goal.loop-init
loop-init c = low_start c.args.n c.args.k _ c.if-n-eq0.false (omega arith)

pub returns-then-m-ne0 : goal.returns-then-m-ne0
unfolding millionths_of
returns-then-m-ne0 c = ap millionths_of (low_over c.args.n c.args.k c.loop.m (c.args.k - c.loop.counter) c.loop.invariant (omega arith) c.if-m-ne0.true)

pub loop-preserved : goal.loop-preserved
loop-preserved c = low_more c.args.n c.args.k c.loop.m (c.args.k - c.loop.counter) _ c.loop.invariant (omega arith) c.if-m-ne0.false

pub returns : goal.returns
returns c = c.limit.ensures ∙ ap millionths_of (low_end c.args.n c.args.k c.loop.m (c.args.k - c.loop.counter) c.loop.invariant (omega arith))
