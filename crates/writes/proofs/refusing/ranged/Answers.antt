-- Below, above, between.
use Rattle.std.proofs.Common.{Bool, ℕ, cond, sym, ap}
use Rattle.writes.proofs.WorthLaws.{low, high, right}
use Rattle.writes.proofs.refusing.ranged.Goals.{then-n-low-via-then-n-low, then-n-low-via-else-n-low+then-high-n}
use Rattle.writes.proofs.refusing.ranged.Goals as goal

-- Below, above, between.
pub returns-then-n-low : goal.returns-then-n-low
returns-then-n-low c = sym (ap (λ (b : Bool). cond {A = ℕ} b 0 6) (elim c.then-n-low.branch [ then-n-low-via-then-n-low w ↦ low c.args.low c.args.high c.args.n w.if-n-low.true | then-n-low-via-else-n-low+then-high-n w ↦ high c.args.low c.args.high c.args.n w.if-n-low.false w.if-high-n.true ]))

pub returns : goal.returns
returns c = sym (ap (λ (b : Bool). cond {A = ℕ} b 0 6) (right c.args.low c.args.high c.args.n c.if-n-low.false c.if-high-n.false))
