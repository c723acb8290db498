-- The invariant: no byte up to here is below the least.
use mathlib.Core.Path.{sym}
use native.Mathlib.Omega.{arith}
use borrow.Author.Tests.{eqb-true}
use Rattle.exact.specs.Chain.{clash}
use Rattle.reads.proofs.IdLaws.{clear_none, clear_end}
use Rattle.reads.proofs.ids.is_clear.Goals as goal

pub returns : goal.returns
returns c = λ e. (c.loop-byte.invariant.0, clear_end c.loop-byte.invariant.1 c.loop-byte.invariant.0 (let h = c.loop-byte.invariant.0 in let z = c.loop-byte-test.false in omega arith) (eqb-true _ _ e))
