-- A `]` more, or none in a row.
use mathlib.Core.Path.{sym}
use native.Mathlib.Omega.{arith}
use borrow.Author.Tests.{eq-eqb, ne_eqb}
use Rattle.fillers.proofs.texts.row.Goals as goal

-- A `]` more, or none in a row.
pub returns-then-s-i-eq93 : goal.returns-then-s-i-eq93
returns-then-s-i-eq93 c = rw (eq-eqb 93 _ (sym c.if-s-i-eq93.true)) (omega arith)

pub returns-else-s-i-eq93 : goal.returns-else-s-i-eq93
returns-else-s-i-eq93 c = rw (ne_eqb 93 _ (λ e. c.if-s-i-eq93.false (sym e)))
