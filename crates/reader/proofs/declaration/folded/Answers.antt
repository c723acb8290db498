-- `folded` meets its contract. The invariant: k bytes are read, and the model goes on behind them.
use mathlib.Core.Path.{sym, ◌∙◌}
use native.Mathlib.Omega.{arith}
use Rattle.reader.proofs.declaration.Laws.{fold_start, fold_done, fold_open, fold-bad, fold_next}
use Rattle.reader.proofs.declaration.folded.Goals as goal

pub loop-k-init : goal.loop-k-init
loop-k-init c = fold_start _ _ _ _ c.requires.0

pub returns-then-s-at : goal.returns-then-s-at
returns-then-s-at c = fold_open _ _ _ _ c.requires.1 _ c.loop-k.invariant c.loop-k-test.true (omega arith)

pub loop-k-preserved : goal.loop-k-preserved
loop-k-preserved c = fold_next _ _ _ _ c.requires.1 _ c.loop-k.invariant c.loop-k-test.true (omega arith) (sym c.is_either.ensures ∙ c.if-not-is_either.false)

pub returns-then-not-is_either : goal.returns-then-not-is_either
returns-then-not-is_either c = fold-bad _ _ _ _ c.requires.1 _ c.loop-k.invariant c.loop-k-test.true (omega arith) (sym c.is_either.ensures ∙ c.if-not-is_either.true)

pub returns : goal.returns
returns c = fold_done _ _ _ _ c.requires.1 _ c.loop-k.invariant c.loop-k-test.false
