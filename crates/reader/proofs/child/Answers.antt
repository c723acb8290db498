-- `child` meets its contract: filler and an element, or none, one law for each return.
use native.Mathlib.Omega.{arith}
use Rattle.reader.proofs.elements.Laws.{known_filler}
use Rattle.reader.proofs.message.Laws.{known_inner}
use Rattle.reader.proofs.Children.{child_out, child_bare, child_none, child_found}
use Rattle.reader.proofs.child.Goals as goal

pub returns-then-s-at : goal.returns-then-s-at
returns-then-s-at c = child_out _ _ c.if-s-at.true

pub returns-in_default : goal.returns-in_default
returns-in_default c = child_bare _ _ c.in_default.ensures

pub child_at-requires : goal.child_at-requires
child_at-requires c = let g = known_filler c.in-Ok.is c.filler_lt.ensures in omega arith

pub returns-in_default-child_at : goal.returns-in_default-child_at
returns-in_default-child_at c = child_none _ _ _ (known_filler c.in-Ok.is c.filler_lt.ensures) _ _ c.in_default-child_at.ensures

pub returns : goal.returns
returns c = child_found _ _ _ (known_filler c.in-Ok.is c.filler_lt.ensures) _ _ (known_inner c.in-Ok-child_at.is c.child_at.ensures)
