use mathlib.Core.Path.{sym, ◌∙◌}
use native.Mathlib.Omega.{arith}
use Rattle.scan.proofs.Walk.{name_open, name_bad, name_start_lem, name_more, name-next, name_done, name-full}
use Rattle.scan.proofs.name.Goals as goal

pub returns-then-s-at : goal.returns-then-s-at
returns-then-s-at c = name_open _ _ c.if-s-at.true

pub returns-then-not-is_name_start : goal.returns-then-not-is_name_start
returns-then-not-is_name_start c = name_bad _ _ c.if-s-at.false (sym c.is_name_start.ensures ∙ c.if-not-is_name_start.true)

pub loop-i-init : goal.loop-i-init
loop-i-init c = name_start_lem _ _ c.if-s-at.false (sym c.is_name_start.ensures ∙ c.if-not-is_name_start.false)

pub returns-then-not-is_name_byte : goal.returns-then-not-is_name_byte
returns-then-not-is_name_byte c = name_done _ _ _ c.loop-i.invariant (omega arith) (omega arith) (sym c.is_name_byte.ensures ∙ c.if-not-is_name_byte.true)

pub returns-then-i-at-ge-NAME : goal.returns-then-i-at-ge-NAME
returns-then-i-at-ge-NAME c = name-full _ _ _ c.loop-i.invariant (omega arith) (omega arith) c.if-i-at-ge-NAME.true

pub loop-i-preserved : goal.loop-i-preserved
loop-i-preserved c = name-next _ _ _ c.loop-i.invariant (omega arith) (omega arith) (sym c.is_name_byte.ensures ∙ c.if-not-is_name_byte.false) c.if-i-at-ge-NAME.false

pub returns : goal.returns
returns c = name_more _ _ _ c.loop-i.invariant (omega arith) (omega arith)
