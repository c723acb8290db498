-- The invariant: the digits up to `i` make `v`, and `left` more may follow.
use mathlib.Core.Path.{sym, ◌∙◌}
use native.Mathlib.Omega.{arith}
use Rattle.pieces.proofs.NumeralLaws.{digit_max, digits_start, digits_open, digits_other, digits_done, digits_none, digits-full, digits-dead, digits-next}
use Rattle.pieces.proofs.references.number.Goals as goal

pub loop-i-init : goal.loop-i-init
loop-i-init c = digits_start _ _ _ _ c.most-left.ensures

pub returns-then-b-ne59 : goal.returns-then-b-ne59
returns-then-b-ne59 c = digits_other _ _ _ _ _ _ c.loop-i.invariant (omega arith) (sym c.in_default.is ∙ c.worth.ensures) c.if-b-ne59.true

pub returns-then-is_char : goal.returns-then-is_char
returns-then-is_char c = digits_done _ _ _ _ _ _ c.loop-i.invariant (omega arith) (sym c.in_default.is ∙ c.worth.ensures) c.if-b-ne59.false (sym c.is_char.ensures ∙ c.if-is_char.true)

pub returns-in_default : goal.returns-in_default
returns-in_default c = digits_none _ _ _ _ _ _ c.loop-i.invariant (omega arith) (sym c.in_default.is ∙ c.worth.ensures) (sym c.is_char.ensures ∙ c.if-is_char.false)

pub returns-then-left-eq0 : goal.returns-then-left-eq0
returns-then-left-eq0 c = digits-full _ _ _ _ _ _ c.loop-i.invariant (omega arith) _ (sym c.in-Some.is ∙ c.worth.ensures) c.if-left-eq0.true

pub grow-v-requires : goal.grow-v-requires
grow-v-requires c = (c.loop-i.invariant.small, digit_max _ _ _ (sym c.in-Some.is ∙ c.worth.ensures))

pub returns-then-not-is_alive : goal.returns-then-not-is_alive
returns-then-not-is_alive c = digits-dead _ _ _ _ _ _ c.loop-i.invariant (omega arith) _ (sym c.in-Some.is ∙ c.worth.ensures) c.if-left-eq0.false _ c.grow-v.ensures (sym c.is_alive.ensures ∙ c.if-not-is_alive.true)

pub loop-i-preserved : goal.loop-i-preserved
loop-i-preserved c = digits-next _ _ _ _ _ _ c.loop-i.invariant (omega arith) _ (sym c.in-Some.is ∙ c.worth.ensures) c.if-left-eq0.false _ c.grow-v.ensures (sym c.is_alive.ensures ∙ c.if-not-is_alive.false)

pub returns : goal.returns
returns c = digits_open _ _ _ _ _ _ c.loop-i.invariant (omega arith)
