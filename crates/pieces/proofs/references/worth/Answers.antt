-- The ranges of the digits, one law for each.
use mathlib.Core.Logic.{inl, inr}
use native.Mathlib.Omega.{arith}
use Rattle.pieces.proofs.NumeralLaws.{digit_dec, digit_upper, digit_lower, hex_not, dec_not}
use Rattle.pieces.proofs.references.worth.Goals as goal

-- The ranges of the digits, one law for each.
pub returns-in-48-to-57 : goal.returns-in-48-to-57
returns-in-48-to-57 c = digit_dec _ _ _ c.from.ensures (omega arith) (omega arith)

pub returns-in-65-to-70 : goal.returns-in-65-to-70
returns-in-65-to-70 c = digit_upper _ _ _ c.if-hex.true c.from-in-65-to-70.ensures (omega arith) (omega arith)

pub returns-in-97-to-102 : goal.returns-in-97-to-102
returns-in-97-to-102 c = digit_lower _ _ _ c.if-hex-2.true c.from-in-97-to-102.ensures (omega arith) (omega arith)

pub returns-in_default : goal.returns-in_default
returns-in_default c = hex_not _ _ (inl (omega arith))

pub returns-in_default-2 : goal.returns-in_default-2
returns-in_default-2 c = hex_not _ _ (inr (inl (omega arith, omega arith)))

pub returns-in_default-3 : goal.returns-in_default-3
returns-in_default-3 c = dec_not _ _ c.if-hex.false (omega arith)

pub returns-in_default-4 : goal.returns-in_default-4
returns-in_default-4 c = hex_not _ _ (inr (inr (inl (omega arith, omega arith))))

pub returns-in_default-5 : goal.returns-in_default-5
returns-in_default-5 c = dec_not _ _ c.if-hex-2.false (omega arith)

pub returns-in_default-6 : goal.returns-in_default-6
returns-in_default-6 c = hex_not _ _ (inr (inr (inr (omega arith))))
