-- Each branch reads the word that its first bytes leave.
use native.Mathlib.Omega.{arith}
use Rattle.pieces.proofs.ReferenceLaws.{name_open, name_a, name-amp, name-apos, name_lt, name_gt, name_quot}
use Rattle.pieces.proofs.references.named.Goals as goal

-- Each branch reads the word that its first bytes leave.
pub returns-then-s-at : goal.returns-then-s-at
returns-then-s-at c = name_open _ _ c.if-s-at.true

pub returns-then-s-at-lt2 : goal.returns-then-s-at-lt2
returns-then-s-at-lt2 c = name_a _ _ c.if-s-at.false c.in-97.is c.if-s-at-lt2.true

pub returns-then-s-at-eq109 : goal.returns-then-s-at-eq109
returns-then-s-at-eq109 c = name-amp _ _ c.if-s-at.false c.in-97.is c.if-s-at-lt2.false c.if-s-at-eq109.true c.word.ensures

pub returns-else-s-at-eq109 : goal.returns-else-s-at-eq109
returns-else-s-at-eq109 c = name-apos _ _ c.if-s-at.false c.in-97.is c.if-s-at-lt2.false c.if-s-at-eq109.false c.word-in-97.ensures

pub returns-in-108 : goal.returns-in-108
returns-in-108 c = name_lt _ _ c.if-s-at.false c.in-108.is c.word-in-108.ensures

pub returns-in-103 : goal.returns-in-103
returns-in-103 c = name_gt _ _ c.if-s-at.false c.in-103.is c.word-in-103.ensures

pub returns-in_default : goal.returns-in_default
returns-in_default c = name_quot _ _ c.if-s-at.false (λ e. omega arith) (λ e. omega arith) (λ e. omega arith) c.word-in_default.ensures
