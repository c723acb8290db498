-- How many bytes: by the bounds.
use mathlib.Core.Path.{refl}
use native.Mathlib.Omega.{arith}
use Rattle.decodes.proofs.Utf8Laws.{one_byte, two_bytes, three_bytes, four_bytes, counted}
use Rattle.decodes.proofs.utf8.utf8_len.Goals as goal

pub returns-in-0-to-127 : goal.returns-in-0-to-127
returns-in-0-to-127 c = counted (one_byte _ (omega arith)) refl

pub returns-in-128-to-2047 : goal.returns-in-128-to-2047
returns-in-128-to-2047 c = counted (two_bytes _ (omega arith) (omega arith)) refl

pub returns-in-2048-to-65535 : goal.returns-in-2048-to-65535
returns-in-2048-to-65535 c = counted (three_bytes _ (omega arith) (omega arith) (omega arith)) refl

pub returns-in_default : goal.returns-in_default
returns-in_default c = counted (four_bytes _ (omega arith) (omega arith) (omega arith)) refl
