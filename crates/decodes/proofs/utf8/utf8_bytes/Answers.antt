-- By the bounds.
use mathlib.Core.Path.{refl}
use native.Mathlib.Omega.{arith}
use Rattle.decodes.proofs.Utf8Laws.{one_byte, two_bytes, three_bytes, four_bytes, first_of}
use Rattle.decodes.proofs.utf8.utf8_bytes.Goals as goal

pub returns-in-0-to-127-clause-bytes : goal.returns-in-0-to-127-clause-bytes
returns-in-0-to-127-clause-bytes c = first_of _ (one_byte _ (omega arith)) refl

pub returns-in-128-to-2047-clause-bytes : goal.returns-in-128-to-2047-clause-bytes
returns-in-128-to-2047-clause-bytes c = rw c.tail.ensures (first_of _ (two_bytes _ (omega arith) (omega arith)) refl)

pub returns-in-2048-to-65535-clause-bytes : goal.returns-in-2048-to-65535-clause-bytes
returns-in-2048-to-65535-clause-bytes c = rw (c.tail-in-2048-to-65535.ensures, c.tail-in-2048-to-65535-2.ensures) (first_of _ (three_bytes _ (omega arith) (omega arith) (omega arith)) refl)

pub returns-in_default-clause-bytes : goal.returns-in_default-clause-bytes
returns-in_default-clause-bytes c = rw (c.tail-in_default.ensures, c.tail-in_default-2.ensures, c.tail-in_default-3.ensures) (first_of _ (four_bytes _ (omega arith) (omega arith) (omega arith)) refl)
