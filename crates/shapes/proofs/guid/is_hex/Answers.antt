-- `is_hex` is the class of hex digits: each return is a range of bytes, and antt computes the class on it.
use native.Mathlib.Omega.{arith}
use mathlib.Core.Bool.{true, false}
use Rattle.number.specs.Bytes.{digit, hex}
use Rattle.number.proofs.Classes.{ranged}
use Rattle.shapes.proofs.guid.is_hex.Goals as goal

-- `is_hex` is the class of hex digits: each return is a range of bytes, and antt computes the class on it.
pub returns-in-48-to-57 : goal.returns-in-48-to-57
unfolding hex digit
returns-in-48-to-57 c = ranged hex true 48 10 tt c.args.b (omega arith) (omega arith)

pub returns-in-48-to-57-2 : goal.returns-in-48-to-57-2
unfolding hex digit
returns-in-48-to-57-2 c = ranged hex true 97 6 tt c.args.b (omega arith) (omega arith)

pub returns-in_default : goal.returns-in_default
unfolding hex digit
returns-in_default c = ranged hex false 0 48 tt c.args.b (omega arith) (omega arith)

pub returns-in_default-2 : goal.returns-in_default-2
unfolding hex digit
returns-in_default-2 c = ranged hex false 58 39 tt c.args.b (omega arith) (omega arith)

pub returns-in_default-3 : goal.returns-in_default-3
unfolding hex digit
returns-in_default-3 c = ranged hex false 103 153 tt c.args.b (omega arith) (omega arith)
