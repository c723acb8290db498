-- The class is computed range by range.
use mathlib.Core.Bool.{true, false}
use native.Mathlib.Omega.{arith}
use Rattle.grammar.specs.Bytes.{within}
use Rattle.scan.proofs.Classes.{ranged}
use Rattle.decodes.specs.Plain.{plain_char}
use Rattle.decodes.proofs.tests.is_plain_char.Goals as goal

-- The class is computed range by range.
pub returns-in-32-to-37 : goal.returns-in-32-to-37
unfolding plain_char within
returns-in-32-to-37 c = ranged plain_char true 32 6 tt c.args.b (omega arith) (omega arith)

pub returns-in-32-to-37-2 : goal.returns-in-32-to-37-2
unfolding plain_char within
returns-in-32-to-37-2 c = ranged plain_char true 39 21 tt c.args.b (omega arith) (omega arith)

pub returns-in-32-to-37-3 : goal.returns-in-32-to-37-3
unfolding plain_char within
returns-in-32-to-37-3 c = ranged plain_char true 61 67 tt c.args.b (omega arith) (omega arith)

pub returns-in_default : goal.returns-in_default
unfolding plain_char within
returns-in_default c = ranged plain_char false 0 32 tt c.args.b (omega arith) (omega arith)

pub returns-in_default-2 : goal.returns-in_default-2
unfolding plain_char within
returns-in_default-2 c = ranged plain_char false 38 1 tt c.args.b (omega arith) (omega arith)

pub returns-in_default-3 : goal.returns-in_default-3
unfolding plain_char within
returns-in_default-3 c = ranged plain_char false 60 1 tt c.args.b (omega arith) (omega arith)

pub returns-in_default-4 : goal.returns-in_default-4
unfolding plain_char within
returns-in_default-4 c = ranged plain_char false 128 128 tt c.args.b (omega arith) (omega arith)
