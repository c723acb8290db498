use mathlib.Core.Path.{sym, ◌∙◌}
use native.Mathlib.Omega.{arith}
use Rattle.scan.proofs.Classes.{start_class}
use Rattle.scan.proofs.is_name_start.Goals as goal

pub returns-then-is_ascii_alphabetic : goal.returns-then-is_ascii_alphabetic
returns-then-is_ascii_alphabetic c = c.if-is_ascii_alphabetic.true ∙ (rw (sym c.is_ascii_alphabetic.ensures.value ∙ c.if-is_ascii_alphabetic.true) at (start_class c.args.b (omega arith)))

pub returns-else-is_ascii_alphabetic : goal.returns-else-is_ascii_alphabetic
returns-else-is_ascii_alphabetic c = rw (sym c.is_ascii_alphabetic.ensures.value ∙ c.if-is_ascii_alphabetic.false) at (start_class c.args.b (omega arith))
