-- The first byte decides, then the byte behind, then all.
use mathlib.Core.Path.{sym, ap, ◌∙◌}
use mathlib.Core.Bool.{Bool, ◌&&◌, not}
use native.Mathlib.Omega.{arith}
use Prim.Native.Nat.{◌+◌}
use lib.ListN.{take, drop, get_or}
use Rattle.grammar.specs.Bytes.{same}
use Rattle.grammar.specs.Name.{name_byte}
use Rattle.tags.proofs.CompareLaws.{first_differs, stands_same}
use Rattle.tags.proofs.attributes.stands_at.Goals as goal

-- The first byte decides, then the byte behind, then all.
pub returns-then-s-a : goal.returns-then-s-a
returns-then-s-a c = first_differs c.args.s.now c.args.a c.args.b c.args.n (not (name_byte (get_or c.args.s.now (c.args.a + c.args.n) 0))) (omega arith) c.requires.2 c.requires.1 c.if-s-a.true

pub returns-then-is_name_byte : goal.returns-then-is_name_byte
returns-then-is_name_byte c = sym (ap (λ (z : Bool). not z && same (take c.args.n (drop c.args.a c.args.s.now)) (take c.args.n (drop c.args.b c.args.s.now))) (sym c.is_name_byte.ensures ∙ c.if-is_name_byte.true))

pub returns : goal.returns
returns c = stands_same c.args.s.now c.args.a c.args.b c.args.n _ _ c.eq.ensures (sym c.is_name_byte.ensures ∙ c.if-is_name_byte.false)
