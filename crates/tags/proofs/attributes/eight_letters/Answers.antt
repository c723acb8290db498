-- Each of the eight tests holds where their sum is eight.
use mathlib.Core.Path.{◌≡◌}
use mathlib.Core.Bool.{true}
use Prim.Native.Nat.{ℕ}
use lib.ListN.{get_or}
use Rattle.grammar.specs.Name.{name_byte}
use Rattle.pieces.proofs.ValueLaws.{eight_sum}
use Rattle.tags.proofs.attributes.eight_letters.Goals as goal

-- Each of the eight tests holds where their sum is eight.
pub returns : goal.returns
returns c = eight_sum (λ (x : ℕ). name_byte (get_or c.args.s.now x 0) ≡ true) c.args.i _ _ _ _ _ _ _ _ (c.lettered.ensures.small, c.lettered.ensures.one) (c.lettered-2.ensures.small, c.lettered-2.ensures.one) (c.lettered-3.ensures.small, c.lettered-3.ensures.one) (c.lettered-4.ensures.small, c.lettered-4.ensures.one) (c.lettered-5.ensures.small, c.lettered-5.ensures.one) (c.lettered-6.ensures.small, c.lettered-6.ensures.one) (c.lettered-7.ensures.small, c.lettered-7.ensures.one) (c.lettered-8.ensures.small, c.lettered-8.ensures.one)
