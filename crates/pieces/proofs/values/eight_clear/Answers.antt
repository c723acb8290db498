-- Each of the eight tests holds where their sum is eight.
use mathlib.Core.Path.{◌≡◌}
use mathlib.Core.Bool.{true}
use Prim.Native.Nat.{ℕ}
use lib.ListN.{get_or}
use Rattle.grammar.specs.Value.{banned}
use Rattle.model.specs.Characters.{plain_byte}
use Rattle.pieces.proofs.ValueLaws.{eight_sum}
use Rattle.pieces.proofs.values.eight_clear.Goals as goal

-- Each of the eight tests holds where their sum is eight.
pub returns : goal.returns
returns c = eight_sum (λ (x : ℕ). plain_byte (banned c.args.q) (get_or c.args.s.now x 0) ≡ true) c.args.i _ _ _ _ _ _ _ _ (c.clear.ensures.small, c.clear.ensures.plain) (c.clear-2.ensures.small, c.clear-2.ensures.plain) (c.clear-3.ensures.small, c.clear-3.ensures.plain) (c.clear-4.ensures.small, c.clear-4.ensures.plain) (c.clear-5.ensures.small, c.clear-5.ensures.plain) (c.clear-6.ensures.small, c.clear-6.ensures.plain) (c.clear-7.ensures.small, c.clear-7.ensures.plain) (c.clear-8.ensures.small, c.clear-8.ensures.plain)
