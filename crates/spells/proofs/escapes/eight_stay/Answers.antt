-- Each of the eight tests holds where their sum is eight.
use mathlib.Core.Path.{◌≡◌}
use mathlib.Core.List.{[], ◌∷◌}
use Prim.Native.Nat.{ℕ}
use lib.ListN.{get_or}
use Rattle.spelling.specs.Written.{escape_byte}
use Rattle.pieces.proofs.ValueLaws.{eight_sum}
use Rattle.spells.proofs.escapes.eight_stay.Goals as goal

-- Each of the eight tests holds where their sum is eight.
pub returns : goal.returns
returns c = eight_sum (λ (x : ℕ). escape_byte (get_or c.args.text.now x 0) ≡ get_or c.args.text.now x 0 ∷ []) c.args.i _ _ _ _ _ _ _ _ (c.stays.ensures.small, c.stays.ensures.same) (c.stays-2.ensures.small, c.stays-2.ensures.same) (c.stays-3.ensures.small, c.stays-3.ensures.same) (c.stays-4.ensures.small, c.stays-4.ensures.same) (c.stays-5.ensures.small, c.stays-5.ensures.same) (c.stays-6.ensures.small, c.stays-6.ensures.same) (c.stays-7.ensures.small, c.stays-7.ensures.same) (c.stays-8.ensures.small, c.stays-8.ensures.same)
