-- Which bytes can still become a character: the ranges of UTF-8, without what is no character.
use Rattle.std.specs.Prelude.{Bool, ◌&&◌, ◌||◌, cond, ℕ, eqb}
use mathlib.Core.List.{[], ◌∷◌}
use Rattle.std.proofs.Math.Bool.{true, false}
use Rattle.grammar.specs.Bytes.{Bytes, within}
use Rattle.model.specs.Characters.{cont, plain_byte}

-- the second byte, behind the lead b
unfoldable pub second : ℕ → ℕ → Bool
second b c = within (cond (eqb 0xE0 b) 0xA0 (cond (eqb 0xF0 b) 0x90 0x80)) (cond (eqb 0xED b) 0x9F (cond (eqb 0xF4 b) 0x8F 0xBF)) c

-- the third: EF BF BE and EF BF BF are no characters
unfoldable pub third : ℕ → ℕ → ℕ → Bool
third b c d = within 0x80 (cond (eqb 0xEF b && eqb 0xBF c) 0xBD 0xBF) d

unfoldable pub char_begins : (ℕ → Bool) → Bytes → Bool
char_begins ban [] = true
char_begins ban (b ∷ []) = plain_byte ban b || within 0xC2 0xF4 b
char_begins ban (b ∷ c ∷ []) = within 0xC2 0xF4 b && second b c
char_begins ban (b ∷ c ∷ d ∷ []) = within 0xE0 0xF4 b && (second b c && third b c d)
char_begins ban (b ∷ c ∷ d ∷ e ∷ []) = within 0xF0 0xF4 b && (second b c && (third b c d && cont e))
char_begins ban (b ∷ c ∷ d ∷ e ∷ f ∷ w) = false
