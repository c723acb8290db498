-- Characters, and their bytes in UTF-8.
use Rattle.std.specs.Prelude.{[], ◌∷◌, Bool, ◌||◌, cond, ℕ, ◌+◌, ◌/◌, ◌%◌, eqb, leb}
use Rattle.grammar.specs.Bytes.{Bytes, within}

-- "the XML 1.0 characters (9, 10, 13 and hex 20 to D7FF, E000 to FFFD, 10000 to 10FFFF) for either declared version"
unfoldable pub is_char : ℕ → Bool
is_char c = eqb 9 c || (eqb 10 c || (eqb 13 c || (within 0x20 0xD7FF c || (within 0xE000 0xFFFD c || within 0x10000 0x10FFFF c))))

-- "UTF-8": one byte to hex 7F, two to 7FF, three to FFFF, four above; each byte behind the first has six bits
unfoldable pub utf8 : ℕ → Bytes
utf8 c =
    cond (leb c 0x7F) (c ∷ [])
    (cond (leb c 0x7FF) ((0xC0 + c / 64) ∷ (0x80 + c % 64) ∷ [])
    (cond (leb c 0xFFFF) ((0xE0 + c / 64 / 64) ∷ (0x80 + c / 64 % 64) ∷ (0x80 + c % 64) ∷ [])
    ((0xF0 + c / 64 / 64 / 64) ∷ (0x80 + c / 64 / 64 % 64) ∷ (0x80 + c / 64 % 64) ∷ (0x80 + c % 64) ∷ [])))
