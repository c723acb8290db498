-- Whether bytes are a text, as a test.
use Rattle.std.specs.Prelude.{[], ◌∷◌, Bool, true, false, ℕ, zero, suc, length}
use Rattle.exact.specs.Exact.{Out, done, more, bad}
use Rattle.grammar.specs.Bytes.{Bytes}
use Rattle.model.specs.Characters.{char_p}
use Rattle.spelling.specs.Characters.{no_ban}

-- what is left behind a character passes the test
abbrev pub onward : Out ℕ → (Bytes → Bool) → Bool
onward (done c rest) test = test rest
onward more test = false
onward (bad rest) test = false

-- character by character, n at most; each has a byte at least
unfoldable pub text_from : ℕ → Bytes → Bool
text_from zero v = true
text_from (suc n) [] = true
text_from (suc n) (b ∷ v) = onward (char_p no_ban (b ∷ v)) (λ rest. text_from n rest)

-- "UTF-8 of the characters above": `text-decided` says that this is `IsText`
unfoldable pub is_text : Bytes → Bool
is_text v = text_from (length v) v
