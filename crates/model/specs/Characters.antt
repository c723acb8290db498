-- The reader of one character.
use Rattle.std.specs.Prelude.{◌≡◌, Bool, ◌&&◌, ◌||◌, ℕ, ◌+◌, ◌-◌, ◌*◌}
use Rattle.std.proofs.Math.Bool.{true, false, not}
use Rattle.std.proofs.Math.Dec.{leb}
use Rattle.exact.specs.Exact.{Reader}
use Rattle.exact.specs.Chain.{ret_p}
use Rattle.exact.specs.Byte.{on_p, choice_p}
use Rattle.grammar.specs.Bytes.{Bytes, within}
use Rattle.grammar.specs.Character.{is_char, utf8}

-- the bytes w are the character c, and it is not a banned one
pub record IsRaw (ban : ℕ → Bool) (w : Bytes) (c : ℕ) : Type 0 where
  pub char : is_char c ≡ true
  pub free : ban c ≡ false
  pub spelt : w ≡ utf8 c

-- the values so far, and the tests of the bytes behind the name_start
abbrev pub next6 : ℕ → ℕ → ℕ
next6 v c = v * 64 + (c - 128)

abbrev pub cont : ℕ → Bool
cont c = within 128 191 c

-- E0 A0 to ED 9F, EE 80 to EF BF
unfoldable pub second3 : ℕ → ℕ → Bool
second3 b c = cont c && (within 32 863 (next6 (b - 224) c) || within 896 1023 (next6 (b - 224) c))

-- not EF BF BE and EF BF BF
unfoldable pub third3 : ℕ → ℕ → Bool
third3 v d = cont d && leb (next6 v d) 65533

-- F0 90 to F4 8F
unfoldable pub second4 : ℕ → ℕ → Bool
second4 b c = cont c && within 16 271 (next6 (b - 240) c)

unfoldable pub plain_byte : (ℕ → Bool) → ℕ → Bool
plain_byte ban b = leb b 127 && (is_char b && not (ban b))

unfoldable pub char_p : (ℕ → Bool) → Reader ℕ
char_p ban =
    choice_p (λ b. leb b 127) (on_p (plain_byte ban) (λ b. ret_p b))
    (choice_p (λ b. leb b 223) (on_p (within 194 223) (λ b. on_p cont (λ c. ret_p (next6 (b - 192) c))))
    (choice_p (λ b. leb b 239) (on_p (within 224 239) (λ b. on_p (second3 b) (λ c. on_p (third3 (next6 (b - 224) c)) (λ d. ret_p (next6 (next6 (b - 224) c) d)))))
    (on_p (within 240 244) (λ b. on_p (second4 b) (λ c. on_p cont (λ d. on_p cont (λ e. ret_p (next6 (next6 (next6 (b - 240) c) d) e))))))))
