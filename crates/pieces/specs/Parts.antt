-- The parts of the models that single functions read.
use Rattle.std.specs.Prelude.{◌≡◌, Bool, true, ℕ, ◌+◌, ◌-◌, ◌≤◌, ◌<◌, length, drop, get_or, eqb}
use Prim.Native.Char.{code}
use Rattle.model.specs.Characters.{next6, cont, second3, third3, second4, plain_byte}
use Rattle.model.specs.References.{dec_p, hex_p, named_p}
use Rattle.model.specs.Values.{Acc, turn_p, value_p}
use Rattle.exact.specs.Exact.{Reader}
use Rattle.exact.specs.Chain.{ret_p, map_p}
use Rattle.exact.specs.Byte.{on_p, choice_p}
use Rattle.exact.specs.Loop.{loop_p}
use Rattle.grammar.specs.Bytes.{Bytes}
use Rattle.grammar.specs.Reference.{Reference, named, decimal, hexadecimal, read_reference}
use Rattle.grammar.specs.Value.{Item, raw, ref, is_quote, banned}

-- a character of one byte that may stand raw in any value, its quote aside
abbrev pub text_byte : ℕ → Bool
text_byte b = plain_byte (banned (code "<")) b

-- behind the lead b of a character
unfoldable pub two_p : ℕ → Reader ℕ
two_p b = on_p cont (λ c. ret_p (next6 (b - 0xC0) c))

unfoldable pub three_p : ℕ → Reader ℕ
three_p b = on_p (second3 b) (λ c. on_p (third3 (next6 (b - 0xE0) c)) (λ d. ret_p (next6 (next6 (b - 0xE0) c) d)))

unfoldable pub four_p : ℕ → Reader ℕ
four_p b = on_p (second4 b) (λ c. on_p cont (λ d. on_p cont (λ e. ret_p (next6 (next6 (next6 (b - 0xF0) c) d) e))))

-- behind `&#`
unfoldable pub hash_p : Reader Reference
hash_p = choice_p (eqb (code "x")) (on_p (eqb (code "x")) (λ c. map_p hexadecimal hex_p)) (map_p decimal dec_p)

-- one of the five names
unfoldable pub five_p : Reader Reference
five_p = map_p named named_p

-- the character that an item stands for
abbrev pub code_point : Item → ℕ
code_point (raw c) = c
code_point (ref r) = read_reference r

pub record IsQuote (q : ℕ) : Type 0 where
  pub is : is_quote q ≡ true

-- the value at `at` goes on at i after some items
pub record InValue (q : ℕ) (s : Bytes) (at i : ℕ) : Type 0 where
  pub k : Acc
  pub from : at ≤ i
  pub same : value_p q (drop at s) ≡ loop_p (turn_p q) k (drop i s)

-- n bytes from i on stand as themselves in quotes q
abbrev pub Plain : ℕ → Bytes → ℕ → ℕ → Type 0
Plain q s i n = (k : ℕ) → k < n → plain_byte (banned q) (get_or s (i + k) 0) ≡ true

-- the bytes from `at` up to r would stand for themselves in quotes q
pub record PlainRun (q : ℕ) (s : Bytes) (at r : ℕ) : Type 0 where
  pub from : at ≤ r
  pub upto : r ≤ length s
  pub plain : (k : ℕ) → at + k < r → plain_byte (banned q) (get_or s (at + k) 0) ≡ true

-- raw bytes from `at` up to r
pub record Ran (q : ℕ) (s : Bytes) (at r : ℕ) : Type 0 where
  pub from : at ≤ r
  pub same : (k : Acc) → (k' : Acc) × (loop_p (turn_p q) k (drop at s) ≡ loop_p (turn_p q) k' (drop r s))
