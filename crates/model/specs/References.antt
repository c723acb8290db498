-- The readers of references.
use Rattle.std.specs.Prelude.{◌≡◌, Bool, ◌&&◌, ◌||◌, not, ℕ, ◌-◌, eqb, leb}
use mathlib.Core.List.{[], ◌∷◌, ◌++◌}
use Prim.Native.Char.{code}
use Rattle.std.proofs.Math.ListN.{length}
use Rattle.exact.specs.Exact.{Reader}
use Rattle.exact.specs.Chain.{map_p}
use Rattle.exact.specs.Byte.{on_p, lit_p, choice_p}
use Rattle.exact.specs.Token.{token_p}
use Rattle.grammar.specs.Bytes.{Bytes, text, digit, every}
use Rattle.grammar.specs.Character.{is_char}
use Rattle.grammar.specs.Reference.{Named, amp, lt, gt, quot, apos, Reference, named, decimal, hexadecimal, spell_reference, hex_digit, number, Digits, GoodReference}

-- digits that name a character, then `;`
pub record IsNumber (cls : ℕ → Bool) (base max : ℕ) (w n : Bytes) : Type 0 where
  pub good : Digits cls base max n
  pub spelt : w ≡ n ++ text ";"

-- v with j more digits allowed can still name a character: it is one, or more digits are
unfoldable pub alive : ℕ → ℕ → ℕ → ℕ → Bool
alive edge top j v = is_char v || (leb 1 j && (leb v top && (not (eqb edge v) || leb 2 j)))

module _ (cls : ℕ → Bool) (base max edge top : ℕ) where
  unfoldable pub begun : Bytes → Bool
  begun n = every cls n && (leb (length n) max && alive edge top (max - length n) (number base 0 n))

  unfoldable pub okay : Bytes → Bool
  okay n = is_char (number base 0 n)

  unfoldable pub number_p : Reader Bytes
  number_p = token_p begun okay (λ n. lit_p (59 ∷ []) n) []

abbrev pub dec_p : Reader Bytes
dec_p = number_p digit 10 7 2 111411

-- which digits can still be completed
unfoldable pub decimal_begun : Bytes → Bool
decimal_begun n = begun digit 10 7 2 111411 n

abbrev pub hex_p : Reader Bytes
hex_p = number_p hex_digit 16 6 1 69631

-- which digits can still be completed
unfoldable pub hexadecimal_begun : Bytes → Bool
hexadecimal_begun n = begun hex_digit 16 6 1 69631 n

-- names, by their first bytes
unfoldable pub named_p : Reader Named
named_p =
    choice_p (eqb 97) (on_p (eqb 97) (λ b. choice_p (eqb 109) (lit_p (109 ∷ 112 ∷ 59 ∷ []) amp) (lit_p (112 ∷ 111 ∷ 115 ∷ 59 ∷ []) apos)))
    (choice_p (eqb 108) (lit_p (108 ∷ 116 ∷ 59 ∷ []) lt)
    (choice_p (eqb 103) (lit_p (103 ∷ 116 ∷ 59 ∷ []) gt) (lit_p (113 ∷ 117 ∷ 111 ∷ 116 ∷ 59 ∷ []) quot)))

-- references
unfoldable pub ref_p : Reader Reference
ref_p = choice_p (eqb 35) (on_p (eqb 35) (λ b. choice_p (eqb 120) (on_p (eqb 120) (λ c. map_p hexadecimal hex_p)) (map_p decimal dec_p))) (map_p named named_p)

-- behind the `&`
pub record IsRef (w : Bytes) (r : Reference) : Type 0 where
  pub good : GoodReference r
  pub spelt : code "&" ∷ w ≡ spell_reference r
