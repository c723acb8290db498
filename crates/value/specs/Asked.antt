-- A text asked for in one call.
use Rattle.value.specs.declared.text.Span.{Span}
use Rattle.std.specs.Prelude.{◌≡◌, List, ℕ, Option}
use Rattle.std.specs.Borrow.{Bor}
use Rattle.grammar.specs.Bytes.{Bytes}
use Rattle.value.specs.Asking.{paper, TextSays}
use Rattle.value.specs.Parts.{part_at, Lies}
use Rattle.value.specs.declared.text.TextAt.{TextAt}

-- the number that is said of a text: 0, or why there is none
unfoldable pub refusal_of : TextAt → ℕ
refusal_of at = (paper at).number

-- a, m: the address and the bytes of the message; b, old: of the scratch; k: the number said; r: the part handed out
pub record Asked (a : ℕ × ℕ) (m : Bytes) (t : Option Span) (b : ℕ × ℕ) (old : Bytes) (k : ℕ) (r : Bor (List ℕ)) : Type 0 where
  pub at : TextAt
  pub scratch : Bytes
  pub says : TextSays m t old scratch (paper at)
  pub refusal : k ≡ refusal_of at
  pub part : Lies (part_at a m b scratch at) r
