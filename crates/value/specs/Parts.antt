-- Which part of which slice a text is: its address and its bytes.
use Rattle.std.specs.Prelude.{◌≡◌, cond, ℕ, ◌+◌, length, take, drop, leb, List}
use Rattle.std.specs.Borrow.{Bor}
use Rattle.grammar.specs.Bytes.{Bytes}
use Rattle.value.specs.declared.text.TextAt.{TextAt}
use Rattle.value.specs.declared.text.TextAt.TheVariants.{InMessage, InScratch, No}

pub record Place : Type 0 where
  pub block : ℕ
  pub offset : ℕ
  pub bytes : Bytes

-- n bytes from `at` on, of the slice at the address a with the bytes l
abbrev pub placed : ℕ × ℕ → Bytes → ℕ → ℕ → Place
placed a l at n = record { block = a.0; offset = a.1 + at; bytes = take n (drop at l) }

-- the same of s, or, where s does not reach so far, "the text empty": nothing, at the first byte of the message m
unfoldable pub part_or : ℕ × ℕ → Bytes → ℕ × ℕ → Bytes → ℕ → ℕ → Place
part_or a m b s at n = cond (leb (at + n) (length s)) (placed b s at n) (placed a m 0 0)

-- the part of the message m or of the scratch s that a text is
unfoldable pub part_at : ℕ × ℕ → Bytes → ℕ × ℕ → Bytes → TextAt → Place
part_at a m b s (InMessage p) = part_or a m a m p.start p.len
part_at a m b s (InScratch n) = part_or a m b s 0 n
part_at a m b s (No k) = placed a m 0 0

-- r lies there
pub record Lies (p : Place) (r : Bor (List ℕ)) : Type 0 where
  pub block : r.ref_ptr.0 ≡ p.block
  pub offset : r.ref_ptr.1 ≡ p.offset
  pub bytes : r.now ≡ p.bytes
