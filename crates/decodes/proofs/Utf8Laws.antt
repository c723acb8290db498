-- The bytes of a character, by how many it has.
use mathlib.Core.Path.{◌≡◌, sym, ap, ◌∙◌}
use mathlib.Core.List.{[], ◌∷◌}
use Prim.Native.Nat.{ℕ, ◌+◌, ◌/◌, ◌%◌, ◌≤◌, ◌<◌}
use lib.ListN.{length, take}
use borrow.Author.Tests.{le-leb, lt-leb}
use Rattle.grammar.specs.Bytes.{Bytes}
use Rattle.grammar.specs.Character.{utf8}

pub one_byte : (c : ℕ) → c ≤ 0x7F → utf8 c ≡ c ∷ []
unfolding utf8
one_byte c h = rw (le-leb c 0x7F h)

pub two_bytes : (c : ℕ) → 0x7F < c → c ≤ 0x7FF → utf8 c ≡ (0xC0 + c / 64) ∷ (0x80 + c % 64) ∷ []
unfolding utf8
two_bytes c h k = rw (lt-leb c 0x7F h, le-leb c 0x7FF k)

pub three_bytes : (c : ℕ) → 0x7F < c → 0x7FF < c → c ≤ 0xFFFF → utf8 c ≡ (0xE0 + c / 64 / 64) ∷ (0x80 + c / 64 % 64) ∷ (0x80 + c % 64) ∷ []
unfolding utf8
three_bytes c h k l = rw (lt-leb c 0x7F h, lt-leb c 0x7FF k, le-leb c 0xFFFF l)

pub four_bytes : (c : ℕ) → 0x7F < c → 0x7FF < c → 0xFFFF < c → utf8 c ≡ (0xF0 + c / 64 / 64 / 64) ∷ (0x80 + c / 64 / 64 % 64) ∷ (0x80 + c / 64 % 64) ∷ (0x80 + c % 64) ∷ []
unfolding utf8
four_bytes c h k l = rw (lt-leb c 0x7F h, lt-leb c 0x7FF k, lt-leb c 0xFFFF l)

-- how many there are
pub counted : {w m : Bytes} → w ≡ m → {n : ℕ} → n ≡ length m → n ≡ length w
counted e h = h ∙ ap length (sym e)

-- they stand first
pub first_of : {w m : Bytes} (l : Bytes) → w ≡ m → take (length m) l ≡ m → take (length w) l ≡ w
first_of l e h = rw e h
