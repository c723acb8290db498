-- Bytes put into a buffer. Writing never fails: what does not fit is not written, but the place behind it counts it, so that a run on an
-- empty buffer measures.
use Rattle.std.specs.Prelude.{◌≡◌, ◌++◌, ℕ, ◌+◌, ◌-◌, ◌≤◌, length, take, drop}
use Rattle.grammar.specs.Bytes.{Bytes}

-- old, with m stored from the index `at` on, as far as it fits
unfoldable pub put_at : Bytes → ℕ → Bytes → Bytes
put_at old at m = take at old ++ (take (length old - at) m ++ drop (at + length m) old)

-- what a write of m at the index `at` leaves, and the next place r
pub record Wrote (old : Bytes) (at : ℕ) (m new : Bytes) (r : ℕ) : Type 0 where
  pub bytes : new ≡ put_at old at m
  pub next : r ≡ at + length m
  pub long : length new ≡ length old

-- places are counted up to here
abbrev pub MOST : ℕ
MOST = 0x7FFFFFFFFFFFFFFF

-- the place behind m can be counted
abbrev pub Countable : ℕ → Bytes → Type 0
Countable at m = at + length m ≤ MOST
