-- The limits that document 01 sets. `Limits` of the code has the same numbers.
use Rattle.std.specs.Prelude.{◌≡◌, ℕ}
use Rattle.std.proofs.Common.{sym, ◌∙◌}

-- "a message of at most 65,536 bytes"
abbrev pub MESSAGE : ℕ
MESSAGE = 65_536

-- "Names: 1 to 64 bytes"
abbrev pub NAME : ℕ
NAME = 64

-- "At most 32 attributes per element"
abbrev pub ATTRIBUTES : ℕ
ATTRIBUTES = 32

-- "at most six open elements, the root and an empty tag counted"
abbrev pub DEPTH : ℕ
DEPTH = 6

-- each function of `Limits` promises its limit: no second number meets that
pub limit_only : (limit r r' : ℕ) → r ≡ limit → r' ≡ limit → r ≡ r'
limit_only limit r r' p q = p ∙ sym q
