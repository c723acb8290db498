-- The decimal digits of a number.
use Rattle.std.specs.Prelude.{[], ◌∷◌, ◌++◌, cond, ℕ, zero, suc, ◌+◌, ◌/◌, ◌%◌, ltb}
use Prim.Native.Char.{code}
use Rattle.number.specs.Bytes.{Bytes}

-- the last digit of a number
abbrev pub last_digit : ℕ → ℕ
last_digit n = code "0" + n % 10

-- the digits of n, if there are no more than k
unfoldable pub digits_of : ℕ → ℕ → Bytes
digits_of zero n = []
digits_of (suc k) n = cond (ltb n 10) (last_digit n ∷ []) (digits_of k (n / 10) ++ last_digit n ∷ [])

-- "Ints without sign or leading zero"
unfoldable pub print_int : ℕ → Bytes
print_int n = digits_of (suc n) n

-- the last k digits of n
unfoldable pub places : ℕ → ℕ → Bytes
places zero n = []
places (suc k) n = places k (n / 10) ++ last_digit n ∷ []
