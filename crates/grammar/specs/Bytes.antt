-- Byte strings, and the tests on them that the definitions use.
use Rattle.std.specs.Prelude.{◌≡◌, List, [], ◌∷◌, ◌++◌, Bool, true, false, ◌&&◌, ◌||◌, ℕ, eqb, leb}
use Prim.Native.Char.{code}
use Prim.Native.String.{String, [] as none, ◌∷◌ as ◌then◌}

abbrev pub Bytes : Type 0
Bytes = List ℕ

-- An ASCII text as bytes: `text "ab"` is 97, 98. A single byte is `code "a"`.
abbrev pub text : String → Bytes
text none = []
text (c then s) = code c ∷ text s

-- parts one behind the other
abbrev pub joined : List Bytes → Bytes
joined [] = []
joined (x ∷ []) = x
joined (x ∷ y ∷ l) = x ++ joined (y ∷ l)

-- lo to hi, both included
unfoldable pub within : ℕ → ℕ → ℕ → Bool
within lo hi b = leb lo b && leb b hi

-- `0` to `9`
unfoldable pub digit : ℕ → Bool
digit b = within (code "0") (code "9") b

-- one of two bytes
abbrev pub either : ℕ → ℕ → ℕ → Bool
either x y b = eqb x b || eqb y b

-- every byte passes the test
abbrev pub every : (ℕ → Bool) → Bytes → Bool
every t [] = true
every t (b ∷ r) = t b && every t r

-- at least one byte
abbrev pub non_empty : Bytes → Bool
non_empty [] = false
non_empty (b ∷ r) = true

-- the same bytes
abbrev pub same : Bytes → Bytes → Bool
same [] [] = true
same [] (y ∷ ys) = false
same (x ∷ xs) [] = false
same (x ∷ xs) (y ∷ ys) = eqb x y && same xs ys

-- one of a list
abbrev pub among : List Bytes → Bytes → Bool
among [] n = false
among (x ∷ l) n = same x n || among l n

-- every number in it is a byte: it can be sent
abbrev pub ByteString : Bytes → Type 0
ByteString w = every (λ b. leb b 255) w ≡ true

-- as many bytes as tests, and each passes its own
abbrev pub fits : List (ℕ → Bool) → Bytes → Bool
fits [] [] = true
fits [] (b ∷ w) = false
fits (t ∷ ts) [] = false
fits (t ∷ ts) (b ∷ w) = t b && fits ts w
