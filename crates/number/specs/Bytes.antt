-- Byte strings, and the words that the definitions of values are made of: classes of bytes, what is dropped, digits and their value.
use Rattle.std.specs.Prelude.{ℕ, ◌+◌, ◌-◌, ◌*◌, Bool, true, false, List, [], ◌∷◌, leb, eqb}
use Prim.Native.Char.{code}
use Prim.Native.String.{String, [] as none, ◌∷◌ as ◌then◌}

abbrev pub Bytes : Type 0
Bytes = List ℕ

-- `text "+1"` is the bytes of a quoted text
abbrev pub text : String → Bytes
text none = []
text (c then s) = code c ∷ text s

-- the first where the test holds, else the second
abbrev pub pick : {A : Type 0} → Bool → A → A → A
pick true a b = a
pick false a b = b

abbrev pub and : Bool → Bool → Bool
and a b = pick a b false

abbrev pub or : Bool → Bool → Bool
or a b = pick a true b

abbrev pub within : ℕ → ℕ → ℕ → Bool
within low high b = and (leb low b) (leb b high)

-- "Blanks (9, 10, 13, 32)"
unfoldable pub blank : ℕ → Bool
blank b = or (within 9 10 b) (or (eqb b 13) (eqb b 32))

unfoldable pub digit : ℕ → Bool
digit b = within (code "0") (code "9") b

-- "`0-9a-f`"
unfoldable pub hex : ℕ → Bool
hex b = or (digit b) (within (code "a") (code "f") b)

abbrev pub zero_digit : ℕ → Bool
zero_digit b = eqb b (code "0")

-- at least one byte
unfoldable pub non_empty : Bytes → Bool
non_empty [] = false
non_empty (b ∷ s) = true

-- every byte is of the class
unfoldable pub all : (ℕ → Bool) → Bytes → Bool
all class [] = true
all class (b ∷ s) = and (class b) (all class s)

-- the bytes of a class at the front are dropped
unfoldable pub drop_front : (ℕ → Bool) → Bytes → Bytes
drop_front class [] = []
drop_front class (b ∷ s) = pick (class b) (drop_front class s) (b ∷ s)

-- a byte before what is left of the bytes behind it
unfoldable pub keep_before : (ℕ → Bool) → ℕ → Bytes → Bytes
keep_before class b [] = pick (class b) [] (b ∷ [])
keep_before class b (c ∷ s) = b ∷ c ∷ s

-- the bytes of a class at the back are dropped
unfoldable pub drop_back : (ℕ → Bool) → Bytes → Bytes
drop_back class [] = []
drop_back class (b ∷ s) = keep_before class b (drop_back class s)

-- "Blanks (9, 10, 13, 32) at the ends of numbers are dropped."
unfoldable pub trim : Bytes → Bytes
trim s = drop_back blank (drop_front blank s)

-- what a digit counts
abbrev pub figure : ℕ → ℕ
figure b = b - code "0"

-- the number that digits write, in base ten, behind digits that write n
unfoldable pub value_from : ℕ → Bytes → ℕ
value_from n [] = n
value_from n (b ∷ s) = value_from (10 * n + figure b) s

abbrev pub value : Bytes → ℕ
value s = value_from 0 s

-- what stands before the first point, what stands behind it, and whether there is one
unfoldable pub before : Bytes → Bytes
before [] = []
before (b ∷ s) = pick (eqb b (code ".")) [] (b ∷ before s)

unfoldable pub behind : Bytes → Bytes
behind [] = []
behind (b ∷ s) = pick (eqb b (code ".")) s (behind s)

unfoldable pub pointed : Bytes → Bool
pointed [] = false
pointed (b ∷ s) = pick (eqb b (code ".")) true (pointed s)
