-- GUID: which byte strings are one.
use Rattle.std.specs.Prelude.{ℕ, Bool, true, false, List, [], ◌∷◌, ◌++◌, eqb, replicate}
use Prim.Native.Char.{code}
use Rattle.number.specs.Bytes.{Bytes, and, hex}

-- what stands at a place of a GUID
pub data Place : Type 0 where
  hex_place : Place
  hyphen_place : Place

-- "groups of 8-4-4-4-12 .. with hyphens"
abbrev pub groups : List ℕ
groups = 8 ∷ 4 ∷ 4 ∷ 4 ∷ 12 ∷ []

abbrev pub joined : List ℕ → List Place
joined [] = []
joined (n ∷ []) = replicate n hex_place
joined (n ∷ m ∷ ns) = replicate n hex_place ++ hyphen_place ∷ joined (m ∷ ns)

abbrev pub places : List Place
places = joined groups

-- "of `0-9a-f`"
unfoldable pub may : Place → ℕ → Bool
may hex_place b = hex b
may hyphen_place b = eqb b (code "-")

-- as many bytes as places, each as its place wants it
unfoldable pub filled : List Place → Bytes → Bool
filled [] [] = true
filled [] (b ∷ s) = false
filled (p ∷ ps) [] = false
filled (p ∷ ps) (b ∷ s) = and (may p b) (filled ps s)

-- "GUID: exactly 36 bytes, groups of 8-4-4-4-12 of `0-9a-f` with hyphens."
unfoldable pub guid_of : Bytes → Bool
guid_of v = filled places v
