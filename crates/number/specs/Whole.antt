-- Int: what a byte string is worth as a whole number.
use Rattle.std.specs.Prelude.{ℕ, min, Bool, true, false, [], ◌∷◌, eqb, ltb, Option, Some, None}
use Prim.Native.Char.{code}
use Rattle.number.specs.Bytes.{Bytes, pick, and, digit, non_empty, all, trim, value}
use Rattle.number.specs.declared.Int.{Int}

-- no Int; or an Int, with whether it is below zero, and its size
pub data Whole : Type 0 where
  no_int : Whole
  int : Bool → ℕ → Whole

-- "one or more digits"; minus zero is zero
unfoldable pub sized : Bool → Bytes → Whole
sized minus s =
    pick (and (non_empty s) (all digit s)) (int (and minus (ltb 0 (value s))) (value s)) no_int

-- "optional sign"
unfoldable pub signed : Bytes → Whole
signed [] = no_int
signed (b ∷ s) =
    pick (eqb b (code "-")) (sized true s)
    (pick (eqb b (code "+")) (sized false s) (sized false (b ∷ s)))

-- "Int: optional sign, one or more digits.", blanks at the ends dropped
unfoldable pub int_of : Bytes → Whole
int_of v = signed (trim v)

-- sizes are told apart up to here: no table of document 01 has an Int of this size or above
abbrev pub CAP : ℕ
CAP = 65536

-- a size above the cap is told as the cap
unfoldable pub capped : Whole → Whole
capped no_int = no_int
capped (int below n) = int below (min CAP n)

-- what each case of an answer says
unfoldable pub paper : Option Int → Whole
paper None = no_int
paper (Some i) = int i.negative i.size

-- the answer that says it, case by case
unfoldable pub whole_read : Whole → Option Int
whole_read no_int = None
whole_read (int below n) = Some (record { negative = below; size = min CAP n })
