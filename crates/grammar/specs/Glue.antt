-- Glue.
use Rattle.std.specs.Prelude.{◌≡◌, Bool, true, ◌||◌, ℕ, eqb}
use Prim.Native.Char.{code}
use Rattle.grammar.specs.Bytes.{Bytes, every}

-- "Glue is space, tab, CR, LF."
unfoldable pub is_glue : ℕ → Bool
is_glue b = eqb (code " ") b || (eqb (code "\t") b || (eqb (code "\r") b || eqb (code "\n") b))

-- any number of bytes of it, also none
abbrev pub Glue : Bytes → Type 0
Glue g = every is_glue g ≡ true
