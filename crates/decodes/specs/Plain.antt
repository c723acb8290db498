-- Plain values: characters of one byte that read as they stand.
use Rattle.std.specs.Prelude.{Bool, ◌&&◌, not, ℕ, eqb}
use Prim.Native.Char.{code}
use Rattle.grammar.specs.Bytes.{Bytes, within, every}

-- ASCII from the space on, but `&` and `<`
unfoldable pub plain_char : ℕ → Bool
plain_char b = within 0x20 0x7F b && (not (eqb (code "&") b) && not (eqb (code "<") b))

abbrev pub plain : Bytes → Bool
plain w = every plain_char w
