-- A text stands exactly as read if and only if no byte of it is `&`, tab, LF or CR.
use Rattle.std.specs.Prelude.{◌≡◌, false, ℕ, eqb}
use Prim.Native.Char.{code}

-- tab, LF, CR: what is no such character reads as itself
abbrev pub Plain : ℕ → Type 0
Plain c = (eqb (code "\t") c ≡ false) × (eqb (code "\n") c ≡ false) × (eqb (code "\r") c ≡ false)
