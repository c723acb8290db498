-- Version: which byte strings are one.
use Rattle.std.specs.Prelude.{Bool, length}
use Rattle.number.specs.Bytes.{Bytes, and, within, digit, all, before, behind, pointed}

-- "1 to 3 digits"
unfoldable pub one_to_three : Bytes → Bool
one_to_three s = and (all digit s) (within 1 3 (length s))

-- "Version: text of 1 to 3 digits, point, 1 to 3 digits."
unfoldable pub version_of : Bytes → Bool
version_of v = and (pointed v) (and (one_to_three (before v)) (one_to_three (behind v)))
