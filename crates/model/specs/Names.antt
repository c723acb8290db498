-- The reader of a name that is none of the earlier ones.
use Rattle.std.specs.Prelude.{Bool, ◌&&◌, ◌||◌, ◌-◌, length}
use mathlib.Core.List.{List}
use Rattle.std.proofs.Math.Bool.{not}
use Rattle.std.proofs.Math.Dec.{leb}
use Rattle.grammar.specs.Bytes.{Bytes, non_empty, among}
use Rattle.grammar.specs.Limits.{NAME}
use Rattle.grammar.specs.Name.{shaped}

-- a beginning of a fresh name: at its full length it must itself be fresh
unfoldable pub live : List Bytes → Bytes → Bool
live earlier n = shaped n && (leb (length n) NAME && (leb (length n) (NAME - 1) || not (among earlier n)))

unfoldable pub new : List Bytes → Bytes → Bool
new earlier n = non_empty n && not (among earlier n)
