-- The id of a raw value.
use Rattle.std.specs.Prelude.{◌≡◌, cond, replicate, Option, Some, None}
use Rattle.grammar.specs.Bytes.{Bytes}
use Rattle.number.specs.Guid.{guid_of}
use Rattle.value.specs.Numbers.{Reads}

-- the bytes that stand where there is no id: zeros
abbrev pub no_bytes : Bytes
no_bytes = replicate 36 0

-- the id that the bytes v are
unfoldable pub id_read : Bytes → Option Bytes
id_read v = cond (guid_of v) (Some v) None

abbrev pub IdReads : Bytes → Option Bytes → Type 0
IdReads w r = Reads (λ v q. q ≡ id_read v) None w r
