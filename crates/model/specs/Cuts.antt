-- A run of bytes cuts into messages and glue in one way at most; what stands behind a message does not matter.
use Rattle.std.specs.Prelude.{◌≡◌, ◌++◌}
use Rattle.grammar.specs.Bytes.{Bytes, text}

-- w ends with `>`
abbrev pub Shut : Bytes → Type 0
Shut w = (v : Bytes) × (w ≡ v ++ text ">")
