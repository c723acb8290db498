-- The reader of glue and what follows it.
use Rattle.std.specs.Prelude.{[], Bool, true}
use Rattle.exact.specs.Exact.{Lang, Reader}
use Rattle.exact.specs.Token.{TokenFrom, token_p}
use Rattle.grammar.specs.Bytes.{Bytes, every}
use Rattle.grammar.specs.Glue.{is_glue}

-- glue, then what starts with no blank
abbrev pub always : Bytes → Bool
always n = true

abbrev pub GlueThen : {A : Type 0} → (Bytes → Lang A) → Lang A
GlueThen K = TokenFrom (every is_glue) always K []

abbrev pub glue_p : {A : Type 0} → (Bytes → Reader A) → Reader A
glue_p q = token_p (every is_glue) always q []
