-- A run of bytes cut into messages and glue.
use Rattle.std.specs.Prelude.{◌≡◌, List, [], ◌∷◌, ◌++◌}
use Rattle.grammar.specs.Bytes.{Bytes}
use Rattle.grammar.specs.Glue.{Glue}
use Rattle.grammar.specs.Tree.{Tree}
use Rattle.grammar.specs.Message.{Message}

-- a message, the glue before it, and what it reads as
pub record Piece : Type 0 where
  pub glue : Bytes
  pub bytes : Bytes
  pub reading : Tree

-- "a run of bytes cuts into messages and glue": the messages in order, each with the glue before it, and glue at the end
pub data Cut : Bytes → List Piece → Bytes → Type 0 where
  cut_end : {s : Bytes} → Glue s → Cut s [] s
  cut_piece : {s r g : Bytes} {p : Piece} {l : List Piece} → Glue p.glue → Message p.bytes p.reading → s ≡ p.glue ++ (p.bytes ++ r) → Cut r l g → Cut s (p ∷ l) g
