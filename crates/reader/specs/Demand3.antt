-- Demand 3, sentence by sentence, of every result r that meets the promise of `read`: `Answers s (paper r)`. That a message has
-- one reading, is no beginning of another, and that a cut is one, needs no reader: `model`'s Theorems.
use Rattle.std.specs.Prelude.{◌≡◌, ◌++◌, ℕ, ◌+◌, ◌≤◌, ◌<◌, length}
use Rattle.grammar.specs.Bytes.{Bytes}
use Rattle.grammar.specs.Limits.{MESSAGE}
use Rattle.grammar.specs.Answer.{Behind, OpenBeginning, EndedIn}

-- a message ended behind the glue of v
pub record EndedBehindGlue (v : Bytes) : Type 0 where
  pub g : Bytes
  pub x : Bytes
  pub behind : Behind v g x
  pub ended : EndedIn x

-- no message can begin with s, as the byte at `place` shows: every beginning of s up to it is open and holds no message, every
-- beginning with it is not open; its size, counted from `start` behind the glue, is below the limit
pub record DiesAt (s : Bytes) (start place : ℕ) : Type 0 where
  pub g : Bytes
  pub x : Bytes
  pub behind : Behind s g x
  pub starts_there : start ≡ length g
  pub inside : place < length s
  pub below : place < start + MESSAGE
  pub lives : (v r : Bytes) → s ≡ v ++ r → length v ≤ place → OpenBeginning v
  pub dies : (v r : Bytes) → s ≡ v ++ r → place < length v → ¬ OpenBeginning v
  pub unended : (v r : Bytes) → s ≡ v ++ r → length v ≤ place → ¬ EndedBehindGlue v
