-- Open beginnings, and the four answers.
use Rattle.std.specs.Prelude.{◌≡◌, [], ◌∷◌, ◌++◌, Bool, false, ℕ, ◌+◌, ◌≤◌, ◌<◌, length}
use Rattle.grammar.specs.Bytes.{Bytes}
use Rattle.grammar.specs.Limits.{MESSAGE}
use Rattle.grammar.specs.Glue.{is_glue, Glue}
use Rattle.grammar.specs.Tree.{Tree}
use Rattle.grammar.specs.Message.{Message}

-- whether a byte of glue leads
abbrev pub leads : Bytes → Bool
leads [] = false
leads (b ∷ x) = is_glue b

-- s is all its leading glue g, and then x
pub record Behind (s g x : Bytes) : Type 0 where
  pub whole : s ≡ g ++ x
  pub glue : Glue g
  pub most : leads x ≡ false

-- some message, size put aside, starts with x
pub record Open (x : Bytes) : Type 0 where
  pub rest : Bytes
  pub reading : Tree
  pub message : Message (x ++ rest) reading

-- "A beginning is *open* if some message, size put aside, starts with what follows its leading glue."
pub record OpenBeginning (s : Bytes) : Type 0 where
  pub g : Bytes
  pub x : Bytes
  pub behind : Behind s g x
  pub is_open : Open x

-- "Only a message that starts at that byte is meant here, not one inside another."
pub record EndedIn (x : Bytes) : Type 0 where
  pub bytes : Bytes
  pub reading : Tree
  pub rest : Bytes
  pub message : Message bytes reading
  pub whole : x ≡ bytes ++ rest

-- "the longest open beginning"
pub record LongestOpen (x u : Bytes) : Type 0 where
  pub rest : Bytes
  pub whole : x ≡ u ++ rest
  pub is_open : Open u
  pub longest : (v r : Bytes) → x ≡ v ++ r → Open v → length v ≤ length u

pub data Answer : Type 0 where
  ends_at : (start end : ℕ) → Answer
  more_from : (start : ℕ) → Answer
  malformed_at : (start place : ℕ) → Answer
  too_long_from : (start : ℕ) → Answer

abbrev pub answer_number : Answer → ℕ
answer_number (ends_at start end) = 0
answer_number (more_from start) = 1
answer_number (malformed_at start place) = 2
answer_number (too_long_from start) = 3

-- "Let the size count from the first byte after the glue." In each answer g is that glue.

-- "Answer 0: a message of at most 65,536 bytes ends in the input."
pub record Ends (s : Bytes) (start end : ℕ) : Type 0 where
  pub g : Bytes
  pub bytes : Bytes
  pub rest : Bytes
  pub reading : Tree
  pub behind : Behind s g (bytes ++ rest)
  pub message : Message bytes reading
  pub fits : length bytes ≤ MESSAGE
  pub starts : start ≡ length g
  pub ends : end ≡ length g + length bytes

-- "Answer 1: the whole input is open, no message ended in it, and its size is below 65,536."
pub record More (s : Bytes) (start : ℕ) : Type 0 where
  pub g : Bytes
  pub x : Bytes
  pub behind : Behind s g x
  pub is_open : Open x
  pub unended : ¬ EndedIn x
  pub below : length x < MESSAGE
  pub starts : start ≡ length g

-- "Answer 2: the longest open beginning is shorter than the input, its size is below 65,536, and no message ended in it;
-- its length, glue included, is the place."
pub record Malformed (s : Bytes) (start place : ℕ) : Type 0 where
  pub g : Bytes
  pub x : Bytes
  pub u : Bytes
  pub behind : Behind s g x
  pub longest : LongestOpen x u
  pub shorter : length u < length x
  pub below : length u < MESSAGE
  pub unended : ¬ EndedIn u
  pub starts : start ≡ length g
  pub at_place : place ≡ length g + length u

-- "Answer 3: no message ends in the first 65,536 bytes of size and these are open."
pub record TooLong (s : Bytes) (start : ℕ) : Type 0 where
  pub g : Bytes
  pub u : Bytes
  pub rest : Bytes
  pub behind : Behind s g (u ++ rest)
  pub first : length u ≡ MESSAGE
  pub unended : ¬ EndedIn u
  pub is_open : Open u
  pub starts : start ≡ length g

abbrev pub Answers : Bytes → Answer → Type 0
Answers s (ends_at start end) = Ends s start end
Answers s (more_from start) = More s start
Answers s (malformed_at start place) = Malformed s start place
Answers s (too_long_from start) = TooLong s start
