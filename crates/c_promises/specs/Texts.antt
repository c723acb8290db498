-- A text that C asks for: the refusal and three numbers, and the scratch.
use Rattle.std.specs.Prelude.{◌≡◌, ℕ}
use Rattle.grammar.specs.Bytes.{Bytes}
use Rattle.value.specs.Asking.{Where, in_message, in_scratch, nowhere, Told, TextSays}
use Rattle.message.specs.Cells.{words_by}

-- which bytes the text is part of: 1 the message, 2 the scratch, 0 none
abbrev pub side_of : Where → ℕ
side_of (in_message start len) = 1
side_of (in_scratch len) = 2
side_of nowhere = 0

-- its first byte there
abbrev pub at_of : Where → ℕ
at_of (in_message start len) = start
at_of (in_scratch len) = 0
at_of nowhere = 0

-- how many bytes
abbrev pub count_of : Where → ℕ
count_of (in_message start len) = len
count_of (in_scratch len) = len
count_of nowhere = 0

-- old, new: the scratch before and after
pub record TextTold (s : Bytes) (there start len : ℕ) (old new : Bytes) (refusal place at count : ℕ) : Type 0 where
  pub told : Told
  pub says : TextSays s (words_by there start len) old new told
  pub refuses : refusal ≡ told.number
  pub sides : place ≡ side_of told.place
  pub ats : at ≡ at_of told.place
  pub counts : count ≡ count_of told.place
