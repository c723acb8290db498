-- The descriptions of refusals, as they stand in code.
use Rattle.std.specs.Prelude.{◌≡◌, [], ◌∷◌, ℕ, ◌+◌, ◌-◌, ◌≤◌, take, drop, Some}
use Rattle.lane.specs.Names.{Notification}
use Rattle.grammar.specs.Bytes.{Bytes, text}
use Rattle.message.specs.Fields.{a_words, a_whole}
use Rattle.message.specs.Messages.{message_from}
use Rattle.message.specs.declared.cells.Message.{Message}
use Rattle.meant.specs.Notices.{description}

-- the Notification of code 1, severity 1 and a description of n bytes, which are the texts
unfoldable pub notice_of : ℕ → Message
notice_of n = message_from Notification (a_whole (Some 1) ∷ a_whole (Some 1) ∷ a_words (Some (record { start = 0; len = n })) ∷ [])

-- the descriptions a line of 18 bytes each, and where the description of a refusal stands
abbrev pub descriptions : Bytes
descriptions = text "malformed message message too long  missing attribute text too long     bad value         invalid transition"

pub record Described (n start len : ℕ) : Type 0 where
  pub inside : start + len ≤ 108
  pub short : len ≤ 80
  pub is : take (start + len - start) (drop start descriptions) ≡ description n
