-- The refusals' numbers, as the table of refusal numbers has them; 0 is "accepted".
use Rattle.std.specs.Prelude.{ℕ, Result, Ok, Err}
use Rattle.refusals.specs.declared.Refusal.{Refusal}
use Rattle.refusals.specs.declared.Refusal.TheVariants.{Incomplete, Malformed, MessageTooLong, Missing, TextTooLong, BadValue, NoRoom, MayNotBeSent, ProtocolError}

abbrev pub number_of : Refusal → ℕ
number_of Incomplete = 1
number_of Malformed = 2
number_of MessageTooLong = 3
number_of Missing = 4
number_of TextTooLong = 5
number_of BadValue = 6
number_of NoRoom = 7
number_of MayNotBeSent = 8
number_of ProtocolError = 9

-- the number that an answer tells
abbrev pub told : {A : Type 0} → Result A Refusal → ℕ
told (Ok x) = 0
told (Err r) = number_of r
