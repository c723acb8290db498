-- Asking for a text: what is answered, and what the scratch holds afterwards.
use Rattle.std.specs.Prelude.{◌≡◌, ◌++◌, true, false, ℕ, ◌+◌, ◌≤◌, ◌<◌, length, take, drop, Option, Some, None}
use Rattle.grammar.specs.Bytes.{Bytes}
use Rattle.value.specs.Text.{Text, as_read}
use Rattle.value.specs.declared.text.Span.{Span}
use Rattle.value.specs.declared.text.TextAt.{TextAt}
use Rattle.value.specs.declared.text.TextAt.TheVariants.{InMessage, InScratch, No}

-- "Asking for a text: 4 if absent, 6 if its place runs outside the message bytes, or the bytes there could stand as a value in neither kind of
-- quotes, 7 exactly if it must be decoded and the scratch is shorter"
abbrev pub ABSENT : ℕ
ABSENT = 4

abbrev pub NO_VALUE : ℕ
NO_VALUE = 6

abbrev pub NO_ROOM : ℕ
NO_ROOM = 7

-- where a text is: a part of the message bytes, the first bytes of the scratch, or nowhere
pub data Where : Type 0 where
  in_message : (start len : ℕ) → Where
  in_scratch : (len : ℕ) → Where
  nowhere : Where

-- what is told: a refusal number, 0 for a text, and where the text is
pub record Told : Type 0 where
  pub number : ℕ
  pub place : Where

abbrev pub handed : Where → Told
handed w = record { number = 0; place = w }

-- "the text empty"
abbrev pub refused : ℕ → Told
refused n = record { number = n; place = nowhere }

-- "When an answer is an enum, a definition states this paper's number and values for each of its cases."
abbrev pub paper : TextAt → Told
paper (InMessage p) = handed (in_message p.start p.len)
paper (InScratch n) = handed (in_scratch n)
paper (No k) = refused k

-- no value in either kind of quotes
abbrev pub NoText : Bytes → Type 0
NoText w = (v : Bytes) → Text w v → ⊥

-- of the bytes w at the place p. "A text is handed out as a part of the message bytes where it stands there exactly as read, and otherwise as a
-- part of the scratch buffer into which it was decoded. Decoding starts at its first byte and changes only the bytes it needs."
pub data Answer (w : Bytes) (p : Span) (old new : Bytes) (r : Told) : Type 0 where
  no_value : NoText w → r ≡ refused NO_VALUE → new ≡ old → Answer w p old new r
  stands : (v : Bytes) → Text w v → as_read w ≡ true → r ≡ handed (in_message p.start p.len) → new ≡ old → Answer w p old new r
  no_room_case : (v : Bytes) → Text w v → as_read w ≡ false → length old < length v → r ≡ refused NO_ROOM → new ≡ old → Answer w p old new r
  decoded : (v : Bytes) → Text w v → as_read w ≡ false → length v ≤ length old → r ≡ handed (in_scratch (length v)) → new ≡ v ++ drop (length v) old → Answer w p old new r

-- of the value t of the message
pub data TextSays (msg : Bytes) (t : Option Span) (old new : Bytes) (r : Told) : Type 0 where
  absent : t ≡ None → r ≡ refused ABSENT → new ≡ old → TextSays msg t old new r
  outside : (p : Span) → t ≡ Some p → length msg < p.start + p.len → r ≡ refused NO_VALUE → new ≡ old → TextSays msg t old new r
  there : (p : Span) → t ≡ Some p → p.start + p.len ≤ length msg → Answer (take p.len (drop p.start msg)) p old new r → TextSays msg t old new r
