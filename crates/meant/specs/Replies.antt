-- What a received message is answered with.
use Rattle.std.specs.Prelude.{◌≡◌, List, [], ◌∷◌, ℕ, ◌+◌, ◌≤◌, ◌<◌, length, take, drop, Option, Some, None}
use Rattle.lane.specs.Names.{CheckAlive}
use Rattle.grammar.specs.Bytes.{Bytes}
use Rattle.value.specs.Text.{Text}
use Rattle.value.specs.Asking.{NoText}
use Rattle.value.specs.declared.text.Span.{Span}
use Rattle.table.specs.Says.{Result, absent, present, a_text, an_int}
use Rattle.message.specs.Fields.{a_words, a_whole}
use Rattle.message.specs.Messages.{message_from}
use Rattle.message.specs.declared.cells.Message.{Message}
use Rattle.meant.specs.Written.{written_of}
use Rattle.meant.specs.Writes.{refused_by}
use Rattle.meant.specs.declared.Written.{Written}
use Rattle.meant.specs.First.{First}

-- "A received CheckAlive of Type 1 is replied to with Type 2 and the same Id": of n bytes, which are the texts
unfoldable pub same_of : ℕ → Message
same_of n = message_from CheckAlive (a_whole (Some 2) ∷ a_words (Some (record { start = 0; len = n })) ∷ [])

-- ", or no Id."
unfoldable pub bare_of : Message
bare_of = message_from CheckAlive (a_whole (Some 2) ∷ a_words None ∷ [])

-- the bytes of the reply to a CheckAlive of the message s whose Id, if it has one, is the value w
pub data Reply (s : Bytes) (w : Option Span) (b : Bytes) : Type 0 where
  same_id_case : (p : Span) → w ≡ Some p → p.start + p.len ≤ length s → (v : Bytes) → Text (take p.len (drop p.start s)) v → length v ≤ 80 → b ≡ written_of (same_of (length v)) v → Reply s w b
  no_id_case : w ≡ None → b ≡ written_of bare_of [] → Reply s w b

-- what writing it answers; an Id that `check` lets pass is never refused
pub data Replies (s : Bytes) (w : Option Span) (old new : Bytes) (r : Written) : Type 0 where
  replied : (b : Bytes) → Reply s w b → First b old new r → Replies s w old new r
  too_long : (p : Span) → w ≡ Some p → p.start + p.len ≤ length s → (v : Bytes) → Text (take p.len (drop p.start s)) v → 80 < length v → r ≡ refused_by 5 → new ≡ old → Replies s w old new r
  outside : (p : Span) → w ≡ Some p → length s < p.start + p.len → r ≡ refused_by 6 → new ≡ old → Replies s w old new r
  no_text : (p : Span) → w ≡ Some p → p.start + p.len ≤ length s → NoText (take p.len (drop p.start s)) → r ≡ refused_by 6 → new ≡ old → Replies s w old new r

-- the values l that a reply reads as: Type 2, and the Id that the message has
pub record SameId (s : Bytes) (w : Option Span) (l : List Result) : Type 0 where
  pub id : Result
  pub values : l ≡ present (an_int 2) ∷ id ∷ []
  pub none : w ≡ None → id ≡ absent
  pub same : (p : Span) → w ≡ Some p → (v : Bytes) → Text (take p.len (drop p.start s)) v → id ≡ present (a_text v)
