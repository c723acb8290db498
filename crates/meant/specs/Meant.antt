-- What a message to be sent means, field by field, and why it may be refused.
use Rattle.std.specs.Prelude.{List, [], ◌∷◌, Bool, true, false, ◌&&◌, ◌||◌, cond, ℕ, ◌+◌, max, length, take, drop, leb, Some, None}
use Rattle.grammar.specs.Bytes.{Bytes, non_empty, within, same}
use Rattle.number.specs.Positive.{BEHIND}
use Rattle.number.specs.Guid.{guid_of}
use Rattle.number.specs.Version.{version_of}
use Rattle.spelling.specs.Written.{matter}
use Rattle.spelling.specs.Decided.{is_text}
use Rattle.value.specs.declared.text.Span.{Span}
use Rattle.table.specs.Table.{Row, Form, words, some_words, whole, guid, version, positive, features, Entry, table, rows_in, settled}
use Rattle.table.specs.Says.{a_text, an_int, millionths, an_id, noted, Result, present, refused, TOO_LONG, BAD, when, without, by_need, refusal_in, first}
use Rattle.message.specs.Fields.{Field, none, a_words, a_whole, a_measure, a_guid, a_features}
use Rattle.message.specs.Messages.{fields_of}
use Rattle.message.specs.declared.values.Features.{Features}
use Rattle.message.specs.declared.cells.Message.{Message}

-- the text at a place of the texts
abbrev pub text_at : Bytes → Span → Bytes
text_at texts p = take p.len (drop p.start texts)

-- "A text to be sent that isn't UTF-8 of the characters above is 6"; so is one whose place runs outside
abbrev pub sendable : Bytes → Span → Bool
sendable texts p = leb (p.start + p.len) (length texts) && is_text (text_at texts p)

-- what a text is worth by the form: 5 by its length alone, then 6
abbrev pub text_meant : Form → Bytes → Span → Result
text_meant (words n) texts p = cond (leb p.len n) (when (sendable texts p) (a_text (text_at texts p))) (refused TOO_LONG)
text_meant (some_words n) texts p = cond (leb p.len n) (when (sendable texts p && non_empty (text_at texts p)) (a_text (text_at texts p))) (refused TOO_LONG)
text_meant (whole lo hi) texts p = refused BAD
text_meant guid texts p = refused BAD
text_meant version texts p = when (sendable texts p && version_of (text_at texts p)) (a_text (text_at texts p))
text_meant positive texts p = refused BAD
text_meant features texts p = refused BAD

abbrev pub whole_meant : Form → ℕ → Result
whole_meant (words n) k = refused BAD
whole_meant (some_words n) k = refused BAD
whole_meant (whole lo hi) k = when (within lo hi k) (an_int k)
whole_meant guid k = refused BAD
whole_meant version k = refused BAD
whole_meant positive k = refused BAD
whole_meant features k = refused BAD

-- "at most 7 digits before the point .. at most 6 behind it; above zero"
abbrev pub MOST : ℕ
MOST = 9_999_999_999_999

-- order 6: "a count above 6 given to the writer is 6"; a measure with the count d means d digits behind the point, or as many as matter
abbrev pub measure_meant : Form → ℕ → ℕ → Result
measure_meant (words n) x d = refused BAD
measure_meant (some_words n) x d = refused BAD
measure_meant (whole lo hi) x d = refused BAD
measure_meant guid x d = refused BAD
measure_meant version x d = refused BAD
measure_meant positive x d = when (within 1 MOST x && leb d BEHIND) (millionths x (max d (matter x)))
measure_meant features x d = refused BAD

abbrev pub id_meant : Form → Bytes → Result
id_meant (words n) v = refused BAD
id_meant (some_words n) v = refused BAD
id_meant (whole lo hi) v = refused BAD
id_meant guid v = when (guid_of v) (an_id v)
id_meant version v = refused BAD
id_meant positive v = refused BAD
id_meant features v = refused BAD

abbrev pub features_meant : Form → Features → Result
features_meant (words n) f = refused BAD
features_meant (some_words n) f = refused BAD
features_meant (whole lo hi) f = refused BAD
features_meant guid f = refused BAD
features_meant version f = refused BAD
features_meant positive f = refused BAD
features_meant features f = present (noted f.forecast f.query f.send)

-- what a field means by a form, where it may be missing or not: a field of another form is none of the table's
abbrev pub meant_as : Form → Field → Bytes → Bool → Result
meant_as t none texts opt = refused BAD
meant_as t (a_words None) texts opt = without opt
meant_as t (a_words (Some p)) texts opt = text_meant t texts p
meant_as t (a_whole None) texts opt = without opt
meant_as t (a_whole (Some k)) texts opt = whole_meant t k
meant_as t (a_measure None) texts opt = without opt
meant_as t (a_measure (Some d)) texts opt = measure_meant t d.millionths d.decimals
meant_as t (a_guid None) texts opt = without opt
meant_as t (a_guid (Some v)) texts opt = id_meant t v
meant_as t (a_features None) texts opt = without opt
meant_as t (a_features (Some f)) texts opt = features_meant t f

-- what a field means in a row
unfoldable pub meant_by : Row → Field → Bytes → Result
meant_by r x texts = by_need r.need (meant_as r.form x texts)

-- what each field means, in table order
unfoldable pub meant_of : List Row → List Field → Bytes → List Result
meant_of [] l texts = []
meant_of (r ∷ k) [] texts = refused BAD ∷ meant_of k [] texts
meant_of (r ∷ k) (x ∷ l) texts = meant_by r x texts ∷ meant_of k l texts

abbrev pub first_in : List Result → ℕ
first_in [] = 0
first_in (x ∷ l) = first (refusal_in x) (first_in l)

-- a field that is there as an attribute
abbrev pub is_given : Field → Bool
is_given none = false
is_given (a_words None) = false
is_given (a_words (Some p)) = true
is_given (a_whole None) = false
is_given (a_whole (Some k)) = true
is_given (a_measure None) = false
is_given (a_measure (Some d)) = true
is_given (a_guid None) = false
is_given (a_guid (Some v)) = true
is_given (a_features f) = false

-- the attribute n is there
abbrev pub given_in : List Row → List Field → Bytes → Bool
given_in [] l n = false
given_in (r ∷ k) [] n = false
given_in (r ∷ k) (x ∷ l) n = (same n r.name && is_given x) || given_in k l n

-- rows, by what is there of their fields
abbrev pub rows_with : List Row → List Field → List Row
rows_with rows fields = settled (given_in rows fields) rows

-- what fields of a kind mean by a given table
abbrev pub meant_in : List Entry → ℕ → List Field → Bytes → List Result
meant_in by k fields texts = meant_of (rows_with (rows_in by k) fields) fields texts

-- "In sending, 4, 5, 6 in table order": 0 if no row refuses; of fields of a kind, by a given table and by the one of document 01, and of a message
abbrev pub refused_in : List Entry → ℕ → List Field → Bytes → ℕ
refused_in by k fields texts = first_in (meant_in by k fields texts)

abbrev pub refusal_by : ℕ → List Field → Bytes → ℕ
refusal_by k fields texts = refused_in table k fields texts

abbrev pub refusal_of : Message → Bytes → ℕ
refusal_of m texts = refusal_by m.kind (fields_of m) texts
