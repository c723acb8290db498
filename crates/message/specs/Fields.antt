-- What is handed out of a message: a field for each row of its kind.
use Rattle.value.specs.declared.text.Span.{Span}
use Rattle.message.specs.declared.values.Decimal.{Decimal}
use Rattle.std.specs.Prelude.{List, [], ◌∷◌, Option, Some, None, ℕ}
use Rattle.grammar.specs.Bytes.{Bytes}
use Rattle.grammar.specs.Tree.{Tree}
use Rattle.table.specs.Table.{Row, Form, words, some_words, whole, guid, version, positive, features, Need, required, optional, required_with, ignored}
use Rattle.table.specs.Says.{a_text, an_int, millionths, an_id, noted, Result, absent, present, refused, tried}
use Rattle.message.specs.declared.values.Features.{Features}

-- "An optional value is either absent or present with its value": what each case of a field says
abbrev pub whole_in : Result → Option ℕ
whole_in absent = None
whole_in (refused n) = None
whole_in (present (a_text v)) = None
whole_in (present (an_int n)) = Some n
whole_in (present (millionths n d)) = None
whole_in (present (an_id v)) = None
whole_in (present (noted a b c)) = None

abbrev pub measure_in : Result → Option Decimal
measure_in absent = None
measure_in (refused n) = None
measure_in (present (a_text v)) = None
measure_in (present (an_int n)) = None
measure_in (present (millionths n d)) = Some (record { millionths = n; decimals = d })
measure_in (present (an_id v)) = None
measure_in (present (noted a b c)) = None

abbrev pub id_in : Result → Option Bytes
id_in absent = None
id_in (refused n) = None
id_in (present (a_text v)) = None
id_in (present (an_int n)) = None
id_in (present (millionths n d)) = None
id_in (present (an_id v)) = Some v
id_in (present (noted a b c)) = None

abbrev pub features_in : Result → Option Features
features_in absent = None
features_in (refused n) = None
features_in (present (a_text v)) = None
features_in (present (an_int n)) = None
features_in (present (millionths n d)) = None
features_in (present (an_id v)) = None
features_in (present (noted a b c)) = Some (record { forecast = a; query = b; send = c })

-- a field of a message; a text is the place of its raw value
pub data Field : Type 0 where
  none : Field
  a_words : Option Span → Field
  a_whole : Option ℕ → Field
  a_measure : Option Decimal → Field
  a_guid : Option Bytes → Field
  a_features : Option Features → Field

-- the place of a text by its need: what is not looked at has none
abbrev pub placed_by : Need → Option Span → Option Span
placed_by required w = w
placed_by optional w = w
placed_by (required_with n) w = None
placed_by ignored w = None

-- the field of a form, whose raw value stands at w
unfoldable pub field_for : Form → Option Span → Result → Field
field_for (words n) w x = a_words w
field_for (some_words n) w x = a_words w
field_for (whole lo hi) w x = a_whole (whole_in x)
field_for guid w x = a_guid (id_in x)
field_for version w x = a_words w
field_for positive w x = a_measure (measure_in x)
field_for features w x = a_features (features_in x)

-- of a row
abbrev pub field_of : Row → Option Span → Result → Field
field_of r w x = field_for r.form (placed_by r.need w) x

-- the fields of the rows, in table order, where `place` tells where the raw value of a name stands
unfoldable pub fields_in : List Row → (Bytes → Option Span) → Tree → List Field
fields_in [] place t = []
fields_in (r ∷ l) place t = field_of r (place r.name) (tried r t) ∷ fields_in l place t

-- the value of a field; absent if it is of another sort
abbrev pub the_words : Field → Option Span
the_words none = None
the_words (a_words x) = x
the_words (a_whole x) = None
the_words (a_measure x) = None
the_words (a_guid x) = None
the_words (a_features x) = None

abbrev pub the_whole : Field → Option ℕ
the_whole none = None
the_whole (a_words x) = None
the_whole (a_whole x) = x
the_whole (a_measure x) = None
the_whole (a_guid x) = None
the_whole (a_features x) = None

abbrev pub the_measure : Field → Option Decimal
the_measure none = None
the_measure (a_words x) = None
the_measure (a_whole x) = None
the_measure (a_measure x) = x
the_measure (a_guid x) = None
the_measure (a_features x) = None

abbrev pub the_id : Field → Option Bytes
the_id none = None
the_id (a_words x) = None
the_id (a_whole x) = None
the_id (a_measure x) = None
the_id (a_guid x) = x
the_id (a_features x) = None

abbrev pub the_features : Field → Option Features
the_features none = None
the_features (a_words x) = None
the_features (a_whole x) = None
the_features (a_measure x) = None
the_features (a_guid x) = None
the_features (a_features x) = x
