-- The bytes that are written for a message.
use Rattle.std.specs.Prelude.{List, [], ◌∷◌, ◌++◌, cond, ℕ, Some, None}
use Rattle.grammar.specs.Bytes.{Bytes, text}
use Rattle.number.specs.Digits.{print_int}
use Rattle.spelling.specs.Written.{escape, print_decimal}
use Rattle.table.specs.Table.{Need, required, optional, required_with, ignored, Row, Entry, table, rows_in, name_in}
use Rattle.message.specs.Fields.{Field, none, a_words, a_whole, a_measure, a_guid, a_features}
use Rattle.message.specs.Messages.{fields_of}
use Rattle.message.specs.declared.values.Features.{Features}
use Rattle.message.specs.declared.cells.Message.{Message}
use Rattle.meant.specs.Meant.{text_at, rows_with}

-- "one space before each attribute, double quotes": an attribute of the name n with the value v
abbrev pub attribute : Bytes → Bytes → Bytes
attribute n v = text " " ++ (n ++ (text "=\"" ++ (escape v ++ text "\"")))

-- the attribute of a field, if it is there; features are a child
unfoldable pub attribute_of : Bytes → Field → Bytes → Bytes
attribute_of n none texts = []
attribute_of n (a_words None) texts = []
attribute_of n (a_words (Some p)) texts = attribute n (text_at texts p)
attribute_of n (a_whole None) texts = []
attribute_of n (a_whole (Some k)) texts = attribute n (print_int k)
attribute_of n (a_measure None) texts = []
attribute_of n (a_measure (Some d)) texts = attribute n (print_decimal d.millionths d.decimals)
attribute_of n (a_guid None) texts = []
attribute_of n (a_guid (Some v)) texts = attribute n v
attribute_of n (a_features f) texts = []

-- "table order"
unfoldable pub attributes_of : List Row → List Field → Bytes → Bytes
attributes_of [] l texts = []
attributes_of (r ∷ k) [] texts = []
attributes_of (r ∷ k) (x ∷ l) texts = attribute_of r.name x texts ++ attributes_of k l texts

-- "empty tags where nothing is inside"
abbrev pub closed : Bytes → Bytes → Bytes
closed n [] = text "/>"
closed n (b ∷ c) = text ">" ++ ((b ∷ c) ++ (text "</" ++ (n ++ text ">")))

abbrev pub empty_tag : Bytes → Bytes
empty_tag n = text "<" ++ (n ++ text "/>")

-- "features in the order named above"
abbrev pub features_inside : Features → Bytes
features_inside f =
    cond f.forecast (empty_tag (text "FeatureBoardForecast")) []
    ++ (cond f.query (empty_tag (text "FeatureQueryBoardInfo")) [] ++ cond f.send (empty_tag (text "FeatureSendBoardInfo")) [])

unfoldable pub child_of : Bytes → Field → Bytes
child_of n none = []
child_of n (a_words w) = []
child_of n (a_whole w) = []
child_of n (a_measure x) = []
child_of n (a_guid g) = []
child_of n (a_features None) = []
child_of n (a_features (Some f)) = text "<" ++ (n ++ closed n (features_inside f))

unfoldable pub children_of : List Row → List Field → Bytes
children_of [] l = []
children_of (r ∷ k) [] = []
children_of (r ∷ k) (x ∷ l) = child_of r.name x ++ children_of k l

-- the name of a kind
abbrev pub name_of : ℕ → Bytes
name_of k = name_in table k

-- an element of a name with these rows and fields
abbrev pub element_of : Bytes → List Row → List Field → Bytes → Bytes
element_of n rows fields texts = text "<" ++ (n ++ (attributes_of rows fields texts ++ closed n (children_of rows fields)))

-- what is not looked at is not written
abbrev pub written_need : Need → Field → Field
written_need required x = x
written_need optional x = x
written_need (required_with n) x = none
written_need ignored x = none

abbrev pub written : List Row → List Field → List Field
written [] l = l
written (r ∷ k) [] = []
written (r ∷ k) (x ∷ l) = written_need r.need x ∷ written k l

-- an element, of what is looked at
abbrev pub element_by : Bytes → List Row → List Field → Bytes → Bytes
element_by n rows fields texts = element_of n rows (written rows fields) texts

abbrev pub rooted : Bytes → Bytes
rooted w = text "<Hermes>" ++ (w ++ text "</Hermes>")

-- "The writer: no declaration, no glue except one space before each attribute .."; of fields of a kind, by a given table and by the one of document
-- 01, and of a message
abbrev pub written_in : List Entry → ℕ → List Field → Bytes → Bytes
written_in by k fields texts = rooted (element_by (name_in by k) (rows_with (rows_in by k) fields) fields texts)

abbrev pub written_by : ℕ → List Field → Bytes → Bytes
written_by k fields texts = written_in table k fields texts

abbrev pub written_of : Message → Bytes → Bytes
written_of m texts = written_by m.kind (fields_of m) texts
