-- A message of the largest size: each text as long as it may be, and nothing in it but quotes.
use Rattle.std.specs.Prelude.{Some}
use mathlib.Core.Path.{◌≡◌, refl}
use mathlib.Core.List.{List, [], ◌∷◌}
use lib.ListN.{length, replicate}
use Rattle.lane.specs.Names.{BoardForecast}
use Rattle.grammar.specs.Bytes.{Bytes, text, within}
use Rattle.grammar.specs.Character.{is_char}
use Rattle.model.specs.Characters.{char_p, plain_byte}
use Rattle.number.specs.Bytes.{digit, hex}
use Rattle.number.specs.Guid.{may, filled, guid_of}
use Rattle.number.specs.Digits.{digits_of, print_int}
use Rattle.spelling.specs.Written.{escape_byte, escape}
use Rattle.spelling.specs.Decided.{text_from, is_text}
use Rattle.spelling.proofs.Theorems.{largest}
use Rattle.table.specs.Table.{Form, words, some_words, whole, guid, version, positive, features, Row, table, rows_of}
use Rattle.message.specs.Fields.{Field, none, a_words, a_whole, a_measure, a_guid}
use Rattle.message.specs.Cells.{cells_of, fields_from, field_by, words_by, whole_by, measure_by, guid_by, features_by}
use Rattle.message.specs.Messages.{message_from, fields_of, with_zeros}
use Rattle.message.specs.declared.cells.Message.{Message}
use Rattle.meant.specs.Meant.{meant_by, meant_of, refusal_of}
use Rattle.meant.specs.Written.{attribute_of, attributes_of, child_of, children_of, written_of}
use Rattle.meant.proofs.SizeLaws.{LARGEST}

abbrev pub quotes : Bytes
quotes = replicate 254 34

-- a field of the largest size: the first n quotes, the largest int, the largest decimal
abbrev largest_field : Form → Field
largest_field (words n) = a_words (Some (record { start = 0; len = n }))
largest_field (some_words n) = a_words (Some (record { start = 0; len = n }))
largest_field (whole lo hi) = a_whole (Some hi)
largest_field guid = a_guid (Some (text "01234567-89ab-cdef-0123-456789abcdef"))
largest_field version = none
largest_field positive = a_measure (Some (record { millionths = 9999999999999; decimals = 0 }))
largest_field features = none

abbrev largest_fields : List Row → List Field
largest_fields [] = []
largest_fields (r ∷ rows) = largest_field r.form ∷ largest_fields rows

unfoldable pub largest_message : Message
largest_message = message_from BoardForecast (largest_fields (rows_of BoardForecast))

pub largest_sendable : refusal_of largest_message quotes ≡ 0
unfolding largest_message message_from fields_of table meant_of meant_by within is_text text_from char_p plain_byte is_char guid_of filled may hex digit with_zeros cells_of fields_from field_by words_by whole_by measure_by guid_by features_by
largest_sendable = refl

pub largest_long : length (written_of largest_message quotes) ≡ LARGEST
unfolding largest_message message_from fields_of table attributes_of attribute_of children_of child_of print_int digits_of escape escape_byte with_zeros cells_of fields_from field_by words_by whole_by measure_by guid_by features_by
largest_long = rw largest
