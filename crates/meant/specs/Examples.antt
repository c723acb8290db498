-- Worked examples: the bytes of messages of each kind, and what may be sent at the ends of each range and just beyond. They hold by computation.
use Rattle.std.specs.Prelude.{◌≡◌, refl, List, [], ◌∷◌, Bool, true, false, ℕ, zero, suc, Some, None}
use Prim.Native.String.{String}
use Rattle.grammar.specs.Bytes.{Bytes, text, within}
use Rattle.grammar.specs.Character.{is_char}
use Rattle.model.specs.Characters.{second3, third3, second4, plain_byte, char_p}
use Rattle.number.specs.Bytes.{digit, hex, all, drop_back, keep_before, before, behind, pointed}
use Rattle.number.specs.Guid.{may, filled, guid_of}
use Rattle.number.specs.Version.{one_to_three, version_of}
use Rattle.number.specs.Digits.{digits_of, print_int, places}
use Rattle.spelling.specs.Written.{escape_byte, escape, behind_point, print_decimal}
use Rattle.spelling.specs.Decided.{text_from, is_text}
use Rattle.table.specs.Table.{words, some_words, whole, guid, version, positive, features, Entry, entry, ◌is◌, ◌opt◌, if_there, table}
use Rattle.table.specs.Says.{a_text, an_int, millionths, an_id, noted, absent, present, refused}
use Rattle.message.specs.Fields.{Field, a_words, a_whole, a_measure, a_guid, a_features}
use Rattle.message.specs.Cells.{cells_of, fields_from, field_by, words_by, whole_by, measure_by, guid_by, features_by}
use Rattle.message.specs.Messages.{message_from, fields_of, with_zeros}
use Rattle.meant.specs.Meant.{text_meant, whole_meant, measure_meant, id_meant, features_meant, meant_by, meant_of, meant_in, refused_in, refusal_of}
use Rattle.meant.specs.Written.{attribute_of, attributes_of, child_of, children_of, written_in, written_of}
use Rattle.meant.specs.Notices.{description, notice}

-- fields
abbrev part : ℕ → ℕ → Field
part start len = a_words (Some (record { start = start; len = len }))

abbrev int : ℕ → Field
int n = a_whole (Some n)

abbrev size : ℕ → Field
size n = a_measure (Some (record { millionths = n; decimals = 0 }))

abbrev id : String → Field
id s = a_guid (Some (text s))

abbrev supports : Bool → Bool → Bool → Field
supports f q s = a_features (Some (record { forecast = f; query = q; send = s }))

-- a message of kind k with these fields, whose texts are parts of t, is written as w
abbrev Writes : ℕ → List Field → String → String → Type 0
Writes k l t w = written_of (message_from k l) (text t) ≡ text w

-- "The writer: no declaration, no glue except one space before each attribute, double quotes, table order, empty tags where nothing is inside,
-- features in the order named above."
pub service :
    Writes 1 (part 0 1 ∷ int 1 ∷ part 1 3 ∷ supports false false false ∷ []) "m1.6"
    "<Hermes><ServiceDescription MachineId=\"m\" LaneId=\"1\" Version=\"1.6\"><SupportedFeatures/></ServiceDescription></Hermes>"
    × Writes 1 (part 0 1 ∷ int 65535 ∷ part 1 3 ∷ supports true true true ∷ []) "m1.6"
    "<Hermes><ServiceDescription MachineId=\"m\" LaneId=\"65535\" Version=\"1.6\"><SupportedFeatures><FeatureBoardForecast/><FeatureQueryBoardInfo/><FeatureSendBoardInfo/></SupportedFeatures></ServiceDescription></Hermes>"
unfolding message_from fields_of table attributes_of attribute_of children_of child_of escape escape_byte print_int digits_of with_zeros cells_of fields_from field_by words_by whole_by measure_by guid_by features_by
service = (refl, refl)

pub notification : Writes 2 (int 7 ∷ int 4 ∷ part 0 3 ∷ []) "a&b" "<Hermes><Notification NotificationCode=\"7\" Severity=\"4\" Description=\"a&amp;b\"/></Hermes>"
unfolding message_from fields_of table attributes_of attribute_of children_of child_of escape escape_byte print_int digits_of with_zeros cells_of fields_from field_by words_by whole_by measure_by guid_by features_by
notification = refl

-- every attribute of a board, and none that may be missing
pub board :
    Writes 3
    (id "01234567-89ab-cdef-0123-456789abcdef" ∷ part 0 1 ∷ int 1 ∷ part 1 1 ∷ int 2 ∷ part 2 1 ∷ part 3 1 ∷ size 1000000 ∷ size 2000000 ∷ size 500000 ∷ size 4000000 ∷ size 5000000 ∷ size 6000000 ∷ size 7000000 ∷ part 4 1 ∷ int 900 ∷ part 5 1 ∷ [])
    "cptbwl"
    "<Hermes><BoardAvailable BoardId=\"01234567-89ab-cdef-0123-456789abcdef\" BoardIdCreatedBy=\"c\" FailedBoard=\"1\" ProductTypeId=\"p\" FlippedBoard=\"2\" TopBarcode=\"t\" BottomBarcode=\"b\" Length=\"1\" Width=\"2\" Thickness=\"0.5\" ConveyorSpeed=\"4\" TopClearanceHeight=\"5\" BottomClearanceHeight=\"6\" Weight=\"7\" WorkOrderId=\"w\" Route=\"900\" BatchId=\"l\"/></Hermes>"
    × Writes 3
    (id "01234567-89ab-cdef-0123-456789abcdef" ∷ part 0 1 ∷ int 0 ∷ a_words None ∷ int 0 ∷ a_words None ∷ a_words None ∷ a_measure None ∷ a_measure None ∷ a_measure None ∷ a_measure None ∷ a_measure None ∷ a_measure None ∷ a_measure None ∷ a_words None ∷ a_whole None ∷ a_words None ∷ [])
    "c"
    "<Hermes><BoardAvailable BoardId=\"01234567-89ab-cdef-0123-456789abcdef\" BoardIdCreatedBy=\"c\" FailedBoard=\"0\" FlippedBoard=\"0\"/></Hermes>"
unfolding message_from fields_of table attributes_of attribute_of children_of child_of escape escape_byte print_int digits_of print_decimal places behind_point drop_back keep_before with_zeros cells_of fields_from field_by words_by whole_by measure_by guid_by features_by
board = (refl, refl)

pub others :
    Writes 4 [] "" "<Hermes><RevokeBoardAvailable/></Hermes>"
    × Writes 5 (int 2 ∷ []) "" "<Hermes><MachineReady FailedBoard=\"2\"/></Hermes>"
    × Writes 6 [] "" "<Hermes><RevokeMachineReady/></Hermes>"
    × Writes 7 (id "00000000-0000-0000-0000-00000000000a" ∷ size 1 ∷ []) "" "<Hermes><StartTransport BoardId=\"00000000-0000-0000-0000-00000000000a\" ConveyorSpeed=\"0.000001\"/></Hermes>"
    × Writes 8 (int 1 ∷ id "00000000-0000-0000-0000-00000000000a" ∷ []) "" "<Hermes><StopTransport TransferState=\"1\" BoardId=\"00000000-0000-0000-0000-00000000000a\"/></Hermes>"
    × Writes 9 (int 3 ∷ id "00000000-0000-0000-0000-00000000000a" ∷ []) "" "<Hermes><TransportFinished TransferState=\"3\" BoardId=\"00000000-0000-0000-0000-00000000000a\"/></Hermes>"
    × Writes 10 (int 1 ∷ part 0 0 ∷ []) "" "<Hermes><CheckAlive Type=\"1\" Id=\"\"/></Hermes>"
    × Writes 10 (a_whole None ∷ a_words None ∷ []) "" "<Hermes><CheckAlive/></Hermes>"
unfolding message_from fields_of table attributes_of attribute_of children_of child_of escape escape_byte print_int digits_of print_decimal places behind_point drop_back keep_before with_zeros cells_of fields_from field_by words_by whole_by measure_by guid_by features_by
others = (refl, refl, refl, refl, refl, refl, refl, refl)

-- order 6: "The writer pads to that many digits, never cutting a digit that matters."
pub padding :
    Writes 7 (id "00000000-0000-0000-0000-00000000000a" ∷ a_measure (Some (record { millionths = 160000000; decimals = 2 })) ∷ []) "" "<Hermes><StartTransport BoardId=\"00000000-0000-0000-0000-00000000000a\" ConveyorSpeed=\"160.00\"/></Hermes>"
    × Writes 7 (id "00000000-0000-0000-0000-00000000000a" ∷ a_measure (Some (record { millionths = 500000; decimals = 0 })) ∷ []) "" "<Hermes><StartTransport BoardId=\"00000000-0000-0000-0000-00000000000a\" ConveyorSpeed=\"0.5\"/></Hermes>"
    × Writes 7 (id "00000000-0000-0000-0000-00000000000a" ∷ a_measure (Some (record { millionths = 1000000; decimals = 6 })) ∷ []) "" "<Hermes><StartTransport BoardId=\"00000000-0000-0000-0000-00000000000a\" ConveyorSpeed=\"1.000000\"/></Hermes>"
unfolding message_from fields_of table attributes_of attribute_of children_of child_of escape escape_byte print_int digits_of print_decimal places behind_point drop_back keep_before with_zeros cells_of fields_from field_by words_by whole_by measure_by guid_by features_by
padding = (refl, refl, refl)

-- "D is `malformed message`, .. for 2, 3, 4, 5, 6, 9"
pub notices :
    (notice 2 ≡ text "<Hermes><Notification NotificationCode=\"1\" Severity=\"1\" Description=\"malformed message\"/></Hermes>")
    × (notice 3 ≡ text "<Hermes><Notification NotificationCode=\"1\" Severity=\"1\" Description=\"message too long\"/></Hermes>")
    × (notice 4 ≡ text "<Hermes><Notification NotificationCode=\"1\" Severity=\"1\" Description=\"missing attribute\"/></Hermes>")
    × (notice 5 ≡ text "<Hermes><Notification NotificationCode=\"1\" Severity=\"1\" Description=\"text too long\"/></Hermes>")
    × (notice 6 ≡ text "<Hermes><Notification NotificationCode=\"1\" Severity=\"1\" Description=\"bad value\"/></Hermes>")
    × (notice 9 ≡ text "<Hermes><Notification NotificationCode=\"1\" Severity=\"1\" Description=\"invalid transition\"/></Hermes>")
unfolding notice description
notices = (refl, refl, refl, refl, refl, refl)

-- n bytes `a`
abbrev many : ℕ → Bytes
many zero = []
many (suc n) = 97 ∷ many n

-- ints and measures: "1..2", and 1 to 9,999,999,999,999 millionths
pub sizes :
    (whole_meant (whole 1 2) 0 ≡ refused 6)
    × (whole_meant (whole 1 2) 1 ≡ present (an_int 1))
    × (whole_meant (whole 1 2) 2 ≡ present (an_int 2))
    × (whole_meant (whole 1 2) 3 ≡ refused 6)
    × (measure_meant positive 0 0 ≡ refused 6)
    × (measure_meant positive 1 0 ≡ present (millionths 1 6))
    × (measure_meant positive 9999999999999 0 ≡ present (millionths 9999999999999 6))
    × (measure_meant positive 10000000000000 0 ≡ refused 6)
    × (measure_meant positive 160000000 2 ≡ present (millionths 160000000 2))
    × (measure_meant positive 500000 0 ≡ present (millionths 500000 1))
    × (measure_meant positive 1000000 6 ≡ present (millionths 1000000 6))
    × (measure_meant positive 1000000 7 ≡ refused 6)
unfolding within places drop_back keep_before
sizes = (refl, refl, refl, refl, refl, refl, refl, refl, refl, refl, refl, refl)

-- texts: 5 by the length, whatever stands there; then 6 for a place that runs outside, for bytes that are no text, and for no bytes where
-- some must stand
pub texts :
    (text_meant (words 2) (many 3) (record { start = 1; len = 2 }) ≡ present (a_text (many 2)))
    × (text_meant (words 2) (many 3) (record { start = 0; len = 3 }) ≡ refused 5)
    × (text_meant (words 2) [] (record { start = 0; len = 3 }) ≡ refused 5)
    × (text_meant (words 2) (many 3) (record { start = 2; len = 2 }) ≡ refused 6)
    × (text_meant (words 2) (8 ∷ []) (record { start = 0; len = 1 }) ≡ refused 6)
    × (text_meant (words 2) [] (record { start = 0; len = 0 }) ≡ present (a_text []))
    × (text_meant (some_words 2) [] (record { start = 0; len = 0 }) ≡ refused 6)
    × (text_meant (some_words 2) (many 2) (record { start = 0; len = 2 }) ≡ present (a_text (many 2)))
    × (text_meant (some_words 2) (many 3) (record { start = 0; len = 3 }) ≡ refused 5)
    × (text_meant version (text "1.6") (record { start = 0; len = 3 }) ≡ present (a_text (text "1.6")))
    × (text_meant version (text "1.6") (record { start = 0; len = 2 }) ≡ refused 6)
unfolding is_text text_from char_p second3 third3 second4 plain_byte is_char within version_of one_to_three before behind pointed all digit
texts = (refl, refl, refl, refl, refl, refl, refl, refl, refl, refl, refl)

-- ids and features; what is absent is 4 where it may not be missing
pub presence :
    (id_meant guid (text "00000000-0000-0000-0000-00000000000a") ≡ present (an_id (text "00000000-0000-0000-0000-00000000000a")))
    × (id_meant guid (text "00000000-0000-0000-0000-00000000000A") ≡ refused 6)
    × (features_meant features (record { forecast = true; query = false; send = false }) ≡ present (noted true false false))
    × (features_meant features (record { forecast = false; query = true; send = false }) ≡ present (noted false true false))
    × (refusal_of (message_from 5 (a_whole None ∷ [])) [] ≡ 4)
    × (refusal_of (message_from 8 (int 4 ∷ [])) [] ≡ 6)
    × (refusal_of (message_from 8 (int 3 ∷ [])) [] ≡ 4)
    × (refusal_of (message_from 10 []) [] ≡ 0)
unfolding guid_of filled may hex digit within message_from fields_of table meant_of meant_by with_zeros cells_of fields_from field_by words_by whole_by measure_by guid_by features_by
presence = (refl, refl, refl, refl, refl, refl, refl, refl)

-- a table of its own, of one kind: with a BoardId the maker is required, without it the maker is not looked at, and not written
abbrev info : List Entry
info = entry 1 "Info" ("BoardId" opt guid ∷ if_there "BoardId" ("MadeBy" is some_words 80) ∷ "Weight" opt positive ∷ []) ∷ []

abbrev a_board : Field
a_board = id "00000000-0000-0000-0000-00000000000a"

abbrev no_board : Field
no_board = a_guid None

pub with_another :
    (refused_in info 1 (a_board ∷ a_words None ∷ size 500000 ∷ []) (text "m") ≡ 4)
    × (refused_in info 1 (a_board ∷ part 0 0 ∷ size 500000 ∷ []) (text "m") ≡ 6)
    × (refused_in info 1 (a_board ∷ part 0 1 ∷ size 500000 ∷ []) (text "m") ≡ 0)
    × (written_in info 1 (a_board ∷ part 0 1 ∷ size 500000 ∷ []) (text "m") ≡ text "<Hermes><Info BoardId=\"00000000-0000-0000-0000-00000000000a\" MadeBy=\"m\" Weight=\"0.5\"/></Hermes>")
unfolding meant_of meant_by guid_of filled may hex digit within is_text text_from char_p second3 third3 second4 plain_byte is_char attributes_of attribute_of children_of child_of escape escape_byte print_int digits_of print_decimal places behind_point drop_back keep_before
with_another = (refl, refl, refl, refl)

pub without_another :
    (refused_in info 1 (no_board ∷ a_words None ∷ size 500000 ∷ []) [] ≡ 0)
    × (refused_in info 1 (no_board ∷ part 7 300 ∷ size 500000 ∷ []) [] ≡ 0)
    × (meant_in info 1 (no_board ∷ part 7 300 ∷ size 500000 ∷ []) [] ≡ absent ∷ absent ∷ present (millionths 500000 1) ∷ [])
    × (written_in info 1 (no_board ∷ part 7 300 ∷ size 500000 ∷ []) [] ≡ text "<Hermes><Info Weight=\"0.5\"/></Hermes>")
    × (refused_in info 1 (no_board ∷ part 7 300 ∷ size 0 ∷ []) [] ≡ 6)
unfolding meant_of meant_by within attributes_of attribute_of children_of child_of escape escape_byte print_int digits_of print_decimal places behind_point drop_back keep_before
without_another = (refl, refl, refl, refl, refl)
