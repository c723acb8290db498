-- Worked examples: what each attribute hands out, and what the answers are. They hold by computation.
use Rattle.value.specs.declared.text.Span.{Span}
use Rattle.std.specs.Prelude.{◌≡◌, refl, List, [], ◌∷◌, true, false, length, replicate, Option, Some, None}
use Prim.Native.String.{String}
use Rattle.number.specs.Bytes.{blank, digit, hex, non_empty, all, drop_front, keep_before, drop_back, trim, value_from, before, behind}
use Rattle.number.specs.Whole.{sized, signed, int_of}
use Rattle.number.specs.Positive.{written, short, above, millionths as decimals, decimal, unsigned, parted, number_of, decimals_of}
use Rattle.number.specs.Guid.{may, filled, guid_of}
use Rattle.grammar.specs.Bytes.{Bytes, text, within}
use Rattle.grammar.specs.Tree.{Pair, Tree, tree, Forest, no_trees, tree_then}
use Rattle.table.specs.Table.{words, ◌is◌, if_there, table, settled}
use Rattle.message.specs.Fields.{Field, a_words, a_whole, a_measure, a_guid, a_features, fields_in, field_for}
use Rattle.message.specs.Cells.{cells_of}
use Rattle.message.specs.Messages.{with_zeros, message_from, blank as nothing, bytes_in}
use Rattle.message.specs.Checked.{unread, message_of, judged_to}
use Rattle.table.specs.Says.{judged, tried}

infix 70 ◌:=◌
abbrev ◌:=◌ : String → String → Pair
n := v = record { name = text n; value = text v }

-- an empty root around one element
abbrev root : Tree → Tree
root t = tree (text "Hermes") [] (tree_then t no_trees)

-- an element without children
abbrev says : String → List Pair → Tree
says n a = root (tree (text n) a no_trees)

-- an element named, with nothing in it
abbrev bare : String → Tree
bare n = tree (text n) [] no_trees

-- a ServiceDescription with children
abbrev described : Forest → Tree
described f = root (tree (text "ServiceDescription") ("MachineId" := "" ∷ "LaneId" := "1" ∷ "Version" := "1.2" ∷ []) f)

abbrev featuring : Forest → Tree
featuring f = tree (text "SupportedFeatures") [] f

-- an answer without a message; a message that is refused tells its kind and nothing else, one that is accepted all it says
pub answers :
    (unread 2 3 7 ≡ record { refusal = 2; start = 3; end = 0; place = 7; message = nothing 0 })
    × (judged_to 3 9 5 6 (nothing 1) ≡ record { refusal = 6; start = 3; end = 9; place = 0; message = nothing 5 })
    × (judged_to 3 9 5 0 (nothing 1) ≡ record { refusal = 0; start = 3; end = 9; place = 0; message = nothing 1 })
answers = (refl, refl, refl)

-- a raw value stands where its name says: at the name's first byte, as long as the rest of the name
abbrev spot : Bytes → Option Span
spot [] = None
spot (b ∷ n) = Some (record { start = b; len = length n })

abbrev at : String → Option Span
at n = spot (text n)

-- the id of the examples
abbrev some_id : Option Bytes
some_id = Some (text "01234567-89ab-cdef-0123-456789abcdef")

-- the attributes of a board from FailedBoard to WorkOrderId, with others behind them, and their fields
abbrev board_with : List Pair → List Pair
board_with rest =
    "FailedBoard" := "1"
    ∷ "ProductTypeId" := "p"
    ∷ "FlippedBoard" := "2"
    ∷ "TopBarcode" := "t"
    ∷ "BottomBarcode" := "b"
    ∷ "Length" := "1"
    ∷ "Width" := "2"
    ∷ "Thickness" := ".5"
    ∷ "ConveyorSpeed" := "4"
    ∷ "TopClearanceHeight" := "5"
    ∷ "BottomClearanceHeight" := "6"
    ∷ "Weight" := "7"
    ∷ "WorkOrderId" := "w"
    ∷ rest

abbrev fields_with : List Field → List Field
fields_with rest =
    a_whole (Some 1)
    ∷ a_words (at "ProductTypeId")
    ∷ a_whole (Some 2)
    ∷ a_words (at "TopBarcode")
    ∷ a_words (at "BottomBarcode")
    ∷ a_measure (Some (record { millionths = 1000000; decimals = 0 }))
    ∷ a_measure (Some (record { millionths = 2000000; decimals = 0 }))
    ∷ a_measure (Some (record { millionths = 500000; decimals = 1 }))
    ∷ a_measure (Some (record { millionths = 4000000; decimals = 0 }))
    ∷ a_measure (Some (record { millionths = 5000000; decimals = 0 }))
    ∷ a_measure (Some (record { millionths = 6000000; decimals = 0 }))
    ∷ a_measure (Some (record { millionths = 7000000; decimals = 0 }))
    ∷ a_words (at "WorkOrderId")
    ∷ rest

-- each attribute is handed out in its own field
pub board_fields_lem :
    message_of 3 spot
    (tree (text "BoardAvailable")
    ("BoardId" := "01234567-89ab-cdef-0123-456789abcdef"
    ∷ "BoardIdCreatedBy" := "c"
    ∷ board_with ("Route" := "900" ∷ "BatchId" := "l" ∷ []))
    no_trees)
    ≡ message_from 3
    (a_guid some_id
    ∷ a_words (at "BoardIdCreatedBy")
    ∷ fields_with (a_whole (Some 900) ∷ a_words (at "BatchId") ∷ []))
unfolding table message_from with_zeros cells_of fields_in field_for tried judged guid_of filled may hex int_of signed sized number_of decimals_of parted unsigned decimal written short above decimals before behind trim drop_front drop_back keep_before blank digit all non_empty value_from within
board_fields_lem = refl

pub forecast_fields_lem :
    message_of 11 spot
    (tree (text "BoardForecast")
    ("ForecastId" := "f"
    ∷ "TimeUntilAvailable" := "9"
    ∷ "BoardId" := "01234567-89ab-cdef-0123-456789abcdef"
    ∷ "BoardIdCreatedBy" := ""
    ∷ board_with [])
    no_trees)
    ≡ message_from 11
    (a_words (at "ForecastId")
    ∷ a_measure (Some (record { millionths = 9000000; decimals = 0 }))
    ∷ a_guid some_id
    ∷ a_words (at "BoardIdCreatedBy")
    ∷ fields_with [])
unfolding table message_from with_zeros cells_of fields_in field_for tried judged guid_of filled may hex int_of signed sized number_of decimals_of parted unsigned decimal written short above decimals before behind trim drop_front drop_back keep_before blank digit all non_empty value_from within
forecast_fields_lem = refl

pub service_fields_lem :
    message_of 1 spot (tree (text "ServiceDescription") ("MachineId" := "m" ∷ "LaneId" := "7" ∷ "Version" := "1.6" ∷ []) (tree_then (featuring (tree_then (bare "FeatureQueryBoardInfo") no_trees)) no_trees))
    ≡ message_from 1 (a_words (at "MachineId") ∷ a_whole (Some 7) ∷ a_words (at "Version") ∷ a_features (Some (record { forecast = false; query = true; send = false })) ∷ [])
unfolding table message_from with_zeros cells_of fields_in field_for tried judged int_of signed sized trim drop_front drop_back keep_before blank digit all non_empty value_from within
service_fields_lem = refl

pub other_fields :
    (message_of 2 spot (tree (text "Notification") ("NotificationCode" := "8" ∷ "Severity" := "3" ∷ "Description" := "d" ∷ []) no_trees) ≡ message_from 2 (a_whole (Some 8) ∷ a_whole (Some 3) ∷ a_words (at "Description") ∷ []))
    × (message_of 5 spot (tree (text "MachineReady") ("FailedBoard" := "2" ∷ "ForecastId" := "f" ∷ []) no_trees) ≡ message_from 5 (a_whole (Some 2) ∷ a_words (at "ForecastId") ∷ []))
    × (message_of 7 spot (tree (text "StartTransport") ("BoardId" := "01234567-89ab-cdef-0123-456789abcdef" ∷ "ConveyorSpeed" := "4" ∷ []) no_trees) ≡ message_from 7 (a_guid some_id ∷ a_measure (Some (record { millionths = 4000000; decimals = 0 })) ∷ []))
    × (message_of 8 spot (tree (text "StopTransport") ("TransferState" := "3" ∷ "BoardId" := "01234567-89ab-cdef-0123-456789abcdef" ∷ []) no_trees) ≡ message_from 8 (a_whole (Some 3) ∷ a_guid some_id ∷ []))
    × (message_of 9 spot (tree (text "TransportFinished") ("TransferState" := "1" ∷ "BoardId" := "01234567-89ab-cdef-0123-456789abcdef" ∷ []) no_trees) ≡ message_from 9 (a_whole (Some 1) ∷ a_guid some_id ∷ []))
    × (message_of 10 spot (tree (text "CheckAlive") ("Type" := "2" ∷ "Id" := "i" ∷ []) no_trees) ≡ message_from 10 (a_whole (Some 2) ∷ a_words (at "Id") ∷ []))
unfolding table message_from with_zeros cells_of fields_in field_for tried judged guid_of filled may hex int_of signed sized number_of decimals_of parted unsigned decimal written short above decimals before behind trim drop_front drop_back keep_before blank digit all non_empty value_from within
other_fields = (refl, refl, refl, refl, refl, refl)

-- the numbers of a message: of an id whether it is there, of a text its place, of a number its value, of features their bits; zeros behind them
pub message_numbers :
    (message_from 7 (a_guid some_id ∷ a_measure (Some (record { millionths = 4000000; decimals = 2 })) ∷ []) ≡ record { kind = 7; cells = 1 ∷ 0 ∷ 0 ∷ 1 ∷ 4000000 ∷ 2 ∷ replicate 66 0; id = bytes_in some_id })
    × (message_from 10 (a_whole (Some 2) ∷ a_words (Some (record { start = 31; len = 4 })) ∷ []) ≡ record { kind = 10; cells = 1 ∷ 2 ∷ 0 ∷ 1 ∷ 31 ∷ 4 ∷ replicate 66 0; id = replicate 36 0 })
    × (message_from 1 (a_words None ∷ a_whole (Some 1) ∷ a_words None ∷ a_features (Some (record { forecast = true; query = false; send = true })) ∷ []) ≡ record { kind = 1; cells = 0 ∷ 0 ∷ 0 ∷ 1 ∷ 1 ∷ 0 ∷ 0 ∷ 0 ∷ 0 ∷ 1 ∷ 5 ∷ 0 ∷ replicate 60 0; id = replicate 36 0 })
    × (message_from 5 [] ≡ nothing 5)
unfolding message_from with_zeros cells_of
message_numbers = (refl, refl, refl, refl)

-- a text that is required with another attribute: its place, or none where it is not looked at
pub with_another :
    (fields_in (settled (λ n. true) (if_there "BoardId" ("MadeBy" is words 80) ∷ [])) spot (bare "X") ≡ a_words (at "MadeBy") ∷ [])
    × (fields_in (settled (λ n. false) (if_there "BoardId" ("MadeBy" is words 80) ∷ [])) spot (bare "X") ≡ a_words None ∷ [])
unfolding fields_in field_for
with_another = (refl, refl)
