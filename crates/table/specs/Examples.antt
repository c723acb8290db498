-- Worked examples: what the table and its definitions say of small messages. They hold by computation.
use Rattle.std.specs.Prelude.{◌≡◌, refl, List, [], ◌∷◌, true, false, ℕ, zero, suc}
use Prim.Native.String.{String}
use Rattle.number.specs.Bytes.{blank, digit, hex, non_empty, all, drop_front, keep_before, drop_back, trim, value_from, before, behind, pointed}
use Rattle.number.specs.Whole.{sized, signed, int_of}
use Rattle.number.specs.Positive.{written, short, above, millionths as decimals, decimal, unsigned, parted, number_of, decimals_of}
use Rattle.number.specs.Guid.{may, filled, guid_of}
use Rattle.number.specs.Version.{one_to_three, version_of}
use Rattle.grammar.specs.Bytes.{Bytes, text, within}
use Rattle.grammar.specs.Tree.{Pair, Tree, tree, Forest, no_trees, tree_then}
use Rattle.table.specs.Table.{words, some_words, whole, guid, version, positive, Entry, entry, ◌is◌, ◌opt◌, if_there, table}
use Rattle.table.specs.Says.{Result, absent, present, refused, a_text, an_int, millionths, an_id, noted, judged, tried, refusal_of, values_of, said_in, said_of}

infix 70 ◌:=◌
abbrev ◌:=◌ : String → String → Pair
n := v = record { name = text n; value = text v }

-- an empty root around one element
abbrev root : Tree → Tree
root t = tree (text "Hermes") [] (tree_then t no_trees)

-- an element without children
abbrev says : String → List Pair → Tree
says n a = root (tree (text n) a no_trees)

-- an element named, with nothing in it
abbrev bare : String → Tree
bare n = tree (text n) [] no_trees

-- kind and refusal of a reading
abbrev Answers : Tree → ℕ → ℕ → Type 0
Answers t k n = ((said_of t).kind ≡ k) × ((said_of t).refusal ≡ n)

-- n bytes `a`
abbrev many : ℕ → Bytes
many zero = []
many (suc n) = 97 ∷ many n

-- "a name not in the attribute table is kind 0": byte for byte, and then no attribute counts
pub unknown : Answers (says "checkalive" ("Type" := "9" ∷ [])) 0 0 × Answers (says "QueryBoardInfo" []) 0 0
unfolding table refusal_of
unknown = ((refl, refl), (refl, refl))

-- "Attributes are tried in table order, each for 4, 5, 6; the first decides", whatever their order in the message
pub first_decides :
    Answers (says "BoardAvailable" ("FlippedBoard" := "9" ∷ "BoardIdCreatedBy" := "m" ∷ "BoardId" := "01234567-89ab-cdef-0123-456789abcdef" ∷ [])) 3 4
    × Answers (says "ServiceDescription" ("LaneId" := "0" ∷ "MachineId" := "m" ∷ [])) 1 6
    × Answers (root (tree (text "ServiceDescription") (record { name = text "MachineId"; value = many 81 } ∷ []) no_trees)) 1 5
unfolding table refusal_of tried judged guid_of filled may hex int_of signed sized trim drop_front drop_back keep_before blank digit all non_empty value_from within
first_decides = ((refl, refl), (refl, refl), (refl, refl))

-- the limits of a text, and an empty one: 80 bytes may stand, 81 not, none only where it need not be non-empty
pub texts :
    (judged (words 80) (many 80) ≡ present (a_text (many 80)))
    × (judged (words 80) (many 81) ≡ refused 5)
    × (judged (words 254) (many 254) ≡ present (a_text (many 254)))
    × (judged (words 254) (many 255) ≡ refused 5)
    × (judged (words 80) [] ≡ present (a_text []))
    × (judged (some_words 80) [] ≡ refused 6)
    × (judged (some_words 80) (many 80) ≡ present (a_text (many 80)))
    × (judged (some_words 80) (many 81) ≡ refused 5)
unfolding judged
texts = (refl, refl, refl, refl, refl, refl, refl, refl)

-- what is no id, no version or no number is 6
pub shapes :
    (judged guid (text "01234567-89ab-cdef-0123-456789abcdef") ≡ present (an_id (text "01234567-89ab-cdef-0123-456789abcdef")))
    × (judged guid (text "01234567-89ab-cdef-0123-456789abcdeF") ≡ refused 6)
    × (judged version (text "1.6") ≡ present (a_text (text "1.6")))
    × (judged version (text "1") ≡ refused 6)
    × (judged positive (text "0.5") ≡ present (millionths 500000 1))
    × (judged positive (text "0") ≡ refused 6)
    × (judged (whole 1 65535) (text "65535") ≡ present (an_int 65535))
    × (judged (whole 1 65535) (text "65536") ≡ refused 6)
unfolding judged guid_of filled may hex version_of one_to_three pointed int_of signed sized number_of decimals_of parted unsigned decimal written short above decimals before behind trim drop_front drop_back keep_before blank digit all non_empty value_from within
shapes = (refl, refl, refl, refl, refl, refl, refl, refl)

-- each end of each range
pub ranges :
    Answers (says "MachineReady" ("FailedBoard" := "2" ∷ [])) 5 0
    × Answers (says "MachineReady" ("FailedBoard" := "3" ∷ [])) 5 6
    × Answers (says "MachineReady" ("FailedBoard" := "-0" ∷ [])) 5 0
    × Answers (says "MachineReady" ("FailedBoard" := "-1" ∷ [])) 5 6
    × Answers (says "CheckAlive" ("Type" := "0" ∷ [])) 10 6
    × Answers (says "CheckAlive" ("Type" := "2" ∷ [])) 10 0
    × Answers (says "CheckAlive" ("Type" := "3" ∷ [])) 10 6
unfolding table refusal_of tried judged int_of signed sized trim drop_front drop_back keep_before blank digit all non_empty value_from within
ranges = ((refl, refl), (refl, refl), (refl, refl), (refl, refl), (refl, refl), (refl, refl), (refl, refl))

-- "An optional value is either absent or present with its value."
pub optional : (said_of (says "CheckAlive" ("Id" := "" ∷ []))).values ≡ absent ∷ present (a_text []) ∷ []
unfolding table values_of tried judged
optional = refl

-- "BoardForecast, kind 11": its FailedBoard and FlippedBoard alone must be there; an empty BoardIdCreatedBy is right, a BoardId must be one
pub forecasts :
    Answers (says "BoardForecast" []) 11 4
    × Answers (says "BoardForecast" ("FailedBoard" := "0" ∷ "FlippedBoard" := "2" ∷ [])) 11 0
    × Answers (says "BoardForecast" ("FailedBoard" := "0" ∷ "FlippedBoard" := "2" ∷ "BoardIdCreatedBy" := "" ∷ "ForecastId" := "" ∷ "TimeUntilAvailable" := ".5" ∷ [])) 11 0
    × Answers (says "BoardForecast" ("FailedBoard" := "0" ∷ "FlippedBoard" := "2" ∷ "BoardId" := "x" ∷ [])) 11 6
    × Answers (says "BoardForecast" ("FailedBoard" := "0" ∷ "FlippedBoard" := "2" ∷ "TimeUntilAvailable" := "0" ∷ [])) 11 6
    × Answers (tree (text "Hermes") [] (tree_then (tree (text "BoardForecast") (record { name = text "ForecastId"; value = many 81 } ∷ []) no_trees) no_trees)) 11 5
    × Answers (tree (text "Hermes") [] (tree_then (tree (text "MachineReady") ("FailedBoard" := "0" ∷ record { name = text "ForecastId"; value = many 80 } ∷ []) no_trees) no_trees)) 5 0
    × Answers (tree (text "Hermes") [] (tree_then (tree (text "MachineReady") ("FailedBoard" := "0" ∷ record { name = text "ForecastId"; value = many 81 } ∷ []) no_trees) no_trees)) 5 5
unfolding table refusal_of tried judged guid_of filled may hex int_of signed sized number_of decimals_of parted unsigned decimal written short above decimals before behind trim drop_front drop_back keep_before blank digit all non_empty value_from within
forecasts = ((refl, refl), (refl, refl), (refl, refl), (refl, refl), (refl, refl), (refl, refl), (refl, refl), (refl, refl))

-- "Route an int 0 to 65535, optional; BatchId text 80, optional", behind all that a BoardAvailable must say
abbrev routed : List Pair → Tree
routed a = says "BoardAvailable" ("BoardId" := "01234567-89ab-cdef-0123-456789abcdef" ∷ "BoardIdCreatedBy" := "m" ∷ "FailedBoard" := "0" ∷ "FlippedBoard" := "0" ∷ a)

pub routes :
    Answers (routed []) 3 0
    × Answers (routed ("Route" := "0" ∷ [])) 3 0
    × Answers (routed ("Route" := "65535" ∷ "BatchId" := "" ∷ [])) 3 0
    × Answers (routed ("Route" := "65536" ∷ [])) 3 6
    × Answers (routed ("Route" := "x" ∷ [])) 3 6
    × Answers (routed (record { name = text "BatchId"; value = many 80 } ∷ [])) 3 0
    × Answers (routed (record { name = text "BatchId"; value = many 81 } ∷ [])) 3 5
    × Answers (routed (record { name = text "BatchId"; value = many 81 } ∷ "Route" := "x" ∷ [])) 3 6
unfolding table refusal_of tried judged guid_of filled may hex int_of signed sized trim drop_front drop_back keep_before blank digit all non_empty value_from within
routes = ((refl, refl), (refl, refl), (refl, refl), (refl, refl), (refl, refl), (refl, refl), (refl, refl), (refl, refl))

-- the root's attributes never count as the message's
pub root_ignored : (said_of (tree (text "Hermes") ("Type" := "9" ∷ "Timestamp" := "x" ∷ []) (tree_then (bare "CheckAlive") no_trees))).values ≡ absent ∷ absent ∷ []
unfolding table values_of tried judged
root_ignored = refl

-- a ServiceDescription with children
abbrev described : Forest → Tree
described f = root (tree (text "ServiceDescription") ("MachineId" := "" ∷ "LaneId" := "1" ∷ "Version" := "1.2" ∷ []) f)

abbrev featuring : Forest → Tree
featuring f = tree (text "SupportedFeatures") [] f

-- what a ServiceDescription says, its features last
abbrev Describes : Forest → Result → Type 0
Describes f r = (said_of (described f)).values ≡ present (a_text []) ∷ present (an_int 1) ∷ present (a_text (text "1.2")) ∷ r ∷ []

-- "The first SupportedFeatures child counts; of its children .. are noted as present or not."
pub no_features_lem : Describes no_trees (refused 4)
unfolding table values_of tried judged version_of one_to_three int_of signed sized trim drop_front drop_back keep_before blank digit all non_empty value_from within before behind pointed
no_features_lem = refl

pub first_counts : Describes (tree_then (bare "X") (tree_then (featuring no_trees) (tree_then (featuring (tree_then (bare "FeatureBoardForecast") no_trees)) no_trees))) (present (noted false false false))
unfolding table values_of tried judged version_of one_to_three int_of signed sized trim drop_front drop_back keep_before blank digit all non_empty value_from within before behind pointed
first_counts = refl

pub direct_children : Describes (tree_then (featuring (tree_then (tree (text "X") [] (tree_then (bare "FeatureBoardForecast") no_trees)) (tree_then (bare "FeatureSendBoardInfo") no_trees))) no_trees) (present (noted false false true))
unfolding table values_of tried judged version_of one_to_three int_of signed sized trim drop_front drop_back keep_before blank digit all non_empty value_from within before behind pointed
direct_children = refl

-- a table of its own, of one kind: with a BoardId the maker is required, without it nobody looks at the maker
abbrev info : List Entry
info = entry 1 "Info" ("BoardId" opt guid ∷ if_there "BoardId" ("MadeBy" is some_words 80) ∷ "Weight" opt positive ∷ []) ∷ []

abbrev Informs : List Pair → ℕ → List Result → Type 0
Informs a n values = ((said_in info (says "Info" a)).kind ≡ 1) × ((said_in info (says "Info" a)).refusal ≡ n) × ((said_in info (says "Info" a)).values ≡ values)

abbrev board : Pair
board = "BoardId" := "01234567-89ab-cdef-0123-456789abcdef"

abbrev is_board : Result
is_board = present (an_id (text "01234567-89ab-cdef-0123-456789abcdef"))

-- required and missing, bad, and good
pub with_another :
    Informs (board ∷ []) 4 (is_board ∷ refused 4 ∷ absent ∷ [])
    × Informs ("MadeBy" := "" ∷ board ∷ []) 6 (is_board ∷ refused 6 ∷ absent ∷ [])
    × Informs ("MadeBy" := "m" ∷ board ∷ []) 0 (is_board ∷ present (a_text (text "m")) ∷ absent ∷ [])
    × Informs ("BoardId" := "x" ∷ []) 6 (refused 6 ∷ refused 4 ∷ absent ∷ [])
unfolding refusal_of values_of tried judged guid_of filled may hex digit within
with_another = ((refl, refl, refl), (refl, refl, refl), (refl, refl, refl), (refl, refl, refl))

-- not looked at, though bad; the others are
pub without_another :
    Informs ("MadeBy" := "" ∷ []) 0 (absent ∷ absent ∷ absent ∷ [])
    × Informs ("MadeBy" := "" ∷ "Weight" := "0.5" ∷ []) 0 (absent ∷ absent ∷ present (millionths 500000 1) ∷ [])
    × Informs ("MadeBy" := "m" ∷ "Weight" := "0" ∷ []) 6 (absent ∷ absent ∷ refused 6 ∷ [])
unfolding refusal_of values_of tried judged number_of decimals_of parted unsigned decimal written short above decimals before behind trim drop_front drop_back keep_before blank digit all non_empty value_from within
without_another = ((refl, refl, refl), (refl, refl, refl), (refl, refl, refl))

-- a name that is a kind of document 01 is none of this table
pub another_table : ((said_in info (says "CheckAlive" [])).kind ≡ 0) × ((said_of (says "Info" [])).kind ≡ 0)
unfolding table
another_table = (refl, refl)
