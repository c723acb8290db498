-- What decides over small elements, computed.
use Rattle.std.specs.Prelude.{◌≡◌, refl, List, [], ◌∷◌, length, None, Some, Option}
use Rattle.value.specs.declared.text.Span.{Span}
use Prim.Native.String.{String}
use Rattle.number.specs.Bytes.{blank, digit, non_empty, all, drop_front, keep_before, drop_back, trim, value_from, before, behind, pointed}
use Rattle.number.specs.Whole.{sized, signed, int_of}
use Rattle.number.specs.Version.{one_to_three, version_of}
use Rattle.grammar.specs.Bytes.{Bytes, text, within}
use Rattle.grammar.specs.Tree.{Pair, Tree, tree, no_trees}
use Rattle.lane.specs.Names.{ServiceDescription, Notification}
use Rattle.table.specs.Table.{table, rows_of}
use Rattle.table.specs.Says.{judged, tried}
use Rattle.decides.specs.Deciding.{value_in, first_refused}

infix 70 ◌:=◌
abbrev ◌:=◌ : String → String → Pair
n := v = record { name = text n; value = text v }

abbrev element : String → List Pair → Tree
element n a = tree (text n) a no_trees

-- each value stands at the place that is the length of its name
abbrev places : Bytes → Option Span
places n = Some (record { start = length n; len = 1 })

-- Severity is the row of number 1, and decides before the missing Description
pub severity : first_refused 0 (rows_of Notification) places (element "Notification" ("NotificationCode" := "1" ∷ "Severity" := "7" ∷ [])) ≡ Some (record { refusal = 6; row = 1; value = Some (record { start = 8; len = 1 }) })
unfolding table first_refused value_in tried judged int_of signed sized trim drop_front drop_back keep_before blank digit all non_empty value_from within
severity = refl

-- a missing child has no value, whatever attribute has its name
pub features : first_refused 0 (rows_of ServiceDescription) places (element "ServiceDescription" ("MachineId" := "m" ∷ "LaneId" := "1" ∷ "Version" := "1.6" ∷ "SupportedFeatures" := "all" ∷ [])) ≡ Some (record { refusal = 4; row = 3; value = None })
unfolding table first_refused value_in tried judged int_of signed sized trim drop_front drop_back keep_before blank digit all non_empty value_from within version_of one_to_three before behind pointed
features = refl

-- an element that is accepted
pub accepted : first_refused 0 (rows_of Notification) places (element "Notification" ("NotificationCode" := "1" ∷ "Severity" := "4" ∷ "Description" := "" ∷ [])) ≡ None
unfolding table first_refused value_in tried judged int_of signed sized trim drop_front drop_back keep_before blank digit all non_empty value_from within
accepted = refl
