-- The attribute table a second time: its lines as they are printed, in document 01 and for orders 1 and 3, and how they are read. `table` is what they say.
use Rattle.std.specs.Prelude.{◌≡◌, refl, List, [], ◌∷◌, ◌++◌, Bool, true, false, ◌&&◌, ◌||◌, not, cond, ℕ, zero, suc, ◌<◌, eqb, leb, length}
use Rattle.std.proofs.Common.{ap, ◌∙◌}
use Prim.Native.Char.{code}
use Prim.Native.String.{String}
use Rattle.std.proofs.lemmas.Bool.{lt-leb}
use Rattle.number.specs.Bytes.{value_from, value}
use Rattle.exact.specs.Chain.{clash}
use Rattle.grammar.specs.Bytes.{Bytes, text, non_empty, same, among, within}
use Rattle.table.specs.Table.{Form, words, some_words, whole, guid, version, positive, features, required, optional, Row, Entry, table, kind_in, kind_of, rows_of}
use Rattle.table.specs.Theorems.{kinds_count, no_rows}

-- "| Message | Attributes in order (opt = may be missing) |", line by line
abbrev pub printed : List String
printed =
    "1 ServiceDescription | MachineId text 80; LaneId 1..65535; Version; child SupportedFeatures"
    ∷ "2 Notification | NotificationCode 1..65535; Severity 1..4; Description text 254"
    ∷ "3 BoardAvailable | BoardId GUID; BoardIdCreatedBy non-empty text 80; FailedBoard 0..2; ProductTypeId text 254 opt; FlippedBoard 0..2; TopBarcode, BottomBarcode text 254 opt; Length, Width, Thickness, ConveyorSpeed, TopClearanceHeight, BottomClearanceHeight, Weight positive opt; WorkOrderId text 80 opt; Route 0..65535 opt; BatchId text 80 opt"
    ∷ "4 RevokeBoardAvailable, 6 RevokeMachineReady | none"
    ∷ "5 MachineReady | FailedBoard 0..2; ForecastId text 80 opt"
    ∷ "7 StartTransport | BoardId GUID; ConveyorSpeed positive opt"
    ∷ "8 StopTransport, 9 TransportFinished | TransferState 1..3; BoardId GUID"
    ∷ "10 CheckAlive | Type 1..2 opt; Id text 80 opt"
    ∷ "11 BoardForecast | ForecastId text 80 opt; TimeUntilAvailable positive opt; BoardId GUID opt; BoardIdCreatedBy text 80 opt; FailedBoard 0..2; ProductTypeId text 254 opt; FlippedBoard 0..2; TopBarcode, BottomBarcode text 254 opt; Length, Width, Thickness, ConveyorSpeed, TopClearanceHeight, BottomClearanceHeight, Weight positive opt; WorkOrderId text 80 opt"
    ∷ []

-- the parts between the bytes c: one more byte, which is c or not, before the parts
abbrev before : Bool → ℕ → List Bytes → List Bytes
before true b l = [] ∷ l
before false b [] = (b ∷ []) ∷ []
before false b (w ∷ l) = (b ∷ w) ∷ l

abbrev parts : ℕ → Bytes → List Bytes
parts c [] = [] ∷ []
parts c (b ∷ s) = before (eqb b c) b (parts c s)

-- x before l, if the test holds
abbrev keep : {A : Type 0} → Bool → A → List A → List A
keep true x l = x ∷ l
keep false x l = l

-- the parts that are not empty
abbrev full : List Bytes → List Bytes
full [] = []
full (w ∷ l) = keep (non_empty w) w (full l)

abbrev words_of : Bytes → List Bytes
words_of s = full (parts (code " ") s)

abbrev without : Bytes → List Bytes → List Bytes
without v [] = []
without v (w ∷ l) = keep (not (same v w)) w (without v l)

abbrev first : List Bytes → Bytes
first [] = []
first (w ∷ l) = w

-- what is not understood: a range that nothing is in
abbrev unread : Form
unread = whole 1 0

-- "0..2"
abbrev range : List Bytes → Form
range [] = unread
range (a ∷ []) = unread
range (a ∷ b ∷ []) = whole (value a) (value b)
range (a ∷ b ∷ c ∷ l) = unread

-- the words behind a name: none for "Version"
abbrev form_of : List Bytes → Form
form_of [] = version
form_of (w ∷ []) = cond (same (text "GUID") w) guid (cond (same (text "positive") w) positive (range (full (parts (code ".") w))))
form_of (w ∷ n ∷ []) = cond (same (text "text") w) (words (value n)) unread
form_of (v ∷ w ∷ n ∷ []) = cond (same (text "non-empty") v && same (text "text") w) (some_words (value n)) unread
form_of (v ∷ w ∷ n ∷ x ∷ l) = unread

-- "child SupportedFeatures", or a name and what is behind it
abbrev row_from : List Bytes → Row
row_from [] = record { name = []; form = unread; need = required }
row_from (n ∷ l) =
    cond (same (text "child") n) (record { name = first l; form = features; need = required })
    (record { name = n; form = form_of (without (text "opt") l); need = cond (among l (text "opt")) optional required })

-- "TopBarcode, BottomBarcode text 254 opt": a name before a comma has what the next one has
abbrev alike : Bytes → List Row → List Row
alike n [] = []
alike n (r ∷ l) = record { name = n; form = r.form; need = r.need } ∷ r ∷ l

abbrev sharing : List Bytes → List Row
sharing [] = []
sharing (s ∷ []) = row_from (words_of s) ∷ []
sharing (s ∷ t ∷ l) = alike (first (words_of s)) (sharing (t ∷ l))

abbrev rows_from : List Bytes → List Row
rows_from [] = []
rows_from (s ∷ l) = sharing (parts (code ",") s) ++ rows_from l

-- "none"
abbrev attributes : Bytes → List Row
attributes s = cond (among (words_of s) (text "none")) [] (rows_from (parts (code ";") s))

-- "8 StopTransport, 9 TransportFinished": a number and a name, each with these rows
abbrev entry_from : List Bytes → List Row → Entry
entry_from [] rows = record { kind = 0; name = []; rows = rows }
entry_from (k ∷ l) rows = record { kind = value k; name = first l; rows = rows }

abbrev each : List Bytes → List Row → List Entry
each [] rows = []
each (s ∷ l) rows = entry_from (words_of s) rows ∷ each l rows

abbrev line_from : List Bytes → List Entry
line_from [] = []
line_from (s ∷ []) = each (parts (code ",") s) []
line_from (s ∷ t ∷ l) = each (parts (code ",") s) (attributes t)

abbrev lines_from : List String → List Entry
lines_from [] = []
lines_from (s ∷ l) = line_from (parts (code "|") (text s)) ++ lines_from l

-- what the lines say
abbrev pub said : List Entry
said = lines_from printed

-- the entries by their numbers, n of them from k on
abbrev numbered : ℕ → List Entry → List Entry
numbered k [] = []
numbered k (e ∷ l) = keep (eqb e.kind k) e (numbered k l)

abbrev pub ordered : ℕ → ℕ → List Entry → List Entry
ordered zero k l = []
ordered (suc n) k l = numbered k l ++ ordered n (suc k) l

-- the entries of the lines, in the order of their numbers
abbrev pub entries : List Entry
entries = ordered (length said) 1 said

-- the table is these entries, and the lines have no other
pub table_apart : (table ≡ entries) × (length said ≡ length table)
unfolding table value_from
table_apart = (refl, refl)

-- the names of entries, the kinds that `kind_of` gives to them, and the rows that `rows_of` gives to their numbers
abbrev pub names_of : List Entry → List Bytes
names_of [] = []
names_of (e ∷ l) = e.name ∷ names_of l

abbrev pub kinds_of : List Entry → List ℕ
kinds_of [] = []
kinds_of (e ∷ l) = kind_of e.name ∷ kinds_of l

abbrev pub again : List Entry → List Entry
again [] = []
again (e ∷ l) = record { kind = e.kind; name = e.name; rows = rows_of e.kind } ∷ again l

abbrev pub up_from : ℕ → ℕ → List ℕ
up_from zero k = []
up_from (suc n) k = k ∷ up_from n (suc k)

pub kinds_apart : kinds_of entries ≡ up_from (length said) 1
unfolding table value_from
kinds_apart = refl

pub rows_apart : again entries ≡ entries
unfolding table value_from
rows_apart = refl

-- "a name not in the attribute table is kind 0"
none_named : (l : List Entry) (n : Bytes) → among (names_of l) n ≡ false → kind_in l n ≡ 0
none_named [] n h = refl
none_named (e ∷ l) n h = go (same e.name n) refl h (λ k. none_named l n k)
  where
    go : (z : Bool) → same e.name n ≡ z → z || among (names_of l) n ≡ false → (among (names_of l) n ≡ false → kind_in l n ≡ 0) → kind_in (e ∷ l) n ≡ 0
    go true f k g = clash k
    go false f k g = rw f (g k)

pub kind_else : (n : Bytes) → among (names_of entries) n ≡ false → kind_of n ≡ 0
unfolding table value_from
kind_else n h = none_named table n h

-- kind 0 and numbers that are no kind have no rows
pub rows_else : (rows_of 0 ≡ []) × ((k : ℕ) → length said < k → rows_of k ≡ [])
unfolding table value_from within
rows_else = (refl, λ k h. no_rows table k (kinds_count table refl k ∙ ap (λ (b : Bool). leb 1 k && b) (lt-leb k (length table) h) ∙ and_false (leb 1 k)))
  where
    and_false : (b : Bool) → b && false ≡ false
    and_false true = refl
    and_false false = refl
