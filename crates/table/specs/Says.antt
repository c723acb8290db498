-- What a message says: the table's rows tried on the reading of the root's child.
use Rattle.std.specs.Prelude.{List, [], ◌∷◌, Bool, true, false, ◌&&◌, ◌||◌, not, cond, ℕ, zero, suc, length, leb}
use Rattle.number.specs.Whole.{Whole, no_int, int, int_of}
use Rattle.number.specs.Positive.{number, Number, no_number, number_of, decimals_of}
use Rattle.number.specs.Guid.{guid_of}
use Rattle.number.specs.Version.{version_of}
use Rattle.grammar.specs.Bytes.{Bytes, text, within, non_empty, same}
use Rattle.grammar.specs.Tree.{Pair, Tree, tree, Forest, no_trees, tree_then}
use Rattle.table.specs.Table.{Form, words, some_words, whole, guid, version, positive, features, Need, required, optional, required_with, ignored, Row, Entry, table, kind_in, rows_in, settled}

-- a value as handed out: a text as read, an int, millionths and the digits behind the point, an id, the features noted
pub data Value : Type 0 where
  a_text : Bytes → Value
  an_int : ℕ → Value
  millionths : ℕ → ℕ → Value
  an_id : Bytes → Value
  noted : (forecast query send : Bool) → Value

-- "An optional value is either absent or present with its value"; or the refusal
pub data Result : Type 0 where
  absent : Result
  present : Value → Result
  refused : ℕ → Result

-- "4, 5, 6 .. attribute or child missing, text too long, bad value"
abbrev pub MISSING : ℕ
MISSING = 4

abbrev pub TOO_LONG : ℕ
TOO_LONG = 5

abbrev pub BAD : ℕ
BAD = 6

-- "Text 80 and text 254 are limits in decoded bytes."
abbrev pub limited : ℕ → Bytes → Result → Result
limited n v r = cond (leb (length v) n) r (refused TOO_LONG)

-- "Texts are compared after references are read."
abbrev pub when : Bool → Value → Result
when good v = cond good (present v) (refused BAD)

-- an Int in its range: "`-0` is 0", and what is below zero is in none
abbrev pub ranged : ℕ → ℕ → Whole → Result
ranged lo hi no_int = refused BAD
ranged lo hi (int minus n) = when (not minus && within lo hi n) (an_int n)

-- order 6: "Everyone who reads numbers passes the count along."
abbrev pub measured : Number → ℕ → Result
measured no_number d = refused BAD
measured (number n) d = present (millionths n d)

-- what a value that is there is worth
unfoldable pub judged : Form → Bytes → Result
judged (words n) v = limited n v (present (a_text v))
judged (some_words n) v = limited n v (when (non_empty v) (a_text v))
judged (whole lo hi) v = ranged lo hi (int_of v)
judged guid v = when (guid_of v) (an_id v)
judged version v = when (version_of v) (a_text v)
judged positive v = measured (number_of v) (decimals_of v)
judged features v = refused BAD

-- an attribute that is not there, and may be missing or not
abbrev pub without : Bool → Result
without opt = cond opt absent (refused MISSING)

-- the attribute of a name: names stand once
abbrev pub given : Form → Bool → Bytes → List Pair → Result
given t opt n [] = without opt
given t opt n (p ∷ l) = cond (same n p.name) (judged t p.value) (given t opt n l)

abbrev pub name_of : Tree → Bytes
name_of (tree n a f) = n

abbrev pub children_of : Tree → Forest
children_of (tree n a f) = f

-- a direct child of a name
abbrev pub has_child : Bytes → Forest → Bool
has_child n no_trees = false
has_child n (tree_then t f) = same n (name_of t) || has_child n f

-- "The first SupportedFeatures child counts; of its children FeatureBoardForecast, FeatureQueryBoardInfo and
-- FeatureSendBoardInfo are noted as present or not."
abbrev pub notes : Forest → Value
notes f = noted (has_child (text "FeatureBoardForecast") f) (has_child (text "FeatureQueryBoardInfo") f) (has_child (text "FeatureSendBoardInfo") f)

abbrev pub featured : Bytes → Bool → Forest → Result
featured n opt no_trees = without opt
featured n opt (tree_then t f) = cond (same n (name_of t)) (present (notes (children_of t))) (featured n opt f)

-- what a form asks of an element: its attribute of the name n, or its child
abbrev pub sought : Form → Bytes → Tree → Bool → Result
sought (words k) n (tree m a f) opt = given (words k) opt n a
sought (some_words k) n (tree m a f) opt = given (some_words k) opt n a
sought (whole lo hi) n (tree m a f) opt = given (whole lo hi) opt n a
sought guid n (tree m a f) opt = given guid opt n a
sought version n (tree m a f) opt = given version opt n a
sought positive n (tree m a f) opt = given positive opt n a
sought features n (tree m a f) opt = featured n opt f

-- a result by its need: f false where it must be there, f true where it may be missing. Rows are settled before they are tried.
abbrev pub by_need : Need → (Bool → Result) → Result
by_need required f = f false
by_need optional f = f true
by_need (required_with n) f = absent
by_need ignored f = absent

-- a row tried on an element
unfoldable pub tried : Row → Tree → Result
tried r t = by_need r.need (sought r.form r.name t)

-- 0 if it is not refused
abbrev pub refusal_in : Result → ℕ
refusal_in absent = 0
refusal_in (present v) = 0
refusal_in (refused n) = n

abbrev pub first : ℕ → ℕ → ℕ
first zero n = n
first (suc m) n = suc m

-- "Attributes are tried in table order, each for 4, 5, 6; the first decides"
unfoldable pub refusal_of : List Row → Tree → ℕ
refusal_of [] t = 0
refusal_of (r ∷ l) t = first (refusal_in (tried r t)) (refusal_of l t)

-- the values, in table order
unfoldable pub values_of : List Row → Tree → List Result
values_of [] t = []
values_of (r ∷ l) t = tried r t ∷ values_of l t

-- "exactly one child element": the child that names the message
abbrev pub child_of : Tree → Tree
child_of (tree n a no_trees) = tree n a no_trees
child_of (tree n a (tree_then t f)) = t

-- what a reading says: kind, refusal, and the values where it is not refused
pub record Said : Type 0 where
  pub kind : ℕ
  pub refusal : ℕ
  pub values : List Result

-- an attribute of the name n is there
abbrev pub has_named : List Pair → Bytes → Bool
has_named [] n = false
has_named (p ∷ l) n = same n p.name || has_named l n

abbrev pub has_attribute : Tree → Bytes → Bool
has_attribute (tree m a f) n = has_named a n

-- the rows of a kind, by what an element has
abbrev pub rows_for : List Entry → ℕ → Tree → List Row
rows_for l k t = settled (has_attribute t) (rows_in l k)

-- of an element of kind k
abbrev pub said_as : List Entry → ℕ → Tree → Said
said_as l k t = record { kind = k; refusal = refusal_of (rows_for l k t) t; values = values_of (rows_for l k t) t }

-- by a given table, and by the one of document 01
abbrev pub said_in : List Entry → Tree → Said
said_in l t = said_as l (kind_in l (name_of (child_of t))) (child_of t)

abbrev pub said_of : Tree → Said
said_of t = said_in table t
