-- What is handed out is taken from the one reading.
use Rattle.std.specs.Prelude.{◌≡◌, List, ◌∷◌, true, false, ◌+◌, ◌-◌, ◌≤◌, length, take, drop, Option, Some, None}
use Rattle.grammar.specs.Bytes.{Bytes, same}
use Rattle.grammar.specs.Tree.{Pair, Tree, tree}
use Rattle.grammar.specs.Message.{Message as IsMessage}
use Rattle.value.specs.Text.{Text}
use Rattle.value.specs.declared.text.Span.{Span}
use Rattle.table.specs.Table.{Entry, table}
use Rattle.table.specs.Says.{child_of, said_in}
use Rattle.message.specs.Checked.{message_in}
use Rattle.message.specs.declared.checking.Checked.{Checked}

-- of these attributes as read, the one of the name n has the value v
pub data Has (n v : Bytes) : List Pair → Type 0 where
  has_here : {p : Pair} {l : List Pair} → same n p.name ≡ true → v ≡ p.value → Has n v (p ∷ l)
  has_later : {p : Pair} {l : List Pair} → same n p.name ≡ false → Has n v l → Has n v (p ∷ l)

abbrev pub attributes_of : Tree → List Pair
attributes_of (tree n a f) = a

-- the bytes at the place p of s could stand as a value, and read as the value of the name n
pub record ReadsAt (s n : Bytes) (l : List Pair) (p : Span) : Type 0 where
  pub value : Bytes
  pub inside : p.start + p.len ≤ length s
  pub text : Text (take p.len (drop p.start s)) value
  pub has : Has n value l

-- T3.14: "what we hand out of a message is taken from that": the fields are those of the one reading, and a text's place is
-- where its raw value stands; by a given table, and by the one of document 01
pub record HandedBy (by : List Entry) (s : Bytes) (r : Checked) : Type 0 where
  pub reading : Tree
  pub message : IsMessage (take (r.end - r.start) (drop r.start s)) reading
  pub one : (t : Tree) → IsMessage (take (r.end - r.start) (drop r.start s)) t → t ≡ reading
  pub place : Bytes → Option Span
  pub fields : r.message ≡ message_in by (said_in by reading).kind place (child_of reading)
  pub there : (n : Bytes) (p : Span) → place n ≡ Some p → ReadsAt s n (attributes_of (child_of reading)) p
  pub absent : (n : Bytes) → place n ≡ None → (v : Bytes) → Has n v (attributes_of (child_of reading)) → ⊥

abbrev pub HandedOut : Bytes → Checked → Type 0
HandedOut s r = HandedBy table s r
