-- What the search for a child says of the content behind a start tag.
use Rattle.std.specs.Prelude.{◌≡◌, ◌++◌, Bool, true, false, ℕ, ◌-◌, ◌≤◌, drop, Option, None, Some}
use Rattle.grammar.specs.Bytes.{Bytes}
use Rattle.grammar.specs.Limits.{DEPTH}
use Rattle.grammar.specs.Tree.{Tree, Forest, no_trees}
use Rattle.grammar.specs.Element.{Content, spell_end, spell_content, GoodContent, read_content}
use Rattle.table.specs.Says.{present, without, children_of, has_child, notes, featured}

-- the place behind the start tag of an element whose children read as f: 0 of an empty tag
pub data Holds (s : Bytes) (inside : ℕ) (f : Forest) : Type 0 where
  holds_none : inside ≡ 0 → f ≡ no_trees → Holds s inside f
  holds : 1 ≤ inside → (c : Content) (n g rest : Bytes) → GoodContent (DEPTH - 2) c → drop inside s ≡ spell_content c ++ (spell_end n g ++ rest) → f ≡ read_content c → Holds s inside f

-- no child of the name; or the first one, and where its children stand
pub data First (s name : Bytes) (f : Forest) (r : Option ℕ) : Type 0 where
  no_child_case : r ≡ None → has_child name f ≡ false → ((o : Bool) → featured name o f ≡ without o) → First s name f r
  first_child : (n : ℕ) → r ≡ Some n → has_child name f ≡ true → (t : Tree) → ((o : Bool) → featured name o f ≡ present (notes (children_of t))) → Holds s n (children_of t) → First s name f r

pub record FirstIn (s : Bytes) (inside : ℕ) (name : Bytes) (r : Option ℕ) : Type 0 where
  pub says : (f : Forest) → Holds s inside f → First s name f r
