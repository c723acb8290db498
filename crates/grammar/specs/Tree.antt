-- The reading of a message.
use Rattle.std.specs.Prelude.{List}
use Rattle.grammar.specs.Bytes.{Bytes}

-- an attribute as read: its name, and its value in UTF-8
pub record Pair : Type 0 where
  pub name : Bytes
  pub value : Bytes

-- "Its reading is the tree of its elements: names, children and attributes in order, each value as read below."
mutual
  pub data Tree : Type 0 where
    tree : Bytes → List Pair → Forest → Tree

  pub data Forest : Type 0 where
    no_trees : Forest
    tree_then : Tree → Forest → Forest
