-- What a struct is made of: the fields of a message, in table order.
use Rattle.std.specs.Prelude.{List, [], ◌∷◌, Bool, cond, ℕ, zero, suc, eqb}
use Rattle.message.specs.Fields.{Field, none}
use Rattle.message.specs.Messages.{fields_of}
use Rattle.message.specs.declared.cells.Message.{Message}

-- the field that stands n-th; none behind the last
abbrev pub nth : ℕ → List Field → Field
nth n [] = none
nth zero (x ∷ l) = x
nth (suc n) (x ∷ l) = nth n l

-- the fields of a message, if the test holds; of one of the kind k
abbrev pub only : Bool → Message → List Field
only test m = cond test (fields_of m) []

abbrev pub of_kind : ℕ → Message → List Field
of_kind k m = only (eqb m.kind k) m
