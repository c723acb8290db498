-- Texts: which bytes are UTF-8 of the characters.
use Rattle.std.specs.Prelude.{◌≡◌, List, [], ◌∷◌, ◌++◌, Bool, true, false, ℕ}
use Rattle.grammar.specs.Bytes.{Bytes, every}
use Rattle.grammar.specs.Character.{is_char, utf8}

-- characters one behind the other
abbrev pub spell : List ℕ → Bytes
spell [] = []
spell (c ∷ l) = utf8 c ++ spell l

-- "A text to be sent that isn't UTF-8 of the characters above is 6"
pub record IsText (v : Bytes) : Type 0 where
  pub chars : List ℕ
  pub good : every is_char chars ≡ true
  pub spelt : v ≡ spell chars

-- r says whether v is a text
pub record TextSays (v : Bytes) (r : Bool) : Type 0 where
  pub sound : r ≡ true → IsText v
  pub complete : IsText v → r ≡ true

-- no character is banned from a text
abbrev pub no_ban : ℕ → Bool
no_ban c = false
