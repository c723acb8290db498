-- What may stand between elements, and between the declaration and the root. It is no part of the reading.
use Rattle.std.specs.Prelude.{◌≡◌, List, [], ◌∷◌, ◌++◌, true, cond, ℕ, suc, eqb, leb}
use Prim.Native.Char.{code}
use Rattle.grammar.specs.Bytes.{Bytes}
use Rattle.grammar.specs.Glue.{is_glue}
use Rattle.grammar.specs.Value.{Item, raw, ref, spell_item, GoodItem}
use Rattle.grammar.specs.Comment.{Mark, spell_comment, GoodMarks}

-- where it stands: in the root, or between a declaration and the root; in an element below the root
pub data Site : Type 0 where
  in_root below_root : Site

-- One list of bits: a character or a reference, a comment. Glue below the root is a character like any other.
pub data Bit : Type 0 where
  in_text : Item → Bit
  comment : List Mark → Bit

abbrev pub Filler : Type 0
Filler = List Bit

abbrev pub spell_bit : Bit → Bytes
spell_bit (in_text i) = spell_item i
spell_bit (comment l) = spell_comment l

abbrev pub spell_filler : Filler → Bytes
spell_filler [] = []
spell_filler (b ∷ f) = spell_bit b ++ spell_filler f

-- how many `]` stand in a row when this bit is read, if n did before it: a reference or a comment breaks the row
abbrev pub brackets : ℕ → Bit → ℕ
brackets n (in_text (raw c)) = cond (eqb (code "]") c) (suc n) 0
brackets n (in_text (ref r)) = 0
brackets n (comment l) = 0

-- "without `<` and without `]]>`": a raw `<` may not stand in text, and behind `]]` no raw `>`
abbrev pub stopper : ℕ → ℕ
stopper n = cond (leb 2 n) (code ">") (code "<")

-- "Accept comments .. anywhere in an element's content, or between a declaration and the root, and accept character data with
-- references, without `<` and without `]]>`, inside any element below the root." The root holds glue.
pub data GoodBit : Site → ℕ → Bit → Type 0 where
  good_glue : {n c : ℕ} → is_glue c ≡ true → GoodBit in_root n (in_text (raw c))
  good_text : {n : ℕ} {i : Item} → GoodItem (stopper n) i → GoodBit below_root n (in_text i)
  good_comment : {s : Site} {n : ℕ} {l : List Mark} → GoodMarks l → GoodBit s n (comment l)

-- behind n `]` in a row
pub data GoodBits : Site → ℕ → Filler → Type 0 where
  bits_end : {s : Site} {n : ℕ} → GoodBits s n []
  bits_then : {s : Site} {n : ℕ} {b : Bit} {f : Filler} → GoodBit s n b → GoodBits s (brackets n b) f → GoodBits s n (b ∷ f)

abbrev pub GoodFiller : Site → Filler → Type 0
GoodFiller s f = GoodBits s 0 f
