-- Comments.
use Rattle.std.specs.Prelude.{◌≡◌, List, [], ◌∷◌, ◌++◌, true, false, ℕ, eqb}
use Prim.Native.Char.{code}
use Rattle.grammar.specs.Bytes.{Bytes, text, joined}
use Rattle.grammar.specs.Character.{is_char, utf8}

-- "comments as XML 1.0 defines them": `<!--`, any number of marks, `-->`. A mark is a character that is no `-`, or a `-` and
-- such a character. So there is no `--` inside, and no `-` before the closing one; `&` and `<` stand for themselves.
pub data Mark : Type 0 where
  mark dash_mark : ℕ → Mark

abbrev pub spell_mark : Mark → Bytes
spell_mark (mark c) = utf8 c
spell_mark (dash_mark c) = code "-" ∷ utf8 c

abbrev pub spell_marks : List Mark → Bytes
spell_marks [] = []
spell_marks (m ∷ l) = spell_mark m ++ spell_marks l

abbrev pub spell_comment : List Mark → Bytes
spell_comment l = joined (text "<!--" ∷ spell_marks l ∷ text "-->" ∷ [])

-- "Characters .. are those that document 01 allows in values, for either declared version."
pub data GoodMark : Mark → Type 0 where
  good_mark : {c : ℕ} → is_char c ≡ true → eqb (code "-") c ≡ false → GoodMark (mark c)
  good_dash : {c : ℕ} → is_char c ≡ true → eqb (code "-") c ≡ false → GoodMark (dash_mark c)

pub data GoodMarks : List Mark → Type 0 where
  marks_end : GoodMarks []
  marks_then : {m : Mark} {l : List Mark} → GoodMark m → GoodMarks l → GoodMarks (m ∷ l)
