-- Values: what stands between the quotes of an attribute, and what it reads as.
use Rattle.std.specs.Prelude.{◌≡◌, List, [], ◌∷◌, ◌++◌, Bool, true, false, ◌&&◌, ◌||◌, cond, ℕ, eqb}
use Prim.Native.Char.{code}
use Rattle.grammar.specs.Bytes.{Bytes, text}
use Rattle.grammar.specs.Character.{is_char, utf8}
use Rattle.grammar.specs.Reference.{Reference, spell_reference, GoodReference, read_reference}

-- A value is a list of items: a raw character, or a reference.
pub data Item : Type 0 where
  raw : ℕ → Item
  ref : Reference → Item

abbrev pub spell_item : Item → Bytes
spell_item (raw c) = utf8 c
spell_item (ref r) = spell_reference r

abbrev pub spell_value : List Item → Bytes
spell_value [] = []
spell_value (i ∷ l) = spell_item i ++ spell_value l

-- "value in single or double quotes"
unfoldable pub is_quote : ℕ → Bool
is_quote q = eqb (code "\"") q || eqb (code "'") q

-- between two of one kind
abbrev pub quoted : ℕ → Bytes → Bytes
quoted q w = q ∷ (w ++ q ∷ [])

-- "No raw `<`; `&` only in [references]"; and the quote in use ends the value
unfoldable pub banned : ℕ → ℕ → Bool
banned q c = eqb (code "<") c || (eqb (code "&") c || eqb q c)

-- between quotes q
pub data GoodItem (q : ℕ) : Item → Type 0 where
  good_raw : {c : ℕ} → is_char c ≡ true → banned q c ≡ false → GoodItem q (raw c)
  good_ref : {r : Reference} → GoodReference r → GoodItem q (ref r)

-- "Values: UTF-8 of the XML 1.0 characters"
pub data GoodValue (q : ℕ) : List Item → Type 0 where
  good_last : GoodValue q []
  good_item : {i : Item} {l : List Item} → GoodItem q i → GoodValue q l → GoodValue q (i ∷ l)

-- whether a raw LF comes next
abbrev pub feeds : List Item → Bool
feeds [] = false
feeds (raw c ∷ l) = eqb (code "\n") c
feeds (ref r ∷ l) = false

-- "A raw tab or LF reads as a space, CR LF as one space, CR alone as a space. A referenced character reads as itself.
-- XML 1.1's further line ends are kept." The CR of a CR LF reads as nothing, and its LF as the space.
unfoldable pub read_item : Item → Bool → Bytes
read_item (raw c) lf = cond (eqb (code "\r") c && lf) [] (cond (eqb (code "\t") c || (eqb (code "\n") c || eqb (code "\r") c)) (text " ") (utf8 c))
read_item (ref r) lf = utf8 (read_reference r)

unfoldable pub read_value : List Item → Bytes
read_value [] = []
read_value (i ∷ l) = read_item i (feeds l) ++ read_value l
