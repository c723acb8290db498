-- What a value reads as is UTF-8 of the characters.
use mathlib.Core.Path.{◌≡◌, refl, ap, ◌∙◌}
use mathlib.Core.List.{List, [], ◌∷◌, ◌++◌}
use mathlib.Core.Bool.{Bool, true, false, ◌&&◌, ◌||◌, cond}
use Prim.Native.Nat.{ℕ}
use Prim.Native.Char.{code}
use lib.Dec.{eqb}
use Rattle.grammar.specs.Bytes.{Bytes, text, every, within}
use Rattle.grammar.specs.Character.{is_char, utf8}
use Rattle.grammar.specs.Reference.{Reference, Named, amp, lt, gt, quot, apos, GoodReference, good_named, good_decimal, good_hexadecimal, read_named, read_reference}
use Rattle.grammar.specs.Value.{Item, good_raw, good_ref, GoodValue, good_last, good_item, feeds, read_item, read_value}
use Rattle.model.specs.Tests.{and_both}
use Rattle.value.specs.Text.{Text}
use Rattle.spelling.specs.Characters.{IsText}
use Rattle.spelling.specs.Decided.{is_text}
use Rattle.spelling.proofs.Theorems.{text_decided}

nothing : IsText []
nothing = record { chars = []; good = refl; spelt = refl }

-- one character more
more : {v : Bytes} (c : ℕ) → is_char c ≡ true → IsText v → IsText (utf8 c ++ v)
more c h t = record { chars = c ∷ t.chars; good = and_both (is_char c) (every is_char t.chars) h t.good; spelt = ap (λ (y : Bytes). utf8 c ++ y) t.spelt }

space : {v : Bytes} → IsText v → IsText (text " " ++ v)
unfolding utf8 is_char within
space t = more 32 refl t

named_char : (n : Named) → is_char (read_named n) ≡ true
unfolding is_char within
named_char amp = refl
named_char lt = refl
named_char gt = refl
named_char quot = refl
named_char apos = refl

reference_char : {r : Reference} → GoodReference r → is_char (read_reference r) ≡ true
reference_char (good_named {n}) = named_char n
reference_char (good_decimal d) = d.names
reference_char (good_hexadecimal d) = d.names

raw_text : {v : Bytes} (c : ℕ) (cr blank : Bool) → is_char c ≡ true → IsText v → IsText (cond cr [] (cond blank (text " ") (utf8 c)) ++ v)
raw_text c true blank h t = t
raw_text c false true h t = space t
raw_text c false false h t = more c h t

value_text_lem : {q : ℕ} {l : List Item} → GoodValue q l → IsText (read_value l)
unfolding read_value read_item
value_text_lem good_last = nothing
value_text_lem (good_item {l = l} (good_raw {c} h k) g) = raw_text c (eqb (code "\r") c && feeds l) (eqb (code "\t") c || (eqb (code "\n") c || eqb (code "\r") c)) h (value_text_lem g)
value_text_lem (good_item (good_ref {r} h) g) = more (read_reference r) (reference_char h) (value_text_lem g)

pub read_is_text : {w v : Bytes} → Text w v → is_text v ≡ true
read_is_text {w} {v} t = (text_decided v).complete (let x = value_text_lem t.good in record { chars = x.chars; good = x.good; spelt = t.reads ∙ x.spelt })
