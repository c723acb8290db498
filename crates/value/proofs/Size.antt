-- How long a value reads: no longer than it stands, and no bytes only where none stand.
use Rattle.std.specs.Prelude.{◌≡◌, refl, List, [], ◌∷◌, ◌++◌, Bool, true, false, ◌&&◌, ◌||◌, cond, ℕ, ◌≤◌, length, eqb}
use Rattle.std.proofs.Common.{sym, ap, subst, ◌∙◌, arith, length-append}
use Prim.Native.Char.{code}
use Rattle.model.specs.Tests.{and_right}
use Rattle.model.proofs.Values.{amp_first}
use Rattle.exact.specs.Byte.{eqb-true}
use Rattle.exact.specs.Chain.{clash}
use Rattle.grammar.specs.Bytes.{Bytes, text, non_empty}
use Rattle.grammar.specs.Character.{utf8}
use Rattle.grammar.specs.Reference.{read_reference}
use Rattle.grammar.specs.Value.{Item, raw, ref, spell_item, spell_value, GoodItem, good_raw, good_ref, GoodValue, good_last, good_item, feeds, read_item, read_value}
use Rattle.value.proofs.AsRead.{utf8_size, value_size}
use Rattle.value.specs.Loose.{Loose}

pub reads_no_longer : {w : Bytes} {l : List Item} → Loose w l → length (read_value l) ≤ length w
reads_no_longer x = let z = ap length x.spelt in let y = value_size x.good in omega arith

-- an item has bytes
pub some_bytes : {q : ℕ} {i : Item} → GoodItem q i → 1 ≤ length (spell_item i)
some_bytes (good_raw {c} h k) = (utf8_size c).0
some_bytes (good_ref {r} g) = let z = ap length (amp_first r).1 in omega arith

-- the CR of a CR LF reads as nothing, and its LF as a space
feed_reads : (l : List Item) → feeds l ≡ true → 1 ≤ length (read_value l)
unfolding read_value read_item
feed_reads [] h = clash (sym h)
feed_reads (raw c ∷ l) h = subst (λ (c : ℕ). 1 ≤ length (read_item (raw c) (feeds l) ++ read_value l)) (sym (eqb-true (code "\n") c h)) (omega arith)
feed_reads (ref r ∷ l) h = clash (sym h)

first_reads : (i : Item) (l : List Item) → 1 ≤ length (read_item i (feeds l) ++ read_value l)
unfolding read_item
first_reads (raw c) l = at (eqb (code "\r") c && feeds l) refl (eqb (code "\t") c || (eqb (code "\n") c || eqb (code "\r") c))
  where
    at : (x : Bool) → eqb (code "\r") c && feeds l ≡ x → (y : Bool) → 1 ≤ length (cond x [] (cond y (text " ") (utf8 c)) ++ read_value l)
    at true e y = feed_reads l (and_right (eqb (code "\r") c) (feeds l) e)
    at false e true = omega arith
    at false e false = omega (arith, (utf8_size c).0, length-append (utf8 c) (read_value l))
first_reads (ref r) l = omega (arith, (utf8_size (read_reference r)).0, length-append (utf8 (read_reference r)) (read_value l))

some_long : (w : Bytes) → 1 ≤ length w → non_empty w ≡ true
some_long [] h = absurd (omega arith)
some_long (b ∷ w) h = refl

value_some : {q : ℕ} {l : List Item} → GoodValue q l → non_empty (spell_value l) ≡ non_empty (read_value l)
unfolding read_value
value_some good_last = refl
value_some (good_item {i} {l} g r) =
    some_long (spell_item i ++ spell_value l) (omega (arith, some_bytes g, length-append (spell_item i) (spell_value l))) ∙ sym (some_long (read_item i (feeds l) ++ read_value l) (first_reads i l))

pub reads_some : {w : Bytes} {l : List Item} → Loose w l → non_empty w ≡ non_empty (read_value l)
reads_some x = ap non_empty x.spelt ∙ value_some x.good
