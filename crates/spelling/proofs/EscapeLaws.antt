-- What a text is written as: byte by byte, no more than six times as long, and read back in double quotes.
use mathlib.Core.Path.{◌≡◌, refl, sym, ap, subst, ◌∙◌}
use mathlib.Core.List.{List, [], ◌∷◌, ◌++◌, append-nil, append_assoc}
use mathlib.Core.Bool.{Bool, true, false, cond}
use Prim.Native.Nat.{ℕ, ◌+◌, ◌*◌, ◌≤◌, ◌<◌}
use Prim.Native.Char.{code}
use native.Mathlib.Numerals.{add-one}
use native.Mathlib.Omega.{arith}
use lib.Dec.{eqb, leb}
use lib.ListN.{length, take, drop, get_or, length-append, take-append-drop}
use lib.Seq.{take-suc}
use borrow.Author.Tests.{leb-true, ne_eqb}
use Rattle.exact.specs.Byte.{eqb-true}
use Rattle.grammar.specs.Bytes.{Bytes, text, within, digit, every}
use Rattle.grammar.specs.Character.{is_char, utf8}
use Rattle.grammar.specs.Reference.{Reference, amp, lt, gt, quot, named, decimal, spell_reference, worth, GoodReference, good_named, good_decimal, read_reference}
use Rattle.grammar.specs.Value.{Item, raw, ref, spell_item, is_quote, banned, GoodItem, good_raw, good_ref, good_last, good_item, feeds, read_item, read_value}
use Rattle.model.specs.Tests.{and_left, and_right}
use Rattle.number.proofs.Tests.{cases}
use Rattle.value.proofs.AsRead.{reads_itself}
use Rattle.value.proofs.Quotes.{Bytes8, ascii, beyond, bytes8}
use Rattle.value.specs.Text.{Text}
use Rattle.spelling.specs.Written.{escape_byte, escape}
use Rattle.spelling.specs.Characters.{spell, IsText}
use Rattle.spelling.specs.Quoted.{InQuotes}

pub escape_append : (s t : Bytes) → escape (s ++ t) ≡ escape s ++ escape t
unfolding escape
escape_append [] t = refl
escape_append (b ∷ s) t = rw (escape_append s t, append_assoc)

-- one byte more
pub escape_more : (l : Bytes) (i : ℕ) → i < length l → escape (take (i + 1) l) ≡ escape (take i l) ++ escape_byte (get_or l i 0)
unfolding escape
escape_more l i h = rw (add-one, take-suc l i 0 h, escape_append, append-nil)

-- no beginning is longer
pub escape_fits : (l : Bytes) (i : ℕ) → i < length l → length (escape (take i l)) + length (escape_byte (get_or l i 0)) ≤ length (escape l)
escape_fits l i h =
    let e : escape l ≡ escape (take (i + 1) l) ++ escape (drop (i + 1) l) = rw take-append-drop at (escape_append (take (i + 1) l) (drop (i + 1) l)) in
    omega (arith, simp length-append at (ap length (escape_more l i h)), simp length-append at (ap length e))

byte_long : (b : ℕ) → length (escape_byte b) ≤ 6
unfolding escape_byte
byte_long b = go (eqb 38 b) (eqb 60 b) (eqb 62 b) (eqb 34 b) (eqb 9 b) (eqb 10 b) (eqb 13 b)
  where
    go : (a l g q t f r : Bool) → length (cond a (text "&amp;") (cond l (text "&lt;") (cond g (text "&gt;") (cond q (text "&quot;") (cond t (text "&#9;") (cond f (text "&#10;") (cond r (text "&#13;") (b ∷ [])))))))) ≤ 6
    go true l g q t f r = omega arith
    go false true g q t f r = omega arith
    go false false true q t f r = omega arith
    go false false false true t f r = omega arith
    go false false false false true f r = omega arith
    go false false false false false true r = omega arith
    go false false false false false false true = omega arith
    go false false false false false false false = omega arith

pub escape_long : (v : Bytes) → length (escape v) ≤ 6 * length v
unfolding escape
escape_long [] = omega arith
escape_long (b ∷ v) = rw length-append (let h = byte_long b in let k = escape_long v in omega arith)

-- bytes of a class that is written as it is
pub escape_same : (t : ℕ → Bool) → ((b : ℕ) → t b ≡ true → escape_byte b ≡ b ∷ []) → (v : Bytes) → every t v ≡ true → escape v ≡ v
unfolding escape
escape_same t f [] h = refl
escape_same t f (b ∷ v) h = rw (f b (and_left (t b) (every t v) h), escape_same t f v (and_right (t b) (every t v) h))

-- none of the bytes that become references
pub record Other (b : ℕ) : Type 0 where
  pub amp_not : eqb 38 b ≡ false
  pub lt_not : eqb 60 b ≡ false
  pub gt_not : eqb 62 b ≡ false
  pub quot_not : eqb 34 b ≡ false
  pub tab_not : eqb 9 b ≡ false
  pub lf_not : eqb 10 b ≡ false
  pub cr_not : eqb 13 b ≡ false

pub other_same : {b : ℕ} → Other b → escape_byte b ≡ b ∷ []
unfolding escape_byte
other_same o = rw (o.amp_not, o.lt_not, o.gt_not, o.quot_not, o.tab_not, o.lf_not, o.cr_not)

none_same : (b : ℕ) → (b ≡ 38 → ⊥) → (b ≡ 60 → ⊥) → (b ≡ 62 → ⊥) → (b ≡ 34 → ⊥) → (b ≡ 9 → ⊥) → (b ≡ 10 → ⊥) → (b ≡ 13 → ⊥) → escape_byte b ≡ b ∷ []
none_same b a l g q t f r = other_same (record {
  amp_not = ne_eqb 38 b (λ e. a (sym e));
  lt_not = ne_eqb 60 b (λ e. l (sym e));
  gt_not = ne_eqb 62 b (λ e. g (sym e));
  quot_not = ne_eqb 34 b (λ e. q (sym e));
  tab_not = ne_eqb 9 b (λ e. t (sym e));
  lf_not = ne_eqb 10 b (λ e. f (sym e));
  cr_not = ne_eqb 13 b (λ e. r (sym e));
})

-- what a match knows of a byte that none of its arms names, the last arm first
abbrev pub Unnamed : List ℕ → ℕ → Type 0
Unnamed [] b = Unit {0}
Unnamed (k ∷ ks) b = Unnamed ks b × (b ≡ k → ⊥)

pub unnamed_same : (b : ℕ) → Unnamed (13 ∷ 10 ∷ 9 ∷ 34 ∷ 62 ∷ 60 ∷ 38 ∷ []) b → escape_byte b ≡ b ∷ []
unnamed_same b n = none_same b n.0.0.0.0.0.0.1 n.0.0.0.0.0.1 n.0.0.0.0.1 n.0.0.0.1 n.0.0.1 n.0.1 n.1

-- a byte becomes a reference that names it, or stays
data Becomes (b : ℕ) : Type 0 where
  becomes : (r : Reference) → GoodReference r → escape_byte b ≡ spell_reference r → read_reference r ≡ b → Becomes b
  stays : Other b → Becomes b

byte_becomes : (b : ℕ) → Becomes b
unfolding escape_byte digit within is_char worth
byte_becomes b =
    cases (eqb 38 b) (λ a. becomes (named amp) good_named (rw a) (sym (eqb-true 38 b a)))
    (λ a. cases (eqb 60 b) (λ l. becomes (named lt) good_named (rw (a, l)) (sym (eqb-true 60 b l)))
    (λ l. cases (eqb 62 b) (λ g. becomes (named gt) good_named (rw (a, l, g)) (sym (eqb-true 62 b g)))
    (λ g. cases (eqb 34 b) (λ q. becomes (named quot) good_named (rw (a, l, g, q)) (sym (eqb-true 34 b q)))
    (λ q. cases (eqb 9 b) (λ t. becomes (decimal (text "9")) tab (rw (a, l, g, q, t)) (sym (eqb-true 9 b t)))
    (λ t. cases (eqb 10 b) (λ f. becomes (decimal (text "10")) lf (rw (a, l, g, q, t, f)) (sym (eqb-true 10 b f)))
    (λ f. cases (eqb 13 b) (λ r. becomes (decimal (text "13")) cr (rw (a, l, g, q, t, f, r)) (sym (eqb-true 13 b r)))
    (λ r. stays (record { amp_not = a; lt_not = l; gt_not = g; quot_not = q; tab_not = t; lf_not = f; cr_not = r }))))))))
  where
    tab : GoodReference (decimal (text "9"))
    tab = good_decimal {n = text "9"} (record { digits = refl; one = refl; short = omega arith; names = refl })

    lf : GoodReference (decimal (text "10"))
    lf = good_decimal {n = text "10"} (record { digits = refl; one = refl; short = omega arith; names = refl })

    cr : GoodReference (decimal (text "13"))
    cr = good_decimal {n = text "13"} (record { digits = refl; one = refl; short = omega arith; names = refl })

pub high_other : (b : ℕ) → 127 < b → Other b
high_other b h = record { amp_not = ne_eqb 38 b (λ e. omega arith); lt_not = ne_eqb 60 b (λ e. omega arith); gt_not = ne_eqb 62 b (λ e. omega arith); quot_not = ne_eqb 34 b (λ e. omega arith); tab_not = ne_eqb 9 b (λ e. omega arith); lf_not = ne_eqb 10 b (λ e. omega arith); cr_not = ne_eqb 13 b (λ e. omega arith) }

-- a character becomes an item that reads as it
data Shows (c : ℕ) : Type 0 where
  shows : (i : Item) → GoodItem (code "\"") i → escape (utf8 c) ≡ spell_item i → ((lf : Bool) → read_item i lf ≡ utf8 c) → Shows c

as_raw : (c : ℕ) → is_char c ≡ true → Other c → escape (utf8 c) ≡ utf8 c → Shows c
unfolding banned
as_raw c h o e = shows (raw c) (good_raw h (rw (o.lt_not, o.amp_not, o.quot_not))) e (λ lf. reads_itself c lf (o.tab_not, o.lf_not, o.cr_not))

character_shows : (c : ℕ) → is_char c ≡ true → Shows c
unfolding read_item escape
character_shows c h = at (bytes8 c)
  where
    go : utf8 c ≡ c ∷ [] → Becomes c → Shows c
    go e (becomes r g w n) = shows (ref r) (good_ref g) (ap escape e ∙ append-nil (escape_byte c) ∙ w) (λ lf. ap utf8 n)
    go e (stays o) = as_raw c h o (ap escape e ∙ append-nil (escape_byte c) ∙ other_same o ∙ sym e)

    at : Bytes8 c → Shows c
    at (ascii a e) = go e (byte_becomes c)
    at (beyond a k) = as_raw c h (high_other c a) (escape_same (λ b. leb 128 b) (λ b m. other_same (high_other b (leb-true 128 b m))) (utf8 c) k)

characters_show : (l : List ℕ) → every is_char l ≡ true → InQuotes (escape (spell l)) (spell l)
unfolding escape read_value
characters_show [] h = record { items = []; good = good_last; spelt = refl; reads = refl }
characters_show (c ∷ l) h = go (character_shows c (and_left (is_char c) (every is_char l) h)) (characters_show l (and_right (is_char c) (every is_char l) h))
  where
    go : Shows c → InQuotes (escape (spell l)) (spell l) → InQuotes (escape (spell (c ∷ l))) (spell (c ∷ l))
    go (shows i g e r) q = record {
      items = i ∷ q.items;
      good = good_item g q.good;
      spelt = escape_append (utf8 c) (spell l) ∙ ap (λ (x : Bytes). x ++ escape (spell l)) e ∙ ap (λ (x : Bytes). spell_item i ++ x) q.spelt;
      reads = ap (λ (x : Bytes). x ++ spell l) (sym (r (feeds q.items))) ∙ ap (λ (x : Bytes). read_item i (feeds q.items) ++ x) q.reads;
    }

-- a text that is written reads back as itself
pub escape_inverse : {v : Bytes} → IsText v → InQuotes (escape v) v
escape_inverse {v} t = subst (λ (v : Bytes). InQuotes (escape v) v) (sym t.spelt) (characters_show t.chars t.good)

-- and is a value in the sense of `Text`
pub quoted_text : {w v : Bytes} → InQuotes w v → Text w v
unfolding is_quote
quoted_text q = record { quote = code "\""; quoted = refl; items = q.items; good = q.good; spelt = q.spelt; reads = q.reads }
