-- A text is one: in which quotes it could stand makes no difference to what it reads as.
use Rattle.std.specs.Prelude.{◌≡◌, refl, List, [], ◌∷◌, ◌++◌, ◌⊎◌, Bool, ◌||◌, not, cond, ℕ, ◌+◌, ◌/◌, ◌%◌, ◌≤◌, ◌<◌, eqb, leb}
use Rattle.std.proofs.Common.{sym, ap, subst, ◌∙◌, inl, inr, arith, leb-true, leb-false, le-leb, ne_eqb}
use Rattle.std.proofs.Math.Bool.{true, false}
use Prim.Native.Char.{code}
use Rattle.std.proofs.lemmas.Bool.{not-true}
use Rattle.model.specs.Tests.{and_left, and_right, and_both, every_left, every_append}
use Rattle.model.proofs.Values.{quote_is, value_exact}
use Rattle.exact.specs.Exact.{unique}
use Rattle.exact.specs.Chain.{clash}
use Rattle.exact.specs.Byte.{other}
use Rattle.grammar.specs.Bytes.{Bytes, text, within, digit, every}
use Rattle.grammar.specs.Character.{utf8}
use Rattle.grammar.specs.Reference.{Named, amp, lt, gt, quot, apos, named, spell_reference, hex_digit, good_named, good_decimal, good_hexadecimal}
use Rattle.grammar.specs.Value.{Item, spell_item, spell_value, is_quote, banned, GoodItem, good_raw, good_ref, GoodValue, good_last, good_item, read_value}
use Rattle.value.specs.Text.{Text}
use Rattle.value.specs.Quotes.{lacks}

-- one byte, or bytes that are all beyond ASCII
pub data Bytes8 (c : ℕ) : Type 0 where
  ascii : c ≤ 127 → utf8 c ≡ c ∷ [] → Bytes8 c
  beyond : 127 < c → every (λ b. leb 128 b) (utf8 c) ≡ true → Bytes8 c

pub bytes8 : (c : ℕ) → Bytes8 c
unfolding utf8
bytes8 c = at (leb c 0x7F) refl
  where
    high : (x y : Bool) → 127 < c → every (λ b. leb 128 b) (cond x ((0xC0 + c / 64) ∷ (0x80 + c % 64) ∷ [])
        (cond y ((0xE0 + c / 64 / 64) ∷ (0x80 + c / 64 % 64) ∷ (0x80 + c % 64) ∷ [])
        ((0xF0 + c / 64 / 64 / 64) ∷ (0x80 + c / 64 / 64 % 64) ∷ (0x80 + c / 64 % 64) ∷ (0x80 + c % 64) ∷ []))) ≡ true
    high true y h = rw (le-leb 128 (0xC0 + c / 64) (omega arith), le-leb 128 (0x80 + c % 64) (omega arith))
    high false true h = rw (le-leb 128 (0xE0 + c / 64 / 64) (omega arith), le-leb 128 (0x80 + c / 64 % 64) (omega arith), le-leb 128 (0x80 + c % 64) (omega arith))
    high false false h =
        rw (le-leb 128 (0xF0 + c / 64 / 64 / 64) (omega arith), le-leb 128 (0x80 + c / 64 / 64 % 64) (omega arith), le-leb 128 (0x80 + c / 64 % 64) (omega arith), le-leb 128 (0x80 + c % 64) (omega arith))

    at : (z : Bool) → leb c 0x7F ≡ z → Bytes8 c
    at true e = ascii (leb-true c 0x7F e) (rw e)
    at false e = let h = leb-false c 0x7F e in beyond h (rw e (high (leb c 0x7FF) (leb c 0xFFFF) h))

lacks_high : (q : ℕ) → q ≤ 127 → (w : Bytes) → every (λ b. leb 128 b) w ≡ true → lacks q w ≡ true
lacks_high q h [] k = refl
lacks_high q h (b ∷ w) k =
    let l = leb-true 128 b (and_left (leb 128 b) _ k) in
    and_both (not (eqb q b)) (lacks q w) (rw (ne_eqb q b (λ e. omega arith))) (lacks_high q h w (and_right (leb 128 b) (every (λ b. leb 128 b) w) k))

lacks_digits : (q : ℕ) (cls : ℕ → Bool) → cls q ≡ false → (n : Bytes) → every cls n ≡ true → lacks q n ≡ true
lacks_digits q cls h [] k = refl
lacks_digits q cls h (b ∷ n) k = and_both (not (eqb q b)) (lacks q n) (rw (other cls q h b (and_left (cls b) (every cls n) k))) (lacks_digits q cls h n (and_right (cls b) (every cls n) k))

small : (q : ℕ) → (q ≡ 34) ⊎ (q ≡ 39) → q ≤ 127
small q (inl e) = omega arith
small q (inr e) = omega arith

module _ (q : ℕ) (is_quote_holds : (q ≡ 34) ⊎ (q ≡ 39)) where
  no_digit : digit q ≡ false
  unfolding digit within
  no_digit = go is_quote_holds
    where
      go : (q ≡ 34) ⊎ (q ≡ 39) → digit q ≡ false
      go (inl e) = rw e
      go (inr e) = rw e

  no_hex : hex_digit q ≡ false
  unfolding hex_digit digit within
  no_hex = go is_quote_holds
    where
      go : (q ≡ 34) ⊎ (q ≡ 39) → hex_digit q ≡ false
      go (inl e) = rw e
      go (inr e) = rw e

  lacks_named : (n : Named) → lacks q (spell_reference (named n)) ≡ true
  lacks_named n = go n is_quote_holds
    where
      go : (n : Named) → (q ≡ 34) ⊎ (q ≡ 39) → lacks q (spell_reference (named n)) ≡ true
      go amp (inl e) = rw e
      go amp (inr e) = rw e
      go lt (inl e) = rw e
      go lt (inr e) = rw e
      go gt (inl e) = rw e
      go gt (inr e) = rw e
      go quot (inl e) = rw e
      go quot (inr e) = rw e
      go apos (inl e) = rw e
      go apos (inr e) = rw e

  lacks_number : (head n : Bytes) → lacks q head ≡ true → lacks q n ≡ true → lacks q (text ";") ≡ true → lacks q (head ++ (n ++ text ";")) ≡ true
  lacks_number head n h k l = every_append (λ b. not (eqb q b)) head (n ++ text ";") h (every_append (λ b. not (eqb q b)) n (text ";") k l)

  marks : (lacks q (text "&#") ≡ true) × (lacks q (text "&#x") ≡ true) × (lacks q (text ";") ≡ true)
  marks = go is_quote_holds
    where
      go : (q ≡ 34) ⊎ (q ≡ 39) → (lacks q (text "&#") ≡ true) × (lacks q (text "&#x") ≡ true) × (lacks q (text ";") ≡ true)
      go (inl e) = rw e (refl, refl, refl)
      go (inr e) = rw e (refl, refl, refl)

  -- the quote in use does not stand in a value
  lacks_item : {i : Item} → GoodItem q i → lacks q (spell_item i) ≡ true
  unfolding banned
  lacks_item (good_raw {c} h k) = at (bytes8 c)
    where
      third : (x y z : Bool) → x || (y || z) ≡ false → z ≡ false
      third true y z e = clash e
      third false true z e = clash e
      third false false z e = e

      at : Bytes8 c → lacks q (utf8 c) ≡ true
      at (ascii a e) = rw (e, third (eqb (code "<") c) (eqb (code "&") c) (eqb q c) k)
      at (beyond a e) = lacks_high q (small q is_quote_holds) (utf8 c) e
  lacks_item (good_ref (good_named {n})) = lacks_named n
  lacks_item (good_ref (good_decimal {n} d)) = lacks_number (text "&#") n marks.0 (lacks_digits q digit no_digit n d.digits) marks.2
  lacks_item (good_ref (good_hexadecimal {n} d)) = lacks_number (text "&#x") n marks.1 (lacks_digits q hex_digit no_hex n d.digits) marks.2

  pub lacks_value : {l : List Item} → GoodValue q l → lacks q (spell_value l) ≡ true
  lacks_value good_last = refl
  lacks_value (good_item {i} {l} g r) = every_append (λ b. not (eqb q b)) (spell_item i) (spell_value l) (lacks_item g) (lacks_value r)

-- a value in which another quote does not stand could stand in that too
requote_item : {q q' : ℕ} → q' ≤ 127 → {i : Item} → GoodItem q i → lacks q' (spell_item i) ≡ true → GoodItem q' i
unfolding banned
requote_item {q} {q'} s (good_raw {c} h k) l = good_raw h (at (bytes8 c))
  where
    first : (x y z z' : Bool) → x || (y || z) ≡ false → z' ≡ false → x || (y || z') ≡ false
    first true y z z' e f = clash e
    first false true z z' e f = clash e
    first false false z z' e f = f

    at : Bytes8 c → eqb (code "<") c || (eqb (code "&") c || eqb q' c) ≡ false
    at (ascii a e) =
        let n : lacks q' (c ∷ []) ≡ true = rw e at l in
        first (eqb (code "<") c) (eqb (code "&") c) (eqb q c) (eqb q' c) k (not-true (eqb q' c) (and_left (not (eqb q' c)) true n))
    at (beyond a e) = first (eqb (code "<") c) (eqb (code "&") c) (eqb q c) (eqb q' c) k (ne_eqb q' c (λ z. omega arith))
requote_item s (good_ref g) l = good_ref g

pub every_right : (t : ℕ → Bool) (n m : Bytes) → every t (n ++ m) ≡ true → every t m ≡ true
every_right t [] m h = h
every_right t (b ∷ n) m h = every_right t n m (and_right (t b) (every t (n ++ m)) h)

pub requote : {q q' : ℕ} → q' ≤ 127 → {l : List Item} → GoodValue q l → lacks q' (spell_value l) ≡ true → GoodValue q' l
requote s good_last k = good_last
requote {q} {q'} s (good_item {i} {l} g r) k =
    good_item (requote_item s g (every_left (λ b. not (eqb q' b)) (spell_item i) (spell_value l) k)) (requote s r (every_right (λ b. not (eqb q' b)) (spell_item i) (spell_value l) k))

-- the items are one, in whichever quotes
pub items_one : {w : Bytes} {q q' : ℕ} {l l' : List Item} → is_quote q ≡ true → is_quote q' ≡ true → GoodValue q l → GoodValue q' l' → w ≡ spell_value l → w ≡ spell_value l' → l ≡ l'
items_one {w} {q} {q'} {l} {l'} h h' g g' e e' =
    let i = quote_is q' h' in
    let k : lacks q' (spell_value l) ≡ true = subst (λ (y : Bytes). lacks q' y ≡ true) (sym e' ∙ e) (lacks_value q' i g') in
    let r = requote (small q' i) g k in
    (unique (value_exact q' i) (w ++ q' ∷ []) (w ++ q' ∷ []) l l' [] [] (record { good = r; spelt = ap (λ (y : Bytes). y ++ q' ∷ []) e }) (record { good = g'; spelt = ap (λ (y : Bytes). y ++ q' ∷ []) e' }) refl).1

pub text_one : {w v v' : Bytes} → Text w v → Text w v' → v ≡ v'
text_one x y = x.reads ∙ ap read_value (items_one x.quoted y.quoted x.good y.good x.spelt y.spelt) ∙ sym y.reads
