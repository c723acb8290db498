-- No byte of a value is its quote.
use mathlib.Core.Path.{◌≡◌, refl, sym, ◌∙◌, ap, subst}
use mathlib.Core.List.{List, [], ◌∷◌, ◌++◌}
use mathlib.Core.Bool.{Bool, true, false, cond, ◌||◌, ◌&&◌}
use mathlib.Core.Logic.{◌⊎◌, inl, inr}
use Prim.Native.Nat.{ℕ, zero, suc, ◌+◌, ◌/◌, ◌%◌, ◌≤◌, ◌<◌}
use lib.ListN.{length, get_or}
use native.Mathlib.Omega.{arith}
use lib.Dec.{T, eqb, leb}
use borrow.Author.Tests.{eqb-false, eq-eqb, ne_eqb, leb-true}
use Rattle.grammar.specs.Bytes.{Bytes, within, digit, every}
use Rattle.grammar.specs.Character.{utf8}
use Rattle.grammar.specs.Reference.{Reference, Named, named, amp, lt, gt, quot, apos, spell_reference, hex_digit, GoodReference, good_named, good_decimal, good_hexadecimal}
use Rattle.grammar.specs.Value.{Item, spell_item, spell_value, is_quote, banned, GoodItem, good_raw, good_ref, GoodValue, good_last, good_item}
use Rattle.model.proofs.Values.{quote_is}
use Rattle.model.specs.Tests.{or_cases, or_right, and_left}

clash : {A : Type 0} (t : Bool) → t ≡ true → t ≡ false → A
clash t e f = absurd (subst T (sym e ∙ f) tt)

-- no byte of the list is q
unfoldable pub lacks : ℕ → Bytes → Bool
lacks q [] = true
lacks q (b ∷ l) = cond (eqb b q) false (lacks q l)

pub lacks_append : (q : ℕ) (x y : Bytes) → lacks q x ≡ true → lacks q y ≡ true → lacks q (x ++ y) ≡ true
unfolding lacks
lacks_append q [] y e f = f
lacks_append q (b ∷ x) y e f = at (λ z. lacks_append q x y z f) (eqb b q) refl
  where
    at : (lacks q x ≡ true → lacks q (x ++ y) ≡ true) → (t : Bool) → eqb b q ≡ t → cond (eqb b q) false (lacks q (x ++ y)) ≡ true
    at go true h = clash (cond (eqb b q) false (lacks q x)) e (ap (λ (t : Bool). cond t false (lacks q x)) h)
    at go false h = ap (λ (t : Bool). cond t false (lacks q (x ++ y))) h ∙ go (sym (ap (λ (t : Bool). cond t false (lacks q x)) h) ∙ e)

one : (q b : ℕ) (l : Bytes) → (b ≡ q → ⊥) → lacks q l ≡ true → lacks q (b ∷ l) ≡ true
unfolding lacks
one q b l n e = ap (λ (t : Bool). cond t false (lacks q l)) (ne_eqb b q n) ∙ e

module _ (q : ℕ) (small : q ≤ 39) where
  big : (b : ℕ) (l : Bytes) → 40 ≤ b → lacks q l ≡ true → lacks q (b ∷ l) ≡ true
  big b l h e = one q b l (λ (z : b ≡ q). absurd (let y : ◌≡◌ {A = ℕ} 0 1 = omega (arith, z, h, small) in omega (arith, y))) e

  nothing : lacks q [] ≡ true
  unfolding lacks
  nothing = refl

  -- digits are above every quote
  digits : (p : ℕ → Bool) → ((b : ℕ) → p b ≡ true → 40 ≤ b) → (n : Bytes) → every p n ≡ true → lacks q n ≡ true
  digits p h [] e = nothing
  digits p h (b ∷ n) e = at (λ z. digits p h n z) (p b) refl
    where
      at : (every p n ≡ true → lacks q n ≡ true) → (t : Bool) → p b ≡ t → lacks q (b ∷ n) ≡ true
      at go true k = big b n (h b k) (go (sym (ap (λ (t : Bool). t && every p n) k) ∙ e))
      at go false k = clash (p b && every p n) e (ap (λ (t : Bool). t && every p n) k)

  raw_lacks : (c : ℕ) → (c ≡ q → ⊥) → lacks q (utf8 c) ≡ true
  unfolding utf8
  raw_lacks c n = at (leb c 0x7F) (leb c 0x7FF) (leb c 0xFFFF)
    where
      at : (t u v : Bool) → lacks q (cond t (c ∷ []) (cond u ((0xC0 + c / 64) ∷ (0x80 + c % 64) ∷ []) (cond v ((0xE0 + c / 64 / 64) ∷ (0x80 + c / 64 % 64) ∷ (0x80 + c % 64) ∷ []) ((0xF0 + c / 64 / 64 / 64) ∷ (0x80 + c / 64 / 64 % 64) ∷ (0x80 + c / 64 % 64) ∷ (0x80 + c % 64) ∷ [])))) ≡ true
      at true u v = one q c [] n nothing
      at false true v = big _ _ (omega arith) (big _ _ (omega arith) nothing)
      at false false true = big _ _ (omega arith) (big _ _ (omega arith) (big _ _ (omega arith) nothing))
      at false false false = big _ _ (omega arith) (big _ _ (omega arith) (big _ _ (omega arith) (big _ _ (omega arith) nothing)))

digit_big : (b : ℕ) → digit b ≡ true → 40 ≤ b
unfolding digit within
digit_big b e = at (leb 48 b) refl
  where
    at : (t : Bool) → leb 48 b ≡ t → 40 ≤ b
    at true k = let z : 48 ≤ b = leb-true 48 b k in omega (arith, z)
    at false k = clash (leb 48 b && leb b 57) e (ap (λ (t : Bool). t && leb b 57) k)

within_big : (lo hi b : ℕ) → 40 ≤ lo → within lo hi b ≡ true → 40 ≤ b
unfolding within
within_big lo hi b h e = let z : lo ≤ b = leb-true lo b (and_left (leb lo b) (leb b hi) e) in omega (arith, h, z)

hex_big : (b : ℕ) → hex_digit b ≡ true → 40 ≤ b
unfolding hex_digit
hex_big b e = go (or_cases _ _ e)
  where
    rest : (within 65 70 b ≡ true) ⊎ (within 97 102 b ≡ true) → 40 ≤ b
    rest (inl k) = within_big 65 70 b (omega arith) k
    rest (inr k) = within_big 97 102 b (omega arith) k

    go : (digit b ≡ true) ⊎ (within 65 70 b || within 97 102 b ≡ true) → 40 ≤ b
    go (inl k) = digit_big b k
    go (inr k) = rest (or_cases _ _ k)

module _ (q : ℕ) (is_quote_holds : (q ≡ 34) ⊎ (q ≡ 39)) where
  small : q ≤ 39
  small = go is_quote_holds
    where
      go : (q ≡ 34) ⊎ (q ≡ 39) → q ≤ 39
      go (inl e) = omega (arith, e)
      go (inr e) = omega (arith, e)

  -- `&` and `#` are no quotes
  lead : (b : ℕ) (l : Bytes) → eqb b 34 ≡ false → eqb b 39 ≡ false → lacks q l ≡ true → lacks q (b ∷ l) ≡ true
  lead b l e f k = one q b l (λ (z : b ≡ q). go z is_quote_holds) k
    where
      go : b ≡ q → (q ≡ 34) ⊎ (q ≡ 39) → ⊥
      go z (inl y) = eqb-false b 34 e (z ∙ y)
      go z (inr y) = eqb-false b 39 f (z ∙ y)

  semi : lacks q (59 ∷ []) ≡ true
  semi = big q small 59 [] (omega arith) (nothing q small)

  letters : (l : Bytes) → every (λ b. leb 40 b) l ≡ true → lacks q l ≡ true
  letters l e = digits q small (λ b. leb 40 b) (λ b k. leb-true 40 b k) l e

  named_lacks : (n : Named) → lacks q (spell_reference (named n)) ≡ true
  named_lacks amp = lead 38 _ refl refl (letters _ refl)
  named_lacks lt = lead 38 _ refl refl (letters _ refl)
  named_lacks gt = lead 38 _ refl refl (letters _ refl)
  named_lacks quot = lead 38 _ refl refl (letters _ refl)
  named_lacks apos = lead 38 _ refl refl (letters _ refl)

  ref_lacks : (r : Reference) → GoodReference r → lacks q (spell_reference r) ≡ true
  ref_lacks r (good_named {n}) = named_lacks n
  ref_lacks r (good_decimal {n} d) = lead 38 _ refl refl (lead 35 _ refl refl (lacks_append q n (59 ∷ []) (digits q small digit digit_big n d.digits) semi))
  ref_lacks r (good_hexadecimal {n} d) = lead 38 _ refl refl (lead 35 _ refl refl (big q small 120 _ (omega arith) (lacks_append q n (59 ∷ []) (digits q small hex_digit hex_big n d.digits) semi)))

  unbanned : (c : ℕ) → banned q c ≡ false → c ≡ q → ⊥
  unfolding banned
  unbanned c e z = subst T (sym (or_right (eqb 60 c) (eqb 38 c || eqb q c) (or_right (eqb 38 c) (eqb q c) (eq-eqb q c (sym z)))) ∙ e) tt

  item_lacks : (i : Item) → GoodItem q i → lacks q (spell_item i) ≡ true
  item_lacks i (good_raw {c} a b) = raw_lacks q small c (unbanned c b)
  item_lacks i (good_ref {r} g) = ref_lacks r g

  value_lacks : (l : List Item) → GoodValue q l → lacks q (spell_value l) ≡ true
  value_lacks l good_last = nothing q small
  value_lacks k (good_item {i} {l} g h) = lacks_append q (spell_item i) (spell_value l) (item_lacks i g) (value_lacks l h)

-- the quote in use stands nowhere in the value
pub value_unquoted : (q : ℕ) (l : List Item) → is_quote q ≡ true → GoodValue q l → lacks q (spell_value l) ≡ true
value_unquoted q l e g = value_lacks q (quote_is q e) l g

-- byte by byte, whatever stands behind
pub lacks_byte_at : (q : ℕ) (x r : Bytes) (k : ℕ) → k < length x → lacks q x ≡ true → get_or (x ++ r) k 0 ≡ q → ⊥
unfolding lacks
lacks_byte_at q [] r k h e z = absurd (omega arith)
lacks_byte_at q (b ∷ x) r k h e z = at (eqb b q) refl k h z (λ j l y. lacks_byte_at q x r j l y)
  where
    at : (t : Bool) → eqb b q ≡ t → (k : ℕ) → k < length (b ∷ x) → get_or (b ∷ x ++ r) k 0 ≡ q → ((j : ℕ) → j < length x → lacks q x ≡ true → get_or (x ++ r) j 0 ≡ q → ⊥) → ⊥
    at true f k h z go = clash (cond (eqb b q) false (lacks q x)) e (ap (λ (t : Bool). cond t false (lacks q x)) f)
    at false f zero h z go = eqb-false b q f z
    at false f (suc k) h z go = go k (omega arith) (sym (ap (λ (t : Bool). cond t false (lacks q x)) f) ∙ e) z
