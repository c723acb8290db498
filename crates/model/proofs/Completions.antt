-- Which bytes can still become a character: the ranges of UTF-8, without what is no character.
use Rattle.std.specs.Prelude.{◌≡◌, ◌⊎◌, ◌↔◌, Bool, ◌&&◌, ◌||◌, ℕ, ◌-◌, ◌≤◌, ◌<◌, leb}
use Rattle.std.proofs.Math.Path.{refl, sym}
use Rattle.std.proofs.Common.{◌∙◌, inl, inr, ⊎_elim, arith}
use mathlib.Core.List.{[], ◌∷◌, ◌++◌}
use Rattle.std.proofs.Math.Bool.{true, false}
use borrow.Author.Tests.{leb-true, leb-false, le-leb, lt-leb, ne_eqb}
use Rattle.exact.specs.Exact.{done, more, bad, goes, begins_iff}
use Rattle.exact.specs.Chain.{ret_p}
use Rattle.exact.specs.Byte.{pick, on_p}
use Rattle.grammar.specs.Bytes.{Bytes, within}
use Rattle.model.specs.Tests.{range_in}
use Rattle.model.specs.Characters.{IsRaw, next6, cont, second3, third3, second4, plain_byte, char_p}
use Rattle.model.proofs.Characters.{second3_in, char_exact, second3_ranges, third3_ranges, second4_ranges}
use Rattle.model.specs.Completions.{second, third, char_begins}

-- the leads
data Lead (b : ℕ) : Type 0 where
  one : b ≤ 0x7F → Lead b
  stray : 0x7F < b → b < 0xC2 → Lead b
  two : 0xC2 ≤ b → b ≤ 0xDF → Lead b
  three : 0xE0 ≤ b → b ≤ 0xEF → Lead b
  four : 0xF0 ≤ b → b ≤ 0xF4 → Lead b
  beyond : 0xF4 < b → Lead b

lead : (b : ℕ) → Lead b
lead b = at1 (leb b 0x7F) refl
  where
    at5 : (z : Bool) → leb b 0xF4 ≡ z → 0xEF < b → Lead b
    at5 true e h = four h (leb-true b 0xF4 e)
    at5 false e h = beyond (leb-false b 0xF4 e)

    at4 : (z : Bool) → leb b 0xEF ≡ z → 0xDF < b → Lead b
    at4 true e h = three h (leb-true b 0xEF e)
    at4 false e h = at5 _ refl (leb-false b 0xEF e)

    at3 : (z : Bool) → leb b 0xDF ≡ z → 0xC1 < b → Lead b
    at3 true e h = two h (leb-true b 0xDF e)
    at3 false e h = at4 _ refl (leb-false b 0xDF e)

    at2 : (z : Bool) → leb b 0xC1 ≡ z → 0x7F < b → Lead b
    at2 true e h = stray h (let k = leb-true b 0xC1 e in omega arith)
    at2 false e h = at3 _ refl (leb-false b 0xC1 e)

    at1 : (z : Bool) → leb b 0x7F ≡ z → Lead b
    at1 true e = one (leb-true b 0x7F e)
    at1 false e = at2 _ refl (leb-false b 0x7F e)

outside : (lo hi b : ℕ) → (b < lo) ⊎ (hi < b) → within lo hi b ≡ false
unfolding within
outside lo hi b (inl h) = rw (lt-leb lo b h)
outside lo hi b (inr h) = go (leb lo b)
  where
    go : (z : Bool) → z && leb b hi ≡ false
    go true = lt-leb b hi h
    go false = refl

no_plain : (ban : ℕ → Bool) (b : ℕ) → 0x7F < b → plain_byte ban b ≡ false
unfolding plain_byte
no_plain ban b h = rw (lt-leb b 0x7F h)

second_two : (b c : ℕ) → 0xC2 ≤ b → b ≤ 0xDF → second b c ≡ cont c
unfolding second
second_two b c h k = rw (ne_eqb 0xE0 b (λ q. omega arith), ne_eqb 0xF0 b (λ q. omega arith), ne_eqb 0xED b (λ q. omega arith), ne_eqb 0xF4 b (λ q. omega arith))

second_three : (b c : ℕ) → 0xE0 ≤ b → b ≤ 0xEF → second b c ≡ second3 b c
unfolding second
second_three b c h k = rw (ne_eqb 0xF0 b (λ q. omega arith), ne_eqb 0xF4 b (λ q. omega arith)) (sym (second3_ranges b c h k))

second_four : (b c : ℕ) → 0xF0 ≤ b → b ≤ 0xF4 → second b c ≡ second4 b c
unfolding second
second_four b c h k = rw (ne_eqb 0xE0 b (λ q. omega arith), ne_eqb 0xED b (λ q. omega arith)) (sym (second4_ranges b c h k))

third_four : (b c d : ℕ) → 0xF0 ≤ b → third b c d ≡ cont d
unfolding third
third_four b c d h = rw (ne_eqb 0xEF b (λ q. omega arith))

-- no character has a lead below C2 or beyond F4 and bytes behind it
no_tail : (ban : ℕ → Bool) (b c : ℕ) (t : Bytes) → (b < 0xC2) ⊎ (0xF4 < b) → char_begins ban (b ∷ c ∷ t) ≡ false
unfolding char_begins
no_tail ban b c [] o = rw (outside 0xC2 0xF4 b o)
no_tail ban b c (d ∷ []) o = rw (outside 0xE0 0xF4 b (⊎_elim (λ h. inl (omega arith)) (λ h. inr h) o))
no_tail ban b c (d ∷ e ∷ []) o = rw (outside 0xF0 0xF4 b (⊎_elim (λ h. inl (omega arith)) (λ h. inr h) o))
no_tail ban b c (d ∷ e ∷ f ∷ t) o = refl

goes_on : (z : Bool) (v : ℕ) (r : Bytes) → goes (pick z (done v []) (bad r)) ≡ z
goes_on true v r = refl
goes_on false v r = refl

goes_past : (z : Bool) (v x : ℕ) (t r : Bytes) → goes (pick z (done v (x ∷ t)) (bad r)) ≡ false
goes_past true v x t r = refl
goes_past false v x t r = refl

waits : (z : Bool) (r : Bytes) → goes {A = ℕ} (pick z more (bad r)) ≡ z
waits true r = refl
waits false r = refl

module _ (ban : ℕ → Bool) where
  says_one : (b : ℕ) (t : Bytes) → b ≤ 0x7F → goes (char_p ban (b ∷ t)) ≡ char_begins ban (b ∷ t)
  unfolding char_p char_begins
  says_one b [] h = rw (le-leb b 0x7F h, outside 0xC2 0xF4 b (inl (omega arith))) (goes_on (plain_byte ban b) b (b ∷ []) ∙ none (plain_byte ban b))
    where
      none : (z : Bool) → z ≡ z || false
      none true = refl
      none false = refl
  says_one b (c ∷ t) h = rw (le-leb b 0x7F h) (goes_past (plain_byte ban b) b c t (b ∷ c ∷ t) ∙ sym (no_tail ban b c t (inl (omega arith))))

  -- no character starts so
  says_none : (b : ℕ) (t : Bytes) → 0x7F < b → (b < 0xC2) ⊎ (0xF4 < b) → char_p ban (b ∷ t) ≡ bad (b ∷ t) → goes (char_p ban (b ∷ t)) ≡ char_begins ban (b ∷ t)
  unfolding char_begins
  says_none b [] h o e = rw (e, no_plain ban b h, outside 0xC2 0xF4 b o)
  says_none b (c ∷ t) h o e = rw e (sym (no_tail ban b c t o))

  stray_bad : (b : ℕ) (t : Bytes) → 0x7F < b → b < 0xC2 → char_p ban (b ∷ t) ≡ bad (b ∷ t)
  unfolding char_p
  stray_bad b t h k = rw (lt-leb b 0x7F h, le-leb b 0xDF (omega arith), outside 0xC2 0xDF b (inl k))

  beyond_bad : (b : ℕ) (t : Bytes) → 0xF4 < b → char_p ban (b ∷ t) ≡ bad (b ∷ t)
  unfolding char_p
  beyond_bad b t h = rw (lt-leb b 0x7F (omega arith), lt-leb b 0xDF (omega arith), lt-leb b 0xEF (omega arith), outside 0xF0 0xF4 b (inr h))

  says_two : (b : ℕ) (t : Bytes) → 0xC2 ≤ b → b ≤ 0xDF → goes (char_p ban (b ∷ t)) ≡ char_begins ban (b ∷ t)
  unfolding char_p char_begins
  says_two b t h k = rw (lt-leb b 0x7F (omega arith), le-leb b 0xDF k, range_in 0xC2 0xDF b h k) (go t)
    where
      go : (t : Bytes) → goes (on_p cont (λ c. ret_p (next6 (b - 192) c)) t) ≡ char_begins ban (b ∷ t)
      go [] = rw (no_plain ban b (omega arith), range_in 0xC2 0xF4 b h (omega arith))
      go (c ∷ []) = rw (range_in 0xC2 0xF4 b h (omega arith), second_two b c h k) (goes_on (cont c) _ (c ∷ []))
      go (c ∷ d ∷ []) = rw (outside 0xE0 0xF4 b (inl (omega arith))) (goes_past (cont c) _ d [] (c ∷ d ∷ []))
      go (c ∷ d ∷ e ∷ []) = rw (outside 0xF0 0xF4 b (inl (omega arith))) (goes_past (cont c) _ d (e ∷ []) (c ∷ d ∷ e ∷ []))
      go (c ∷ d ∷ e ∷ f ∷ t) = goes_past (cont c) _ d (e ∷ f ∷ t) (c ∷ d ∷ e ∷ f ∷ t)

  says_three : (b : ℕ) (t : Bytes) → 0xE0 ≤ b → b ≤ 0xEF → goes (char_p ban (b ∷ t)) ≡ char_begins ban (b ∷ t)
  unfolding char_p char_begins third
  says_three b t h k = rw (lt-leb b 0x7F (omega arith), lt-leb b 0xDF (omega arith), le-leb b 0xEF k, range_in 0xE0 0xEF b h k) (go t)
    where
      behind-second : (c d : ℕ) → second3 b c ≡ true → third3 (next6 (b - 224) c) d ≡ third b c d
      behind-second c d e = let z = second3_in b c e in third3_ranges b c d h k z.0 z.1

      last : (c d : ℕ) (z : Bool) → second3 b c ≡ z → goes (pick (second3 b c) (pick (third3 (next6 (b - 224) c) d) (done (next6 (next6 (b - 224) c) d) []) (bad (d ∷ []))) (bad (c ∷ d ∷ []))) ≡ second3 b c && third b c d
      last c d true e = rw e (goes_on (third3 (next6 (b - 224) c) d) _ (d ∷ []) ∙ behind-second c d e)
      last c d false e = rw e

      past : (c d x : ℕ) (t : Bytes) (z : Bool) → second3 b c ≡ z → goes (pick (second3 b c) (pick (third3 (next6 (b - 224) c) d) (done (next6 (next6 (b - 224) c) d) (x ∷ t)) (bad (d ∷ x ∷ t))) (bad (c ∷ d ∷ x ∷ t))) ≡ false
      past c d x t true e = rw e (goes_past (third3 (next6 (b - 224) c) d) _ x t (d ∷ x ∷ t))
      past c d x t false e = rw e

      go : (t : Bytes) → goes (on_p (second3 b) (λ c. on_p (third3 (next6 (b - 224) c)) (λ d. ret_p (next6 (next6 (b - 224) c) d))) t) ≡ char_begins ban (b ∷ t)
      go [] = rw (no_plain ban b (omega arith), range_in 0xC2 0xF4 b (omega arith) (omega arith))
      go (c ∷ []) = rw (range_in 0xC2 0xF4 b (omega arith) (omega arith), second_three b c h k) (waits (second3 b c) (c ∷ []))
      go (c ∷ d ∷ []) = rw (range_in 0xE0 0xF4 b h (omega arith), second_three b c h k) (last c d (second3 b c) refl)
      go (c ∷ d ∷ e ∷ []) = rw (outside 0xF0 0xF4 b (inl (omega arith))) (past c d e [] (second3 b c) refl)
      go (c ∷ d ∷ e ∷ f ∷ t) = past c d e (f ∷ t) (second3 b c) refl

  says_four : (b : ℕ) (t : Bytes) → 0xF0 ≤ b → b ≤ 0xF4 → goes (char_p ban (b ∷ t)) ≡ char_begins ban (b ∷ t)
  unfolding char_p char_begins
  says_four b t h k = rw (lt-leb b 0x7F (omega arith), lt-leb b 0xDF (omega arith), lt-leb b 0xEF (omega arith), range_in 0xF0 0xF4 b h k) (go t)
    where
      two-more : (v c d : ℕ) (y z : Bool) → goes (pick y (pick z (on_p cont (λ e. ret_p (next6 (next6 v d) e)) []) (bad (d ∷ []))) (bad (c ∷ d ∷ []))) ≡ y && z
      two-more v c d true z = waits z (d ∷ [])
      two-more v c d false z = refl

      three-more : (v c d e : ℕ) (y z x : Bool) → goes (pick y (pick z (pick x (done (next6 (next6 v d) e) []) (bad (e ∷ []))) (bad (d ∷ e ∷ []))) (bad (c ∷ d ∷ e ∷ []))) ≡ y && (z && x)
      three-more v c d e true true x = goes_on x _ (e ∷ [])
      three-more v c d e true false x = refl
      three-more v c d e false z x = refl

      past : (v c d e f : ℕ) (t : Bytes) (y z x : Bool) → goes (pick y (pick z (pick x (done (next6 (next6 v d) e) (f ∷ t)) (bad (e ∷ f ∷ t))) (bad (d ∷ e ∷ f ∷ t))) (bad (c ∷ d ∷ e ∷ f ∷ t))) ≡ false
      past v c d e f t true true x = goes_past x _ f t (e ∷ f ∷ t)
      past v c d e f t true false x = refl
      past v c d e f t false z x = refl

      go : (t : Bytes) → goes (on_p (second4 b) (λ c. on_p cont (λ d. on_p cont (λ e. ret_p (next6 (next6 (next6 (b - 240) c) d) e)))) t) ≡ char_begins ban (b ∷ t)
      go [] = rw (no_plain ban b (omega arith), range_in 0xC2 0xF4 b (omega arith) (omega arith))
      go (c ∷ []) = rw (range_in 0xC2 0xF4 b (omega arith) k, second_four b c h k) (waits (second4 b c) (c ∷ []))
      go (c ∷ d ∷ []) = rw (range_in 0xE0 0xF4 b (omega arith) k, second_four b c h k, third_four b c d h) (two-more (next6 (b - 240) c) c d (second4 b c) (cont d))
      go (c ∷ d ∷ e ∷ []) = rw (range_in 0xF0 0xF4 b h k, second_four b c h k, third_four b c d h) (three-more (next6 (b - 240) c) c d e (second4 b c) (cont d) (cont e))
      go (c ∷ d ∷ e ∷ f ∷ t) = past (next6 (b - 240) c) c d e f t (second4 b c) (cont d) (cont e)

  says : (w : Bytes) → goes (char_p ban w) ≡ char_begins ban w
  unfolding char_p char_begins
  says [] = refl
  says (b ∷ t) = at (lead b)
    where
      at : Lead b → goes (char_p ban (b ∷ t)) ≡ char_begins ban (b ∷ t)
      at (one h) = says_one b t h
      at (stray h k) = says_none b t h (inl k) (stray_bad b t h k)
      at (two h k) = says_two b t h k
      at (three h k) = says_three b t h k
      at (four h k) = says_four b t h k
      at (beyond h) = says_none b t (omega arith) (inr h) (beyond_bad b t h)

-- exactly these bytes begin a character that may stand raw
pub char_begins_lem : (ban : ℕ → Bool) → ((c : ℕ) → 127 < c → ban c ≡ false) → (b : ℕ) → plain_byte ban b ≡ true → (w : Bytes) → (char_begins ban w ≡ true) ↔ ((m : Bytes) × (c : ℕ) × IsRaw ban (w ++ m) c)
char_begins_lem ban ascii b h w = let e = begins_iff (char_exact ban ascii b h) w in (λ k. e.0 (says ban w ∙ k), λ i. sym (says ban w) ∙ e.1 i)
