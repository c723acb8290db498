-- The reader of one character, and that it is exact.
use Rattle.std.specs.Prelude.{◌≡◌, ◌⊎◌, Bool, ◌&&◌, ◌||◌, cond, ℕ, ◌+◌, ◌-◌, ◌/◌, ◌%◌, ◌≤◌, ◌<◌, eqb}
use Rattle.std.proofs.Math.Path.{refl, sym}
use Rattle.std.proofs.Common.{◌∙◌, inl, inr}
use mathlib.Core.List.{[], ◌∷◌}
use Rattle.std.proofs.Math.Bool.{true, false, not}
use native.Mathlib.Omega.{arith}
use Rattle.std.proofs.Math.Dec.{leb}
use borrow.Author.Tests.{leb-true, leb-false, le-leb, lt-leb, ne_eqb, not-true, eqb-false}
use Rattle.exact.specs.Exact.{Lang, Exact, exact_like}
use Rattle.exact.specs.Chain.{Ret, ret, ret_p, ret_exact}
use Rattle.exact.specs.Byte.{On, on, on_p, on_exact, eqb-true, other, Alt, left, right, Starts, starts, on_starts, choice_exact}
use Rattle.grammar.specs.Bytes.{Bytes, within}
use Rattle.grammar.specs.Character.{is_char, utf8}
use Rattle.model.specs.Tests.{and_left, and_right, and_both, or_cases, or_left, or_right, in_range, range_in, same_test}
use Rattle.model.specs.Characters.{IsRaw, next6, cont, second3, third3, second4, plain_byte, char_p}

-- what a character is
pub data View (c : ℕ) : Type 0 where
  control : (c ≡ 9) ⊎ ((c ≡ 10) ⊎ (c ≡ 13)) → View c
  low : 32 ≤ c → c ≤ 55295 → View c
  mid : 57344 ≤ c → c ≤ 65533 → View c
  high : 65536 ≤ c → c ≤ 1114111 → View c

pub view : (c : ℕ) → is_char c ≡ true → View c
unfolding is_char
view c h = v1 (or_cases _ _ h)
  where
    v5 : (within 57344 65533 c ≡ true) ⊎ (within 65536 1114111 c ≡ true) → View c
    v5 (inl k) = let z = in_range _ _ _ k in mid z.0 z.1
    v5 (inr k) = let z = in_range _ _ _ k in high z.0 z.1

    v4 : (within 32 55295 c ≡ true) ⊎ (within 57344 65533 c || within 65536 1114111 c ≡ true) → View c
    v4 (inl k) = let z = in_range _ _ _ k in low z.0 z.1
    v4 (inr k) = v5 (or_cases _ _ k)

    v3 : (eqb 13 c ≡ true) ⊎ (within 32 55295 c || (within 57344 65533 c || within 65536 1114111 c) ≡ true) → View c
    v3 (inl k) = control (inr (inr (eqb-true 13 c k)))
    v3 (inr k) = v4 (or_cases _ _ k)

    v2 : (eqb 10 c ≡ true) ⊎ (eqb 13 c || (within 32 55295 c || (within 57344 65533 c || within 65536 1114111 c)) ≡ true) → View c
    v2 (inl k) = control (inr (inl (eqb-true 10 c k)))
    v2 (inr k) = v3 (or_cases _ _ k)

    v1 : (eqb 9 c ≡ true) ⊎ (eqb 10 c || (eqb 13 c || (within 32 55295 c || (within 57344 65533 c || within 65536 1114111 c))) ≡ true) → View c
    v1 (inl k) = control (inl (eqb-true 9 c k))
    v1 (inr k) = v2 (or_cases _ _ k)

behind : (c : ℕ) → within 32 55295 c || (within 57344 65533 c || within 65536 1114111 c) ≡ true → is_char c ≡ true
unfolding is_char
behind c h = or_right (eqb 9 c) _ (or_right (eqb 10 c) _ (or_right (eqb 13 c) _ h))

pub char_low : (c : ℕ) → 32 ≤ c → c ≤ 55295 → is_char c ≡ true
char_low c h k = behind c (or_left _ _ (range_in 32 55295 c h k))

pub char_mid : (c : ℕ) → 57344 ≤ c → c ≤ 65533 → is_char c ≡ true
char_mid c h k = behind c (or_right (within 32 55295 c) _ (or_left _ _ (range_in 57344 65533 c h k)))

pub char_high : (c : ℕ) → 65536 ≤ c → c ≤ 1114111 → is_char c ≡ true
char_high c h k = behind c (or_right (within 32 55295 c) _ (or_right (within 57344 65533 c) _ (range_in 65536 1114111 c h k)))

pub char_max : (c : ℕ) → is_char c ≡ true → c ≤ 1114111
char_max c h = go (view c h)
  where
    go : View c → c ≤ 1114111
    go (control (inl e)) = omega arith
    go (control (inr (inl e))) = omega arith
    go (control (inr (inr e))) = omega arith
    go (low h k) = omega arith
    go (mid h k) = omega arith
    go (high h k) = omega arith

-- the four lengths
pub utf8_1 : (c : ℕ) → c ≤ 127 → utf8 c ≡ c ∷ []
unfolding utf8
utf8_1 c h = rw (le-leb c 127 h)

utf8_2 : (c : ℕ) → 127 < c → c ≤ 2047 → utf8 c ≡ (192 + c / 64) ∷ (128 + c % 64) ∷ []
unfolding utf8
utf8_2 c h k = rw (lt-leb c 127 h, le-leb c 2047 k)

utf8_3 : (c : ℕ) → 2047 < c → c ≤ 65535 → utf8 c ≡ (224 + c / 64 / 64) ∷ (128 + c / 64 % 64) ∷ (128 + c % 64) ∷ []
unfolding utf8
utf8_3 c h k = rw (lt-leb c 127 (omega arith), lt-leb c 2047 h, le-leb c 65535 k)

utf8_4 : (c : ℕ) → 65535 < c → utf8 c ≡ (240 + c / 64 / 64 / 64) ∷ (128 + c / 64 / 64 % 64) ∷ (128 + c / 64 % 64) ∷ (128 + c % 64) ∷ []
unfolding utf8
utf8_4 c h = rw (lt-leb c 127 (omega arith), lt-leb c 2047 (omega arith), lt-leb c 65535 h)

abbrev One : (ℕ → Bool) → Lang ℕ
One ban = On (plain_byte ban) (λ b. Ret b)

abbrev Two : Lang ℕ
Two = On (within 194 223) (λ b. On cont (λ c. Ret (next6 (b - 192) c)))

abbrev Three : Lang ℕ
Three = On (within 224 239) (λ b. On (second3 b) (λ c. On (third3 (next6 (b - 224) c)) (λ d. Ret (next6 (next6 (b - 224) c) d))))

abbrev Four : Lang ℕ
Four = On (within 240 244) (λ b. On (second4 b) (λ c. On cont (λ d. On cont (λ e. Ret (next6 (next6 (next6 (b - 240) c) d) e)))))

pub second3_in : (b c : ℕ) → second3 b c ≡ true → (128 ≤ c) × (c ≤ 191) × (((32 ≤ next6 (b - 224) c) × (next6 (b - 224) c ≤ 863)) ⊎ ((896 ≤ next6 (b - 224) c) × (next6 (b - 224) c ≤ 1023)))
unfolding second3
second3_in b c h = let z = in_range 128 191 c (and_left _ _ h) in (z.0, z.1, go (or_cases _ _ (and_right (cont c) _ h)))
  where
    go : (within 32 863 (next6 (b - 224) c) ≡ true) ⊎ (within 896 1023 (next6 (b - 224) c) ≡ true) → (((32 ≤ next6 (b - 224) c) × (next6 (b - 224) c ≤ 863)) ⊎ ((896 ≤ next6 (b - 224) c) × (next6 (b - 224) c ≤ 1023)))
    go (inl k) = inl (in_range _ _ _ k)
    go (inr k) = inr (in_range _ _ _ k)

module _ (ban : ℕ → Bool) (ascii : (c : ℕ) → 127 < c → ban c ≡ false) where
  raw_2 : (b c : ℕ) → 194 ≤ b → b ≤ 223 → 128 ≤ c → c ≤ 191 → IsRaw ban (b ∷ c ∷ []) (next6 (b - 192) c)
  raw_2 b c h₁ h₂ k₁ k₂ =
      let v = next6 (b - 192) c in
      let e₁ : 192 + v / 64 ≡ b = omega arith in
      let e₂ : 128 + v % 64 ≡ c = omega arith in
      record { char = char_low v (omega arith) (omega arith); free = ascii v (omega arith); spelt = sym (utf8_2 v (omega arith) (omega arith) ∙ rw (e₁, e₂)) }

  raw_3 : (b c d : ℕ) → 224 ≤ b → b ≤ 239 → 128 ≤ c → c ≤ 191 → 128 ≤ d → d ≤ 191 → 32 ≤ next6 (b - 224) c → is_char (next6 (next6 (b - 224) c) d) ≡ true
      → IsRaw ban (b ∷ c ∷ d ∷ []) (next6 (next6 (b - 224) c) d)
  raw_3 b c d h₁ h₂ k₁ k₂ l₁ l₂ m ok =
      let v = next6 (next6 (b - 224) c) d in
      let e₁ : 224 + v / 64 / 64 ≡ b = omega arith in
      let e₂ : 128 + v / 64 % 64 ≡ c = omega arith in
      let e₃ : 128 + v % 64 ≡ d = omega arith in
      record { char = ok; free = ascii v (omega arith); spelt = sym (utf8_3 v (omega arith) (omega arith) ∙ rw (e₁, e₂, e₃)) }

  raw_4 : (b c d e : ℕ) → 240 ≤ b → b ≤ 244 → 128 ≤ c → c ≤ 191 → 128 ≤ d → d ≤ 191 → 128 ≤ e → e ≤ 191 → 16 ≤ next6 (b - 240) c → next6 (b - 240) c ≤ 271
      → IsRaw ban (b ∷ c ∷ d ∷ e ∷ []) (next6 (next6 (next6 (b - 240) c) d) e)
  raw_4 b c d e h₁ h₂ k₁ k₂ l₁ l₂ m₁ m₂ n₁ n₂ =
      let v = next6 (next6 (next6 (b - 240) c) d) e in
      let e₁ : 240 + v / 64 / 64 / 64 ≡ b = omega arith in
      let e₂ : 128 + v / 64 / 64 % 64 ≡ c = omega arith in
      let e₃ : 128 + v / 64 % 64 ≡ d = omega arith in
      let e₄ : 128 + v % 64 ≡ e = omega arith in
      record { char = char_high v (omega arith) (omega arith); free = ascii v (omega arith); spelt = sym (utf8_4 v (omega arith) ∙ rw (e₁, e₂, e₃, e₄)) }

  -- the chains say what the language says
  to_1 : (w : Bytes) (v : ℕ) → One ban w v → IsRaw ban w v
  unfolding plain_byte
  to_1 w v (on b w' e h (ret i q)) =
      let a : b ≤ 127 = leb-true b 127 (and_left (leb b 127) (is_char b && not (ban b)) h) in
      let k : is_char b && not (ban b) ≡ true = and_right (leb b 127) (is_char b && not (ban b)) h in
      rw (q, e, i) (record { char = and_left (is_char b) (not (ban b)) k; free = not-true (ban b) (and_right (is_char b) (not (ban b)) k); spelt = sym (utf8_1 b a) })

  to_2 : (w : Bytes) (v : ℕ) → Two w v → IsRaw ban w v
  to_2 w v (on b w' e h (on c w'' e' h' (ret i q))) =
      let z = in_range 194 223 b h in
      let y = in_range 128 191 c h' in
      rw (q, e, e', i) (raw_2 b c z.0 z.1 y.0 y.1)

  to_3 : (w : Bytes) (v : ℕ) → Three w v → IsRaw ban w v
  unfolding third3
  to_3 w v (on b w' e h (on c w'' e' h' (on d w''' e'' h'' (ret i q)))) =
      let z = in_range 224 239 b h in
      let y = second3_in b c h' in
      let x = in_range 128 191 d (and_left (cont d) (leb (next6 (next6 (b - 224) c) d) 65533) h'') in
      let m = leb-true (next6 (next6 (b - 224) c) d) 65533 (and_right (cont d) (leb (next6 (next6 (b - 224) c) d) 65533) h'') in
      rw (q, e, e', e'', i) (go z y x m y.2)
    where
      go : (224 ≤ b) × (b ≤ 239) → (128 ≤ c) × (c ≤ 191) × (((32 ≤ next6 (b - 224) c) × (next6 (b - 224) c ≤ 863)) ⊎ ((896 ≤ next6 (b - 224) c) × (next6 (b - 224) c ≤ 1023))) → (128 ≤ d) × (d ≤ 191) → next6 (next6 (b - 224) c) d ≤ 65533
          → (((32 ≤ next6 (b - 224) c) × (next6 (b - 224) c ≤ 863)) ⊎ ((896 ≤ next6 (b - 224) c) × (next6 (b - 224) c ≤ 1023)))
          → IsRaw ban (b ∷ c ∷ d ∷ []) (next6 (next6 (b - 224) c) d)
      go z y x m (inl t) = raw_3 b c d z.0 z.1 y.0 y.1 x.0 x.1 t.0 (char_low _ (omega arith) (omega arith))
      go z y x m (inr t) = raw_3 b c d z.0 z.1 y.0 y.1 x.0 x.1 (omega arith) (char_mid _ (omega arith) (omega arith))

  to_4 : (w : Bytes) (v : ℕ) → Four w v → IsRaw ban w v
  unfolding second4
  to_4 w v (on b w' e h (on c w'' e' h' (on d w''' e'' h'' (on f u e''' h''' (ret i q))))) =
      let z = in_range 240 244 b h in
      let y = in_range 128 191 c (and_left (cont c) (within 16 271 (next6 (b - 240) c)) h') in
      let t = in_range 16 271 (next6 (b - 240) c) (and_right (cont c) (within 16 271 (next6 (b - 240) c)) h') in
      let x = in_range 128 191 d h'' in
      let m = in_range 128 191 f h''' in
      rw (q, e, e', e'', e''', i) (raw_4 b c d f z.0 z.1 y.0 y.1 x.0 x.1 m.0 m.1 t.0 t.1)

  abbrev Chain : Lang ℕ
  Chain = Alt (One ban) (Alt Two (Alt Three Four))

  to : (w : Bytes) (v : ℕ) → Chain w v → IsRaw ban w v
  to w v (left l) = to_1 w v l
  to w v (right (left l)) = to_2 w v l
  to w v (right (right (left l))) = to_3 w v l
  to w v (right (right (right l))) = to_4 w v l

  from_1 : (w : Bytes) (c : ℕ) → c ≤ 127 → IsRaw ban w c → Chain w c
  unfolding plain_byte
  from_1 w c h l = left (on c [] (l.spelt ∙ utf8_1 c h) (rw (le-leb c 127 h, l.char, l.free)) (ret refl refl))

  from_2 : (w : Bytes) (c : ℕ) → 127 < c → c ≤ 2047 → IsRaw ban w c → Chain w c
  from_2 w c h k l = right (left (on (192 + c / 64) _ (l.spelt ∙ utf8_2 c h k) (range_in _ _ _ (omega arith) (omega arith)) (on (128 + c % 64) [] refl (range_in _ _ _ (omega arith) (omega arith)) (ret refl (omega arith)))))

  from_3 : (w : Bytes) (c : ℕ) → 2047 < c → c ≤ 65533 → (c ≤ 55295) ⊎ (57344 ≤ c) → IsRaw ban w c → Chain w c
  unfolding second3 third3
  from_3 w c h k s l =
      let e : next6 (next6 (224 + c / 64 / 64 - 224) (128 + c / 64 % 64)) (128 + c % 64) ≡ c = omega arith in
      right (right (left (on (224 + c / 64 / 64) _ (l.spelt ∙ utf8_3 c h (omega arith)) (range_in _ _ _ (omega arith) (omega arith))
      (on (128 + c / 64 % 64) _ refl (and_both _ _ (range_in _ _ _ (omega arith) (omega arith)) (go s)) (on (128 + c % 64) [] refl (and_both _ _ (range_in _ _ _ (omega arith) (omega arith)) (le-leb (next6 (next6 (224 + c / 64 / 64 - 224) (128 + c / 64 % 64)) (128 + c % 64)) 65533 (omega arith))) (ret refl (sym e)))))))
    where
      go : (c ≤ 55295) ⊎ (57344 ≤ c) → within 32 863 (next6 (224 + c / 64 / 64 - 224) (128 + c / 64 % 64)) || within 896 1023 (next6 (224 + c / 64 / 64 - 224) (128 + c / 64 % 64)) ≡ true
      go (inl m) = or_left _ _ (range_in _ _ _ (omega arith) (omega arith))
      go (inr m) = or_right (within 32 863 (next6 (224 + c / 64 / 64 - 224) (128 + c / 64 % 64))) _ (range_in _ _ _ (omega arith) (omega arith))

  from_4 : (w : Bytes) (c : ℕ) → 65535 < c → c ≤ 1114111 → IsRaw ban w c → Chain w c
  unfolding second4
  from_4 w c h k l =
      let e : next6 (next6 (next6 (240 + c / 64 / 64 / 64 - 240) (128 + c / 64 / 64 % 64)) (128 + c / 64 % 64)) (128 + c % 64) ≡ c = omega arith in
      right (right (right (on (240 + c / 64 / 64 / 64) _ (l.spelt ∙ utf8_4 c h) (range_in _ _ _ (omega arith) (omega arith))
      (on (128 + c / 64 / 64 % 64) _ refl (and_both _ _ (range_in _ _ _ (omega arith) (omega arith)) (range_in _ _ _ (omega arith) (omega arith)))
      (on (128 + c / 64 % 64) _ refl (range_in _ _ _ (omega arith) (omega arith)) (on (128 + c % 64) [] refl (range_in _ _ _ (omega arith) (omega arith)) (ret refl (sym e))))))))

  from : (w : Bytes) (c : ℕ) → IsRaw ban w c → Chain w c
  from w c l = go (view c l.char)
    where
      size : (y z : Bool) → leb c 127 ≡ y → leb c 2047 ≡ z → c ≤ 65533 → (c ≤ 55295) ⊎ (57344 ≤ c) → Chain w c
      size true z e f m s = from_1 w c (leb-true c 127 e) l
      size false true e f m s = from_2 w c (leb-false c 127 e) (leb-true c 2047 f) l
      size false false e f m s = from_3 w c (leb-false c 2047 f) m s l

      go : View c → Chain w c
      go (control (inl e)) = from_1 w c (omega arith) l
      go (control (inr (inl e))) = from_1 w c (omega arith) l
      go (control (inr (inr e))) = from_1 w c (omega arith) l
      go (low h k) = size _ _ refl refl (omega arith) (inl k)
      go (mid h k) = size _ _ refl refl k (inr h)
      go (high h k) = from_4 w c h k l

  -- each chain is exact
  some_3 : (b : ℕ) → 224 ≤ b → b ≤ 239 → (c : ℕ) × (second3 b c ≡ true)
  unfolding second3 within
  some_3 b h k = go (leb b 224) refl (leb b 237) refl
    where
      go : (z : Bool) → leb b 224 ≡ z → (y : Bool) → leb b 237 ≡ y → (c : ℕ) × (second3 b c ≡ true)
      go true e y f = let q : b ≡ 224 = omega (arith, leb-true b 224 e) in (160, rw q)
      go false e true f = let q = leb-false b 224 e in let p = leb-true b 237 f in (128, or_left (within 32 863 (next6 (b - 224) 128)) _ (range_in 32 863 (next6 (b - 224) 128) (omega arith) (omega arith)))
      go false e false f = let q = leb-false b 237 f in (128, or_right (within 32 863 (next6 (b - 224) 128)) _ (range_in 896 1023 (next6 (b - 224) 128) (omega arith) (omega arith)))

  some_4 : (b : ℕ) → 240 ≤ b → b ≤ 244 → (c : ℕ) × (second4 b c ≡ true)
  unfolding second4 within
  some_4 b h k = go (leb b 240) refl
    where
      go : (z : Bool) → leb b 240 ≡ z → (c : ℕ) × (second4 b c ≡ true)
      go true e = let q : b ≡ 240 = omega (arith, leb-true b 240 e) in (144, rw q)
      go false e = let q = leb-false b 240 e in (128, range_in 16 271 (next6 (b - 240) 128) (omega arith) (omega arith))

  three_exact : Exact Three (on_p (within 224 239) (λ b. on_p (second3 b) (λ c. on_p (third3 (next6 (b - 224) c)) (λ d. ret_p (next6 (next6 (b - 224) c) d)))))
  unfolding within third3
  three_exact = on_exact 224 refl (λ b h.
      let z = in_range 224 239 b h in
      let s = some_3 b z.0 z.1 in
      on_exact s.0 s.1 (λ c k. let y = second3_in b c k in on_exact 128 (le-leb (next6 (next6 (b - 224) c) 128) 65533 (bound b c y y.2)) (λ d m. ret_exact _)))
    where
      bound : (b c : ℕ) → (128 ≤ c) × (c ≤ 191) × (((32 ≤ next6 (b - 224) c) × (next6 (b - 224) c ≤ 863)) ⊎ ((896 ≤ next6 (b - 224) c) × (next6 (b - 224) c ≤ 1023)))
          → (((32 ≤ next6 (b - 224) c) × (next6 (b - 224) c ≤ 863)) ⊎ ((896 ≤ next6 (b - 224) c) × (next6 (b - 224) c ≤ 1023))) → next6 (next6 (b - 224) c) 128 ≤ 65533
      bound b c y (inl t) = omega arith
      bound b c y (inr t) = omega arith

  four_exact : Exact Four (on_p (within 240 244) (λ b. on_p (second4 b) (λ c. on_p cont (λ d. on_p cont (λ e. ret_p (next6 (next6 (next6 (b - 240) c) d) e))))))
  unfolding within
  four_exact = on_exact 240 refl (λ b h.
      let z = in_range 240 244 b h in
      let s = some_4 b z.0 z.1 in
      on_exact s.0 s.1 (λ c k. on_exact 128 refl (λ d m. on_exact 128 refl (λ e n. ret_exact _))))

  in_1 : (b : ℕ) → plain_byte ban b ≡ true → leb b 127 ≡ true
  unfolding plain_byte
  in_1 b h = and_left (leb b 127) (is_char b && not (ban b)) h

  pub char_exact : (b₀ : ℕ) → plain_byte ban b₀ ≡ true → Exact (IsRaw ban) (char_p ban)
  unfolding char_p within
  char_exact b₀ h₀ = exact_like to from
      (choice_exact (on_starts in_1) (λ w v l. out-1 w v l) (on_exact b₀ h₀ (λ b h. ret_exact b))
      (choice_exact (on_starts (λ b h. le-leb b 223 (in_range 194 223 b h).1)) out-2 (on_exact 194 refl (λ b h. on_exact 128 refl (λ c k. ret_exact _)))
      (choice_exact (on_starts (λ b h. le-leb b 239 (in_range 224 239 b h).1)) (on_starts (λ b h. let z = in_range 240 244 b h in lt-leb b 239 (omega arith))) three_exact four_exact)))
    where
      out-1 : (w : Bytes) (v : ℕ) → Alt Two (Alt Three Four) w v → Starts (λ b. leb b 127) false w
      out-1 w v (left l) = on_starts (λ b h. let z = in_range 194 223 b h in lt-leb b 127 (omega arith)) w v l
      out-1 w v (right (left l)) = on_starts (λ b h. let z = in_range 224 239 b h in lt-leb b 127 (omega arith)) w v l
      out-1 w v (right (right l)) = on_starts (λ b h. let z = in_range 240 244 b h in lt-leb b 127 (omega arith)) w v l

      out-2 : (w : Bytes) (v : ℕ) → Alt Three Four w v → Starts (λ b. leb b 223) false w
      out-2 w v (left l) = on_starts (λ b h. let z = in_range 224 239 b h in lt-leb b 223 (omega arith)) w v l
      out-2 w v (right l) = on_starts (λ b h. let z = in_range 240 244 b h in lt-leb b 223 (omega arith)) w v l

  -- the name_start byte
  pub raw_starts : (x : ℕ) → x ≤ 127 → plain_byte ban x ≡ false → (w : Bytes) (c : ℕ) → IsRaw ban w c → Starts (eqb x) false w
  raw_starts x h k w c l = go (from w c l)
    where
      go : Chain w c → Starts (eqb x) false w
      go (left (on b w' e p r)) = starts b w' e (other (plain_byte ban) x k b p)
      go (right (left (on b w' e p r))) = let z = in_range 194 223 b p in starts b w' e (ne_eqb x b (λ q. omega arith))
      go (right (right (left (on b w' e p r)))) = let z = in_range 224 239 b p in starts b w' e (ne_eqb x b (λ q. omega arith))
      go (right (right (right (on b w' e p r)))) = let z = in_range 240 244 b p in starts b w' e (ne_eqb x b (λ q. omega arith))

-- the tests of the bytes behind the first, as ranges of bytes

-- E0: A0 to BF; ED: 80 to 9F; else 80 to BF
pub second3_ranges : (b c : ℕ) → 224 ≤ b → b ≤ 239 → second3 b c ≡ within (cond (eqb 224 b) 160 128) (cond (eqb 237 b) 159 191) c
unfolding second3
second3_ranges b c h k = same_test _ _ (λ t. let z = second3_in b c t in to (eqb 224 b) (eqb 237 b) refl refl z.0 z.1 z.2) (λ t. from (eqb 224 b) (eqb 237 b) refl refl t)
  where
    to : (x y : Bool) → eqb 224 b ≡ x → eqb 237 b ≡ y → 128 ≤ c → c ≤ 191 → (((32 ≤ next6 (b - 224) c) × (next6 (b - 224) c ≤ 863)) ⊎ ((896 ≤ next6 (b - 224) c) × (next6 (b - 224) c ≤ 1023))) → within (cond x 160 128) (cond y 159 191) c ≡ true
    to true true e f m n s = absurd (let q = eqb-true 224 b e in let r = eqb-true 237 b f in omega arith)
    to true false e f m n (inl s) = let q = eqb-true 224 b e in range_in 160 191 c (omega arith) n
    to true false e f m n (inr s) = let q = eqb-true 224 b e in range_in 160 191 c (omega arith) n
    to false true e f m n (inl s) = let q = eqb-true 237 b f in range_in 128 159 c m (omega arith)
    to false true e f m n (inr s) = absurd (let q = eqb-true 237 b f in omega arith)
    to false false e f m n s = range_in 128 191 c m n

    low : 128 ≤ c → c ≤ 191 → 32 ≤ next6 (b - 224) c → next6 (b - 224) c ≤ 863 → second3 b c ≡ true
    low m n p q = and_both _ _ (range_in 128 191 c m n) (or_left _ _ (range_in 32 863 (next6 (b - 224) c) p q))

    high : 128 ≤ c → c ≤ 191 → 896 ≤ next6 (b - 224) c → second3 b c ≡ true
    high m n p = and_both _ _ (range_in 128 191 c m n) (or_right (within 32 863 (next6 (b - 224) c)) _ (range_in 896 1023 (next6 (b - 224) c) p (omega arith)))

    side : (z : Bool) → leb b 237 ≡ z → (224 ≡ b → ⊥) → (237 ≡ b → ⊥) → 128 ≤ c → c ≤ 191 → second3 b c ≡ true
    side true e p q m n = let r = leb-true b 237 e in low m n (omega arith) (omega arith)
    side false e p q m n = let r = leb-false b 237 e in high m n (omega arith)

    from : (x y : Bool) → eqb 224 b ≡ x → eqb 237 b ≡ y → within (cond x 160 128) (cond y 159 191) c ≡ true → second3 b c ≡ true
    from true true e f t = absurd (let q = eqb-true 224 b e in let r = eqb-true 237 b f in omega arith)
    from true false e f t = let q = eqb-true 224 b e in let z = in_range 160 191 c t in low (omega arith) (omega arith) (omega arith) (omega arith)
    from false true e f t = let q = eqb-true 237 b f in let z = in_range 128 159 c t in low (omega arith) (omega arith) (omega arith) (omega arith)
    from false false e f t = let z = in_range 128 191 c t in side (leb b 237) refl (eqb-false 224 b e) (eqb-false 237 b f) z.0 z.1

-- EF BF: 80 to BD; else 80 to BF
pub third3_ranges : (b c d : ℕ) → 224 ≤ b → b ≤ 239 → 128 ≤ c → c ≤ 191 → third3 (next6 (b - 224) c) d ≡ within 128 (cond (eqb 239 b && eqb 191 c) 189 191) d
unfolding third3
third3_ranges b c d h k m n = same_test _ _ (λ t. to (eqb 239 b) (eqb 191 c) refl refl (in_range 128 191 d (and_left (cont d) _ t)) (leb-true (next6 (next6 (b - 224) c) d) 65533 (and_right (cont d) _ t))) (λ t. from (eqb 239 b) (eqb 191 c) refl refl t)
  where
    to : (x y : Bool) → eqb 239 b ≡ x → eqb 191 c ≡ y → (128 ≤ d) × (d ≤ 191) → next6 (next6 (b - 224) c) d ≤ 65533 → within 128 (cond (x && y) 189 191) d ≡ true
    to true true e f z s = let q = eqb-true 239 b e in let r = eqb-true 191 c f in range_in 128 189 d z.0 (omega arith)
    to true false e f z s = range_in 128 191 d z.0 z.1
    to false y e f z s = range_in 128 191 d z.0 z.1

    both : 128 ≤ d → d ≤ 191 → next6 (next6 (b - 224) c) d ≤ 65533 → third3 (next6 (b - 224) c) d ≡ true
    both p q r = and_both _ _ (range_in 128 191 d p q) (le-leb (next6 (next6 (b - 224) c) d) 65533 r)

    from : (x y : Bool) → eqb 239 b ≡ x → eqb 191 c ≡ y → within 128 (cond (x && y) 189 191) d ≡ true → third3 (next6 (b - 224) c) d ≡ true
    from true true e f t = let q = eqb-true 239 b e in let r = eqb-true 191 c f in let z = in_range 128 189 d t in both z.0 (omega arith) (omega arith)
    from true false e f t = let q = eqb-true 239 b e in let r = eqb-false 191 c f in let z = in_range 128 191 d t in both z.0 z.1 (omega arith)
    from false y e f t = let r = eqb-false 239 b e in let z = in_range 128 191 d t in both z.0 z.1 (omega arith)

-- F0: 90 to BF; F4: 80 to 8F; else 80 to BF
pub second4_ranges : (b c : ℕ) → 240 ≤ b → b ≤ 244 → second4 b c ≡ within (cond (eqb 240 b) 144 128) (cond (eqb 244 b) 143 191) c
unfolding second4
second4_ranges b c h k = same_test _ _ (λ t. to (eqb 240 b) (eqb 244 b) refl refl (in_range 128 191 c (and_left (cont c) _ t)) (in_range 16 271 (next6 (b - 240) c) (and_right (cont c) _ t))) (λ t. from (eqb 240 b) (eqb 244 b) refl refl t)
  where
    to : (x y : Bool) → eqb 240 b ≡ x → eqb 244 b ≡ y → (128 ≤ c) × (c ≤ 191) → (16 ≤ next6 (b - 240) c) × (next6 (b - 240) c ≤ 271) → within (cond x 144 128) (cond y 143 191) c ≡ true
    to true true e f z s = absurd (let q = eqb-true 240 b e in let r = eqb-true 244 b f in omega arith)
    to true false e f z s = let q = eqb-true 240 b e in range_in 144 191 c (omega arith) z.1
    to false true e f z s = let q = eqb-true 244 b f in range_in 128 143 c z.0 (omega arith)
    to false false e f z s = range_in 128 191 c z.0 z.1

    both : 128 ≤ c → c ≤ 191 → 16 ≤ next6 (b - 240) c → next6 (b - 240) c ≤ 271 → second4 b c ≡ true
    both p q r s = and_both _ _ (range_in 128 191 c p q) (range_in 16 271 (next6 (b - 240) c) r s)

    from : (x y : Bool) → eqb 240 b ≡ x → eqb 244 b ≡ y → within (cond x 144 128) (cond y 143 191) c ≡ true → second4 b c ≡ true
    from true true e f t = absurd (let q = eqb-true 240 b e in let r = eqb-true 244 b f in omega arith)
    from true false e f t = let q = eqb-true 240 b e in let z = in_range 144 191 c t in both (omega arith) (omega arith) (omega arith) (omega arith)
    from false true e f t = let q = eqb-true 244 b f in let z = in_range 128 143 c t in both (omega arith) (omega arith) (omega arith) (omega arith)
    from false false e f t = let q = eqb-false 240 b e in let r = eqb-false 244 b f in let z = in_range 128 191 c t in both z.0 z.1 (omega arith) (omega arith)
