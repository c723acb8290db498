-- The readers of references, and that they are exact.
use Rattle.std.specs.Prelude.{◌≡◌, ◌⊎◌, ◌↔◌, Bool, false, ◌&&◌, ◌||◌, not, ℕ, zero, suc, ◌+◌, ◌-◌, ◌*◌, ◌≤◌, ◌<◌, eqb, leb}
use Rattle.std.proofs.Math.Path.{refl}
use Rattle.std.proofs.Common.{sym, ap, subst, ◌∙◌, inl, inr}
use mathlib.Core.List.{[], ◌∷◌, ◌++◌, append_assoc, append-nil}
use Rattle.std.proofs.Math.Bool.{true}
use Prim.Native.Char.{code}
use native.Mathlib.Omega.{arith}
use Rattle.std.proofs.Math.ListN.{length, length-append}
use borrow.Author.Tests.{leb-true, leb-false, le-leb, lt-leb, not-true}
use Rattle.exact.specs.Exact.{Lang, Exact, exact_like}
use Rattle.exact.specs.Chain.{Map, mapped, map_exact, clash}
use Rattle.exact.specs.Byte.{On, on, on_exact, Lit, lit, eqb-true, other, lit_exact, Alt, left, right, Starts, starts, lit_starts, on_starts, map_starts, choice_exact}
use Rattle.exact.specs.Token.{TokenFrom, token, token_exact}
use Rattle.grammar.specs.Bytes.{Bytes, within, digit, every, non_empty}
use Rattle.grammar.specs.Character.{is_char}
use Rattle.grammar.specs.Reference.{Named, amp, lt, gt, quot, apos, Reference, named, decimal, hexadecimal, spell_named, spell_reference, hex_digit, worth, number, Digits, GoodReference, good_named, good_decimal, good_hexadecimal}
use Rattle.model.specs.Tests.{in_range, and_left, and_right, and_both, or_cases, or_right, every_left, every_append, every_snoc, every_last, uncons}
use Rattle.model.proofs.Characters.{View, control, low, mid, high, view, char_low, char_mid, char_high, char_max}
use Rattle.model.specs.References.{IsNumber, alive, begun, okay, number_p, dec_p, decimal_begun, hex_p, hexadecimal_begun, named_p, ref_p, IsRef}

-- what is no character
data Gap (v : ℕ) : Type 0 where
  small : v < 32 → Gap v
  surrogate : 55296 ≤ v → v ≤ 57343 → Gap v
  noncharacter : 65534 ≤ v → v ≤ 65535 → Gap v
  big : 1114111 < v → Gap v

gap : (v : ℕ) → is_char v ≡ false → Gap v
gap v h = go1 (leb v 31) refl
  where
    go5 : (z : Bool) → leb v 1114111 ≡ z → 65535 < v → Gap v
    go5 true e k = clash (sym (char_high v k (leb-true _ _ e)) ∙ h)
    go5 false e k = big (leb-false _ _ e)

    go4 : (z : Bool) → leb v 65535 ≡ z → 65533 < v → Gap v
    go4 true e k = noncharacter k (leb-true _ _ e)
    go4 false e k = go5 _ refl (leb-false _ _ e)

    go3 : (z : Bool) → leb v 65533 ≡ z → 57343 < v → Gap v
    go3 true e k = clash (sym (char_mid v k (leb-true _ _ e)) ∙ h)
    go3 false e k = go4 _ refl (leb-false _ _ e)

    go2 : (z : Bool) → leb v 57343 ≡ z → 55295 < v → Gap v
    go2 true e k = surrogate k (leb-true _ _ e)
    go2 false e k = go3 _ refl (leb-false _ _ e)

    go0 : (z : Bool) → leb v 55295 ≡ z → 31 < v → Gap v
    go0 true e k = clash (sym (char_low v k (leb-true _ _ e)) ∙ h)
    go0 false e k = go2 _ refl (leb-false _ _ e)

    go1 : (z : Bool) → leb v 31 ≡ z → Gap v
    go1 true e = small (let k = leb-true v 31 e in omega arith)
    go1 false e = go0 _ refl (leb-false _ _ e)

no_char : (c : ℕ) → 14 ≤ c → c ≤ 31 → is_char c ≡ false
no_char c h k = go (is_char c) refl
  where
    v : View c → ⊥
    v (control (inl e)) = omega arith
    v (control (inr (inl e))) = omega arith
    v (control (inr (inr e))) = omega arith
    v (low a b) = omega arith
    v (mid a b) = omega arith
    v (high a b) = omega arith

    go : (z : Bool) → is_char c ≡ z → is_char c ≡ false
    go true e = absurd (v (view c e))
    go false e = e

pub data Alive (edge top j v : ℕ) : Type 0 where
  now : is_char v ≡ true → Alive edge top j v
  soon : 1 ≤ j → v ≤ top → eqb edge v ≡ false → Alive edge top j v
  later : 2 ≤ j → v ≤ top → Alive edge top j v

module _ (edge top j v : ℕ) where
  pub alive_view : alive edge top j v ≡ true → Alive edge top j v
  unfolding alive
  alive_view h = go (or_cases _ _ h)
    where
      in_room : 1 ≤ j → v ≤ top → (not (eqb edge v) ≡ true) ⊎ (leb 2 j ≡ true) → Alive edge top j v
      in_room a b (inl k) = soon a b (not-true _ k)
      in_room a b (inr k) = later (leb-true 2 j k) b

      go : (is_char v ≡ true) ⊎ (leb 1 j && (leb v top && (not (eqb edge v) || leb 2 j)) ≡ true) → Alive edge top j v
      go (inl k) = now k
      go (inr k) =
          let b : leb v top && (not (eqb edge v) || leb 2 j) ≡ true = and_right (leb 1 j) _ k in
          in_room (leb-true 1 j (and_left (leb 1 j) _ k)) (leb-true v top (and_left (leb v top) _ b)) (or_cases _ _ (and_right (leb v top) _ b))

  of_alive : Alive edge top j v → alive edge top j v ≡ true
  unfolding alive
  of_alive (now h) = rw h
  of_alive (soon a b c) = or_right (is_char v) _ (rw (le-leb 1 j a, le-leb v top b, c))
  of_alive (later a b) = let a' : 1 ≤ j = omega arith in or_right (is_char v) _ (rw (le-leb 1 j a', le-leb v top b, le-leb 2 j a) (or_right (not (eqb edge v)) true refl))

pub number_append : (base v : ℕ) (n m : Bytes) → number base v (n ++ m) ≡ number base (number base v n) m
number_append base v [] m = refl
number_append base v (b ∷ n) m = number_append base (v * base + worth b) n m

-- what a digit more does
pub data Grow (cls : ℕ → Bool) (base edge top j v : ℕ) : Type 0 where
  here : is_char v ≡ true → Grow cls base edge top j v
  grown : (i b : ℕ) → j ≡ suc i → cls b ≡ true → Alive edge top i (v * base + worth b) → Grow cls base edge top j v

module _ (cls : ℕ → Bool) (base max edge top : ℕ) where
  pub record Begun (n : Bytes) : Type 0 where
    all : every cls n ≡ true
    fits : length n ≤ max
    live : Alive edge top (max - length n) (number base 0 n)

  begun_view : (n : Bytes) → begun cls base max edge top n ≡ true → Begun n
  unfolding begun
  begun_view n h =
      let r = and_right (every cls n) (leb (length n) max && alive edge top (max - length n) (number base 0 n)) h in
      record { all = and_left _ _ h; fits = leb-true _ _ (and_left (leb (length n) max) _ r); live = alive_view _ _ _ _ (and_right (leb (length n) max) _ r) }

  of_begun : (n : Bytes) → Begun n → begun cls base max edge top n ≡ true
  unfolding begun
  of_begun n r = rw (r.all, le-leb _ _ r.fits) (of_alive _ _ _ _ r.live)

  shut : (n : Bytes) (b : ℕ) → cls b ≡ false → begun cls base max edge top (n ++ b ∷ []) ≡ false
  unfolding begun
  shut n b h = rw (every_snoc cls n b h)

  module _ (step : (j v b : ℕ) → cls b ≡ true → Alive edge top j (v * base + worth b) → Alive edge top (suc j) v)
      (grow : (j v : ℕ) → Alive edge top j v → Grow cls base edge top j v)
      (start : Alive edge top (max - 0) 0)
      (semicolon : cls 59 ≡ false)
    where
      back : (n : Bytes) (b : ℕ) → begun cls base max edge top (n ++ b ∷ []) ≡ true → begun cls base max edge top n ≡ true
      back n b h =
          let r = begun_view (n ++ b ∷ []) h in
          let f : length n + 1 ≤ max = rw length-append at r.fits in
          let e : suc (max - length (n ++ b ∷ [])) ≡ max - length n = rw length-append (omega arith) in
          let l : Alive edge top (max - length (n ++ b ∷ [])) (number base 0 n * base + worth b) = rw number_append at r.live in
          of_begun n (record { all = every_left cls n (b ∷ []) r.all; fits = omega arith; live = rw e at (step _ _ b (every_last cls n b r.all) l) })

      closed : (n m : Bytes) → begun cls base max edge top (n ++ m) ≡ true → begun cls base max edge top n ≡ true
      closed n [] h = rw append-nil at h
      closed n (b ∷ m) h = back n b (closed (n ++ b ∷ []) m (rw append_assoc h))

      ends : (j v : ℕ) → Alive edge top j v → (m : Bytes) × (every cls m ≡ true) × (length m ≤ j) × (is_char (number base v m) ≡ true)
      ends zero v h = go (grow zero v h)
        where
          go : Grow cls base edge top zero v → (m : Bytes) × (every cls m ≡ true) × (length m ≤ zero) × (is_char (number base v m) ≡ true)
          go (here k) = ([], refl, omega arith, k)
          go (grown i b e c a) = absurd (omega arith)
      ends (suc j) v h = go (grow (suc j) v h) (λ b a. ends j (v * base + worth b) a)
        where
          go : Grow cls base edge top (suc j) v → ((b : ℕ) → Alive edge top j (v * base + worth b) → (m : Bytes) × (every cls m ≡ true) × (length m ≤ j) × (is_char (number base (v * base + worth b) m) ≡ true))
              → (m : Bytes) × (every cls m ≡ true) × (length m ≤ suc j) × (is_char (number base v m) ≡ true)
          go (here k) f = ([], refl, omega arith, k)
          go (grown i b e c a) f =
              let q : i ≡ j = omega arith in
              let r = f b (rw q at a) in
              (b ∷ r.0, and_both (cls b) (every cls r.0) c r.1, omega (arith, r.2), r.3)

      fill : (n : Bytes) → begun cls base max edge top n ≡ true → (m : Bytes) × (begun cls base max edge top (n ++ m) ≡ true) × (okay cls base max edge top (n ++ m) ≡ true)
      unfolding okay
      fill n h =
          let r = begun_view n h in
          let e = ends _ _ r.live in
          let c : is_char (number base 0 (n ++ e.0)) ≡ true = rw number_append e.3 in
          let k = e.2 in
          (e.0, of_begun (n ++ e.0) (record { all = every_append cls n e.0 r.all e.1; fits = rw length-append (omega (arith, r.fits)); live = now c }), c)

      some_of : (n : Bytes) → is_char (number base 0 n) ≡ true → non_empty n ≡ true
      unfolding is_char within
      some_of [] h = clash (sym h)
      some_of (b ∷ n) h = refl

      -- which digits can still be completed
      pub number-open : (n : Bytes) → (begun cls base max edge top n ≡ true) ↔ ((m : Bytes) × Digits cls base max (n ++ m))
      unfolding okay
      number-open n = (to, from)
        where
          to : begun cls base max edge top n ≡ true → (m : Bytes) × Digits cls base max (n ++ m)
          to h = let (m, b, c) = fill n h in let r = begun_view (n ++ m) b in (m, record { digits = r.all; one = some_of (n ++ m) c; short = r.fits; names = c })

          from : (m : Bytes) × Digits cls base max (n ++ m) → begun cls base max edge top n ≡ true
          from (m, d) = closed n m (of_begun (n ++ m) (record { all = d.digits; fits = d.short; live = now d.names }))

      pub number_exact : Exact (IsNumber cls base max) (number_p cls base max edge top)
      unfolding number_p okay is_char within
      number_exact = exact_like to from (token_exact closed fill apart (λ n h o. lit_exact (59 ∷ []) n) [] (of_begun [] (record { all = refl; fits = omega arith; live = start })))
        where
          apart : (n k v : Bytes) → begun cls base max edge top n ≡ true → okay cls base max edge top n ≡ true → Lit (59 ∷ []) n k v → (b : ℕ) × (k' : Bytes) × (k ≡ b ∷ k') × (begun cls base max edge top (n ++ b ∷ []) ≡ false)
          apart n k v h o (lit e q) = (59, [], e, shut n 59 semicolon)

          to : (w v : Bytes) → TokenFrom (begun cls base max edge top) (okay cls base max edge top) (λ n. Lit (59 ∷ []) n) [] w v → IsNumber cls base max w v
          to w v (token m k e h o (lit i q)) = let r = begun_view m h in rw q (record { good = record { digits = r.all; one = some_of m o; short = r.fits; names = o }; spelt = e ∙ rw i })

          from : (w v : Bytes) → IsNumber cls base max w v → TokenFrom (begun cls base max edge top) (okay cls base max edge top) (λ n. Lit (59 ∷ []) n) [] w v
          from w v l = token v (59 ∷ []) l.spelt (of_begun v (record { all = l.good.digits; fits = l.good.short; live = now l.good.names })) l.good.names (lit refl refl)

-- one digit more or less, for a base
module _ (cls : ℕ → Bool) (base edge top : ℕ)
    (bound : (v b : ℕ) → cls b ≡ true → v * base + worth b ≤ 1114111 → v ≤ top)
    (dead : (b : ℕ) → cls b ≡ true → is_char (edge * base + worth b) ≡ false)
    (low-top : top ≤ 1114111)
  where
    alive_max : (j v : ℕ) → Alive edge top j v → v ≤ 1114111
    alive_max j v (now h) = char_max v h
    alive_max j v (soon a b c) = omega arith
    alive_max j v (later a b) = omega arith

    step : (j v b : ℕ) → cls b ≡ true → Alive edge top j (v * base + worth b) → Alive edge top (suc j) v
    step j v b c a = go (eqb edge v) refl a
      where
        fits : v ≤ top
        fits = bound v b c (alive_max j (v * base + worth b) a)

        go : (z : Bool) → eqb edge v ≡ z → Alive edge top j (v * base + worth b) → Alive edge top (suc j) v
        go false e a = soon (omega arith) fits e
        go true e (now h) = let q = eqb-true edge v e in clash (sym h ∙ rw q (dead b c))
        go true e (soon a b' d) = later (omega arith) fits
        go true e (later a b') = later (omega arith) fits

    module _ (zero-digit : (cls 48 ≡ true) × (worth 48 ≡ 0))
        (good : (v : ℕ) → is_char v ≡ false → v ≤ top → eqb edge v ≡ false → (b : ℕ) × (cls b ≡ true) × (is_char (v * base + worth b) ≡ true))
        (apart : eqb edge (edge * base + worth 48) ≡ false)
        (inside : edge * base + worth 48 ≤ top)
      where
        grow : (j v : ℕ) → Alive edge top j v → Grow cls base edge top j v
        grow j v a = go j (is_char v) refl (eqb edge v) refl a
          where
            go : (j : ℕ) (z : Bool) → is_char v ≡ z → (y : Bool) → eqb edge v ≡ y → Alive edge top j v → Grow cls base edge top j v
            go j true e y f a = here e
            go j false e y f (now h) = here h
            go zero false e y f (soon a b c) = absurd (omega arith)
            go (suc i) false e y f (soon a b c) = let g = good v e b c in grown i g.0 refl g.1 (now g.2)
            go zero false e y f (later a b) = absurd (omega arith)
            go (suc i) false e false f (later a b) = let g = good v e b f in grown i g.0 refl g.1 (now g.2)
            go (suc i) false e true f (later a b) =
                let q = eqb-true edge v f in
                let a' : 1 ≤ i = omega arith in
                grown i 48 refl zero-digit.0 (rw q (soon a' inside apart))

-- decimal, at most 7; 2 with one digit more is 20 to 29
pub dec_digit : (b : ℕ) → digit b ≡ true → worth b ≤ 9
unfolding digit worth
dec_digit b h = let z = in_range 48 57 b h in rw (le-leb b 57 z.1) (omega arith)

dec_good : (v : ℕ) → is_char v ≡ false → v ≤ 111411 → eqb 2 v ≡ false → (b : ℕ) × (digit b ≡ true) × (is_char (v * 10 + worth b) ≡ true)
unfolding is_char within digit worth
dec_good v h k e = go0 (leb v 2) refl
  where
    go : Gap v → 2 < v → is_char (v * 10 + 2) ≡ true
    go (small a) m = char_low (v * 10 + 2) (omega arith) (omega arith)
    go (surrogate a b) m = char_high (v * 10 + 2) (omega arith) (omega arith)
    go (noncharacter a b) m = char_high (v * 10 + 2) (omega arith) (omega arith)
    go (big a) m = absurd (omega arith)

    tiny : (y : ℕ) → v ≡ y → y ≤ 2 → (b : ℕ) × (digit b ≡ true) × (is_char (v * 10 + worth b) ≡ true)
    tiny zero q m = (57, refl, rw q)
    tiny (suc zero) q m = (48, refl, rw q)
    tiny (suc (suc zero)) q m = clash (rw q at e)
    tiny (suc (suc (suc y))) q m = absurd (omega arith)

    go0 : (z : Bool) → leb v 2 ≡ z → (b : ℕ) × (digit b ≡ true) × (is_char (v * 10 + worth b) ≡ true)
    go0 true q = tiny v refl (leb-true v 2 q)
    go0 false q = (50, refl, go (gap v h) (leb-false v 2 q))

dec_bound : (v b : ℕ) → digit b ≡ true → v * 10 + worth b ≤ 1114111 → v ≤ 111411
dec_bound v b c h = omega arith

dec_dead : (b : ℕ) → digit b ≡ true → is_char (2 * 10 + worth b) ≡ false
dec_dead b c = let k = dec_digit b c in no_char (2 * 10 + worth b) (omega arith) (omega arith)

dec_step : (j v b : ℕ) → digit b ≡ true → Alive 2 111411 j (v * 10 + worth b) → Alive 2 111411 (suc j) v
dec_step = step digit 10 2 111411 dec_bound dec_dead (omega arith)

dec_grow : (j v : ℕ) → Alive 2 111411 j v → Grow digit 10 2 111411 j v
unfolding is_char within digit worth
dec_grow = grow digit 10 2 111411 dec_bound dec_dead (omega arith) (refl, refl) dec_good refl (omega arith)

pub dec_exact : Exact (IsNumber digit 10 7) dec_p
unfolding is_char within digit worth
dec_exact = number_exact digit 10 7 2 111411 dec_step dec_grow (soon (omega arith) (omega arith) refl) refl

pub decimal_open : (n : Bytes) → (decimal_begun n ≡ true) ↔ ((m : Bytes) × Digits digit 10 7 (n ++ m))
unfolding decimal_begun is_char within digit worth
decimal_open = number-open digit 10 7 2 111411 dec_step dec_grow (soon (omega arith) (omega arith) refl) refl

-- hexadecimal, at most 6; 1 with one digit more is 10 to 1F
pub hex_digit_lem : (b : ℕ) → hex_digit b ≡ true → worth b ≤ 15
unfolding hex_digit digit worth
hex_digit_lem b h = go (or_cases _ _ h)
  where
    go2 : (within 65 70 b ≡ true) ⊎ (within 97 102 b ≡ true) → worth b ≤ 15
    go2 (inl k) = let z = in_range 65 70 b k in rw (lt-leb b 57 (omega arith), le-leb b 70 z.1) (omega arith)
    go2 (inr k) = let z = in_range 97 102 b k in rw (lt-leb b 57 (omega arith), lt-leb b 70 (omega arith)) (omega arith)

    go : (within 48 57 b ≡ true) ⊎ (within 65 70 b || within 97 102 b ≡ true) → worth b ≤ 15
    go (inl k) = let z = in_range 48 57 b k in rw (le-leb b 57 z.1) (omega arith)
    go (inr k) = go2 (or_cases _ _ k)

hex_good : (v : ℕ) → is_char v ≡ false → v ≤ 69631 → eqb 1 v ≡ false → (b : ℕ) × (hex_digit b ≡ true) × (is_char (v * 16 + worth b) ≡ true)
unfolding is_char within hex_digit digit worth
hex_good v h k e = go0 (leb v 1) refl
  where
    go : Gap v → 1 < v → is_char (v * 16 + 2) ≡ true
    go (small a) m = char_low (v * 16 + 2) (omega arith) (omega arith)
    go (surrogate a b) m = char_high (v * 16 + 2) (omega arith) (omega arith)
    go (noncharacter a b) m = char_high (v * 16 + 2) (omega arith) (omega arith)
    go (big a) m = absurd (omega arith)

    tiny : (y : ℕ) → v ≡ y → y ≤ 1 → (b : ℕ) × (hex_digit b ≡ true) × (is_char (v * 16 + worth b) ≡ true)
    tiny zero q m = (57, refl, rw q)
    tiny (suc zero) q m = clash (rw q at e)
    tiny (suc (suc y)) q m = absurd (omega arith)

    go0 : (z : Bool) → leb v 1 ≡ z → (b : ℕ) × (hex_digit b ≡ true) × (is_char (v * 16 + worth b) ≡ true)
    go0 true q = tiny v refl (leb-true v 1 q)
    go0 false q = (50, refl, go (gap v h) (leb-false v 1 q))

hex_bound : (v b : ℕ) → hex_digit b ≡ true → v * 16 + worth b ≤ 1114111 → v ≤ 69631
hex_bound v b c h = omega arith

hex_dead : (b : ℕ) → hex_digit b ≡ true → is_char (1 * 16 + worth b) ≡ false
hex_dead b c = let k = hex_digit_lem b c in no_char (1 * 16 + worth b) (omega arith) (omega arith)

hex_step : (j v b : ℕ) → hex_digit b ≡ true → Alive 1 69631 j (v * 16 + worth b) → Alive 1 69631 (suc j) v
hex_step = step hex_digit 16 1 69631 hex_bound hex_dead (omega arith)

hex_grow : (j v : ℕ) → Alive 1 69631 j v → Grow hex_digit 16 1 69631 j v
unfolding is_char within hex_digit digit worth
hex_grow = grow hex_digit 16 1 69631 hex_bound hex_dead (omega arith) (refl, refl) hex_good refl (omega arith)

pub hex_exact : Exact (IsNumber hex_digit 16 6) hex_p
unfolding is_char within hex_digit digit worth
hex_exact = number_exact hex_digit 16 6 1 69631 hex_step hex_grow (soon (omega arith) (omega arith) refl) refl

pub hexadecimal_open : (n : Bytes) → (hexadecimal_begun n ≡ true) ↔ ((m : Bytes) × Digits hex_digit 16 6 (n ++ m))
unfolding hexadecimal_begun is_char within hex_digit digit worth
hexadecimal_open = number-open hex_digit 16 6 1 69631 hex_step hex_grow (soon (omega arith) (omega arith) refl) refl

abbrev NamedL : Lang Named
NamedL =
    Alt (On (eqb 97) (λ b. Alt (Lit (109 ∷ 112 ∷ 59 ∷ []) amp) (Lit (112 ∷ 111 ∷ 115 ∷ 59 ∷ []) apos)))
    (Alt (Lit (108 ∷ 116 ∷ 59 ∷ []) lt) (Alt (Lit (103 ∷ 116 ∷ 59 ∷ []) gt) (Lit (113 ∷ 117 ∷ 111 ∷ 116 ∷ 59 ∷ []) quot)))

named_exact : Exact NamedL named_p
unfolding named_p
named_exact =
    choice_exact (on_starts (λ b h. h)) not_a
    (on_exact 97 refl (λ b h. choice_exact (lit_starts 109 _ refl) (lit_starts 112 _ refl) (lit_exact _ _) (lit_exact _ _)))
    (choice_exact (lit_starts 108 _ refl) not_l (lit_exact _ _)
    (choice_exact (lit_starts 103 _ refl) (lit_starts 113 _ refl) (lit_exact _ _) (lit_exact _ _)))
  where
    not_a : (w : Bytes) (v : Named) → Alt (Lit (108 ∷ 116 ∷ 59 ∷ []) lt) (Alt (Lit (103 ∷ 116 ∷ 59 ∷ []) gt) (Lit (113 ∷ 117 ∷ 111 ∷ 116 ∷ 59 ∷ []) quot)) w v → Starts (eqb 97) false w
    not_a w v (left (lit e q)) = starts 108 _ e refl
    not_a w v (right (left (lit e q))) = starts 103 _ e refl
    not_a w v (right (right (lit e q))) = starts 113 _ e refl

    not_l : (w : Bytes) (v : Named) → Alt (Lit (103 ∷ 116 ∷ 59 ∷ []) gt) (Lit (113 ∷ 117 ∷ 111 ∷ 116 ∷ 59 ∷ []) quot) w v → Starts (eqb 108) false w
    not_l w v (left (lit e q)) = starts 103 _ e refl
    not_l w v (right (lit e q)) = starts 113 _ e refl

of_named : (w : Bytes) (v : Named) → NamedL w v → w ≡ spell_named v
of_named w v (left (on b w' e h (left (lit i q)))) = rw (e, eqb-true 97 b h, i, q)
of_named w v (left (on b w' e h (right (lit i q)))) = rw (e, eqb-true 97 b h, i, q)
of_named w v (right (left (lit i q))) = rw (i, q)
of_named w v (right (right (left (lit i q)))) = rw (i, q)
of_named w v (right (right (right (lit i q)))) = rw (i, q)

is_named : (w : Bytes) (v : Named) → w ≡ spell_named v → NamedL w v
is_named w amp e = left (on 97 _ e refl (left (lit refl refl)))
is_named w lt e = right (left (lit e refl))
is_named w gt e = right (right (left (lit e refl)))
is_named w quot e = right (right (right (lit e refl)))
is_named w apos e = left (on 97 _ e refl (right (lit refl refl)))

named_starts : (w : Bytes) (v : Named) → NamedL w v → Starts (eqb 35) false w
named_starts w v (left (on b w' e h l)) = starts b w' e (rw (eqb-true 97 b h))
named_starts w v (right (left (lit e q))) = starts 108 _ e refl
named_starts w v (right (right (left (lit e q)))) = starts 103 _ e refl
named_starts w v (right (right (right (lit e q)))) = starts 113 _ e refl

number_starts : (cls : ℕ → Bool) (base max x : ℕ) → cls x ≡ false → (w n : Bytes) → IsNumber cls base max w n → Starts (eqb x) false w
number_starts cls base max x h w n l = subst (λ (y : Bytes). Starts (eqb x) false y) (sym l.spelt) (go n l.good.digits l.good.one)
  where
    go : (n : Bytes) → every cls n ≡ true → non_empty n ≡ true → Starts (eqb x) false (n ++ 59 ∷ [])
    go [] d o = clash (sym o)
    go (b ∷ m) d o = starts b (m ++ 59 ∷ []) refl (other cls x h b (and_left (cls b) (every cls m) d))

abbrev RefL : Lang Reference
RefL = Alt (On (eqb 35) (λ b. Alt (On (eqb 120) (λ c. Map hexadecimal (IsNumber hex_digit 16 6))) (Map decimal (IsNumber digit 10 7)))) (Map named NamedL)

pub ref_exact : Exact IsRef ref_p
unfolding ref_p digit within
ref_exact = exact_like to from
    (choice_exact (on_starts (λ b h. h)) (map_starts named_starts)
    (on_exact 35 refl (λ b h. choice_exact (on_starts (λ c k. k)) (map_starts (number_starts digit 10 7 120 refl)) (on_exact 120 refl (λ c k. map_exact hexadecimal hex_exact)) (map_exact decimal dec_exact)))
    (map_exact named named_exact))
  where
    to : (w : Bytes) (r : Reference) → RefL w r → IsRef w r
    to w r (left (on b w' e h (left (on c w'' i k (mapped n l q))))) = rw q (record { good = good_hexadecimal l.good; spelt = ap (λ (y : Bytes). code "&" ∷ y) (e ∙ rw (eqb-true 35 b h, i, eqb-true 120 c k, l.spelt)) })
    to w r (left (on b w' e h (right (mapped n l q)))) = rw q (record { good = good_decimal l.good; spelt = ap (λ (y : Bytes). code "&" ∷ y) (e ∙ rw (eqb-true 35 b h, l.spelt)) })
    to w r (right (mapped k l q)) = rw q (record { good = good_named; spelt = ap (λ (y : Bytes). code "&" ∷ y) (of_named w k l) })

    go : {r : Reference} → GoodReference r → (w : Bytes) → code "&" ∷ w ≡ spell_reference r → RefL w r
    go (good_named {n = k}) w e = right (mapped k (is_named w k (uncons e)) refl)
    go (good_decimal {n} g) w e = left (on 35 _ (uncons e) refl (right (mapped n (record { good = g; spelt = refl }) refl)))
    go (good_hexadecimal {n} g) w e = left (on 35 _ (uncons e) refl (left (on 120 _ refl refl (mapped n (record { good = g; spelt = refl }) refl))))

    from : (w : Bytes) (r : Reference) → IsRef w r → RefL w r
    from w r l = go l.good w l.spelt
