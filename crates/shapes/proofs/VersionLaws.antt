-- A version read in a row: digits, a point where they end, and digits to the end.
use mathlib.Core.Path.{◌≡◌, refl, sym, ap, ◌∙◌}
use mathlib.Core.Bool.{Bool, true, false, ◌&&◌}
use mathlib.Core.List.{[], ◌∷◌}
use Prim.Native.Nat.{ℕ, suc, ◌+◌, ◌-◌, ◌≤◌, ◌<◌}
use Prim.Native.Char.{code}
use native.Mathlib.Omega.{arith}
use native.Mathlib.Numerals.{add-one}
use lib.Dec.{eqb, leb}
use lib.ListN.{length, get_or, take, drop, length-drop}
use lib.Seq.{drop-cons}
use borrow.Author.Tests.{eqb-true, eqb-false, eq-eqb, ne_eqb, leb-true, lt-leb}
use Rattle.number.specs.Bytes.{Bytes, and, within, digit, all, before, behind, pointed}
use Rattle.number.specs.Version.{one_to_three, version_of}
use Rattle.std.specs.List.{prefix_len}
use Rattle.shapes.specs.Rows.{figures}
use Rattle.numerals.proofs.AheadLaws.{rest_is}
use Rattle.number.proofs.Tests.{cases, and_false, digit_low}

-- the digits that stand first, in std's words, and how many they can be
pub figures_first : (v : Bytes) → prefix_len digit v ≡ figures v
unfolding figures
figures_first [] = refl
figures_first (b ∷ v) = cases (digit b) (λ d. rw d (let h = figures_first v in omega arith)) (λ d. rw d)

pub figures_upto : (v : Bytes) → figures v ≤ length v
unfolding figures
figures_upto [] = omega arith
figures_upto (b ∷ v) = cases (digit b) (λ d. rw d (let h = figures_upto v in omega arith)) (λ d. rw d (omega arith))

-- what stands behind the first digits: nothing, a point, or another byte
data Front (v : Bytes) : Type 0 where
  ends : figures v ≡ length v → pointed v ≡ false → all digit v ≡ true → Front v
  point : figures v < length v → get_or v (figures v) 0 ≡ code "." → pointed v ≡ true → all digit (before v) ≡ true → length (before v) ≡ figures v → behind v ≡ drop (suc (figures v)) v → all digit v ≡ false → Front v
  other : figures v < length v → (get_or v (figures v) 0 ≡ code "." → ⊥) → all digit (before v) ≡ false → all digit v ≡ false → Front v

one_digit : (b : ℕ) (v : Bytes) → digit b ≡ true → Front v → Front (b ∷ v)
unfolding figures pointed before behind all
one_digit b v d f =
    let p : eqb b (code ".") ≡ false = ne_eqb b (code ".") (λ e. let l = digit_low b d in omega arith) in
    let n : figures (b ∷ v) ≡ suc (figures v) = rw d in
    go p n f
  where
    go : eqb b (code ".") ≡ false → figures (b ∷ v) ≡ suc (figures v) → Front v → Front (b ∷ v)
    go p n (ends a q t) = ends (omega arith) (rw p q) (rw d t)
    go p n (point l g q t k h u) = point (omega arith) (rw n g) (rw p q) (rw (p, d) t) (rw (p, n) (ap suc k)) (rw (p, n) h) (rw d u)
    go p n (other l g t u) = other (omega arith) (rw n g) (rw (p, d) t) (rw d u)

front : (v : Bytes) → Front v
unfolding figures pointed before behind all
front [] = ends refl refl refl
front (b ∷ v) =
    cases (digit b) (λ d. one_digit b v d (front v))
    (λ d.
    let n : figures (b ∷ v) ≡ 0 = rw d in
    cases (eqb b (code "."))
    (λ p. point (omega arith) (rw n (eqb-true b (code ".") p)) (rw p) (rw p) (rw (p, n)) (rw (p, n)) (rw d))
    (λ p. other (omega arith) (rw n (eqb-false b (code ".") p)) (rw (p, d)) (rw d)))

-- digits alone
alone : (r : Bytes) → one_to_three r ≡ and (eqb (figures r) (length r)) (within 1 3 (length r))
unfolding one_to_three
alone r = go (front r)
  where
    go : Front r → and (all digit r) (within 1 3 (length r)) ≡ and (eqb (figures r) (length r)) (within 1 3 (length r))
    go (ends a q t) = rw (t, eq-eqb (figures r) (length r) a)
    go (point k g q t m u x) = rw (x, ne_eqb (figures r) (length r) (λ e. omega arith))
    go (other k g t x) = rw (x, ne_eqb (figures r) (length r) (λ e. omega arith))

-- the digits that stand first end at p, where w begins
module _ (v : Bytes) {p : ℕ} (h : p ≡ figures v) (w : Bytes) (e : w ≡ take (length v - p) (drop p v)) where
  whole : w ≡ drop p v
  whole = e ∙ rest_is v p

  long : length w ≡ length v - p
  long = ap length whole ∙ length-drop p v

  next : 1 ≤ length w → w ≡ get_or v p 0 ∷ drop (p + 1) v
  next l = let k : p < length v = omega (arith, long) in whole ∙ rw add-one (drop-cons v p 0 k)

  pub no_more : length w < 1 → false ≡ version_of v
  unfolding version_of
  no_more l = go (front v)
    where
      go : Front v → false ≡ version_of v
      go (ends a q t) = rw q
      go (point k g q t m u x) = absurd (omega (arith, long))
      go (other k g t x) = absurd (omega (arith, long))

  pub no_point : 1 ≤ length w → (get_or w 0 0 ≡ code "." → ⊥) → false ≡ version_of v
  unfolding version_of one_to_three
  no_point l n = go (front v)
    where
      go : Front v → false ≡ version_of v
      go (ends a q t) = absurd (omega (arith, long))
      go (point k g q t m u x) = absurd (n (ap (λ (y : Bytes). get_or y 0 0) (next l) ∙ ap (λ (i : ℕ). get_or v i 0) h ∙ g))
      go (other k g t x) = rw (t, and_false (pointed v))

  -- behind the point, where r begins, stand q digits
  module _ (r : Bytes) (f : r ≡ take (length w - 1) (drop 1 w)) (l : 1 ≤ length w) (n : get_or w 0 0 ≡ code ".") where
    last : r ≡ drop (p + 1) v
    last = f ∙ rest_is w 1 ∙ ap (drop 1) (next l)

    told : version_of v ≡ and (within 1 3 p) (one_to_three r)
    unfolding version_of one_to_three
    told = go (front v)
      where
        go : Front v → version_of v ≡ and (within 1 3 p) (one_to_three r)
        go (ends a q t) = absurd (omega (arith, long))
        go (point k g q t m u x) = rw (q, t, m, u, last, h, add-one (figures v))
        go (other k g t x) = absurd (g (ap (λ (i : ℕ). get_or v i 0) (sym h) ∙ sym (ap (λ (y : Bytes). get_or y 0 0) (next l)) ∙ n))

    pub grouped : {q : ℕ} {a b : Bool} → q ≡ figures r → a ≡ within 1 3 p → b ≡ within 1 3 q → (eqb q (length r) && a) && b ≡ version_of v
    grouped {q} {a} {b} c g k = cases (eqb q (length r)) (λ t. yes t) (λ t. no t)
      where
        same : (x y : Bool) → x && y ≡ and x y
        same true y = refl
        same false y = refl

        both : (a b : Bool) {x y : Bool} → a ≡ x → b ≡ y → a && b ≡ and x y
        both a b {x} {y} s t = rw (s, t) (same x y)

        yes : eqb q (length r) ≡ true → (eqb q (length r) && a) && b ≡ version_of v
        yes t =
            let z : within 1 3 q ≡ within 1 3 (length r) = ap (within 1 3) (eqb-true q (length r) t) in
            let y : eqb (figures r) (length r) ≡ true = rw (sym c) t in
            let o : one_to_three r ≡ within 1 3 (length r) = alone r ∙ rw y in
            rw t (both a b (g) (k ∙ z)) ∙ sym (told ∙ ap (and (within 1 3 p)) o)

        no : eqb q (length r) ≡ false → (eqb q (length r) && a) && b ≡ version_of v
        no t =
            let y : eqb (figures r) (length r) ≡ false = rw (sym c) t in
            let o : one_to_three r ≡ false = alone r ∙ rw y in
            let z : (eqb q (length r) && a) && b ≡ false = rw t in
            z ∙ sym (told ∙ ap (and (within 1 3 p)) o ∙ and_false (within 1 3 p))

-- before the first point, the point, and behind it
parts_long : (v : Bytes) → length v ≤ length (before v) + 1 + length (behind v)
unfolding before behind
parts_long [] = omega arith
parts_long (b ∷ v) = cases (eqb b 46) (λ e. rw e (omega arith)) (λ e. rw e (let z = parts_long v in omega arith))

-- a version has at most 7 bytes
pub too_long : (v : Bytes) → 7 < length v → version_of v ≡ false
unfolding version_of one_to_three
too_long v h =
    let z = parts_long v in
    cases (leb (length (before v)) 3)
    (λ a. let y = leb-true (length (before v)) 3 a in rw (lt-leb (length (behind v)) 3 (omega arith), and_false (leb 1 (length (behind v))), and_false (all digit (behind v)), and_false (and (all digit (before v)) (within 1 3 (length (before v)))), and_false (pointed v)))
    (λ a. rw (a, and_false (leb 1 (length (before v))), and_false (all digit (before v)), and_false (pointed v)))
