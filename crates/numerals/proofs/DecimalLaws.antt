-- The definition by its number: the digits f and g, a point between them, write `exactly (value (f ++ g)) 6 (length g)`, also with the point moved.
-- `tail k n g` is the answer behind the point, with k places left and n written so far: the definition's by induction on the digits.
use mathlib.Core.Path.{◌≡◌, refl, sym, ap, ◌∙◌}
use mathlib.Core.Bool.{Bool, true, false}
use mathlib.Core.List.{[], ◌∷◌, ◌++◌, append_assoc}
use Prim.Native.Nat.{ℕ, zero, suc, ◌+◌, ◌-◌, ◌*◌, ◌^◌, ◌≤◌, ◌<◌}
use Prim.Native.Char.{code}
use native.Mathlib.Omega.{arith}
use native.Mathlib.Nat.{add-mul, mul-lt-mul_of_pos_right, mul-le-mul_right, mul_assoc}
use lib.Pow.{pow-add}
use lib.Dec.{eqb, leb, ltb, leb-suc-suc, leb-suc-zero, leb-zero}
use lib.ListN.{length, length-append, take, drop, take-append-drop, length-drop, length-replicate}
use borrow.Author.Tests.{eqb-true, lt-ltb, le-ltb, eqb-false, ltb-true, ltb-false, leb-true, leb-false, le-leb}
use Rattle.number.specs.Bytes.{Bytes, pick, and, digit, zero_digit, figure, non_empty, all, drop_front, drop_back, keep_before, value_from, value}
use Rattle.number.specs.Positive.{Number, no_number, number, written, short, millionths, above, decimal, zeros, right, left}
use Rattle.numerals.specs.Scan.{limited, exactly}
use Rattle.number.proofs.Tests.{cases, never, and_left, and_right, and_false}
use Rattle.number.proofs.DigitLaws.{zeros_digits, all_append, both_digits}
use Rattle.number.proofs.Powers.{ten_pos, shift, in_front, value_lt, lead_le, zero_front, few}
use Rattle.numerals.proofs.TenLaws.{Exact, picked, exactly_none, exactly_tens, exactly_suc}

-- the answer behind the point
unfoldable tail : ℕ → ℕ → Bytes → Number
tail k n [] = limited (n * 10 ^ k)
tail zero n (b ∷ g) = pick (digit b) (pick (zero_digit b) (tail zero n g) no_number) no_number
tail (suc k) n (b ∷ g) = pick (digit b) (tail k (10 * n + figure b) g) no_number

-- what is left of the digits behind the point, and its value with k places
abbrev cut : Bytes → Bytes
cut g = drop_back zero_digit g

abbrev part : ℕ → Bytes → ℕ
part k x = value x * 10 ^ (k - length x)

abbrev fits : ℕ → ℕ → Bytes → Bool → Number
fits k n x ok = pick (and ok (leb (length x) k)) (limited (n * 10 ^ k + part k x)) no_number

carry : (k n d v l : ℕ) → l ≤ k → (10 * n + d) * 10 ^ k + v * 10 ^ (k - l) ≡ n * 10 ^ suc k + (d * 10 ^ l + v) * 10 ^ (k - l)
carry k n d v l h =
    let front : (10 * n + d) * 10 ^ k ≡ (10 * n) * 10 ^ k + d * 10 ^ k = add-mul (10 * n) d (10 ^ k) in
    let up : n * 10 ^ suc k ≡ (10 * n) * 10 ^ k = shift n k in
    let spread : (d * 10 ^ l + v) * 10 ^ (k - l) ≡ (d * 10 ^ l) * 10 ^ (k - l) + v * 10 ^ (k - l) = add-mul (d * 10 ^ l) v (10 ^ (k - l)) in
    let joined : 10 ^ l * 10 ^ (k - l) ≡ 10 ^ k = sym (pow-add 10 l (k - l)) ∙ ap (λ (y : ℕ). 10 ^ y) (omega arith) in
    let moved : (d * 10 ^ l) * 10 ^ (k - l) ≡ d * 10 ^ k = mul_assoc d (10 ^ l) (10 ^ (k - l)) ∙ ap (λ (y : ℕ). d * y) joined in
    omega arith

-- a digit in front of what is left
cons_part : (k n b : ℕ) (x : Bytes) → length x ≤ k → (10 * n + figure b) * 10 ^ k + part k x ≡ n * 10 ^ suc k + part (suc k) (b ∷ x)
unfolding value_from
cons_part k n b x l =
    carry k n (figure b) (value x) (length x) l
    ∙ ap (λ (y : ℕ). n * 10 ^ suc k + y * 10 ^ (k - length x))
    (sym (in_front (figure b) x) ∙ ap (λ (y : ℕ). value_from y x) (omega arith))
    ∙ ap (λ (y : ℕ). n * 10 ^ suc k + value (b ∷ x) * 10 ^ y) (omega arith)

-- one more place: what is left is a digit longer, or nothing is left and the digit is zero
cons_fits : (k n b : ℕ) (x : Bytes) (ok : Bool) → fits k (10 * n + figure b) x ok ≡ fits (suc k) n (b ∷ x) ok
cons_fits k n b x false = refl
cons_fits k n b x true =
    rw (leb-suc-suc (length x) k)
    (cases (leb (length x) k) (λ l. rw l (ap limited (cons_part k n b x (leb-true (length x) k l)))) (λ l. rw l))

nil_fits : (k n b : ℕ) (ok : Bool) → zero_digit b ≡ true → fits k (10 * n + figure b) [] ok ≡ fits (suc k) n [] ok
unfolding value_from
nil_fits k n b false z = refl
nil_fits k n b true z =
    rw (leb-zero k, leb-zero (suc k), eqb-true b 48 z)
    (ap limited (let up : n * 10 ^ suc k ≡ (10 * n) * 10 ^ k = shift n k in omega arith))

more_place : (k n b : ℕ) (x : Bytes) (ok : Bool) → fits k (10 * n + figure b) x ok ≡ fits (suc k) n (keep_before zero_digit b x) ok
unfolding keep_before
more_place k n b [] ok = cases (zero_digit b) (λ z. rw z (nil_fits k n b ok z)) (λ z. rw z (cons_fits k n b [] ok))
more_place k n b (c ∷ x) ok = cons_fits k n b (c ∷ x) ok

-- no place left: a digit above zero, or anything left behind, is too much
no_place : (n b : ℕ) (x : Bytes) (ok : Bool) → pick (zero_digit b) (fits 0 n x ok) no_number ≡ fits 0 n (keep_before zero_digit b x) ok
unfolding keep_before
no_place n b [] ok = cases (zero_digit b) (λ z. rw z) (λ z. rw (z, leb-suc-zero 0, and_false ok))
no_place n b (c ∷ x) ok = rw (leb-suc-zero (length x), leb-suc-zero (suc (length x)), and_false ok) (pick_same (zero_digit b))
  where
    pick_same : (t : Bool) → pick t no_number no_number ≡ no_number
    pick_same true = refl
    pick_same false = refl

-- the answer behind the point is the definition's
tail_fits : (k n : ℕ) (g : Bytes) → tail k n g ≡ fits k n (cut g) (all digit g)
unfolding tail all drop_back value_from
tail_fits k n [] = rw (leb-zero k) (ap limited (omega arith))
tail_fits zero n (b ∷ g) =
    cases (digit b) (λ d. rw d (ap (λ (x : Number). pick (zero_digit b) x no_number) (tail_fits zero n g) ∙ no_place n b (cut g) (all digit g))) (λ d. rw d)
tail_fits (suc k) n (b ∷ g) =
    cases (digit b) (λ d. rw d (tail_fits k (10 * n + figure b) g ∙ more_place k n b (cut g) (all digit g))) (λ d. rw d)

-- "at most 7 digits before the point" is a limit on the millionths, since what stands behind the point is less than one
part_lt : (k : ℕ) (x : Bytes) → all digit x ≡ true → length x ≤ k → part k x < 10 ^ k
part_lt k x d l =
    let less : value x * 10 ^ (k - length x) < 10 ^ length x * 10 ^ (k - length x) = mul-lt-mul_of_pos_right (value_lt x d) (ten_pos (k - length x)) in
    let joined : 10 ^ length x * 10 ^ (k - length x) ≡ 10 ^ k = sym (pow-add 10 (length x) (k - length x)) ∙ ap (λ (y : ℕ). 10 ^ y) (omega arith) in
    omega arith

keep_digits : (b : ℕ) (x : Bytes) → digit b ≡ true → all digit x ≡ true → all digit (keep_before zero_digit b x) ≡ true
unfolding keep_before all
keep_digits b [] d h = cases (zero_digit b) (λ z. rw z) (λ z. rw (z, d))
keep_digits b (c ∷ x) d h = rw d h

cut_digits : (g : Bytes) → all digit g ≡ true → all digit (cut g) ≡ true
unfolding drop_back all
cut_digits [] h = refl
cut_digits (b ∷ g) h = keep_digits b (cut g) (and_left (digit b) (all digit g) h) (cut_digits g (and_right (digit b) (all digit g) h))

limit_front : (f g : Bytes) → all digit f ≡ true → all digit g ≡ true → length (cut g) ≤ 6 → leb (length (drop_front zero_digit f)) 7 ≡ ltb (value f * 10 ^ 6 + part 6 (cut g)) (10 ^ 13)
limit_front f g df dg l =
    let less : part 6 (cut g) < 10 ^ 6 = part_lt 6 (cut g) (cut_digits g dg) l in
    few 7 f df
    ∙ cases (ltb (value f) (10 ^ 7)) (λ y. y ∙ sym (lt-ltb (value f * 10 ^ 6 + part 6 (cut g)) (10 ^ 13) (omega (arith, ltb-true (value f) (10 ^ 7) y))))
    (λ n. n ∙ sym (le-ltb (value f * 10 ^ 6 + part 6 (cut g)) (10 ^ 13) (omega (arith, ltb-false (value f) (10 ^ 7) n))))

swap : (a b : Bool) (x : Number) → pick (and a b) x no_number ≡ pick (and (and b true) a) x no_number
swap true true x = refl
swap true false x = refl
swap false true x = refl
swap false false x = refl

-- the definition's answer, where a digit is there
decimal_tail : (f g : Bytes) → non_empty (f ++ g) ≡ true → pick (all digit f) (tail 6 (value f) g) no_number ≡ decimal f g
unfolding decimal written short above millionths limited
decimal_tail f g s =
    cases (all digit f)
    (λ df. cases (all digit g)
    (λ dg. cases (leb (length (cut g)) 6)
    (λ l. rw (df, tail_fits 6 (value f) g, dg, l, s, limit_front f g df dg (leb-true (length (cut g)) 6 l))
    (swap (ltb 0 (value f * 10 ^ 6 + part 6 (cut g))) (ltb (value f * 10 ^ 6 + part 6 (cut g)) (10 ^ 13)) (number (value f * 10 ^ 6 + part 6 (cut g)))))
    (λ l. rw (df, tail_fits 6 (value f) g, dg, l, s, and_false (leb (length (drop_front zero_digit f)) 7))))
    (λ dg. rw (df, tail_fits 6 (value f) g, dg)))
    (λ df. rw df)

-- no place left: only zeros may stand there
only_zeros : (n : ℕ) (g : Bytes) → all digit g ≡ true → value g ≡ 0 → tail zero n g ≡ limited n
unfolding tail all value_from
only_zeros n [] h e = ap limited (omega arith)
only_zeros n (b ∷ g) h e =
    let d = and_left (digit b) (all digit g) h in
    cases (zero_digit b)
    (λ z. rw (d, z) (only_zeros n g (and_right (digit b) (all digit g) h) (sym (zero_front b g z) ∙ e)))
    (λ z. absurd (let l = lead_le b g d z in let p = ten_pos (length g) in omega arith))

some_left : (n : ℕ) (g : Bytes) → all digit g ≡ true → 0 < value g → tail zero n g ≡ no_number
unfolding tail all value_from
some_left n [] h l = absurd (omega arith)
some_left n (b ∷ g) h l =
    let d = and_left (digit b) (all digit g) h in
    cases (zero_digit b)
    (λ z. let e = zero_front b g z in rw (d, z) (some_left n g (and_right (digit b) (all digit g) h) (omega arith)))
    (λ z. rw (d, z))

-- as many tens on both sides
even : (n k : ℕ) → exactly n k k ≡ limited n
unfolding exactly
even n k = let z : k - k ≡ 0 = omega arith in rw (le-leb k k (omega arith), z) (ap limited (omega arith))

no_tens : (n k : ℕ) → exactly n k 0 ≡ limited (n * 10 ^ k)
unfolding exactly
no_tens n k = let z : k - 0 ≡ k = omega arith in rw (leb-zero k, z)

zero_tail : (n : ℕ) (g : Bytes) → all digit g ≡ true → tail zero n g ≡ exactly (value_from n g) 0 (length g)
zero_tail n g h =
    let v = in_front n g in
    cases (eqb (value g) 0)
    (λ z.
    let e = eqb-true (value g) 0 z in
    let w : value_from n g ≡ n * 10 ^ length g = omega arith in
    let l : length g + 0 ≡ length g = omega arith in
    only_zeros n g h e ∙ sym (ap (λ (y : ℕ). exactly y 0 (length g)) w ∙ exactly_tens n (length g) 0 (length g) ∙ ap (λ (y : ℕ). exactly n y (length g)) l ∙ even n (length g)))
    (λ z.
    let some : 0 < value g = let y = eqb-false (value g) 0 z in omega arith in
    some_left n g h some ∙ sym (exactly_none (value_from n g) 0 (length g) (λ m x. none some m x)))
  where
    none : 0 < value g → (m : ℕ) → Exact (value_from n g) 0 (length g) m → ⊥
    none some m x =
        let v = in_front n g in
        let s = x.same in
        let l = value_lt g h in
        cases (leb m n)
        (λ t. let y : m * 10 ^ length g ≤ n * 10 ^ length g = mul-le-mul_right (10 ^ length g) (leb-true m n t) in omega arith)
        (λ t.
        let y : (n + 1) * 10 ^ length g ≤ m * 10 ^ length g = mul-le-mul_right (10 ^ length g) (let k = leb-false m n t in omega arith) in
        let z = add-mul n 1 (10 ^ length g) in
        omega arith)

tail_exact : (k n : ℕ) (g : Bytes) → all digit g ≡ true → tail k n g ≡ exactly (value_from n g) k (length g)
unfolding tail all value_from
tail_exact k n [] h = sym (no_tens n k)
tail_exact zero n (b ∷ g) h = zero_tail n (b ∷ g) h
tail_exact (suc k) n (b ∷ g) h =
    rw (and_left (digit b) (all digit g) h)
    (tail_exact k (10 * n + figure b) g (and_right (digit b) (all digit g) h) ∙ sym (exactly_suc (value_from (10 * n + figure b) g) k (length g)))

pub value_append : (n : ℕ) (f g : Bytes) → value_from n (f ++ g) ≡ value_from (value_from n f) g
unfolding value_from
value_append n [] g = refl
value_append n (b ∷ f) g = value_append (10 * n + figure b) f g

pub decimal_exact : (f g : Bytes) → all digit f ≡ true → all digit g ≡ true → non_empty (f ++ g) ≡ true → decimal f g ≡ exactly (value (f ++ g)) 6 (length g)
decimal_exact f g a b s =
    sym (decimal_tail f g s)
    ∙ ap (λ (t : Bool). pick t (tail 6 (value f) g) no_number) a
    ∙ tail_exact 6 (value f) g b
    ∙ ap (λ (y : ℕ). exactly y 6 (length g)) (sym (value_append 0 f g))

-- zeros count nothing
zeros_value : (e : ℕ) → value (zeros e) ≡ 0
unfolding value_from
zeros_value zero = refl
zeros_value (suc e) = zeros_value e

-- digits cut anywhere are digits
cut_all : (k : ℕ) (w : Bytes) → all digit w ≡ true → (all digit (take k w) ≡ true) × (all digit (drop k w) ≡ true)
cut_all k w h =
    let e : and (all digit (take k w)) (all digit (drop k w)) ≡ true = sym (all_append digit (take k w) (drop k w)) ∙ ap (all digit) (take-append-drop k w) ∙ h in
    (and_left (all digit (take k w)) (all digit (drop k w)) e, and_right (all digit (take k w)) (all digit (drop k w)) e)

some_bytes : (w : Bytes) → 0 < length w → non_empty w ≡ true
unfolding non_empty
some_bytes [] l = absurd (omega arith)
some_bytes (b ∷ w) l = refl

bytes_some : (w : Bytes) → non_empty w ≡ true → 0 < length w
unfolding non_empty
bytes_some [] h = never h refl
bytes_some (b ∷ w) h = omega arith

module _ (e : ℕ) (f g : Bytes) (a : all digit f ≡ true) (b : all digit g ≡ true) (s : non_empty (f ++ g) ≡ true) where
  pub right_exact : right e f g ≡ exactly (value (f ++ g)) (6 + e) (length g)
  right_exact =
      let w = g ++ zeros e in
      let (c, d) = cut_all e w (both_digits g (zeros e) b (zeros_digits e)) in
      let all_of : (f ++ take e w) ++ drop e w ≡ (f ++ g) ++ zeros e = append_assoc f (take e w) (drop e w) ∙ ap (λ (y : Bytes). f ++ y) (take-append-drop e w) ∙ sym (append_assoc f g (zeros e)) in
      let long : length (drop e w) ≡ length g = let x = length-drop e w in let y = length-append g (zeros e) in let z = length-replicate e (code "0") in omega arith in
      let some : non_empty ((f ++ take e w) ++ drop e w) ≡ true = some_bytes ((f ++ take e w) ++ drop e w) (let x = ap length all_of in let y = length-append (f ++ g) (zeros e) in let z = bytes_some (f ++ g) s in omega arith) in
      let worth : value ((f ++ take e w) ++ drop e w) ≡ value (f ++ g) * 10 ^ e =
      ap value all_of ∙ value_append 0 (f ++ g) (zeros e) ∙ in_front (value (f ++ g)) (zeros e)
      ∙ ap (λ (y : ℕ). value (f ++ g) * 10 ^ y + value (zeros e)) (length-replicate e (code "0"))
      ∙ (let z = zeros_value e in omega arith) in
      let order : e + 6 ≡ 6 + e = omega arith in
      decimal_exact (f ++ take e w) (drop e w) (both_digits f (take e w) a c) d some
      ∙ ap (λ (y : ℕ). exactly y 6 (length (drop e w))) worth
      ∙ ap (λ (y : ℕ). exactly (value (f ++ g) * 10 ^ e) 6 y) long
      ∙ exactly_tens (value (f ++ g)) e 6 (length g)
      ∙ ap (λ (y : ℕ). exactly (value (f ++ g)) y (length g)) order

  pub left_exact : left e f g ≡ exactly (value (f ++ g)) 6 (length g + e)
  left_exact =
      let w = zeros e ++ f in
      let l = length f in
      let (c, d) = cut_all l w (both_digits (zeros e) f (zeros_digits e) a) in
      let all_of : take l w ++ (drop l w ++ g) ≡ zeros e ++ (f ++ g) = sym (append_assoc (take l w) (drop l w) g) ∙ ap (λ (y : Bytes). y ++ g) (take-append-drop l w) ∙ append_assoc (zeros e) f g in
      let long : length (drop l w ++ g) ≡ length g + e = let x = length-drop l w in let y = length-append (zeros e) f in let z = length-replicate e (code "0") in let t = length-append (drop l w) g in omega arith in
      let some : non_empty (take l w ++ (drop l w ++ g)) ≡ true = some_bytes (take l w ++ (drop l w ++ g)) (let x = ap length all_of in let y = length-append (zeros e) (f ++ g) in let z = bytes_some (f ++ g) s in omega arith) in
      let worth : value (take l w ++ (drop l w ++ g)) ≡ value (f ++ g) = ap value all_of ∙ value_append 0 (zeros e) (f ++ g) ∙ ap (λ (y : ℕ). value_from y (f ++ g)) (zeros_value e) in
      decimal_exact (take l w) (drop l w ++ g) c (both_digits (drop l w) g d b) some
      ∙ ap (λ (y : ℕ). exactly y 6 (length (drop l w ++ g))) worth
      ∙ ap (λ (y : ℕ). exactly (value (f ++ g)) 6 y) long

-- an accepted number kept both limits
limits : (f g : Bytes) → and (written f g) (and (short f g) (above f g)) ≡ true → (0 < millionths f g) × (millionths f g < 10 ^ 13)
unfolding written short above millionths
limits f g h =
    let w : written f g ≡ true = and_left (written f g) (and (short f g) (above f g)) h in
    let r : and (short f g) (above f g) ≡ true = and_right (written f g) (and (short f g) (above f g)) h in
    let s : short f g ≡ true = and_left (short f g) (above f g) r in
    let df : all digit f ≡ true = and_left (all digit f) (and (all digit g) (non_empty (f ++ g))) w in
    let dg : all digit g ≡ true = and_left (all digit g) (non_empty (f ++ g)) (and_right (all digit f) (and (all digit g) (non_empty (f ++ g))) w) in
    let lf : leb (length (drop_front zero_digit f)) 7 ≡ true = and_left (leb (length (drop_front zero_digit f)) 7) (leb (length (cut g)) 6) s in
    let lg : leb (length (cut g)) 6 ≡ true = and_right (leb (length (drop_front zero_digit f)) 7) (leb (length (cut g)) 6) s in (
      ltb-true 0 (millionths f g) (and_right (short f g) (above f g) r),
      ltb-true (millionths f g) (10 ^ 13) (sym (limit_front f g df dg (leb-true (length (cut g)) 6 lg)) ∙ lf),
    )

pub decimal_range : (f g : Bytes) (n : ℕ) → decimal f g ≡ number n → (1 ≤ n) × (n ≤ 9999999999999)
unfolding decimal
decimal_range f g n h =
    let (t, e) = picked (and (written f g) (and (short f g) (above f g))) (millionths f g) n h in
    let (a, b) = limits f g t in
    (omega arith, omega arith)
