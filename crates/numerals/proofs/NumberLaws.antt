-- `number_exact`: the steps say of a positive number what the definition says. By induction on the bytes left: behind the mark of an exponent,
-- behind the point, behind digits, behind a sign. q is the number that the digits so far write (`Holds`).
use mathlib.Core.Path.{◌≡◌, refl, sym, ap, ◌∙◌}
use mathlib.Core.Bool.{Bool, true, false}
use mathlib.Core.List.{[], ◌∷◌, ◌++◌}
use Prim.Native.Nat.{ℕ, suc, ◌+◌, ◌*◌, ◌^◌, ◌≤◌, ◌<◌, min}
use Prim.Native.Char.{code}
use native.Mathlib.Omega.{arith}
use mathlib.Core.Logic.{◌↔◌}
use lib.Dec.{eqb, ltb}
use lib.ListN.{length}
use borrow.Author.Tests.{eqb-true, ne_eqb}
use Rattle.number.specs.Bytes.{Bytes, pick, and, blank, digit, figure, non_empty, all, trim, drop_front, drop_back, keep_before, value_from, value, before, behind}
use Rattle.number.specs.Positive.{Number, no_number, number, written, decimal, unsigned, parted, mark, mantissa, power, powered, power_digits, below, power_written, right, left, out, decimal_of, number_of, decimals_in, decimals_of, number_read, NumberRange}
use Rattle.numerals.specs.Scan.{TENTH, FAR, SLICE, run, zeros_more, with_digit, no_digits, part_digit, part_step, sign_step, whole_step, first_step, power_digit, mark_step, body_step, exactly, whole_end, number_body_end, body_decimals, body_end, number_end, NumberExact}
use Rattle.std.specs.Prelude.{Option, None}
use Rattle.number.specs.declared.Positive.{Positive}
use Rattle.numerals.specs.declared.scan.Digits.{Digits}
use Rattle.numerals.specs.declared.scan.Body.{Body}
use Rattle.number.proofs.Tests.{cases, never, and_left, and_right, and_false, digit_low}
use Rattle.number.proofs.DigitLaws.{digit_no_mark}
use Rattle.numerals.proofs.Trim.{solid, apart, trimmed, digits_solid, rest_blank, plus_solid, minus_solid, point_solid, digit_solid}
use Rattle.numerals.proofs.TenLaws.{exactly_to, exactly_from}
use Rattle.numerals.proofs.DigitLaws.{Holds, holds_none, holds_more, answer, holds_answer}
use Rattle.numerals.proofs.DecimalLaws.{value_append, decimal_exact, right_exact, left_exact, decimal_range}

-- the answer of the steps from a state
abbrev ended : Body → Bytes → Number
ended s t = number_body_end (run body_step s t)

dead : (t : Bytes) → ended Body.Dead t ≡ no_number
unfolding run body_step number_body_end
dead [] = refl
dead (b ∷ t) = dead t

-- a digit is no point
digit_no_point : (b : ℕ) → digit b ≡ true → eqb b (code ".") ≡ false
digit_no_point b d = let h = digit_low b d in ne_eqb b 46 (λ e. omega arith)

point_no_mark : (b : ℕ) → eqb b (code ".") ≡ true → mark b ≡ false
point_no_mark b p = rw (eqb-true b (code ".") p)

-- digits of a scan that write q, with room for k more of them
record Room (q k : ℕ) (d : Digits) : Type 0 where
  holds : Holds q d.n d.zeros
  zeros : d.zeros + (k + 19) ≤ FAR
  places : d.places + (k + 19) ≤ FAR

-- the exponent x behind digits that write q, p of them behind the point
abbrev exponent : ℕ → ℕ → Bytes → Number
exponent q p x = pick (power_written x) (answer (below x) (value (power_digits x)) q p) no_number

-- behind digits of an exponent, which write e
in_power : (minus : Bool) (e q k : ℕ) (d : Digits) (x : Bytes) → Room q k d → ended (Body.Power minus (min FAR e) d) x ≡ pick (all digit x) (answer minus (value_from e x) q d.places) no_number
unfolding run body_step number_body_end power_digit all value_from
in_power minus e q k d [] r = let a = r.zeros in let b = r.places in holds_answer minus e q d r.holds (omega arith) (omega arith)
in_power minus e q k d (b ∷ x) r =
    let m : min FAR (10 * min FAR e + figure b) ≡ min FAR (10 * e + figure b) = omega arith in
    cases (digit b) (λ t. rw (t, m) (in_power minus (10 * e + figure b) q k d x r)) (λ t. rw t (dead x))

-- behind its sign
in_sign : (minus : Bool) (q k : ℕ) (d : Digits) (x : Bytes) → Room q k d → ended (Body.Turned minus d) x ≡ pick (and (non_empty x) (all digit x)) (answer minus (value x) q d.places) no_number
unfolding run body_step number_body_end power_digit all non_empty value_from
in_sign minus q k d [] r = refl
in_sign minus q k d (b ∷ x) r = cases (digit b) (λ t. rw t (in_power minus (10 * 0 + figure b) q k d x r)) (λ t. rw t (dead x))

-- behind its mark
in_mark : (q k : ℕ) (d : Digits) (x : Bytes) → Room q k d → ended (Body.Mark d) x ≡ exponent q d.places x
unfolding run body_step number_body_end mark_step non_empty
in_mark q k d [] r = refl
in_mark q k d (b ∷ x) r =
    cases (eqb b (code "-"))
    (λ m. let p : eqb b (code "+") ≡ false = rw (eqb-true b (code "-") m) in rw (m, p) (in_sign true q k d x r))
    (λ m. cases (eqb b (code "+")) (λ p. rw (m, p) (in_sign false q k d x r)) (λ p. rw (m, p) (in_sign false q k d (b ∷ x) r)))

-- the digits g behind the point, and an exponent x or none
abbrev behind_point : ℕ → ℕ → Bytes → Bool → Bytes → Number
behind_point q p g has x = pick (all digit g) (pick has (exponent (value_from q g) (p + length g) x) (exactly (value_from q g) 6 (p + length g))) no_number

-- one place more
one_place : (q p : ℕ) (g : Bytes) (has : Bool) (x : Bytes) → pick has (exponent q (p + 1 + length g) x) (exactly q 6 (p + 1 + length g)) ≡ pick has (exponent q (p + suc (length g)) x) (exactly q 6 (p + suc (length g)))
one_place q p g has x = ap (λ (n : ℕ). pick has (exponent q n x) (exactly q 6 n)) (omega arith)

-- one digit more
more : (q k : ℕ) (d : Digits) (places b : ℕ) → digit b ≡ true → places + (k + 19) ≤ FAR → Room q (suc k) d → Room (10 * q + figure b) k (with_digit d places b)
unfolding zeros_more
more q k d places b t l r =
    let a = r.zeros in
    record { holds = holds_more b t (omega arith) r.holds; zeros = few; places = l }
  where
    few : zeros_more d.n d.zeros + (k + 19) ≤ FAR
    few = let a = r.zeros in cases (ltb d.n TENTH) (λ z. rw z (omega arith)) (λ z. rw z (omega arith))

in_part : (q : ℕ) (d : Digits) (u : Bytes) → Room q (length u) d → ended (Body.Part d) u ≡ behind_point q d.places (mantissa u) (powered u) (power u)
unfolding run body_step number_body_end part_step part_digit all value_from
in_part q d [] r =
    let a = r.zeros in
    let b = r.places in
    holds_answer false 0 q d r.holds (omega arith) (omega arith) ∙ ap (λ (n : ℕ). exactly q 6 n) (omega arith)
in_part q d (b ∷ u) r =
    cases (mark b)
    (λ m. rw m (in_mark q (suc (length u)) d u r ∙ ap (λ (n : ℕ). exponent q n u) (omega arith)))
    (λ m.
    cases (digit b)
    (λ t.
    let l = r.places in
    let p : min FAR (d.places + 1) ≡ d.places + 1 = omega arith in
    rw (m, t, p)
    (in_part (10 * q + figure b) (with_digit d (d.places + 1) b) u (more q (length u) d (d.places + 1) b t (omega arith) r)
    ∙ ap (λ (x : Number). pick (all digit (mantissa u)) x no_number) (one_place (value_from (10 * q + figure b) (mantissa u)) d.places (mantissa u) (powered u) (power u))))
    (λ t. rw (m, t) (dead u)))

-- digits f before the point, g behind it
abbrev total : ℕ → Bytes → Bytes → Bool → Bytes → Number
total q f g has x = pick (all digit f) (behind_point (value_from q f) 0 g has x) no_number

zero_places : (q : ℕ) (g : Bytes) (has : Bool) (x : Bytes) (z : ℕ) → z ≡ 0 → behind_point q z g has x ≡ behind_point q 0 g has x
zero_places q g has x z e = ap (λ (n : ℕ). behind_point q n g has x) e

in_whole : (q : ℕ) (d : Digits) (u : Bytes) → d.places ≡ 0 → Room q (length u) d → ended (Body.Whole false d) u ≡ total q (before (mantissa u)) (behind (mantissa u)) (powered u) (power u)
unfolding run body_step number_body_end whole_end whole_step all before behind value_from
in_whole q d [] z r =
    let a = r.zeros in
    let b = r.places in
    holds_answer false 0 q d r.holds (omega arith) (omega arith) ∙ ap (λ (n : ℕ). exactly q 6 n) (omega arith)
in_whole q d (b ∷ u) z r =
    cases (digit b)
    (λ t.
    let l = r.places in
    rw (digit_no_mark b t, digit_no_point b t, t) (in_whole (10 * q + figure b) (with_digit d 0 b) u refl (more q (length u) d 0 b t (omega arith) r)))
    (λ t.
    cases (eqb b (code "."))
    (λ p. rw (t, point_no_mark b p, p) (in_part q d u (less r) ∙ zero_places q (mantissa u) (powered u) (power u) d.places z))
    (λ p. cases (mark b)
    (λ m. rw (m, p, t) (in_mark q (suc (length u)) d u r ∙ ap (λ (n : ℕ). exponent q n u) (omega arith)))
    (λ m. rw (m, p, t) (dead u))))
  where
    less : {d : Digits} → Room q (suc (length u)) d → Room q (length u) d
    less r = let a = r.zeros in let b = r.places in record { holds = r.holds; zeros = omega arith; places = omega arith }

-- bytes that are no digits, and none at all
and_both : (a b c : Bool) → and a b ≡ false → and a (and b c) ≡ false
and_both true true c h = never refl h
and_both true false c h = refl
and_both false b c h = refl

not_digits : (f g : Bytes) → and (all digit f) (all digit g) ≡ false → decimal f g ≡ no_number
unfolding decimal written
not_digits f g h = rw (and_both (all digit f) (all digit g) (non_empty (f ++ g)) h)

no_bytes : (f g : Bytes) → non_empty (f ++ g) ≡ false → decimal f g ≡ no_number
unfolding decimal written
no_bytes f g h = rw (h, and_false (all digit g), and_false (all digit f))

-- what the definition says of digits, with an exponent or without
with_power : (f g x : Bytes) → non_empty (f ++ g) ≡ true → total 0 f g true x ≡ out f g x
unfolding written
with_power f g x s =
    cases (all digit f)
    (λ a. cases (all digit g)
    (λ b. rw (a, b, s) (ap (λ (y : Number). pick (power_written x) y no_number) (either a b (below x))))
    (λ b. rw (a, b)))
    (λ a. rw a)
  where
    e : ℕ
    e = value (power_digits x)

    q : value_from (value f) g ≡ value (f ++ g)
    q = sym (value_append 0 f g)

    either : all digit f ≡ true → all digit g ≡ true → (t : Bool) → answer t e (value_from (value f) g) (0 + length g) ≡ pick t (left e f g) (right e f g)
    either a b true = ap (λ (n : ℕ). exactly n 6 (0 + length g + e)) q ∙ ap (λ (n : ℕ). exactly (value (f ++ g)) 6 n) (omega arith) ∙ sym (left_exact e f g a b s)
    either a b false = ap (λ (n : ℕ). exactly n (6 + e) (0 + length g)) q ∙ ap (λ (n : ℕ). exactly (value (f ++ g)) (6 + e) n) (omega arith) ∙ sym (right_exact e f g a b s)

without_power : (f g x : Bytes) → non_empty (f ++ g) ≡ true → total 0 f g false x ≡ decimal f g
without_power f g x s =
    cases (all digit f)
    (λ a. cases (all digit g)
    (λ b. rw (a, b) (ap (λ (n : ℕ). exactly n 6 (0 + length g)) (sym (value_append 0 f g)) ∙ ap (λ (n : ℕ). exactly (value (f ++ g)) 6 n) (omega arith) ∙ sym (decimal_exact f g a b s)))
    (λ b. rw (a, b) (sym (not_digits f g (rw (a, b))))))
    (λ a. rw a (sym (not_digits f g (rw a))))

no_power : (s : Bytes) → powered s ≡ false → mantissa s ≡ s
no_power [] h = refl
no_power (b ∷ s) h = cases (mark b) (λ m. never refl (rw m at h)) (λ m. rw m (ap (λ (y : Bytes). b ∷ y) (no_power s (rw m at h))))

defined : (s : Bytes) → non_empty (before (mantissa s) ++ behind (mantissa s)) ≡ true → total 0 (before (mantissa s)) (behind (mantissa s)) (powered s) (power s) ≡ decimal_of s
unfolding parted
defined s h =
    cases (powered s)
    (λ p. rw p (with_power (before (mantissa s)) (behind (mantissa s)) (power s) h))
    (λ p. rw p (without_power (before (mantissa s)) (behind (mantissa s)) (power s) h ∙ ap (λ (y : Bytes). decimal (before y) (behind y)) (no_power s p)))

-- no digit at all
none_written : (s : Bytes) → non_empty (before (mantissa s) ++ behind (mantissa s)) ≡ false → decimal_of s ≡ no_number
unfolding parted written
none_written s h =
    cases (powered s)
    (λ p. rw (p, h, and_false (all digit (behind (mantissa s))), and_false (all digit (before (mantissa s)))))
    (λ p. rw p (ap (λ (y : Bytes). decimal (before y) (behind y)) (sym (no_power s p)) ∙ no_bytes (before (mantissa s)) (behind (mantissa s)) h))

-- the first digit
first_room : (u : Bytes) (places b : ℕ) → places ≤ 1 → digit b ≡ true → length (b ∷ u) < SLICE → Room (10 * 0 + figure b) (length u) (with_digit no_digits places b)
first_room u places b p t l = more 0 (length u) no_digits places b t (omega arith) (record { holds = holds_none; zeros = omega arith; places = omega arith })

from_point : (u : Bytes) → length u < SLICE → ended Body.Point u ≡ decimal_of (code "." ∷ u)
unfolding run body_step number_body_end part_digit all non_empty before behind value_from
from_point [] l = sym (none_written (code "." ∷ []) refl)
from_point (b ∷ u) l =
    cases (mark b)
    (λ m. rw (mark_no_digit b m) (dead u) ∙ sym (none_written (code "." ∷ b ∷ u) (rw m)))
    (λ m.
    cases (digit b)
    (λ t. rw t (in_part (10 * 0 + figure b) (with_digit no_digits 1 b) u (first_room u 1 b (omega arith) t l)) ∙ first m t ∙ defined (code "." ∷ b ∷ u) (rw m))
    (λ t. rw t (dead u) ∙ none m t ∙ defined (code "." ∷ b ∷ u) (rw m)))
  where
    mark_no_digit : (b : ℕ) → mark b ≡ true → digit b ≡ false
    mark_no_digit b m = cases (digit b) (λ t. never m (digit_no_mark b t)) (λ t. t)

    first : mark b ≡ false → digit b ≡ true → behind_point (10 * 0 + figure b) 1 (mantissa u) (powered u) (power u) ≡ total 0 (before (mantissa (code "." ∷ b ∷ u))) (behind (mantissa (code "." ∷ b ∷ u))) (powered (code "." ∷ b ∷ u)) (power (code "." ∷ b ∷ u))
    first m t = rw (m, t) (ap (λ (x : Number). pick (all digit (mantissa u)) x no_number) (one_place (value_from (10 * 0 + figure b) (mantissa u)) 0 (mantissa u) (powered u) (power u)))

    none : mark b ≡ false → digit b ≡ false → no_number ≡ total 0 (before (mantissa (code "." ∷ b ∷ u))) (behind (mantissa (code "." ∷ b ∷ u))) (powered (code "." ∷ b ∷ u)) (power (code "." ∷ b ∷ u))
    none m t = rw (m, t)

from_plus : (u : Bytes) → length u < SLICE → ended (Body.Signed false) u ≡ decimal_of u
unfolding run body_step number_body_end sign_step all non_empty before behind value_from
from_plus [] l = sym (none_written [] refl)
from_plus (b ∷ u) l =
    cases (digit b)
    (λ t.
    rw t (in_whole (10 * 0 + figure b) (with_digit no_digits 0 b) u refl (first_room u 0 b (omega arith) t l))
    ∙ digits t
    ∙ defined (b ∷ u) (rw (digit_no_mark b t, digit_no_point b t)))
    (λ t.
    cases (eqb b (code "."))
    (λ p. rw (t, p) (from_point u (omega arith)) ∙ ap (λ (c : ℕ). decimal_of (c ∷ u)) (sym (eqb-true b (code ".") p)))
    (λ p. rw (t, p) (dead u) ∙ other t p))
  where
    digits : digit b ≡ true → total (10 * 0 + figure b) (before (mantissa u)) (behind (mantissa u)) (powered u) (power u) ≡ total 0 (before (mantissa (b ∷ u))) (behind (mantissa (b ∷ u))) (powered (b ∷ u)) (power (b ∷ u))
    digits t = rw (digit_no_mark b t, digit_no_point b t, t)

    other : digit b ≡ false → eqb b (code ".") ≡ false → no_number ≡ decimal_of (b ∷ u)
    other t p = cases (mark b) (λ m. sym (none_written (b ∷ u) (rw m))) (λ m. nothing m ∙ defined (b ∷ u) (rw (m, p)))
      where
        nothing : mark b ≡ false → no_number ≡ total 0 (before (mantissa (b ∷ u))) (behind (mantissa (b ∷ u))) (powered (b ∷ u)) (power (b ∷ u))
        nothing m = rw (m, p, t)

-- behind a minus it is none
in_minus : (d : Digits) (u : Bytes) → ended (Body.Whole true d) u ≡ no_number
unfolding run body_step number_body_end whole_end whole_step
in_minus d [] = refl
in_minus d (b ∷ u) = cases (digit b) (λ t. rw t (in_minus (with_digit d 0 b) u)) (λ t. rw t (dead u))

from_minus : (u : Bytes) → ended (Body.Signed true) u ≡ no_number
unfolding run body_step number_body_end sign_step
from_minus [] = refl
from_minus (b ∷ u) = cases (digit b) (λ t. rw t (in_minus (with_digit no_digits 0 b) u)) (λ t. rw t (dead u))

minus_none : (b : ℕ) (u : Bytes) → eqb b (code "-") ≡ true → no_number ≡ decimal_of (unsigned (b ∷ u))
unfolding unsigned parted decimal written before behind all digit
minus_none b u h = rw (eqb-true b (code "-") h) (go (powered u))
  where
    go : (t : Bool) → no_number ≡ pick t no_number no_number
    go true = refl
    go false = refl

from_start : (t : Bytes) → length t < SLICE → ended Body.Start t ≡ decimal_of (unsigned t)
unfolding run body_step number_body_end first_step unsigned
from_start [] l = from_plus [] l
from_start (b ∷ t) l =
    cases (eqb b (code "-")) (λ m. rw m (from_minus t) ∙ minus_none b t m)
    (λ m. cases (eqb b (code "+")) (λ p. rw (m, p) (from_plus t (omega arith))) (λ p. rw (m, p) (from_plus (b ∷ t) l)))

-- a blank among the bytes is no digit, no point and no plus
blank_parts : (u : Bytes) → all solid u ≡ false → and (all digit (before u)) (all digit (behind u)) ≡ false
unfolding all before behind
blank_parts [] h = never refl h
blank_parts (b ∷ u) h =
    cases (eqb b (code ".")) (λ p. rw p (digits_solid u (rest_blank b u (point_solid b p) h)))
    (λ p. cases (digit b) (λ d. rw (p, d) (blank_parts u (rest_blank b u (digit_solid b d) h))) (λ d. rw (p, d)))

blank_parted : (u : Bytes) → all solid u ≡ false → parted u ≡ no_number
unfolding parted
blank_parted u h = not_digits (before u) (behind u) (blank_parts u h)

mark_solid : (b : ℕ) → mark b ≡ true → solid b ≡ true
unfolding solid blank
mark_solid b m = cases (eqb b (code "e")) (λ e. rw (eqb-true b (code "e") e)) (λ e. rw (eqb-true b (code "E") (rw e at m)))

-- a blank stands before the mark or behind it
blank_split : (u : Bytes) → all solid u ≡ false → powered u ≡ true → and (all solid (mantissa u)) (all solid (power u)) ≡ false
unfolding all
blank_split [] h p = h
blank_split (b ∷ u) h p =
    cases (mark b) (λ m. rw m (rest_blank b u (mark_solid b m) h))
    (λ m. cases (solid b) (λ s. rw (m, s) (blank_split u (rw s at h) (rw m at p))) (λ s. rw (m, s)))

blank_power : (x : Bytes) → all solid x ≡ false → power_written x ≡ false
unfolding all
blank_power [] h = never refl h
blank_power (b ∷ x) h =
    cases (eqb b (code "+")) (λ p. rw (p, digits_solid x (rest_blank b x (plus_solid b p) h), and_false (non_empty x)))
    (λ p. cases (eqb b (code "-")) (λ m. rw (p, m, digits_solid x (rest_blank b x (minus_solid b m) h), and_false (non_empty x)))
    (λ m. rw (p, m, digits_solid (b ∷ x) h, and_false (non_empty (b ∷ x)))))

and_either : {P : Type 0} (a b : Bool) → and a b ≡ false → (a ≡ false → P) → (b ≡ false → P) → P
and_either true b h f g = g h
and_either false b h f g = f refl

blank_decimal : (u : Bytes) → all solid u ≡ false → decimal_of u ≡ no_number
unfolding written
blank_decimal u h =
    cases (powered u)
    (λ p. rw p
    (and_either (all solid (mantissa u)) (all solid (power u)) (blank_split u h p)
    (λ a. let m = mantissa u in rw (and_both (all digit (before m)) (all digit (behind m)) (non_empty (before m ++ behind m)) (blank_parts m a)))
    (λ a. rw (blank_power (power u) a, and_false (written (before (mantissa u)) (behind (mantissa u)))))))
    (λ p. rw p (blank_parted u h))

blank_unsigned : (t : Bytes) → all solid t ≡ false → decimal_of (unsigned t) ≡ no_number
unfolding unsigned
blank_unsigned [] h = blank_decimal [] h
blank_unsigned (b ∷ t) h =
    cases (eqb b (code "+")) (λ p. rw p (blank_decimal t (rest_blank b t (plus_solid b p) h))) (λ p. rw p (blank_decimal (b ∷ t) h))

-- the digits behind the point: behind the mark of an exponent there are none
unfoldable marked : Body → Bool
marked Body.Start = false
marked (Body.Signed minus) = false
marked (Body.Whole minus d) = false
marked Body.Point = false
marked (Body.Part d) = false
marked (Body.Mark d) = true
marked (Body.Turned minus d) = true
marked (Body.Power minus e d) = true
marked Body.Dead = true

marked_power : (minus : Bool) (e : ℕ) (d : Digits) (b : ℕ) → marked (power_digit minus e d b) ≡ true
unfolding marked power_digit
marked_power minus e d b = cases (digit b) (λ t. rw t) (λ t. rw t)

marked_step : (s : Body) (b : ℕ) → marked s ≡ true → marked (body_step s b) ≡ true
unfolding marked body_step mark_step
marked_step Body.Start b h = never h refl
marked_step (Body.Signed minus) b h = never h refl
marked_step (Body.Whole minus d) b h = never h refl
marked_step Body.Point b h = never h refl
marked_step (Body.Part d) b h = never h refl
marked_step (Body.Mark d) b h =
    cases (eqb b (code "-")) (λ m. rw m) (λ m. cases (eqb b (code "+")) (λ p. rw (m, p)) (λ p. rw (m, p) (marked_power false 0 d b)))
marked_step (Body.Turned minus d) b h = marked_power minus 0 d b
marked_step (Body.Power minus e d) b h = marked_power minus e d b
marked_step Body.Dead b h = refl

marked_end : (s : Body) → marked s ≡ true → body_decimals s ≡ 0
unfolding marked body_decimals
marked_end Body.Start h = never h refl
marked_end (Body.Signed minus) h = never h refl
marked_end (Body.Whole minus d) h = never h refl
marked_end Body.Point h = never h refl
marked_end (Body.Part d) h = never h refl
marked_end (Body.Mark d) h = refl
marked_end (Body.Turned minus d) h = refl
marked_end (Body.Power minus e d) h = refl
marked_end Body.Dead h = refl

-- what the steps tell
abbrev tells : Body → Bytes → ℕ
tells s t = body_decimals (run body_step s t)

marked_tells : (s : Body) (t : Bytes) → marked s ≡ true → tells s t ≡ 0
unfolding run
marked_tells s [] h = marked_end s h
marked_tells s (b ∷ t) h = marked_tells (body_step s b) t (marked_step s b h)

mark_tells : (d : Digits) (t : Bytes) → tells (Body.Mark d) t ≡ 0
unfolding marked
mark_tells d t = marked_tells (Body.Mark d) t refl

not_dead : {P : Type 0} (t : Bytes) (m : ℕ) → ended Body.Dead t ≡ number m → P
not_dead t m h = absurd (let i : no_number ≡ number m = sym (dead t) ∙ h in let z : ◌≡◌ {A = ℕ} 0 1 = cc in omega arith)

part_tells : (d : Digits) (u : Bytes) (m : ℕ) → d.places + length u ≤ FAR → ended (Body.Part d) u ≡ number m → tells (Body.Part d) u ≡ pick (powered u) 0 (min 6 (d.places + length u))
unfolding run body_step body_decimals number_body_end part_step part_digit
part_tells d [] m l h = omega arith
part_tells d (b ∷ u) m l h =
    cases (mark b)
    (λ k. rw k (mark_tells d u))
    (λ k. cases (digit b)
    (λ t.
    let p : min FAR (d.places + 1) ≡ d.places + 1 = omega arith in
    let n : d.places + 1 + length u ≡ d.places + suc (length u) = omega arith in
    rw (k, t, p) (part_tells (with_digit d (d.places + 1) b) u m (omega arith) (rw (k, t, p) at h) ∙ ap (λ (y : ℕ). pick (powered u) 0 (min 6 y)) n))
    (λ t. not_dead u m (rw (k, t) at h)))

whole_tells : (d : Digits) (u : Bytes) (m : ℕ) → d.places ≡ 0 → length u ≤ FAR → ended (Body.Whole false d) u ≡ number m → tells (Body.Whole false d) u ≡ decimals_in u
unfolding run body_step body_decimals number_body_end whole_step behind
whole_tells d [] m z l h = refl
whole_tells d (b ∷ u) m z l h =
    cases (digit b)
    (λ t. rw (t, digit_no_mark b t, digit_no_point b t) (whole_tells (with_digit d 0 b) u m refl (omega arith) (rw t at h)))
    (λ t.
    cases (eqb b (code "."))
    (λ p. rw (t, point_no_mark b p, p) (part_tells d u m (omega arith) (rw (t, p) at h) ∙ ap (λ (y : ℕ). pick (powered u) 0 (min 6 y)) (omega arith)))
    (λ p. cases (mark b) (λ k. rw (t, p, k) (mark_tells d u)) (λ k. not_dead u m (rw (t, p, k) at h))))

point_tells : (u : Bytes) (m : ℕ) → length u < SLICE → ended Body.Point u ≡ number m → tells Body.Point u ≡ decimals_in (code "." ∷ u)
unfolding run body_step body_decimals number_body_end part_digit behind
point_tells [] m l h = refl
point_tells (b ∷ u) m l h =
    cases (digit b)
    (λ t. rw (t, digit_no_mark b t) (part_tells (with_digit no_digits 1 b) u m (omega arith) (rw t at h) ∙ ap (λ (y : ℕ). pick (powered u) 0 (min 6 y)) (omega arith)))
    (λ t. not_dead u m (rw t at h))

plus_tells : (u : Bytes) (m : ℕ) → length u < SLICE → ended (Body.Signed false) u ≡ number m → tells (Body.Signed false) u ≡ decimals_in u
unfolding run body_step body_decimals number_body_end sign_step behind
plus_tells [] m l h = refl
plus_tells (b ∷ u) m l h =
    cases (digit b)
    (λ t. rw (t, digit_no_mark b t, digit_no_point b t) (whole_tells (with_digit no_digits 0 b) u m refl (omega arith) (rw t at h)))
    (λ t.
    cases (eqb b (code "."))
    (λ p. rw (t, p) (point_tells u m (omega arith) (rw (t, p) at h)) ∙ ap (λ (c : ℕ). decimals_in (c ∷ u)) (sym (eqb-true b (code ".") p)))
    (λ p. not_dead u m (rw (t, p) at h)))

start_tells : (t : Bytes) (m : ℕ) → length t < SLICE → ended Body.Start t ≡ number m → tells Body.Start t ≡ decimals_in (unsigned t)
unfolding run body_step body_decimals number_body_end first_step unsigned behind
start_tells [] m l h = refl
start_tells (b ∷ t) m l h =
    cases (eqb b (code "-"))
    (λ k. absurd (let i : no_number ≡ number m = sym (from_minus t) ∙ rw k at h in let z : ◌≡◌ {A = ℕ} 0 1 = cc in omega arith))
    (λ k. cases (eqb b (code "+")) (λ p. rw (k, p) (plus_tells t m (omega arith) (rw (k, p) at h))) (λ p. rw (k, p) (plus_tells (b ∷ t) m l (rw (k, p) at h))))

-- both
start_read : (t : Bytes) → length t < SLICE → body_end (run body_step Body.Start t) ≡ number_read (decimal_of (unsigned t)) (decimals_in (unsigned t))
unfolding body_end number_read
start_read t l = go (ended Body.Start t) refl (from_start t l)
  where
    go : (x : Number) → ended Body.Start t ≡ x → x ≡ decimal_of (unsigned t) → number_read x (tells Body.Start t) ≡ number_read (decimal_of (unsigned t)) (decimals_in (unsigned t))
    go no_number e f = ap (λ (y : Number). number_read y (decimals_in (unsigned t))) f
    go (number m) e f = ap (number_read (number m)) (start_tells t m l e) ∙ ap (λ (y : Number). number_read y (decimals_in (unsigned t))) f

clear : (t : Bytes) → pick (all solid t) (number_read (decimal_of (unsigned t)) (decimals_in (unsigned t))) None ≡ number_read (decimal_of (unsigned t)) (decimals_in (unsigned t))
unfolding number_read
clear t = cases (all solid t) (λ h. rw h) (λ h. rw h (ap (λ (y : Number). number_read y (decimals_in (unsigned t))) (sym (blank_unsigned t h))))

-- what is dropped leaves no more bytes
front_short : (class : ℕ → Bool) (w : Bytes) → length (drop_front class w) ≤ length w
unfolding drop_front
front_short class [] = omega arith
front_short class (b ∷ w) = cases (class b) (λ t. rw t (let h = front_short class w in omega arith)) (λ t. rw t (omega arith))

keep_short : (class : ℕ → Bool) (b : ℕ) (w : Bytes) → length (keep_before class b w) ≤ suc (length w)
unfolding keep_before
keep_short class b [] = cases (class b) (λ t. rw t (omega arith)) (λ t. rw t (omega arith))
keep_short class b (c ∷ w) = omega arith

back_short : (class : ℕ → Bool) (w : Bytes) → length (drop_back class w) ≤ length w
unfolding drop_back
back_short class [] = omega arith
back_short class (b ∷ w) = let h = back_short class w in let k = keep_short class b (drop_back class w) in omega arith

trim_short : (w : Bytes) → length (trim w) ≤ length w
unfolding trim
trim_short w = let a = front_short blank w in let b = back_short blank (drop_front blank w) in omega arith

pub number_exact : NumberExact
unfolding number_end number_of decimals_of
number_exact w l =
    ap number_end (apart w)
    ∙ trimmed body_step None body_end Body.Start w
    ∙ ap (λ (x : Option Positive). pick (all solid (trim w)) x None) (start_read (trim w) (let h = trim_short w in omega arith))
    ∙ clear (trim w)

-- m millionths are f.g times ten to the power that x writes
pub record Powered (f g x : Bytes) (m : ℕ) : Type 0 where
  pub some : 0 < m
  pub few : m < 10 ^ 13
  pub up : below x ≡ false → m * 10 ^ length g ≡ value (f ++ g) * 10 ^ (6 + value (power_digits x))
  pub down : below x ≡ true → m * 10 ^ (length g + value (power_digits x)) ≡ value (f ++ g) * 10 ^ 6

pub power_exact : (f g x : Bytes) (m : ℕ) → written f g ≡ true → power_written x ≡ true → (out f g x ≡ number m) ↔ Powered f g x m
unfolding written
power_exact f g x m w p =
    let a = and_left (all digit f) (and (all digit g) (non_empty (f ++ g))) w in
    let r = and_right (all digit f) (and (all digit g) (non_empty (f ++ g))) w in
    let b = and_left (all digit g) (non_empty (f ++ g)) r in
    let s = and_right (all digit g) (non_empty (f ++ g)) r in
    (λ h. to a b s (below x) refl (rw (w, p) at h), λ h. rw (w, p) (from a b s (below x) refl h))
  where
    e : ℕ
    e = value (power_digits x)

    to : all digit f ≡ true → all digit g ≡ true → non_empty (f ++ g) ≡ true → (t : Bool) → below x ≡ t → pick t (left e f g) (right e f g) ≡ number m → Powered f g x m
    to a b s true t h =
        let y = exactly_to (value (f ++ g)) 6 (length g + e) m (sym (left_exact e f g a b s) ∙ h) in
        record { some = y.some; few = y.few; up = λ n. never t n; down = λ n. y.same }
    to a b s false t h =
        let y = exactly_to (value (f ++ g)) (6 + e) (length g) m (sym (right_exact e f g a b s) ∙ h) in
        record { some = y.some; few = y.few; up = λ n. y.same; down = λ n. never n t }

    from : all digit f ≡ true → all digit g ≡ true → non_empty (f ++ g) ≡ true → (t : Bool) → below x ≡ t → Powered f g x m → pick t (left e f g) (right e f g) ≡ number m
    from a b s true t h = left_exact e f g a b s ∙ exactly_from (value (f ++ g)) 6 (length g + e) m (record { some = h.some; few = h.few; same = h.down t })
    from a b s false t h = right_exact e f g a b s ∙ exactly_from (value (f ++ g)) (6 + e) (length g) m (record { some = h.some; few = h.few; same = h.up t })

out_range : (f g x : Bytes) (n : ℕ) → out f g x ≡ number n → (1 ≤ n) × (n ≤ 9999999999999)
out_range f g x n h = go (and (written f g) (power_written x)) (below x) h
  where
    e : ℕ
    e = value (power_digits x)

    go : (t b : Bool) → pick t (pick b (left e f g) (right e f g)) no_number ≡ number n → (1 ≤ n) × (n ≤ 9999999999999)
    go true true h = decimal_range _ _ n h
    go true false h = decimal_range _ _ n h
    go false b h = absurd (let z : ◌≡◌ {A = ℕ} 0 1 = cc in omega arith)

pub number_range : NumberRange
unfolding number_of parted
number_range v n h = go (powered (unsigned (trim v))) h
  where
    s : Bytes
    s = unsigned (trim v)

    go : (t : Bool) → pick t (out (before (mantissa s)) (behind (mantissa s)) (power s)) (decimal (before s) (behind s)) ≡ number n → (1 ≤ n) × (n ≤ 9999999999999)
    go true h = out_range (before (mantissa s)) (behind (mantissa s)) (power s) n h
    go false h = decimal_range (before s) (behind s) n h
