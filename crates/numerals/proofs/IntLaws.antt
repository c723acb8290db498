-- `int_exact`: the steps say of an Int what the definition says. By induction on the bytes behind a sign and behind digits; behind a point or the mark
-- of an exponent it is none.
use mathlib.Core.Path.{◌≡◌, refl, ap, ◌∙◌}
use mathlib.Core.Bool.{Bool, true, false}
use mathlib.Core.List.{[], ◌∷◌}
use Prim.Native.Nat.{ℕ, ◌+◌, ◌*◌, ◌^◌, ◌≤◌, ◌<◌, min}
use Prim.Native.Char.{code}
use native.Mathlib.Omega.{arith}
use native.Mathlib.Nat.{le-mul_of_pos_right}
use lib.Dec.{eqb, ltb}
use borrow.Author.Tests.{eqb-true, eqb-false, ne_eqb, lt-ltb, le-ltb, ltb-true, ltb-false}
use Rattle.number.specs.Bytes.{Bytes, pick, and, digit, zero_digit, figure, non_empty, all, trim, value_from}
use Rattle.number.specs.Positive.{mark}
use Rattle.number.specs.Whole.{Whole, no_int, int, sized, signed, int_of, CAP, capped, paper}
use Rattle.numerals.specs.Scan.{TOP, TENTH, run, joined, zeros_more, with_digit, no_digits, part_digit, part_step, sign_step, whole_step, first_step, power_digit, mark_step, body_step, sized_as, int_body_end, int_end, IntExact}
use Rattle.std.specs.Prelude.{Option, Some, None}
use Rattle.number.specs.declared.Int.{Int}
use Rattle.numerals.specs.declared.scan.Digits.{Digits}
use Rattle.numerals.specs.declared.scan.Body.{Body}
use Rattle.numerals.specs.declared.scan.Scan.{Scan}
use Rattle.number.proofs.Tests.{cases, never, and_false, and_true}
use Rattle.number.proofs.Powers.{ten_pos}
use Rattle.numerals.proofs.Trim.{solid, apart, trimmed, digits_solid, rest_blank, minus_solid, plus_solid}

abbrev ended : Body → Bytes → Whole
ended s t = paper (int_body_end (run body_step s t))

-- behind a point or a mark it is no Int, whatever follows
unfoldable past : Body → Bool
past Body.Start = false
past (Body.Signed minus) = false
past (Body.Whole minus d) = false
past Body.Point = true
past (Body.Part d) = true
past (Body.Mark d) = true
past (Body.Turned minus d) = true
past (Body.Power minus e d) = true
past Body.Dead = true

past_power : (minus : Bool) (e : ℕ) (d : Digits) (b : ℕ) → past (power_digit minus e d b) ≡ true
unfolding past power_digit
past_power minus e d b = cases (digit b) (λ t. rw t) (λ t. rw t)

past_part : (d : Digits) (b : ℕ) → past (part_digit d b) ≡ true
unfolding past part_digit
past_part d b = cases (digit b) (λ t. rw t) (λ t. rw t)

past_step : (s : Body) (b : ℕ) → past s ≡ true → past (body_step s b) ≡ true
unfolding past body_step part_step mark_step
past_step Body.Start b h = never h refl
past_step (Body.Signed minus) b h = never h refl
past_step (Body.Whole minus d) b h = never h refl
past_step Body.Point b h = past_part no_digits b
past_step (Body.Part d) b h = cases (mark b) (λ m. rw m) (λ m. rw m (past_part d b))
past_step (Body.Mark d) b h =
    cases (eqb b (code "-")) (λ m. rw m) (λ m. cases (eqb b (code "+")) (λ p. rw (m, p)) (λ p. rw (m, p) (past_power false 0 d b)))
past_step (Body.Turned minus d) b h = past_power minus 0 d b
past_step (Body.Power minus e d) b h = past_power minus e d b
past_step Body.Dead b h = refl

past_end : (s : Body) → past s ≡ true → paper (int_body_end s) ≡ no_int
unfolding past int_body_end paper
past_end Body.Start h = never h refl
past_end (Body.Signed minus) h = never h refl
past_end (Body.Whole minus d) h = never h refl
past_end Body.Point h = refl
past_end (Body.Part d) h = refl
past_end (Body.Mark d) h = refl
past_end (Body.Turned minus d) h = refl
past_end (Body.Power minus e d) h = refl
past_end Body.Dead h = refl

gone : (s : Body) (t : Bytes) → past s ≡ true → ended s t ≡ no_int
unfolding run
gone s [] h = past_end s h
gone s (b ∷ t) h = gone (body_step s b) t (past_step s b h)

-- the digits write q, or both are beyond every size that is told
data Size (q n z : ℕ) : Type 0 where
  told : n < TENTH → z ≡ 0 → q ≡ n → Size q n z
  beyond : TENTH ≤ n → TENTH ≤ q → Size q n z

size_more : {q n z : ℕ} (b : ℕ) → digit b ≡ true → Size q n z → Size (10 * q + figure b) (joined n b) (zeros_more n z)
unfolding joined zeros_more
size_more {q} {n} {z} b d (told h e f) =
    rw (lt-ltb n TENTH h)
    (cases (ltb (10 * n + figure b) TENTH) (λ t. told (ltb-true (10 * n + figure b) TENTH t) e (omega arith)) (λ t. let l = ltb-false (10 * n + figure b) TENTH t in beyond l (omega arith)))
size_more {q} {n} {z} b d (beyond h k) =
    rw (le-ltb n TENTH h)
    (cases (and (ltb n TOP) (zero_digit b)) (λ t. rw t (beyond h (omega arith))) (λ t. rw t (beyond (omega arith) (omega arith))))

-- minus zero is zero
end_digits : (minus : Bool) (q : ℕ) (d : Digits) → Size q d.n d.zeros → paper (Some (sized_as minus d)) ≡ capped (int (and minus (ltb 0 q)) q)
unfolding paper sized_as capped
end_digits minus q d (told h e f) =
    let c : min CAP (d.n * 10 ^ d.zeros) ≡ min CAP q = rw e (omega arith) in
    cases (eqb d.n 0)
    (λ t. let none : q ≡ 0 = let z = eqb-true d.n 0 t in omega arith in rw (t, none, and_false minus))
    (λ t. rw (t, c, lt-ltb 0 q (let z = eqb-false d.n 0 t in omega arith), and_true minus))
end_digits minus q d (beyond h k) =
    let l : d.n ≤ d.n * 10 ^ d.zeros = le-mul_of_pos_right d.n (ten_pos d.zeros) in
    let c : min CAP (d.n * 10 ^ d.zeros) ≡ min CAP q = omega arith in
    rw (ne_eqb d.n 0 (λ z. omega arith), c, lt-ltb 0 q (omega arith), and_true minus)

-- behind digits that write q
digits : (minus : Bool) (q : ℕ) (d : Digits) (t : Bytes) → Size q d.n d.zeros → ended (Body.Whole minus d) t ≡ capped (pick (all digit t) (int (and minus (ltb 0 (value_from q t))) (value_from q t)) no_int)
unfolding run body_step int_body_end whole_step paper capped all value_from past
digits minus q d [] h = end_digits minus q d h
digits minus q d (b ∷ t) h =
    cases (digit b) (λ y. rw y (digits minus (10 * q + figure b) (with_digit d 0 b) t (size_more b y h)))
    (λ n. rw n (gone (pick minus Body.Dead (pick (eqb b (code ".")) (Body.Part d) (pick (mark b) (Body.Mark d) Body.Dead))) t (other minus (eqb b (code ".")) (mark b))))
  where
    other : (m p k : Bool) → past (pick m Body.Dead (pick p (Body.Part d) (pick k (Body.Mark d) Body.Dead))) ≡ true
    other true p k = refl
    other false true k = refl
    other false false true = refl
    other false false false = refl

-- behind a sign
behind_sign : (minus : Bool) (t : Bytes) → ended (Body.Signed minus) t ≡ capped (sized minus t)
unfolding run body_step int_body_end sign_step paper capped all non_empty value_from sized past
behind_sign minus [] = refl
behind_sign minus (b ∷ t) =
    cases (digit b) (λ y. rw y (digits minus (10 * 0 + figure b) (with_digit no_digits 0 b) t (size_more b y (told (omega arith) refl refl))))
    (λ n. rw n (gone (pick minus Body.Dead (pick (eqb b (code ".")) Body.Point Body.Dead)) t (other minus (eqb b (code ".")))))
  where
    other : (m p : Bool) → past (pick m Body.Dead (pick p Body.Point Body.Dead)) ≡ true
    other true p = refl
    other false true = refl
    other false false = refl

from_start : (t : Bytes) → ended Body.Start t ≡ capped (signed t)
unfolding run body_step int_body_end first_step paper capped signed
from_start [] = refl
from_start (b ∷ t) =
    cases (eqb b (code "-")) (λ h. rw h (behind_sign true t))
    (λ h. cases (eqb b (code "+")) (λ k. rw (h, k) (behind_sign false t)) (λ k. rw (h, k) (behind_sign false (b ∷ t))))

-- a blank among the bytes is no digit and no sign
blank_sized : (minus : Bool) (t : Bytes) → all solid t ≡ false → sized minus t ≡ no_int
unfolding sized
blank_sized minus t h = rw (digits_solid t h, and_false (non_empty t))

blank_signed : (t : Bytes) → all solid t ≡ false → signed t ≡ no_int
unfolding signed all
blank_signed [] h = refl
blank_signed (b ∷ t) h =
    cases (eqb b (code "-")) (λ e. rw e (blank_sized true t (rest_blank b t (minus_solid b e) h)))
    (λ n. cases (eqb b (code "+")) (λ e. rw (n, e) (blank_sized false t (rest_blank b t (plus_solid b e) h))) (λ m. rw (n, m) (blank_sized false (b ∷ t) h)))

paper_pick : (t : Bool) (r : Option Int) → paper (pick t r None) ≡ pick t (paper r) no_int
unfolding paper
paper_pick true r = refl
paper_pick false r = refl

clear : (t : Bytes) → pick (all solid t) (capped (signed t)) no_int ≡ capped (signed t)
unfolding capped
clear t = cases (all solid t) (λ h. rw h) (λ h. rw (h, blank_signed t h))

pub int_exact : IntExact
unfolding int_end int_of
int_exact w =
    ap (λ (s : Scan). paper (int_end s)) (apart w)
    ∙ ap paper (trimmed body_step None int_body_end Body.Start w)
    ∙ paper_pick (all solid (trim w)) (int_body_end (run body_step Body.Start (trim w)))
    ∙ ap (λ (x : Whole). pick (all solid (trim w)) x no_int) (from_start (trim w))
    ∙ clear (trim w)
