-- Decimals: the digits behind the point without their last zeros, and that a decimal reads back.
use mathlib.Core.Path.{◌≡◌, refl, sym, ap, ◌∙◌}
use mathlib.Core.List.{[], ◌∷◌, ◌++◌, append_assoc, append-nil}
use mathlib.Core.Bool.{true, false}
use Prim.Native.Nat.{ℕ, zero, suc, ◌+◌, ◌-◌, ◌*◌, ◌/◌, ◌%◌, ◌^◌, ◌≤◌, ◌<◌, min, max}
use Prim.Native.Char.{code}
use native.Mathlib.Nat.{sub-zero, suc-sub-suc}
use native.Mathlib.Omega.{arith}
use lib.ListN.{length, length-append, length-replicate}
use borrow.Author.Tests.{eqb-true, ne_eqb, lt-ltb, le-leb}
use Rattle.exact.specs.Chain.{clash}
use Rattle.grammar.specs.Bytes.{within, every}
use Rattle.model.specs.Tests.{every_append}
use Rattle.number.specs.Bytes.{Bytes, digit, zero_digit, figure, non_empty, all, drop_back, keep_before, trim, value_from, value, before, behind}
use Rattle.number.specs.Positive.{BEFORE, BEHIND, number, written, short, millionths, above, decimal, unsigned, parted, powered, zeros, decimal_of, number_of, decimals_in, decimals_of}
use Rattle.number.proofs.Powers.{shift, few}
use Rattle.number.proofs.DigitLaws.{digit_no_mark, zeros_digits, both_digits, int_digital, int_short, length_places, places_digits, places_value}
use Rattle.number.proofs.Tests.{cases, and_left, and_right, digit_low}
use Rattle.number.specs.Digits.{last_digit, print_int, places}
use Rattle.spelling.specs.Written.{behind_point, mattering, matter, padded, print_part, print_decimal}
use Rattle.spelling.proofs.MarkLaws.{mark, digits_marks, marks_trim}

-- digits without the zeros at their back
abbrev pub cut : Bytes → Bytes
cut g = drop_back zero_digit g

-- a digit in front of what is left
abbrev keep : ℕ → Bytes → Bytes
keep b x = keep_before zero_digit b x

keep_short : (b l : ℕ) (x : Bytes) → length x ≤ l → length (keep b x) ≤ suc l
unfolding keep_before
keep_short b l [] h = cases (zero_digit b) (λ z. rw z (omega arith)) (λ z. rw z (omega arith))
keep_short b l (c ∷ x) h = omega arith

keep_digits : (b : ℕ) (x : Bytes) → digit b ≡ true → all digit x ≡ true → all digit (keep b x) ≡ true
unfolding keep_before all
keep_digits b [] h k = cases (zero_digit b) (λ z. rw z) (λ z. rw (z, h))
keep_digits b (c ∷ x) h k = rw h k

keep_cut : (b : ℕ) (x : Bytes) → cut x ≡ x → cut (keep b x) ≡ keep b x
unfolding drop_back keep_before
keep_cut b [] h = cases (zero_digit b) (λ z. rw z) (λ z. rw (z, z))
keep_cut b (c ∷ x) h = rw h

keep_value : (n b l : ℕ) (x : Bytes) → value_from n (keep b x) * 10 ^ (suc l - length (keep b x)) ≡ value_from (10 * n + figure b) x * 10 ^ (l - length x)
unfolding keep_before value_from
keep_value n b l [] =
    cases (zero_digit b)
    (λ z. rw (z, eqb-true b 48 z, sub-zero, sub-zero) (shift n l ∙ ap (λ (y : ℕ). y * 10 ^ l) (omega arith)))
    (λ z. rw (z, suc-sub-suc))
keep_value n b l (c ∷ x) = rw suc-sub-suc

cut_short : (g : Bytes) → length (cut g) ≤ length g
unfolding drop_back
cut_short [] = omega arith
cut_short (b ∷ g) = keep_short b (length g) (cut g) (cut_short g)

cut_digits : (g : Bytes) → all digit g ≡ true → all digit (cut g) ≡ true
unfolding drop_back all
cut_digits [] h = refl
cut_digits (b ∷ g) h = keep_digits b (cut g) (and_left (digit b) (all digit g) h) (cut_digits g (and_right (digit b) (all digit g) h))

cut_cut : (g : Bytes) → cut (cut g) ≡ cut g
unfolding drop_back
cut_cut [] = refl
cut_cut (b ∷ g) = keep_cut b (cut g) (cut_cut g)

-- the value, if a zero is put back for each that was dropped
cut_value : (n : ℕ) (g : Bytes) → value_from n (cut g) * 10 ^ (length g - length (cut g)) ≡ value_from n g
unfolding drop_back value_from
cut_value n [] = omega arith
cut_value n (b ∷ g) = keep_value n b (length g) (cut g) ∙ cut_value (10 * n + figure b) g

-- a last digit is dropped, or ends the digits
pub cut_zero : (g : Bytes) (b : ℕ) → zero_digit b ≡ true → cut (g ++ b ∷ []) ≡ cut g
unfolding drop_back keep_before
cut_zero [] b z = rw z
cut_zero (c ∷ g) b z = rw (cut_zero g b z)

pub cut_kept : (g : Bytes) (b : ℕ) → zero_digit b ≡ false → cut (g ++ b ∷ []) ≡ g ++ b ∷ []
unfolding drop_back keep_before
cut_kept [] b z = rw z
cut_kept (c ∷ []) b z = rw z
cut_kept (c ∷ d ∷ g) b z = rw (cut_kept (d ∷ g) b z)

-- digits are what is left of them, and zeros
keep_whole : (b : ℕ) (x : Bytes) (l : ℕ) → length x ≤ l → b ∷ (x ++ zeros (l - length x)) ≡ keep b x ++ zeros (suc l - length (keep b x))
unfolding keep_before
keep_whole b [] l h =
    cases (zero_digit b)
    (λ z. let e : l - 0 ≡ l = omega arith in let f : suc l - 0 ≡ suc l = omega arith in rw (z, eqb-true b 48 z, e, f))
    (λ z. let e : l - 0 ≡ l = omega arith in let f : suc l - 1 ≡ l = omega arith in rw (z, e, f))
keep_whole b (c ∷ x) l h = let f : suc l - suc (suc (length x)) ≡ l - suc (length x) = omega arith in rw f

cut_whole : (g : Bytes) → g ≡ cut g ++ zeros (length g - length (cut g))
unfolding drop_back
cut_whole [] = refl
cut_whole (b ∷ g) = ap (λ (y : Bytes). b ∷ y) (cut_whole g) ∙ keep_whole b (cut g) (length g) (cut_short g)

-- zeros at the back are dropped
cut_zeros : (g : Bytes) (j : ℕ) → cut (g ++ zeros j) ≡ cut g
cut_zeros g zero = ap cut (append-nil g)
cut_zeros g (suc j) = ap cut (sym (append_assoc g (48 ∷ []) (zeros j))) ∙ cut_zeros (g ++ 48 ∷ []) j ∙ cut_zero g 48 refl

-- m in k digits is n in six, but for zeros at the back; k is at least d
pub record Cutting (n d m k : ℕ) : Type 0 where
  pub least : d ≤ k
  pub most : k ≤ BEHIND
  pub same : cut (places k m) ≡ cut (places BEHIND n)

pub cutting_start : (n d : ℕ) → d ≤ BEHIND → Cutting n d n BEHIND
cutting_start n d h = record { least = h; most = omega arith; same = refl }

pub cutting_more : {n d m : ℕ} (k : ℕ) → Cutting n d m k → d < k → m % 10 ≡ 0 → Cutting n d (m / 10) (k - 1)
unfolding places
cutting_more zero c l h = absurd (omega arith)
cutting_more {n} {d} {m} (suc k) c l h =
    let e : suc k - 1 ≡ k = omega arith in
    let t = c.most in
    rw e (record { least = omega arith; most = omega arith; same = sym (cut_zero (places k (m / 10)) (last_digit m) (rw h)) ∙ c.same })

-- a last digit that matters
pub cutting_kept : {n d m : ℕ} (k : ℕ) → Cutting n d m k → d < k → (m % 10 ≡ 0 → ⊥) → places k m ≡ padded d (mattering n)
unfolding places
cutting_kept zero c l h = absurd (omega arith)
cutting_kept {n} {d} {m} (suc k) c l h =
    let e : places (suc k) m ≡ mattering n = sym (whole_digits k m h) ∙ c.same in
    let w : d - length (mattering n) ≡ 0 = let x = ap length e in let y = length_places (suc k) m in omega arith in
    e ∙ sym (append-nil (mattering n)) ∙ ap (λ (j : ℕ). mattering n ++ zeros j) (sym w)
  where
    whole_digits : (k m : ℕ) → (m % 10 ≡ 0 → ⊥) → cut (places (suc k) m) ≡ places (suc k) m
    whole_digits k m h = cut_kept (places k (m / 10)) (last_digit m) (ne_eqb (48 + m % 10) 48 (λ e. h (omega arith)))

-- no more than are wanted
pub cutting_end : {n d m k : ℕ} → Cutting n d m k → k ≤ d → places k m ≡ padded d (mattering n)
cutting_end {n} {d} {m} {k} c l =
    let e : k ≡ d = let x = c.least in omega arith in
    cut_whole (places k m)
    ∙ ap (λ (g : Bytes). g ++ zeros (length (places k m) - length g)) c.same
    ∙ ap (λ (j : ℕ). mattering n ++ zeros (j - length (mattering n))) (length_places k m ∙ e)

-- nothing behind the point, or some digits
pub point_none : (n d m k : ℕ) → places k m ≡ padded d (mattering n) → k ≡ 0 → print_part n d ≡ []
unfolding places behind_point
point_none n d m k e z = ap behind_point (sym e ∙ ap (λ (j : ℕ). places j m) z)

point_some : (g : Bytes) → 0 < length g → behind_point g ≡ code "." ∷ g
unfolding behind_point
point_some [] l = absurd (omega arith)
point_some (b ∷ g) l = refl

pub point_digits : (n d m k : ℕ) → places k m ≡ padded d (mattering n) → (k ≡ 0 → ⊥) → print_part n d ≡ code "." ∷ places k m
point_digits n d m k e z = ap behind_point (sym e) ∙ point_some (places k m) (let x = length_places k m in omega arith)

-- what stands before the point, and what behind it
before_point : (f g : Bytes) → all digit f ≡ true → before (f ++ behind_point g) ≡ f
unfolding before behind_point all
before_point [] [] h = refl
before_point [] (c ∷ g) h = refl
before_point (b ∷ f) g h =
    let l = digit_low b (and_left (digit b) (all digit f) h) in
    rw (ne_eqb b 46 (λ e. omega arith), before_point f g (and_right (digit b) (all digit f) h))

behind_point_lem : (f g : Bytes) → all digit f ≡ true → behind (f ++ behind_point g) ≡ g
unfolding behind behind_point all
behind_point_lem [] [] h = refl
behind_point_lem [] (c ∷ g) h = refl
behind_point_lem (b ∷ f) g h =
    let l = digit_low b (and_left (digit b) (all digit f) h) in
    rw (ne_eqb b 46 (λ e. omega arith)) (behind_point_lem f g (and_right (digit b) (all digit f) h))

no_plus : (f g : Bytes) → all digit f ≡ true → unsigned (f ++ behind_point g) ≡ f ++ behind_point g
unfolding unsigned behind_point all
no_plus [] [] h = refl
no_plus [] (c ∷ g) h = refl
no_plus (b ∷ f) g h = let l = digit_low b (and_left (digit b) (all digit f) h) in rw (ne_eqb b 43 (λ e. omega arith))

-- digits and a point have no exponent
digits_plain : (g : Bytes) → all digit g ≡ true → powered g ≡ false
unfolding all
digits_plain [] h = refl
digits_plain (b ∷ g) h = rw (digit_no_mark b (and_left (digit b) (all digit g) h)) (digits_plain g (and_right (digit b) (all digit g) h))

no_power : (f g : Bytes) → all digit f ≡ true → all digit g ≡ true → powered (f ++ behind_point g) ≡ false
unfolding behind_point all
no_power [] [] h k = refl
no_power [] (c ∷ g) h k = digits_plain (c ∷ g) k
no_power (b ∷ f) g h k = rw (digit_no_mark b (and_left (digit b) (all digit f) h)) (no_power f g (and_right (digit b) (all digit f) h) k)

point_marks : (g : Bytes) → all digit g ≡ true → every mark (behind_point g) ≡ true
unfolding behind_point mark within
point_marks [] h = refl
point_marks (b ∷ g) h = digits_marks (b ∷ g) h

point_short : (g : Bytes) → length (behind_point g) ≤ suc (length g)
unfolding behind_point
point_short [] = omega arith
point_short (b ∷ g) = omega arith

some_left : (f g : Bytes) → non_empty f ≡ true → non_empty (f ++ g) ≡ true
unfolding non_empty
some_left [] g h = clash (sym h)
some_left (b ∷ f) g h = refl

-- before the point and behind it
module _ (x d : ℕ) where
  abbrev whole : Bytes
  whole = print_int (x / 10 ^ BEHIND)

  abbrev matters : Bytes
  matters = mattering (x % 10 ^ BEHIND)

  abbrev part : Bytes
  part = padded (min BEHIND d) matters

  matters_short : length matters ≤ BEHIND
  matters_short = let z = cut_short (places BEHIND (x % 10 ^ BEHIND)) in let y = length_places BEHIND (x % 10 ^ BEHIND) in omega arith

  part_digits : all digit part ≡ true
  part_digits = both_digits matters (zeros (min BEHIND d - length matters)) (cut_digits (places BEHIND (x % 10 ^ BEHIND)) (places_digits BEHIND (x % 10 ^ BEHIND))) (zeros_digits (min BEHIND d - length matters))

  -- as many as are wanted, or as matter
  part_long : length part ≡ max (min BEHIND d) (length matters)
  part_long = let a = length-append matters (zeros (min BEHIND d - length matters)) in let b = length-replicate (min BEHIND d - length matters) (code "0") in omega arith

  part_short : length part ≤ BEHIND
  part_short = let a = part_long in let b = matters_short in omega arith

  part_cut : cut part ≡ matters
  part_cut = cut_zeros matters (min BEHIND d - length matters) ∙ cut_cut (places BEHIND (x % 10 ^ BEHIND))

  pub decimal_marks : every mark (print_decimal x d) ≡ true
  unfolding print_decimal
  decimal_marks = every_append mark whole (behind_point part) (digits_marks whole (int_digital (x / 10 ^ BEHIND)).digits) (point_marks part part_digits)

  -- seven digits, the point, six digits
  pub decimal_short : x ≤ 9999999999999 → length (print_decimal x d) ≤ 14
  unfolding print_decimal
  decimal_short h =
      rw length-append
      (let a = int_short 6 (x / 10 ^ BEHIND) (omega arith) in let b = point_short part in let c = part_short in omega arith)

  part_value : value matters * 10 ^ (BEHIND - length matters) ≡ x % 10 ^ BEHIND
  part_value =
      let r = x % 10 ^ BEHIND in
      let z : value matters * 10 ^ (BEHIND - length matters) ≡ value (places BEHIND r) = rw (length_places BEHIND r) at (cut_value 0 (places BEHIND r)) in
      z ∙ places_value BEHIND r (omega arith)

  decimal_millionths : millionths whole part ≡ x
  unfolding millionths
  decimal_millionths =
      let a = (int_digital (x / 10 ^ BEHIND)).worth in
      let b = part_value in
      rw (part_cut, a, b) (omega arith)

  decimal_written : written whole part ≡ true
  unfolding written
  decimal_written = let d = int_digital (x / 10 ^ BEHIND) in rw (d.digits, part_digits) (some_left whole part d.one)

  decimal_fits : x ≤ 9999999999999 → short whole part ≡ true
  unfolding short
  decimal_fits h =
      let d = int_digital (x / 10 ^ BEHIND) in
      let a = d.worth in
      let s = matters_short in
      rw (few BEFORE whole d.digits, lt-ltb (value whole) (10 ^ BEFORE) (omega arith), part_cut, le-leb (length matters) BEHIND s)

  plain : unsigned (trim (print_decimal x d)) ≡ whole ++ behind_point part
  unfolding print_decimal
  plain = ap unsigned (marks_trim (print_decimal x d) decimal_marks) ∙ no_plus whole part (int_digital (x / 10 ^ BEHIND)).digits

  -- a decimal reads back as its millionths, with its digits behind the point
  pub decimal_inverse : 1 ≤ x → x ≤ 9999999999999 → number_of (print_decimal x d) ≡ number x
  unfolding number_of parted decimal above
  decimal_inverse l h =
      let f = (int_digital (x / 10 ^ BEHIND)).digits in
      let m = decimal_millionths in
      ap decimal_of plain
      ∙ rw (no_power whole part f part_digits, before_point whole part f, behind_point_lem whole part f, decimal_written, decimal_fits h, m, lt-ltb 0 x l)

  pub decimals_inverse : d ≤ BEHIND → decimals_of (print_decimal x d) ≡ max d (matter x)
  unfolding decimals_of
  decimals_inverse h =
      let f = (int_digital (x / 10 ^ BEHIND)).digits in
      let a = part_long in
      let b = matters_short in
      ap decimals_in plain ∙ rw (no_power whole part f part_digits, behind_point_lem whole part f) (omega arith)
