-- The bytes of which numbers, ids and versions are made: characters, no blanks, written as they are.
use mathlib.Core.Path.{◌≡◌, refl, sym, ap, ◌∙◌}
use mathlib.Core.List.{List, [], ◌∷◌}
use mathlib.Core.Logic.{◌⊎◌, inl, inr}
use mathlib.Core.Bool.{Bool, true, false, ◌||◌}
use Prim.Native.Nat.{ℕ, ◌≤◌}
use Prim.Native.Char.{code}
use native.Mathlib.Omega.{arith}
use lib.Dec.{eqb, leb}
use lib.ListN.{length}
use borrow.Author.Tests.{eqb-true, ne_eqb, leb-true, lt-leb, le-leb}
use Rattle.exact.specs.Byte.{other}
use Rattle.exact.specs.Chain.{clash}
use Rattle.grammar.specs.Bytes.{Bytes, within, every}
use Rattle.grammar.specs.Character.{is_char, utf8}
use Rattle.model.proofs.Characters.{char_low}
use Rattle.model.specs.Tests.{or_cases, or_left, or_right, in_range, range_in, and_both, and_left, and_right}
use Rattle.number.specs.Bytes.{and, blank, digit, hex, non_empty, all, drop_front, drop_back, keep_before, trim, pointed, before, behind, value}
use Rattle.number.specs.Guid.{Place, hex_place, hyphen_place, places, may, filled, guid_of}
use Rattle.number.specs.Version.{one_to_three, version_of}
use Rattle.number.specs.Whole.{int, sized, signed, int_of}
use Rattle.number.proofs.Tests as bits
use Rattle.number.proofs.Tests.{cases, digit_low, digit_high}
use Rattle.spelling.specs.Characters.{spell}
use Rattle.spelling.specs.Quoted.{AsIs}
use Rattle.spelling.proofs.EscapeLaws.{Other, other_same, escape_same}

-- `-`, `.`, `/`, digits, and `a` to `f`
unfoldable pub mark : ℕ → Bool
mark b = within (code "-") (code "9") b || within (code "a") (code "f") b

mark_in : (b : ℕ) → mark b ≡ true → (45 ≤ b) × (b ≤ 102)
unfolding mark
mark_in b h = go (or_cases (within 45 57 b) (within 97 102 b) h)
  where
    go : (within 45 57 b ≡ true) ⊎ (within 97 102 b ≡ true) → (45 ≤ b) × (b ≤ 102)
    go (inl k) = let z = in_range 45 57 b k in (z.0, omega (arith, z.1))
    go (inr k) = let z = in_range 97 102 b k in (omega (arith, z.0), z.1)

mark_other : (b : ℕ) → mark b ≡ true → Other b
unfolding mark within
mark_other b h = record { amp_not = other mark 38 refl b h; lt_not = other mark 60 refl b h; gt_not = other mark 62 refl b h; quot_not = other mark 34 refl b h; tab_not = other mark 9 refl b h; lf_not = other mark 10 refl b h; cr_not = other mark 13 refl b h }

mark_solid : (b : ℕ) → mark b ≡ true → blank b ≡ false
unfolding blank
mark_solid b h =
    let z = mark_in b h in
    rw (lt-leb b 10 (omega arith), bits.and_false (leb 9 b), ne_eqb b 13 (λ e. omega arith), ne_eqb b 32 (λ e. omega arith))

-- such bytes are a text, and written as they are
mark_chars : (v : Bytes) → every mark v ≡ true → every is_char v ≡ true
mark_chars [] h = refl
mark_chars (b ∷ v) h =
    let z = mark_in b (and_left (mark b) (every mark v) h) in
    and_both (is_char b) (every is_char v) (char_low b (omega arith) (omega arith)) (mark_chars v (and_right (mark b) (every mark v) h))

mark_spelt : (v : Bytes) → every mark v ≡ true → v ≡ spell v
unfolding utf8
mark_spelt [] h = refl
mark_spelt (b ∷ v) h =
    let z = mark_in b (and_left (mark b) (every mark v) h) in
    rw (le-leb b 0x7F (omega arith)) (ap (λ (l : Bytes). b ∷ l) (mark_spelt v (and_right (mark b) (every mark v) h)))

pub marks_as_is : (v : Bytes) → every mark v ≡ true → AsIs v
marks_as_is v h = record {
  is_text_holds = record { chars = v; good = mark_chars v h; spelt = mark_spelt v h };
  same = escape_same mark (λ b k. other_same (mark_other b k)) v h;
}

-- and have no blanks at their ends
marks_back : (v : Bytes) → every mark v ≡ true → drop_back blank v ≡ v
unfolding drop_back keep_before
marks_back [] h = refl
marks_back (b ∷ []) h = rw (mark_solid b (and_left (mark b) true h))
marks_back (b ∷ c ∷ v) h = rw (marks_back (c ∷ v) (and_right (mark b) (every mark (c ∷ v)) h))

pub marks_trim : (v : Bytes) → every mark v ≡ true → trim v ≡ v
unfolding trim drop_front
marks_trim [] h = marks_back [] h
marks_trim (b ∷ v) h = rw (mark_solid b (and_left (mark b) (every mark v) h)) (marks_back (b ∷ v) h)

-- which bytes are such
pub digit_mark : (b : ℕ) → digit b ≡ true → mark b ≡ true
unfolding mark
digit_mark b h = or_left (within 45 57 b) (within 97 102 b) (let l = digit_low b h in range_in 45 57 b (omega arith) (digit_high b h))

pub digits_marks : (s : Bytes) → all digit s ≡ true → every mark s ≡ true
unfolding all
digits_marks [] h = refl
digits_marks (b ∷ s) h = and_both (mark b) (every mark s) (digit_mark b (bits.and_left (digit b) (all digit s) h)) (digits_marks s (bits.and_right (digit b) (all digit s) h))

place_mark : (p : Place) (b : ℕ) → may p b ≡ true → mark b ≡ true
unfolding may hex mark within
place_mark hex_place b h =
    cases (digit b) (λ d. digit_mark b d)
    (λ d.
    let k : and (leb 97 b) (leb b 102) ≡ true = rw d at h in
    or_right (within 45 57 b) (within 97 102 b) (range_in 97 102 b (leb-true 97 b (bits.and_left (leb 97 b) (leb b 102) k)) (leb-true b 102 (bits.and_right (leb 97 b) (leb b 102) k))))
place_mark hyphen_place b h = rw (eqb-true b 45 h)

filled_marks : (ps : List Place) (v : Bytes) → filled ps v ≡ true → every mark v ≡ true
unfolding filled
filled_marks [] [] h = refl
filled_marks [] (b ∷ v) h = clash (sym h)
filled_marks (p ∷ ps) [] h = clash (sym h)
filled_marks (p ∷ ps) (b ∷ v) h = and_both (mark b) (every mark v) (place_mark p b (bits.and_left (may p b) (filled ps v) h)) (filled_marks ps v (bits.and_right (may p b) (filled ps v) h))

pub guid_marks : (v : Bytes) → guid_of v ≡ true → every mark v ≡ true
unfolding guid_of
guid_marks v h = filled_marks places v h

-- digits before the first point and behind it
parts_marks : (v : Bytes) → all digit (before v) ≡ true → all digit (behind v) ≡ true → every mark v ≡ true
unfolding before behind all mark within
parts_marks [] = λ h k. refl
parts_marks (b ∷ v) =
    cases (eqb b 46)
    (λ e. rw (e, eqb-true b 46 e) (λ h k. digits_marks v k))
    (λ e. rw e (λ h k. and_both (mark b) (every mark v) (digit_mark b (bits.and_left (digit b) (all digit (before v)) h)) (parts_marks v (bits.and_right (digit b) (all digit (before v)) h) k)))

pub version_marks : (v : Bytes) → version_of v ≡ true → every mark v ≡ true
unfolding version_of one_to_three
version_marks v h =
    let k = bits.and_right (pointed v) (and (one_to_three (before v)) (one_to_three (behind v))) h in
    parts_marks v (digits (before v) (bits.and_left (one_to_three (before v)) (one_to_three (behind v)) k)) (digits (behind v) (bits.and_right (one_to_three (before v)) (one_to_three (behind v)) k))
  where
    digits : (s : Bytes) → one_to_three s ≡ true → all digit s ≡ true
    digits s h = bits.and_left (all digit s) (and (leb 1 (length s)) (leb (length s) 3)) h

-- digits alone are an Int
pub digits_int : (s : Bytes) → all digit s ≡ true → non_empty s ≡ true → int_of s ≡ int false (value s)
unfolding int_of signed sized non_empty all
digits_int [] h k = clash (sym k)
digits_int (b ∷ s) h k =
    let z = digit_low b (bits.and_left (digit b) (all digit s) h) in
    ap signed (marks_trim (b ∷ s) (digits_marks (b ∷ s) h)) ∙ rw (ne_eqb b 45 (λ e. omega arith), ne_eqb b 43 (λ e. omega arith), h)
