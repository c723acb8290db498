-- Blanks at the ends, once for every reading: a body that is stepped only inside sees exactly the trimmed bytes, unless a blank stands
-- among them. By induction on the bytes left, from each of the four places.
use mathlib.Core.Path.{◌≡◌, refl, ◌∙◌}
use mathlib.Core.Bool.{Bool, true, false}
use mathlib.Core.List.{[], ◌∷◌}
use Prim.Native.Nat.{ℕ}
use Prim.Native.Char.{code}
use lib.Dec.{eqb}
use borrow.Author.Tests.{eqb-true}
use Rattle.number.specs.Bytes.{Bytes, pick, blank, digit, non_empty, all, drop_front, drop_back, keep_before, trim}
use Rattle.numerals.specs.Scan.{run, ends_step, inside, broken, body_step, start, step}
use Rattle.numerals.specs.declared.ends.Ends.{Ends}
use Rattle.numerals.specs.declared.scan.Body.{Body}
use Rattle.number.proofs.Tests.{cases, digit_no_blank}

-- no blank
unfoldable pub solid : ℕ → Bool
solid b = pick (blank b) false true

pub minus_solid : (b : ℕ) → eqb b (code "-") ≡ true → solid b ≡ true
unfolding solid blank
minus_solid b h = rw (eqb-true b (code "-") h)

pub plus_solid : (b : ℕ) → eqb b (code "+") ≡ true → solid b ≡ true
unfolding solid blank
plus_solid b h = rw (eqb-true b (code "+") h)

pub point_solid : (b : ℕ) → eqb b (code ".") ≡ true → solid b ≡ true
unfolding solid blank
point_solid b h = rw (eqb-true b (code ".") h)

pub digit_solid : (b : ℕ) → digit b ≡ true → solid b ≡ true
unfolding solid
digit_solid b h = rw (digit_no_blank b h)

-- the bytes behind a solid one hold the blank
pub rest_blank : (b : ℕ) (t : Bytes) → solid b ≡ true → all solid (b ∷ t) ≡ false → all solid t ≡ false
unfolding all
rest_blank b t s h = rw s at h

-- where a blank stands there are not only digits
pub digits_solid : (t : Bytes) → all solid t ≡ false → all digit t ≡ false
unfolding all
digits_solid [] h = h
digits_solid (b ∷ t) h =
    cases (digit b) (λ d. rw d (digits_solid t (rest_blank b t (digit_solid b d) h))) (λ d. rw d)

-- a body after bytes that are stepped only inside
unfoldable pub body : {S : Type 0} → (S → ℕ → S) → Ends → S → Bytes → S
body f e s [] = s
body f e s (b ∷ w) = body f (ends_step e b) (pick (inside (ends_step e b)) (f s b) s) w

-- the scan is the two parts of its record, each after the same bytes
pub apart : (w : Bytes) → run step start w ≡ record { ends = run ends_step Ends.Front w; body = body body_step Ends.Front Body.Start w }
unfolding run step body
apart w = from Ends.Front Body.Start w
  where
    from : (e : Ends) (s : Body) (w : Bytes) → run step (record { ends = e; body = s }) w ≡ record { ends = run ends_step e w; body = body body_step e s w }
    from e s [] = refl
    from e s (b ∷ w) = from (ends_step e b) (pick (inside (ends_step e b)) (body_step s b) s) w

module _ {S R : Type 0} (f : S → ℕ → S) (bad : R) (fin : S → R) where
  -- the answer after bytes
  abbrev pub ended : Ends → S → Bytes → R
  ended e s w = pick (broken (run ends_step e w)) bad (fin (body f e s w))

  -- the answer of the body alone
  abbrev pub seen : S → Bytes → R
  seen s t = pick (all solid t) (fin (run f s t)) bad

  from_broken : (s : S) (w : Bytes) → ended Ends.Broken s w ≡ bad
  unfolding run body ends_step inside broken
  from_broken s [] = refl
  from_broken s (b ∷ w) = from_broken s w

  some_blank : (b : ℕ) (t : Bytes) → blank b ≡ true → non_empty (keep_before blank b t) ≡ non_empty t
  unfolding keep_before non_empty
  some_blank b [] h = rw h
  some_blank b (c ∷ t) h = refl

  keep_solid : (b : ℕ) (t : Bytes) → blank b ≡ false → keep_before blank b t ≡ b ∷ t
  unfolding keep_before
  keep_solid b [] h = rw h
  keep_solid b (c ∷ t) h = refl

  from_behind : (s : S) (w : Bytes) → ended Ends.Behind s w ≡ pick (non_empty (drop_back blank w)) bad (fin s)
  unfolding run body ends_step inside broken drop_back non_empty
  from_behind s [] = refl
  from_behind s (b ∷ w) =
      cases (blank b) (λ h. rw (h, some_blank b (drop_back blank w) h) (from_behind s w))
      (λ h. rw (h, keep_solid b (drop_back blank w) h) (from_broken s w))

  inner_blank : (s : S) (b : ℕ) (t : Bytes) → blank b ≡ true → pick (non_empty t) bad (fin s) ≡ seen s (keep_before blank b t)
  unfolding run all keep_before solid non_empty
  inner_blank s b [] h = rw h
  inner_blank s b (c ∷ t) h = rw h

  inner_solid : (s : S) (b : ℕ) (t : Bytes) → blank b ≡ false → seen (f s b) t ≡ seen s (keep_before blank b t)
  unfolding run all solid
  inner_solid s b t h = rw (keep_solid b t h, h)

  from_inside : (s : S) (w : Bytes) → ended Ends.Inside s w ≡ seen s (drop_back blank w)
  unfolding run body ends_step inside broken drop_back all
  from_inside s [] = refl
  from_inside s (b ∷ w) =
      cases (blank b) (λ h. rw h (from_behind s w ∙ inner_blank s b (drop_back blank w) h))
      (λ h. rw h (from_inside (f s b) w ∙ inner_solid s b (drop_back blank w) h))

  pub trimmed : (s : S) (w : Bytes) → ended Ends.Front s w ≡ seen s (trim w)
  unfolding run body ends_step inside broken drop_front drop_back all trim
  trimmed s [] = refl
  trimmed s (b ∷ w) =
      cases (blank b) (λ h. rw h (trimmed s w))
      (λ h. rw h (from_inside (f s b) w ∙ inner_solid s b (drop_back blank w) h))
