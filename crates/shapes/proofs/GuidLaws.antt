-- A GUID group by group: digits, and a hyphen behind them.
use mathlib.Core.Path.{◌≡◌, refl, sym, ap, ◌∙◌}
use mathlib.Core.Bool.{Bool, true, false, ◌&&◌}
use mathlib.Core.List.{List, [], ◌∷◌, ◌++◌}
use Prim.Native.Nat.{ℕ, zero, suc, ◌+◌, ◌-◌, ◌≤◌, ◌<◌}
use native.Mathlib.Omega.{arith}
use native.Mathlib.Numerals.{add-one}
use lib.Dec.{eqb}
use lib.ListN.{length, get_or, take, drop, replicate, drop_of_length-le}
use lib.Seq.{drop-cons, take_all}
use Rattle.std.proofs.Common.{length-drop}
use Rattle.std.proofs.lemmas.List.{drop-drop}
use Rattle.number.specs.Bytes.{Bytes, and, hex, all}
use Rattle.number.specs.Guid.{Place, hex_place, hyphen_place, places, joined, may, filled, guid_of}
use Rattle.numerals.proofs.AheadLaws.{rest_is}
use Rattle.number.proofs.Tests.{cases, and_true, and_false}

-- digits, and what stands behind them
digits_filled : (n : ℕ) (ps : List Place) (w : Bytes) → n ≤ length w → filled (replicate n hex_place ++ ps) w ≡ and (all hex (take n w)) (filled ps (drop n w))
unfolding filled all may
digits_filled zero ps w h = refl
digits_filled (suc n) ps [] h = absurd (omega arith)
digits_filled (suc n) ps (b ∷ w) h = cases (hex b) (λ t. rw t (digits_filled n ps w (omega arith))) (λ t. rw t)

-- a hyphen, and what stands behind it
hyphen_filled : (ps : List Place) (v : Bytes) (i : ℕ) → i < length v → filled (hyphen_place ∷ ps) (drop i v) ≡ and (eqb (get_or v i 0) 45) (filled ps (drop (i + 1) v))
unfolding filled may
hyphen_filled ps v i h = rw (drop-cons v i 0 h, add-one i)

-- a group and the hyphen behind it, from i on
group : (n i j : ℕ) (ps : List Place) (v : Bytes) → j ≡ i + n → j < length v → filled (replicate n hex_place ++ (hyphen_place ∷ ps)) (drop i v) ≡ and (all hex (take n (drop i v))) (and (eqb (get_or v j 0) 45) (filled ps (drop (j + 1) v)))
group n i j ps v e h =
    let d : drop n (drop i v) ≡ drop j v = drop-drop n i v ∙ ap (λ (k : ℕ). drop k v) (sym e) in
    digits_filled n (hyphen_place ∷ ps) (drop i v) (omega (arith, length-drop i v))
    ∙ ap (λ (w : Bytes). and (all hex (take n (drop i v))) (filled (hyphen_place ∷ ps) w)) d
    ∙ ap (and (all hex (take n (drop i v)))) (hyphen_filled ps v j h)

-- the last group
last_group : (v : Bytes) → length v ≡ 36 → filled (replicate 12 hex_place) (drop 24 v) ≡ all hex (drop 24 v)
unfolding filled all
last_group v l =
    let n : length (drop 24 v) ≡ 12 = omega (arith, length-drop 24 v) in
    let t : take 12 (drop 24 v) ≡ drop 24 v = take_all 12 (drop 24 v) (omega arith) in
    let few : length (drop 24 v) ≤ 12 = omega arith in
    let z : drop 12 (drop 24 v) ≡ [] = drop_of_length-le (drop 24 v) few in
    digits_filled 12 [] (drop 24 v) (omega arith) ∙ rw (t, z) (and_true (all hex (drop 24 v)))

pub groups_are : (v : Bytes) → length v ≡ 36 → guid_of v ≡ and (all hex (take 8 v)) (and (eqb (get_or v 8 0) 45) (and (all hex (take 4 (drop 9 v))) (and (eqb (get_or v 13 0) 45) (and (all hex (take 4 (drop 14 v))) (and (eqb (get_or v 18 0) 45) (and (all hex (take 4 (drop 19 v))) (and (eqb (get_or v 23 0) 45) (all hex (drop 24 v)))))))))
unfolding guid_of
groups_are v l =
    let a = group 8 0 8 (joined (4 ∷ 4 ∷ 4 ∷ 12 ∷ [])) v (omega arith) (omega arith) in
    let b = group 4 9 13 (joined (4 ∷ 4 ∷ 12 ∷ [])) v (omega arith) (omega arith) in
    let c = group 4 14 18 (joined (4 ∷ 12 ∷ [])) v (omega arith) (omega arith) in
    let d = group 4 19 23 (joined (12 ∷ [])) v (omega arith) (omega arith) in
    let e = last_group v l in
    cc

-- the tests as the code joins them
nine : (a h b i c j d k e : Bool) → (((((((a && h) && b) && i) && c) && j) && d) && k) && e ≡ and a (and h (and b (and i (and c (and j (and d (and k e)))))))
nine true true true true true true true true e = refl
nine true true true true true true true false e = refl
nine true true true true true true false k e = refl
nine true true true true true false d k e = refl
nine true true true true false j d k e = refl
nine true true true false c j d k e = refl
nine true true false i c j d k e = refl
nine true false b i c j d k e = refl
nine false h b i c j d k e = refl

pub tests_joined : (v : Bytes) (a b c d e : Bool) → length v ≡ 36 → a ≡ all hex (take 8 v) → b ≡ all hex (take 4 (drop 9 v)) → c ≡ all hex (take 4 (drop 14 v)) → d ≡ all hex (take 4 (drop 19 v)) → e ≡ all hex (take (length v - 24) (drop 24 v)) → (((((((a && eqb (get_or v 8 0) 45) && b) && eqb (get_or v 13 0) 45) && c) && eqb (get_or v 18 0) 45) && d) && eqb (get_or v 23 0) 45) && e ≡ guid_of v
tests_joined v a b c d e l p q r s t =
    let u : e ≡ all hex (drop 24 v) = t ∙ ap (all hex) (rest_is v 24) in
    nine a (eqb (get_or v 8 0) 45) b (eqb (get_or v 13 0) 45) c (eqb (get_or v 18 0) 45) d (eqb (get_or v 23 0) 45) e ∙ rw (p, q, r, s, u) (sym (groups_are v l))

-- no other length fills the places
filled_length : (ps : List Place) (w : Bytes) → (length w ≡ length ps → ⊥) → false ≡ filled ps w
unfolding filled
filled_length [] [] h = absurd (h refl)
filled_length [] (b ∷ w) h = refl
filled_length (p ∷ ps) [] h = refl
filled_length (p ∷ ps) (b ∷ w) h = rw (sym (filled_length ps w (λ e. h (ap suc e)))) (sym (and_false (may p b)))

pub not_36 : (v : Bytes) → (length v ≡ 36 → ⊥) → false ≡ guid_of v
unfolding guid_of
not_36 v h = filled_length places v h

-- digits so far, and those left
joined_more : (ok r x y : Bool) → y ≡ and r x → and (ok && r) x ≡ and ok y
joined_more true r x y e = sym e
joined_more false r x y e = refl

module _ (v : Bytes) {i : ℕ} (ok : Bool) (so_far : and ok (all hex (drop i v)) ≡ all hex v) where
  pub hex_more : {r : Bool} → i < length v → r ≡ hex (get_or v i 0) → and (ok && r) (all hex (drop (i + 1) v)) ≡ all hex v
  unfolding all
  hex_more {r} l e =
      let d : drop i v ≡ get_or v i 0 ∷ drop (i + 1) v = rw add-one (drop-cons v i 0 l) in
      let s : all hex (drop i v) ≡ and r (all hex (drop (i + 1) v)) = ap (all hex) d ∙ ap (λ (z : Bool). and z (all hex (drop (i + 1) v))) (sym e) in
      joined_more ok r (all hex (drop (i + 1) v)) (all hex (drop i v)) s ∙ so_far

  pub hex_end : length v ≤ i → ok ≡ all hex v
  unfolding all
  hex_end l =
      let d : drop i v ≡ [] = drop_of_length-le v l in
      sym (and_true ok) ∙ ap (λ (w : Bytes). and ok (all hex w)) (sym d) ∙ so_far
