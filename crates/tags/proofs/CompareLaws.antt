-- Bytes compared where they stand.
use mathlib.Core.Path.{◌≡◌, refl, sym, ap, subst, ◌∙◌}
use mathlib.Core.List.{[], ◌∷◌}
use mathlib.Core.Bool.{Bool, true, false, ◌&&◌, not, true≢false}
use Prim.Native.Nat.{ℕ, zero, suc, ◌+◌, ◌-◌, ◌≤◌, ◌<◌}
use native.Mathlib.Omega.{arith}
use lib.ListN.{length, take, drop, get_or, length-take, length-drop}
use native.Mathlib.Nat.{add-zero}
use lib.Seq.{get_or-take, get_or-drop}
use lib.Dec.{eqb, leb}
use lib.Pointwise.{pointwise}
use borrow.Author.Tests.{leb-true, leb-false, eq-eqb}
use Rattle.model.specs.Tests.{and_left, and_right, and_false, same_true}
use Rattle.grammar.specs.Bytes.{Bytes, every, same}
use Rattle.std.specs.List.{list_any}
use Rattle.std.proofs.lemmas.List.Folds.{list_any_at}
use Rattle.tags.specs.Names.{Lacks}

pub part_long : (s : Bytes) (a n : ℕ) → a + n ≤ length s → length (take n (drop a s)) ≡ n
part_long s a n h = rw (length-take, length-drop) (omega arith)

pub part_at : (s : Bytes) (a n k : ℕ) → k < n → get_or (take n (drop a s)) k 0 ≡ get_or s (a + k) 0
part_at s a n k h = get_or-take n (drop a s) k 0 h ∙ get_or-drop a s k 0

pub every_at : (t : ℕ → Bool) (l : Bytes) (k : ℕ) → every t l ≡ true → k < length l → t (get_or l k 0) ≡ true
every_at t [] k h l = absurd (omega arith)
every_at t (b ∷ r) zero h l = and_left (t b) (every t r) h
every_at t (b ∷ r) (suc k) h l = every_at t r k (and_right (t b) (every t r) h) (omega arith)

-- what is not as long is not the same
pub same_not : (x y : Bytes) → (length x ≡ length y → ⊥) → same x y ≡ false
same_not x y ne = go (same x y) refl
  where
    go : (z : Bool) → same x y ≡ z → same x y ≡ false
    go false e = e
    go true e = absurd (ne (ap length (sym (same_true x y e))))

-- what `==` says of two slices
pub same_pointwise : (x y : Bytes) → pointwise eqb x y ≡ same x y
same_pointwise [] [] = refl
same_pointwise [] (b ∷ y) = refl
same_pointwise (a ∷ x) [] = refl
same_pointwise (a ∷ x) (b ∷ y) = ap (λ (z : Bool). eqb a b && z) (same_pointwise x y)

-- one stretch behind the other
pub lacks_join : {q : ℕ} (s : Bytes) (i j k : ℕ) → i ≤ j → Lacks q s i (j - i) → Lacks q s j (k - j) → Lacks q s i (k - i)
lacks_join {q} s i j k h a b m l = go (leb (suc m) (j - i)) refl
  where
    go : (z : Bool) → leb (suc m) (j - i) ≡ z → get_or s (i + m) 0 ≡ q → ⊥
    go true e = a m (leb-true (suc m) (j - i) e)
    go false e =
        let n = leb-false (suc m) (j - i) e in
        let z : j + (m - (j - i)) ≡ i + m = omega arith in
        subst (λ (x : ℕ). get_or s x 0 ≡ q → ⊥) z (b (m - (j - i)) (omega arith))

-- eight more bytes, none of which `contains` finds
pub lacks_eight : {q : ℕ} (s : Bytes) (at i : ℕ) → at ≤ i → i + 8 ≤ length s → Lacks q s at (i - at) → {r : Bool} → r ≡ false → r ≡ list_any (λ y. eqb y q) (take (i + 8 - i) (drop i s)) → Lacks q s at (i + 8 - at)
lacks_eight {q} s at i h j a e w = lacks_join s at i (i + 8) h a (λ k l is. absurd (true≢false (sym (list_any_at (λ y. eqb y q) (take (i + 8 - i) (drop i s)) k 0 (rw (part_long s i (i + 8 - i) (omega arith)) l) (eq-eqb _ _ (part_at s i (i + 8 - i) k l ∙ is))) ∙ sym w ∙ e)))

-- names whose bytes and ends are compared
pub stands_same : (s : Bytes) (a b n : ℕ) (r z : Bool) → r ≡ pointwise eqb (take (a + n - a) (drop a s)) (take (b + n - b) (drop b s)) → z ≡ false → r ≡ not z && same (take n (drop a s)) (take n (drop b s))
stands_same s a b n r z e f =
    let x : a + n - a ≡ n = omega arith in
    let y : b + n - b ≡ n = omega arith in
    let g : r ≡ pointwise eqb (take n (drop a s)) (take n (drop b s)) = rw (x, y) at e in
    rw f (g ∙ same_pointwise (take n (drop a s)) (take n (drop b s)))

-- names whose first bytes differ
pub first_differs : (s : Bytes) (a b n : ℕ) (z : Bool) → a + n ≤ length s → b + n ≤ length s → 0 < n → (get_or s a 0 ≡ get_or s b 0 → ⊥) → false ≡ z && same (take n (drop a s)) (take n (drop b s))
first_differs s a b n z h j i e = sym (and_false z (same (take n (drop a s)) (take n (drop b s))) (go (same (take n (drop a s)) (take n (drop b s))) refl))
  where
    first : (c : ℕ) → get_or (take n (drop c s)) 0 0 ≡ get_or s c 0
    first c = part_at s c n 0 i ∙ ap (λ (x : ℕ). get_or s x 0) (add-zero c)

    go : (y : Bool) → same (take n (drop a s)) (take n (drop b s)) ≡ y → same (take n (drop a s)) (take n (drop b s)) ≡ false
    go false q = q
    go true q = absurd (e (sym (first a) ∙ ap (λ (l : Bytes). get_or l 0 0) (sym (same_true (take n (drop a s)) (take n (drop b s)) q)) ∙ first b))
