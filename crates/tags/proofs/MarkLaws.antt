-- The marks of names: one whose mark is not set is none of those that are marked.
use mathlib.Core.Path.{◌≡◌, refl, sym, ap, ◌∙◌}
use mathlib.Core.List.{List, [], ◌∷◌}
use mathlib.Core.Bool.{Bool, true, false}
use Prim.Native.Nat.{ℕ, ◌+◌, ◌-◌, ◌*◌, ◌/◌, ◌%◌, ◌≤◌, ◌<◌}
use native.Mathlib.Omega.{arith}
use lib.ListN.{length, take, drop, get_or, set, length-set}
use lib.Seq.{get_or-set_same, get_or-set_other, get_or-take, get_or-drop}
use lib.Dec.{eqb}
use borrow.Author.Tests.{eqb-true, eqb-false}
use Rattle.model.specs.Tests.{same_true}
use Rattle.grammar.specs.Bytes.{Bytes, same, among}
use Rattle.tags.specs.Names.{Repeats, mark_of, AllMarked, Marked, Ready, Meets}
use Rattle.tags.proofs.CompareLaws.{part_long}

pub marked_none : (f : List ℕ) → Marked f []
marked_none f = record { all = tt }

unmarked : (f : List ℕ) (l : List Bytes) (x : Bytes) → AllMarked f l → get_or f (mark_of x) 0 ≡ 0 → false ≡ among l x
unmarked f [] x w h = refl
unmarked f (y ∷ l) x w h = go (same y x) refl (unmarked f l x w.1 h)
  where
    go : (z : Bool) → same y x ≡ z → false ≡ among l x → false ≡ among (y ∷ l) x
    go true e r = absurd (w.0 (ap (λ (n : Bytes). get_or f (mark_of n) 0) (sym (same_true y x e)) ∙ h))
    go false e r = rw e r

set_one : (f : List ℕ) (h k : ℕ) → h < length f → (get_or f k 0 ≡ 0 → ⊥) → get_or (set f h 1) k 0 ≡ 0 → ⊥
set_one f h k i n z = go (eqb k h) refl
  where
    go : (b : Bool) → eqb k h ≡ b → ⊥
    go true e = let q : get_or (set f h 1) k 0 ≡ 1 = ap (λ (j : ℕ). get_or (set f h 1) j 0) (eqb-true k h e) ∙ get_or-set_same f h 1 0 i in absurd (let y : ◌≡◌ {A = ℕ} 0 1 = sym z ∙ q in omega (arith, y))
    go false e = n (sym (get_or-set_other f h k 1 0 (eqb-false k h e)) ∙ z)

set_mark : (f : List ℕ) (l : List Bytes) (h : ℕ) → h < length f → AllMarked f l → AllMarked (set f h 1) l
set_mark f [] h i w = tt
set_mark f (y ∷ l) h i w = (set_one f h (mark_of y) i w.0, set_mark f l h i w.1)

set_itself : (f : List ℕ) (h : ℕ) → h < length f → get_or (set f h 1) h 0 ≡ 0 → ⊥
set_itself f h i z = let q = get_or-set_same f h 1 0 i in absurd (let y : ◌≡◌ {A = ℕ} 0 1 = sym z ∙ q in omega (arith, y))

pub mark_is : (s : Bytes) (from to : ℕ) → from < to → to ≤ length s
    → (((to - from) % 64 + 5 * get_or s (to - 1) 0 + 3 * get_or s (from + (to - from) / 2) 0 + 4 * get_or s (from + (to - from - 2)) 0) % 64 ≡ mark_of (take (to - from) (drop from s)))
unfolding mark_of
mark_is s from to h k =
    let a : length (take (to - from) (drop from s)) ≡ to - from = part_long s from (to - from) (omega arith) in
    let b : from + (to - from - 1) ≡ to - 1 = omega arith in
    rw (a, get_or-take (to - from) (drop from s) (to - from - 1) 0 (omega arith), get_or-take (to - from) (drop from s) ((to - from) / 2) 0 (omega arith), get_or-take (to - from) (drop from s) (to - from - 2) 0 (omega arith), get_or-drop from s (to - from - 1) 0, get_or-drop from s ((to - from) / 2) 0, get_or-drop from s (to - from - 2) 0, b)

pub mark_small : (x : Bytes) → mark_of x < 64
unfolding mark_of
mark_small x = omega arith

module _ (s : Bytes) (first at to k : ℕ) (f : List ℕ) (is : k ≡ mark_of (take (to - at) (drop at s))) where
  pub met_new : get_or f k 0 ≡ 0 → Meets s first at to f (set f k 1) false
  met_new z = record {
    says = λ h. unmarked f h.stood.names (take (to - at) (drop at s)) h.marked.all (ap (λ (j : ℕ). get_or f j 0) (sym is) ∙ z);
    marked = λ h. record { all = (λ e. set_itself f k (less h) (ap (λ (j : ℕ). get_or (set f k 1) j 0) is ∙ e), set_mark f h.stood.names k (less h) h.marked.all) };
    long = length-set f k 1;
  }
    where
      less : Ready s first f at → k < length f
      less h = let y = mark_small (take (to - at) (drop at s)) in omega (arith, y, is, h.long)

  pub met_old : (r : Bool) → (get_or f k 0 ≡ 0 → ⊥) → Repeats s first at to r → Meets s first at to f f r
  met_old r n v = record { says = λ h. v.says h.stood; marked = λ h. record { all = (λ e. n (ap (λ (j : ℕ). get_or f j 0) is ∙ e), h.marked.all) }; long = refl }
