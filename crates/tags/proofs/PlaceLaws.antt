-- A row more in the table is an attribute more in the list of places.
use mathlib.Core.Path.{◌≡◌, refl, sym, ap, ◌∙◌}
use mathlib.Core.List.{List, [], ◌∷◌, ◌++◌, append_assoc, append-nil}
use Prim.Native.Nat.{ℕ, ◌+◌, ◌*◌, ◌≤◌}
use native.Mathlib.Omega.{arith}
use lib.ListN.{length, length-append, drop, length-drop, set, length-set}
use lib.Seq.{set_at, drop-drop}
use Rattle.grammar.specs.Attribute.{Attribute, spell_attribute, spell_attributes}
use Rattle.grammar.specs.Places.{name_at, name_end, value_at, value_end}
use Rattle.tags.specs.Places.{places, stored}

-- a row stored where a table begins to be old
stored_here : (p r : List ℕ) (n a b c d : ℕ) → length p ≡ 4 * n → 4 ≤ length r → stored (p ++ r) n a b c d ≡ p ++ a ∷ b ∷ c ∷ d ∷ drop 4 r
unfolding stored
stored_here p [] n a b c d e h = absurd (omega arith)
stored_here p (w ∷ []) n a b c d e h = absurd (omega arith)
stored_here p (w ∷ x ∷ []) n a b c d e h = absurd (omega arith)
stored_here p (w ∷ x ∷ y ∷ []) n a b c d e h = absurd (omega arith)
stored_here p (w ∷ x ∷ y ∷ z ∷ r) n a b c d e h =
    let s₁ : set (p ++ w ∷ x ∷ y ∷ z ∷ r) (4 * n) a ≡ p ++ a ∷ x ∷ y ∷ z ∷ r = set_at p w (x ∷ y ∷ z ∷ r) a (4 * n) e in
    let s₂ : set (p ++ a ∷ x ∷ y ∷ z ∷ r) (4 * n + 1) b ≡ p ++ a ∷ b ∷ y ∷ z ∷ r = later (a ∷ []) x (y ∷ z ∷ r) b 1 refl in
    let s₃ : set (p ++ a ∷ b ∷ y ∷ z ∷ r) (4 * n + 2) c ≡ p ++ a ∷ b ∷ c ∷ z ∷ r = later (a ∷ b ∷ []) y (z ∷ r) c 2 refl in
    let s₄ : set (p ++ a ∷ b ∷ c ∷ z ∷ r) (4 * n + 3) d ≡ p ++ a ∷ b ∷ c ∷ d ∷ r = later (a ∷ b ∷ c ∷ []) z r d 3 refl in
    rw (s₁, s₂, s₃, s₄)
  where
    later : (q : List ℕ) (y : ℕ) (ys : List ℕ) (v k : ℕ) → length q ≡ k → set (p ++ (q ++ y ∷ ys)) (4 * n + k) v ≡ p ++ (q ++ v ∷ ys)
    later q y ys v k f =
        let g : length (p ++ q) ≡ 4 * n + k = length-append p q ∙ rw (e, f) in
        rw (← append_assoc p q (y ∷ ys), ← append_assoc p q (v ∷ ys)) (set_at (p ++ q) y ys v (4 * n + k) g)

pub stored_long : (t : List ℕ) (n a b c d : ℕ) → length (stored t n a b c d) ≡ length t
unfolding stored
stored_long t n a b c d = simp length-set

-- equal numbers make equal rows
pub same_row : {t t' : List ℕ} (n : ℕ) {a a' b b' c c' d d' : ℕ} → t ≡ t' → a ≡ a' → b ≡ b' → c ≡ c' → d ≡ d' → stored t n a b c d ≡ stored t' n a' b' c' d'
same_row n o p q r u = cc

-- an attribute is as long as its parts
pub attribute_size : (at : ℕ) (a : Attribute) → value_end at a + 1 ≡ at + length (spell_attribute a)
attribute_size at a = simp length-append (omega arith)

pub places_size : (at : ℕ) (l : List Attribute) → length (places at l) ≡ 4 * length l
unfolding places
places_size at [] = refl
places_size at (a ∷ l) = let z = places_size (value_end at a + 1) l in omega arith

places_append : (at : ℕ) (l : List Attribute) (a : Attribute) → places at (l ++ a ∷ []) ≡ places at l ++ places (at + length (spell_attributes l)) (a ∷ [])
unfolding places
places_append at [] a = let z : at + 0 ≡ at = omega arith in rw z
places_append at (b ∷ l) a =
    let z : value_end at b + 1 + length (spell_attributes l) ≡ at + length (spell_attribute b ++ spell_attributes l) = rw (length-append (spell_attribute b) (spell_attributes l), attribute_size at b) (omega arith) in
    ap (λ (x : List ℕ). name_at at b ∷ name_end at b ∷ value_at at b ∷ value_end at b ∷ x) (rw (← z) (places_append (value_end at b + 1) l a))

pub spell_append : (l : List Attribute) (a : Attribute) → length (spell_attributes (l ++ a ∷ [])) ≡ length (spell_attributes l) + length (spell_attribute a)
spell_append [] a = rw (append-nil (spell_attribute a)) (omega arith)
spell_append (b ∷ l) a = let z = spell_append l a in rw (length-append (spell_attribute b) (spell_attributes (l ++ a ∷ [])), length-append (spell_attribute b) (spell_attributes l), z) (omega arith)

-- the table after an attribute more
pub places_stored : (at : ℕ) (l : List Attribute) (a : Attribute) (n : ℕ) (old : List ℕ) → length l ≡ n → 4 * n + 4 ≤ length old → (i : ℕ) → at + length (spell_attributes l) ≡ i
    → stored (places at l ++ drop (4 * n) old) n (name_at i a) (name_end i a) (value_at i a) (value_end i a) ≡ places at (l ++ a ∷ []) ++ drop (4 * (n + 1)) old
unfolding places
places_stored at l a n old e h i q =
    let x : length (places at l) ≡ 4 * n = omega (arith, places_size at l) in
    let y : 4 ≤ length (drop (4 * n) old) = rw length-drop (omega arith) in
    let z : drop 4 (drop (4 * n) old) ≡ drop (4 * (n + 1)) old = drop-drop 4 (4 * n) old ∙ (let w : 4 * n + 4 ≡ 4 * (n + 1) = omega arith in rw w) in
    let r : places at (l ++ a ∷ []) ≡ places at l ++ places i (a ∷ []) = rw (← q) (places_append at l a) in
    stored_here (places at l) (drop (4 * n) old) n (name_at i a) (name_end i a) (value_at i a) (value_end i a) x y
    ∙ rw (z, r) (sym (append_assoc (places at l) (name_at i a ∷ name_end i a ∷ value_at i a ∷ value_end i a ∷ []) (drop (4 * (n + 1)) old)))
