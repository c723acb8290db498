-- Among more bytes than names, one makes a name that is none of them.
use Rattle.std.specs.Prelude.{◌≡◌, refl, List, [], ◌∷◌, ◌++◌, Bool, true, false, ◌&&◌, ◌||◌, not, ℕ, suc, ◌≤◌, ◌<◌, length, eqb}
use Rattle.std.proofs.Common.{sym, ◌∙◌, arith}
use Rattle.std.proofs.lemmas.List.{append_cancel_left}
use Rattle.std.proofs.lemmas.Bool.{not-true}
use Rattle.exact.specs.Chain.{clash}
use Rattle.exact.specs.Byte.{eqb_same}
use Rattle.grammar.specs.Bytes.{Bytes, same, among}
use Rattle.model.specs.Tests.{and_left, and_right, or_right, same_true}

abbrev pub has : ℕ → Bytes → Bool
has c [] = false
has c (x ∷ l) = eqb x c || has c l

abbrev pub distinct : Bytes → Bool
distinct [] = true
distinct (c ∷ l) = not (has c l) && distinct l

abbrev keep_if : Bool → Bytes → List Bytes → List Bytes
keep_if true y l = l
keep_if false y l = y ∷ l

abbrev without : Bytes → List Bytes → List Bytes
without x [] = []
without x (y ∷ l) = keep_if (same y x) y (without x l)

without_le : (x : Bytes) (l : List Bytes) → length (without x l) ≤ length l
without_le x [] = omega arith
without_le x (y ∷ l) = go (same y x) (without_le x l)
  where
    go : (z : Bool) → length (without x l) ≤ length l → length (keep_if z y (without x l)) ≤ suc (length l)
    go true h = omega arith
    go false h = omega arith

without_lt : (x : Bytes) (l : List Bytes) → among l x ≡ true → length (without x l) < length l
without_lt x [] h = clash (sym h)
without_lt x (y ∷ l) h = go (same y x) h (λ k. without_lt x l k) (without_le x l)
  where
    go : (z : Bool) → z || among l x ≡ true → (among l x ≡ true → length (without x l) < length l) → length (without x l) ≤ length l → length (keep_if z y (without x l)) < suc (length l)
    go true k f m = omega arith
    go false k f m = let q = f k in omega arith

without_other : (x z : Bytes) (l : List Bytes) → same x z ≡ false → among (without x l) z ≡ false → among l z ≡ false
without_other x z [] h k = refl
without_other x z (y ∷ l) h k = go (same y x) refl (λ q. without_other x z l h q)
  where
    go : (b : Bool) → same y x ≡ b → (among (without x l) z ≡ false → among l z ≡ false) → same y z || among l z ≡ false
    go true e f =
        let q : x ≡ y = same_true y x e in
        let s : same y z ≡ false = rw (← q) h in
        rw s (f (rw e at k))
    go false e f = tail (same y z) refl (rw e at k) f
      where
        tail : (b : Bool) → same y z ≡ b → same y z || among (without x l) z ≡ false → (among (without x l) z ≡ false → among l z ≡ false) → same y z || among l z ≡ false
        tail true w v f = clash (rw w at v)
        tail false w v f = rw w (f (rw w at v))

apart_last : (n : Bytes) (c d : ℕ) (l : Bytes) → has c l ≡ false → has d l ≡ true → same (n ++ c ∷ []) (n ++ d ∷ []) ≡ false
apart_last n c d l h k = go (same (n ++ c ∷ []) (n ++ d ∷ [])) refl
  where
    go : (b : Bool) → same (n ++ c ∷ []) (n ++ d ∷ []) ≡ b → same (n ++ c ∷ []) (n ++ d ∷ []) ≡ false
    go false e = e
    go true e =
        let q : d ∷ [] ≡ c ∷ [] = append_cancel_left n (d ∷ []) (c ∷ []) (same_true (n ++ c ∷ []) (n ++ d ∷ []) e) in
        let p : d ≡ c = cc in
        clash (sym k ∙ rw p h)

-- among more bytes than banned names, one makes a name that is not banned
pub some_fresh : (cs : Bytes) → distinct cs ≡ true → (n : Bytes) (earlier : List Bytes) → length earlier < length cs → (c : ℕ) × (has c cs ≡ true) × (among earlier (n ++ c ∷ []) ≡ false)
some_fresh [] u n earlier h = absurd (omega arith)
some_fresh (c ∷ cs) u n earlier h = go (among earlier (n ++ c ∷ [])) refl (λ b k. some_fresh cs (and_right (not (has c cs)) (distinct cs) u) n b k)
  where
    out : has c cs ≡ false
    out = not-true (has c cs) (and_left (not (has c cs)) (distinct cs) u)

    go : (z : Bool) → among earlier (n ++ c ∷ []) ≡ z → ((b : List Bytes) → length b < length cs → (d : ℕ) × (has d cs ≡ true) × (among b (n ++ d ∷ []) ≡ false))
        → (d : ℕ) × (has d (c ∷ cs) ≡ true) × (among earlier (n ++ d ∷ []) ≡ false)
    go false e f = (c, rw (eqb_same c), e)
    go true e f =
        let m = without_lt (n ++ c ∷ []) earlier e in
        let r = f (without (n ++ c ∷ []) earlier) (omega arith) in
        (r.0, or_right (eqb c r.0) (has r.0 cs) r.1, without_other (n ++ c ∷ []) (n ++ r.0 ∷ []) earlier (apart_last n c r.0 cs out r.1) r.2)
