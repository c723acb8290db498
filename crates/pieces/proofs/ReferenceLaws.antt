-- The steps of the readers of references.
use mathlib.Core.Path.{◌≡◌, refl, sym}
use mathlib.Core.List.{[], ◌∷◌}
use mathlib.Core.Bool.{Bool, true, false}
use Prim.Native.Nat.{ℕ, suc, ◌+◌, ◌-◌, ◌≤◌, ◌<◌}
use native.Mathlib.Omega.{arith}
use native.Mathlib.Numerals.{add-one}
use lib.ListN.{length, drop, get_or, drop_of_length-le}
use lib.Seq.{drop-cons}
use lib.Dec.{eqb}
use borrow.Author.Tests.{ne_eqb}
use Rattle.scan.specs.Pieces.{word_p}
use Rattle.model.specs.References.{named_p, ref_p}
use Rattle.exact.specs.Exact.{done, bad}
use Rattle.exact.specs.Chain.{ret_p, and_then}
use Rattle.exact.specs.Byte.{pick, lit_p}
use Rattle.grammar.specs.Bytes.{Bytes, text}
use Rattle.grammar.specs.Reference.{amp, lt, gt, quot, apos, named, decimal, hexadecimal, read_reference}
use Rattle.std.specs.Prelude.{Err}
use Rattle.scan.specs.declared.Stop.TheVariants.{Open}
use Rattle.pieces.specs.Says.{Piece, Says}
use Rattle.pieces.specs.Numerals.{numeral_p, value_of}
use Rattle.pieces.specs.Parts.{hash_p, five_p}
use Rattle.pieces.proofs.Answers.{last, moved}

-- other values for the same bytes
lit_map : {A B : Type 0} (a : A) (g : A → B) (cs x : Bytes) → and_then (lit_p cs a x) (λ z. ret_p (g z)) ≡ and_then (lit_p {A = ℕ} cs 0 x) (λ z t. done (g a) t)
lit_map a g [] x = refl
lit_map a g (c ∷ cs) [] = refl
lit_map {A} {B} a g (c ∷ cs) (b ∷ r) = go (eqb c b) (lit_map a g cs r)
  where
    go : (z : Bool) → and_then (lit_p cs a r) (λ z. ret_p (g z)) ≡ and_then (lit_p {A = ℕ} cs 0 r) (λ z t. done (g a) t)
        → and_then (pick z (lit_p cs a r) (bad (b ∷ r))) (λ z. ret_p (g z)) ≡ and_then (pick z (lit_p {A = ℕ} cs 0 r) (bad (b ∷ r))) (λ z t. done (g a) t)
    go true h = h
    go false h = refl

module _ (s : Bytes) (at : ℕ) where
  pub name_open : length s ≤ at → Says read_reference 1 s at (Err Open) (five_p (drop at s))
  unfolding five_p named_p
  name_open h = record { says = rw (drop_of_length-le s h) }

  pub hash_open : length s ≤ at → Says read_reference 1 s at (Err Open) (hash_p (drop at s))
  unfolding hash_p
  hash_open h = record { says = rw (drop_of_length-le s h) }

  pub ref_open : length s ≤ at → Says read_reference 1 s at (Err Open) (ref_p (drop at s))
  unfolding ref_p
  ref_open h = record { says = rw (drop_of_length-le s h) }

  module _ (h : at < length s) where
    -- a, and the end
    pub name_a : get_or s at 0 ≡ 97 → length s - at < 2 → Says read_reference 1 s at (Err Open) (five_p (drop at s))
    unfolding five_p named_p
    name_a e k = let j : length s ≤ suc at = omega arith in record { says = rw (drop-cons s at 0 h, e, drop_of_length-le s j) }

    module _ (e : get_or s at 0 ≡ 97) (k : 2 ≤ length s - at) where
      pub name-amp : {r : Piece} → get_or s (at + 1) 0 ≡ 109 → Says (λ (x : ℕ). 38) 3 s (at + 1) r (word_p (text "mp;") (drop (at + 1) s)) → Says read_reference 1 s at r (five_p (drop at s))
      unfolding five_p named_p word_p
      name-amp f g =
          let j : suc at < length s = omega arith in
          let f' : get_or s (suc at) 0 ≡ 109 = rw add-one at f in
          last g (omega arith) (omega arith) (λ x. named amp) (λ x. refl) (rw (add-one, drop-cons s at 0 h, e, drop-cons s (suc at) 0 j, f') (lit_map amp named (109 ∷ 112 ∷ 59 ∷ []) (109 ∷ drop (suc (suc at)) s)))

      pub name-apos : {r : Piece} → (get_or s (at + 1) 0 ≡ 109 → ⊥) → Says (λ (x : ℕ). 39) 4 s (at + 1) r (word_p (text "pos;") (drop (at + 1) s)) → Says read_reference 1 s at r (five_p (drop at s))
      unfolding five_p named_p word_p
      name-apos f g =
          let j : suc at < length s = omega arith in
          let f' : get_or s (suc at) 0 ≡ 109 → ⊥ = rw add-one at f in
          last g (omega arith) (omega arith) (λ x. named apos) (λ x. refl) (rw (add-one, drop-cons s at 0 h, e, drop-cons s (suc at) 0 j, ne_eqb 109 (get_or s (suc at) 0) (λ z. f' (sym z))) (lit_map apos named (112 ∷ 111 ∷ 115 ∷ 59 ∷ []) (get_or s (suc at) 0 ∷ drop (suc (suc at)) s)))

    pub name_lt : {r : Piece} → get_or s at 0 ≡ 108 → Says (λ (x : ℕ). 60) 3 s at r (word_p (text "lt;") (drop at s)) → Says read_reference 1 s at r (five_p (drop at s))
    unfolding five_p named_p word_p
    name_lt e g = last g (omega arith) (omega arith) (λ x. named lt) (λ x. refl) (rw (drop-cons s at 0 h, e) (lit_map lt named (108 ∷ 116 ∷ 59 ∷ []) (108 ∷ drop (suc at) s)))

    pub name_gt : {r : Piece} → get_or s at 0 ≡ 103 → Says (λ (x : ℕ). 62) 3 s at r (word_p (text "gt;") (drop at s)) → Says read_reference 1 s at r (five_p (drop at s))
    unfolding five_p named_p word_p
    name_gt e g = last g (omega arith) (omega arith) (λ x. named gt) (λ x. refl) (rw (drop-cons s at 0 h, e) (lit_map gt named (103 ∷ 116 ∷ 59 ∷ []) (103 ∷ drop (suc at) s)))

    pub name_quot : {r : Piece} → (get_or s at 0 ≡ 97 → ⊥) → (get_or s at 0 ≡ 108 → ⊥) → (get_or s at 0 ≡ 103 → ⊥) → Says (λ (x : ℕ). 34) 5 s at r (word_p (text "quot;") (drop at s)) → Says read_reference 1 s at r (five_p (drop at s))
    unfolding five_p named_p word_p
    name_quot a b c g =
        last g (omega arith) (omega arith) (λ x. named quot) (λ x. refl)
        (rw (drop-cons s at 0 h, ne_eqb 97 (get_or s at 0) (λ z. a (sym z)), ne_eqb 108 (get_or s at 0) (λ z. b (sym z)), ne_eqb 103 (get_or s at 0) (λ z. c (sym z))) (lit_map quot named (113 ∷ 117 ∷ 111 ∷ 116 ∷ 59 ∷ []) (get_or s at 0 ∷ drop (suc at) s)))

    pub hash_hex : {r : Piece} → get_or s at 0 ≡ 120 → Says (value_of true) 1 s (at + 1) r (numeral_p true (drop (at + 1) s)) → Says read_reference 1 s at r (hash_p (drop at s))
    unfolding hash_p
    hash_hex e g = last g (omega arith) (omega arith) hexadecimal (λ x. refl) (rw (add-one, drop-cons s at 0 h, e))

    pub hash_dec : {r : Piece} → (get_or s at 0 ≡ 120 → ⊥) → Says (value_of false) 1 s at r (numeral_p false (drop at s)) → Says read_reference 1 s at r (hash_p (drop at s))
    unfolding hash_p
    hash_dec e g = last g (omega arith) (omega arith) decimal (λ x. refl) (rw (drop-cons s at 0 h, ne_eqb 120 (get_or s at 0) (λ z. e (sym z))))

    pub ref_hash : {r : Piece} → get_or s at 0 ≡ 35 → Says read_reference 1 s (at + 1) r (hash_p (drop (at + 1) s)) → Says read_reference 1 s at r (ref_p (drop at s))
    unfolding ref_p hash_p
    ref_hash e g = moved g (omega arith) (omega arith) (rw (add-one, drop-cons s at 0 h, e))

    pub ref_name : {r : Piece} → (get_or s at 0 ≡ 35 → ⊥) → Says read_reference 1 s at r (five_p (drop at s)) → Says read_reference 1 s at r (ref_p (drop at s))
    unfolding ref_p five_p
    ref_name e g = moved g (omega arith) (omega arith) (rw (drop-cons s at 0 h, ne_eqb 35 (get_or s at 0) (λ z. e (sym z))))
