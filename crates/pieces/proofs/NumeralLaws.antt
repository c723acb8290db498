-- The steps of the readers of references.
use mathlib.Core.Path.{◌≡◌, refl, sym, ap, ◌∙◌}
use mathlib.Core.List.{[], ◌∷◌, ◌++◌}
use mathlib.Core.Logic.{◌⊎◌, inl, inr}
use mathlib.Core.Bool.{Bool, true, false, ◌&&◌, ◌||◌, not, cond}
use Prim.Native.Nat.{ℕ, suc, ◌+◌, ◌-◌, ◌*◌, ◌≤◌, ◌<◌}
use native.Mathlib.Omega.{arith}
use native.Mathlib.Numerals.{add-one}
use lib.ListN.{length, length-append, drop, get_or, drop_of_length-le}
use lib.Seq.{drop-cons}
use lib.Dec.{eqb, leb}
use borrow.Author.Tests.{le-leb, lt-leb, eq-eqb, ne_eqb}
use Rattle.model.specs.Tests.{and_false, range_in, every_append, every_snoc}
use Rattle.model.proofs.Characters.{View, control, low, mid, high, view, char_low, char_mid, char_high, char_max}
use Rattle.model.specs.References.{alive, begun, okay, number_p}
use Rattle.model.proofs.References.{Alive, now, soon, later, alive_view, number_append, dec_digit, hex_digit_lem}
use Rattle.exact.specs.Exact.{Out, bad, Reader}
use Rattle.exact.specs.Chain.{clash}
use Rattle.exact.specs.Byte.{pick, lit_p}
use Rattle.exact.specs.Token.{token_p}
use Rattle.grammar.specs.Bytes.{Bytes, within, digit, every}
use Rattle.grammar.specs.Character.{is_char}
use Rattle.grammar.specs.Reference.{hex_digit, worth, number}
use Rattle.std.specs.Prelude.{Some, None, Err}
use Rattle.scan.specs.declared.Stop.TheVariants.{Open, Bad}
use Rattle.pieces.specs.Says.{Piece, got, Says}
use Rattle.pieces.specs.Numerals.{digit_of, base_of, most_of, edge_of, top_of, alive_of, worth_of, numeral_p, value_of}
use Rattle.pieces.proofs.Tests.{under, over}

-- what is no character
no_char_as : (c : ℕ) → (View c → ⊥) → false ≡ is_char c
no_char_as c f = go (is_char c) refl
  where
    go : (z : Bool) → is_char c ≡ z → false ≡ is_char c
    go true e = absurd (f (view c e))
    go false e = sym e

pub char_between : (c : ℕ) → 55295 < c → c < 57344 → false ≡ is_char c
char_between c h k = no_char_as c v
  where
    v : View c → ⊥
    v (control (inl e)) = omega arith
    v (control (inr (inl e))) = omega arith
    v (control (inr (inr e))) = omega arith
    v (low a b) = omega arith
    v (mid a b) = omega arith
    v (high a b) = omega arith

pub char_last : (c : ℕ) → 65533 < c → c < 65536 → false ≡ is_char c
char_last c h k = no_char_as c v
  where
    v : View c → ⊥
    v (control (inl e)) = omega arith
    v (control (inr (inl e))) = omega arith
    v (control (inr (inr e))) = omega arith
    v (low a b) = omega arith
    v (mid a b) = omega arith
    v (high a b) = omega arith

pub char_beyond : (c : ℕ) → 1114111 < c → false ≡ is_char c
char_beyond c h = no_char_as c (λ v. let k = char_max c (of v) in omega arith)
  where
    of : View c → is_char c ≡ true
    of (control (inl e)) = absurd (omega arith)
    of (control (inr (inl e))) = absurd (omega arith)
    of (control (inr (inr e))) = absurd (omega arith)
    of (low a b) = char_low c a b
    of (mid a b) = char_mid c a b
    of (high a b) = char_high c a b

-- digits
pub digit_dec : (k : Bool) (b v : ℕ) → v ≡ b → 48 ≤ b → b ≤ 57 → Some (v - 48) ≡ worth_of k b
unfolding worth_of digit hex_digit worth
digit_dec true b v e h j = rw (e, range_in 48 57 b h j, le-leb b 57 j)
digit_dec false b v e h j = rw (e, range_in 48 57 b h j, le-leb b 57 j)

pub digit_upper : (k : Bool) (b v : ℕ) → k ≡ true → v ≡ b → 65 ≤ b → b ≤ 70 → Some (v - 55) ≡ worth_of k b
unfolding worth_of hex_digit digit worth
digit_upper k b v q e i j = let h : 57 < b = omega arith in rw (q, e, over 48 57 b h, range_in 65 70 b i j, lt-leb b 57 h, le-leb b 70 j) (ap Some (omega arith))

pub digit_lower : (k : Bool) (b v : ℕ) → k ≡ true → v ≡ b → 97 ≤ b → b ≤ 102 → Some (v - 87) ≡ worth_of k b
unfolding worth_of hex_digit digit worth
digit_lower k b v q e i j = let h : 57 < b = omega arith in let g : 70 < b = omega arith in rw (q, e, over 48 57 b h, over 65 70 b g, range_in 97 102 b i j, lt-leb b 57 h, lt-leb b 70 g) (ap Some (omega arith))

pub digit_not : (k : Bool) (b : ℕ) → false ≡ digit_of k b → None ≡ worth_of k b
unfolding worth_of
digit_not k b h = rw (← h)

-- what stands between the digits of both bases
pub hex_not : (k : Bool) (b : ℕ) → (b < 48) ⊎ (((57 < b) × (b < 65)) ⊎ (((70 < b) × (b < 97)) ⊎ (102 < b))) → None ≡ worth_of k b
unfolding hex_digit digit
hex_not true b (inl h) = let i : b < 65 = omega arith in let j : b < 97 = omega arith in digit_not true b (rw (under 48 57 b h, under 65 70 b i, under 97 102 b j))
hex_not true b (inr (inl h)) = let j : b < 97 = omega arith in digit_not true b (rw (over 48 57 b h.0, under 65 70 b h.1, under 97 102 b j))
hex_not true b (inr (inr (inl h))) = let i : 57 < b = omega arith in digit_not true b (rw (over 48 57 b i, over 65 70 b h.0, under 97 102 b h.1))
hex_not true b (inr (inr (inr h))) = let i : 57 < b = omega arith in let j : 70 < b = omega arith in digit_not true b (rw (over 48 57 b i, over 65 70 b j, over 97 102 b h))
hex_not false b (inl h) = digit_not false b (rw (under 48 57 b h))
hex_not false b (inr (inl h)) = digit_not false b (rw (over 48 57 b h.0))
hex_not false b (inr (inr (inl h))) = let i : 57 < b = omega arith in digit_not false b (rw (over 48 57 b i))
hex_not false b (inr (inr (inr h))) = let i : 57 < b = omega arith in digit_not false b (rw (over 48 57 b i))

pub dec_not : (k : Bool) (b : ℕ) → k ≡ false → 57 < b → None ≡ worth_of k b
unfolding digit
dec_not k b e h = rw e (digit_not false b (rw (over 48 57 b h)))

digit_worth : (k : Bool) (b : ℕ) → digit_of k b ≡ true → worth b ≤ 15
digit_worth true b h = hex_digit_lem b h
digit_worth false b h = let z = dec_digit b h in omega arith

pub digit_none : (k : Bool) (b : ℕ) → None ≡ worth_of k b → digit_of k b ≡ false
unfolding worth_of
digit_none k b e = go (digit_of k b) e
  where
    go : (z : Bool) → None ≡ cond z (Some (worth b)) None → z ≡ false
    go true e = let y : false ≡ true = cc in clash (sym y)
    go false e = refl

pub digit_some : (k : Bool) (b d : ℕ) → Some d ≡ worth_of k b → (digit_of k b ≡ true) × (worth b ≡ d)
unfolding worth_of
digit_some k b d e = go (digit_of k b) e
  where
    go : (z : Bool) → Some d ≡ cond z (Some (worth b)) None → (z ≡ true) × (worth b ≡ d)
    go true e = (refl, cc)
    go false e = let y : false ≡ true = cc in clash (sym y)

pub digit_max : (k : Bool) (b d : ℕ) → Some d ≡ worth_of k b → d ≤ 16
digit_max k b d e = let z = digit_some k b d e in let y = digit_worth k b z.0 in omega arith

-- viability
pub alive_now : (k : Bool) (j v : ℕ) → is_char v ≡ true → true ≡ alive_of k j v
unfolding alive
alive_now k j v h = rw h

pub alive_none : (k : Bool) (j v : ℕ) → is_char v ≡ false → j ≡ 0 → false ≡ alive_of k j v
unfolding alive
alive_none k j v h e = rw (h, e)

pub alive_some : (k : Bool) (j v : ℕ) (r : Bool) → is_char v ≡ false → (j ≡ 0 → ⊥) → r ≡ leb v (top_of k) && (not (eqb (edge_of k) v) || leb 2 j) → r ≡ alive_of k j v
unfolding alive
alive_some k j v r h e q = let i : 1 ≤ j = omega arith in rw (h, le-leb 1 j i) q

alive_max : (edge top j v : ℕ) → top ≤ 1114111 → Alive edge top j v → v ≤ 1114111
alive_max edge top j v t (now h) = char_max v h
alive_max edge top j v t (soon a b c) = omega arith
alive_max edge top j v t (later a b) = omega arith

top_max : (k : Bool) → top_of k ≤ 1114111
top_max true = omega arith
top_max false = omega arith

-- one byte of a number
abbrev begun_of : Bool → Bytes → Bool
begun_of k = begun (digit_of k) (base_of k) (most_of k) (edge_of k) (top_of k)

abbrev okay_of : Bool → Bytes → Bool
okay_of k = okay (digit_of k) (base_of k) (most_of k) (edge_of k) (top_of k)

abbrev tok : Bool → Bytes → Reader Bytes
tok k = token_p (begun_of k) (okay_of k) (λ n. lit_p (59 ∷ []) n)

begun_shut : (k : Bool) (n : Bytes) (b : ℕ) → digit_of k b ≡ false → begun_of k (n ++ b ∷ []) ≡ false
unfolding begun
begun_shut k n b h = rw (every_snoc (digit_of k) n b h)

begun_full : (k : Bool) (n : Bytes) (b : ℕ) → length n ≡ most_of k → begun_of k (n ++ b ∷ []) ≡ false
unfolding begun
begun_full k n b h =
    let i : most_of k < length (n ++ b ∷ []) = rw length-append (omega arith) in
    and_false (every (digit_of k) (n ++ b ∷ [])) _ (rw (lt-leb (length (n ++ b ∷ [])) (most_of k) i))

begun_is : (k : Bool) (n : Bytes) (b j : ℕ) → every (digit_of k) n ≡ true → digit_of k b ≡ true → length n + suc j ≡ most_of k → begun_of k (n ++ b ∷ []) ≡ alive_of k j (value_of k n * base_of k + worth b)
unfolding begun
begun_is k n b j a c h =
    let i : length (n ++ b ∷ []) ≤ most_of k = rw length-append (omega arith) in
    let d : most_of k - length (n ++ b ∷ []) ≡ j = rw length-append (omega arith) in
    rw (every_append (digit_of k) n (b ∷ []) a (rw c), le-leb (length (n ++ b ∷ [])) (most_of k) i, d, number_append (base_of k) 0 n (b ∷ []))

digit_semi : (k : Bool) (b : ℕ) → digit_of k b ≡ true → eqb 59 b ≡ false
unfolding digit hex_digit within
digit_semi k b h = ne_eqb 59 b (λ e. clash (sym h ∙ rw (← e) (go k)))
  where
    go : (k : Bool) → digit_of k 59 ≡ false
    go true = refl
    go false = refl

tok_bad : (k : Bool) (n : Bytes) (b : ℕ) (r : Bytes) → begun_of k (n ++ b ∷ []) ≡ false → eqb 59 b ≡ false → tok k n (b ∷ r) ≡ bad (b ∷ r)
tok_bad k n b r h e = rw (h, e) (go (okay_of k n) (bad (b ∷ r)))
  where
    go : (z : Bool) (o : Out Bytes) → pick z o o ≡ o
    go true o = refl
    go false o = refl

-- digits up to i: v is their value, and so many may follow
pub record Counted (k : Bool) (s : Bytes) (at v i spare : ℕ) : Type 0 where
  pub n : Bytes
  pub from : at ≤ i
  pub size : length n + spare ≡ most_of k
  pub value : value_of k n ≡ v
  pub small : v ≤ 1114111
  pub all : every (digit_of k) n ≡ true
  pub same : numeral_p k (drop at s) ≡ tok k n (drop i s)

pub digits_start : (k : Bool) (s : Bytes) (at spare : ℕ) → spare ≡ most_of k → Counted k s at 0 at spare
unfolding number_p
digits_start k s at spare e = record { n = []; from = omega arith; size = omega arith; value = refl; small = omega arith; all = refl; same = refl }

module _ (k : Bool) (s : Bytes) (at v i spare : ℕ) (w : Counted k s at v i spare) where
  abbrev NumSays : Piece → Type 0
  NumSays r = Says (value_of k) 1 s at r (numeral_p k (drop at s))

  pub digits_open : length s ≤ i → NumSays (Err Open)
  digits_open h = record { says = w.same ∙ rw (drop_of_length-le s h) }

  module _ (h : i < length s) where
    bad_at : tok k w.n (get_or s i 0 ∷ drop (suc i) s) ≡ bad (get_or s i 0 ∷ drop (suc i) s) → NumSays (Err (Bad i))
    bad_at e = record { says = (w.from, h, w.same ∙ rw (drop-cons s i 0 h) e) }

    pub digits_other : None ≡ worth_of k (get_or s i 0) → (get_or s i 0 ≡ 59 → ⊥) → NumSays (Err (Bad i))
    digits_other e q = bad_at (tok_bad k w.n _ _ (begun_shut k w.n _ (digit_none k _ e)) (ne_eqb 59 (get_or s i 0) (λ z. q (sym z))))

    pub digits_done : None ≡ worth_of k (get_or s i 0) → get_or s i 0 ≡ 59 → is_char v ≡ true → NumSays (got v (i + 1))
    unfolding okay
    digits_done e q c =
        let x = w.from in
        let y : is_char (number (base_of k) 0 w.n) ≡ true = rw w.value c in
        let z : begun_of k (w.n ++ get_or s i 0 ∷ []) ≡ false = begun_shut k w.n _ (digit_none k _ e) in
        record { says = record { value = w.n; is = w.value; far = omega arith; upto = omega arith; reads = w.same ∙ rw (add-one, drop-cons s i 0 h, z, y, eq-eqb 59 (get_or s i 0) (sym q)) } }

    pub digits_none : None ≡ worth_of k (get_or s i 0) → is_char v ≡ false → NumSays (Err (Bad i))
    unfolding okay
    digits_none e c =
        let y : is_char (number (base_of k) 0 w.n) ≡ false = rw w.value c in
        let z : begun_of k (w.n ++ get_or s i 0 ∷ []) ≡ false = begun_shut k w.n _ (digit_none k _ e) in
        bad_at (rw (z, y))

    module _ (d : ℕ) (is-d : Some d ≡ worth_of k (get_or s i 0)) where
      is_digit : digit_of k (get_or s i 0) ≡ true
      is_digit = (digit_some k _ d is-d).0

      pub digits-full : spare ≡ 0 → NumSays (Err (Bad i))
      digits-full e = let z = w.size in bad_at (tok_bad k w.n _ _ (begun_full k w.n _ (omega arith)) (digit_semi k _ is_digit))

      module _ (room : spare ≡ 0 → ⊥) (v' : ℕ) (is-v : v' ≡ v * base_of k + d) where
        now-is : begun_of k (w.n ++ get_or s i 0 ∷ []) ≡ alive_of k (spare - 1) v'
        now-is =
            let z = w.size in
            let e : length w.n + suc (spare - 1) ≡ most_of k = omega arith in
            begun_is k w.n (get_or s i 0) (spare - 1) w.all is_digit e ∙ rw (w.value, (digit_some k _ d is-d).1, is-v)

        pub digits-dead : alive_of k (spare - 1) v' ≡ false → NumSays (Err (Bad i))
        digits-dead e = bad_at (tok_bad k w.n _ _ (now-is ∙ e) (digit_semi k _ is_digit))

        pub digits-next : alive_of k (spare - 1) v' ≡ true → Counted k s at v' (i + 1) (spare - 1)
        digits-next e =
            let x = w.from in
            let z = w.size in
            let u : begun_of k (w.n ++ get_or s i 0 ∷ []) ≡ true = now-is ∙ e in
            record {
              n = w.n ++ get_or s i 0 ∷ [];
              from = omega arith;
              size = rw length-append (omega arith);
              value = number_append (base_of k) 0 w.n (get_or s i 0 ∷ []) ∙ rw (w.value, (digit_some k _ d is-d).1, is-v);
              small = alive_max (edge_of k) (top_of k) (spare - 1) v' (top_max k) (alive_view (edge_of k) (top_of k) (spare - 1) v' e);
              all = every_append (digit_of k) w.n (get_or s i 0 ∷ []) w.all (rw is_digit);
              same = w.same ∙ rw (add-one, drop-cons s i 0 h, u);
            }

pub alive_hex : (k : Bool) (j v : ℕ) (r : Bool) → k ≡ true → is_char v ≡ false → (j ≡ 0 → ⊥) → r ≡ leb v 69631 && (not (eqb 1 v) || leb 2 j) → r ≡ alive_of k j v
alive_hex k j v r e h i q = rw e (alive_some true j v r h i q)

pub alive_dec : (k : Bool) (j v : ℕ) (r : Bool) → k ≡ false → is_char v ≡ false → (j ≡ 0 → ⊥) → r ≡ leb v 111411 && (not (eqb 2 v) || leb 2 j) → r ≡ alive_of k j v
alive_dec k j v r e h i q = rw e (alive_some false j v r h i q)
