-- Laws of ids: comparing them, and a ForecastId with zeros behind.
use Rattle.std.specs.Prelude.{◌≡◌, List, [], ◌∷◌, ◌++◌, Bool, ℕ, ◌+◌, ◌-◌, ◌≤◌, ◌<◌, T, eqb, length, take, drop, set, get_or, replicate}
use Rattle.std.proofs.Math.Path.{refl}
use Rattle.std.proofs.Common.{sym, ap, subst, ◌∙◌, arith, eqb→eq, length-append, length-take, length-drop, length-set, ext_get_or, get_or-take, get_or-drop, get_or-append-add, get_or-set_same, get_or-set_other, take-take, length-take-le, eq-eqb, eqb-true, leb-true, leb-false, le-leb}
use Rattle.std.proofs.Math.Bool.{true, false}
use Rattle.std.proofs.Math.Dec.{leb}
use Rattle.std.proofs.lemmas.List.{length-replicate, get_or-replicate, take-replicate, drop-replicate}
use Rattle.std.proofs.Math.Seq.{take-append-add}
use Rattle.std.proofs.Math.ListN.{get_or-append, get_or-eq_default}
use Rattle.std.proofs.lemmas.Bool.{eqb-false, lt-leb}
use Rattle.lane.specs.Chart.{both}
use Rattle.lane.specs.Ids.{same_id, no_forecast, zeros, padded, righted, same_forecast, id_of}
use Rattle.lane.specs.declared.ids.Forecast.{Forecast}

pub both_parts : (a b : Bool) → T (both a b) → T a × T b
both_parts true b t = (tt, t)
both_parts false b t = absurd t

-- `same_id` is equality.
pub same_refl : (a : List ℕ) → same_id a a ≡ true
unfolding same_id
same_refl [] = refl
same_refl (x ∷ xs) = rw (eq-eqb x x refl) (same_refl xs)

same_eq : (a b : List ℕ) → T (same_id a b) → a ≡ b
unfolding same_id
same_eq [] [] t = refl
same_eq [] (y ∷ ys) t = absurd t
same_eq (x ∷ xs) [] t = absurd t
same_eq (x ∷ xs) (y ∷ ys) t =
    let p = both_parts (eqb x y) (same_id xs ys) t in
    rw (eqb→eq x y p.0, same_eq xs ys p.1)

pub same_true : {a b : List ℕ} → same_id a b ≡ true → a ≡ b
same_true {a} {b} e = same_eq a b (subst T (sym e) tt)

pub same_false : (a b : List ℕ) → (a ≡ b → ⊥) → same_id a b ≡ false
same_false a b h = go (same_id a b) refl
  where
    go : (z : Bool) → same_id a b ≡ z → same_id a b ≡ false
    go true e = absurd (h (same_true e))
    go false e = e

-- n bytes of a list, with zeros behind up to w: what stands at a place. `padded` is w at 80.
abbrev long : ℕ → ℕ → List ℕ → List ℕ
long w n b = take w (take n b ++ replicate w 0)

module _ (w : ℕ) where
  behind : (p : List ℕ) (i : ℕ) → length p ≤ i → i < w → get_or (p ++ replicate w 0) i 0 ≡ 0
  behind p i h k =
      let j : length p + (i - length p) ≡ i = omega arith in
      subst (λ (x : ℕ). get_or (p ++ replicate w 0) x 0 ≡ 0) j
      (get_or-append-add p (replicate w 0) (i - length p) 0 ∙ get_or-replicate w (i - length p) 0 0 (omega arith))

  long_in : (n : ℕ) (b : List ℕ) (i : ℕ) → i < w → i < n → get_or (long w n b) i 0 ≡ get_or b i 0
  long_in n b i h k = get_or-take w (take n b ++ replicate w 0) i 0 h ∙ go (leb (length b) i) refl
    where
      go : (z : Bool) → leb (length b) i ≡ z → get_or (take n b ++ replicate w 0) i 0 ≡ get_or b i 0
      go true e =
          let m = leb-true (length b) i e in
          behind (take n b) i (omega (arith, length-take n b)) h ∙ sym (get_or-eq_default b 0 m)
      go false e =
          let m = leb-false (length b) i e in
          get_or-append (take n b) (replicate w 0) 0 i (omega (arith, length-take n b)) ∙ get_or-take n b i 0 k

  long_out : (n : ℕ) (b : List ℕ) (i : ℕ) → i < w → n ≤ i → get_or (long w n b) i 0 ≡ 0
  long_out n b i h k = get_or-take w (take n b ++ replicate w 0) i 0 h ∙ behind (take n b) i (omega (arith, length-take n b)) h

  long_length : (n : ℕ) (b : List ℕ) → length (long w n b) ≡ w
  long_length n b = length-take-le w (take n b ++ replicate w 0) (omega (arith, length-append (take n b) (replicate w 0), length-replicate {A = ℕ} w 0))

  -- a list of w bytes that has the id's bytes and zeros behind is that id, padded
  long_is : (n : ℕ) (b x : List ℕ) → length x ≡ w → ((i : ℕ) → i < w → i < n → get_or x i 0 ≡ get_or b i 0) → ((i : ℕ) → i < w → n ≤ i → get_or x i 0 ≡ 0) → x ≡ long w n b
  long_is n b x e f g = ext_get_or 0 x (long w n b) (e ∙ sym (long_length n b)) (λ i h. go i (subst (λ (m : ℕ). i < m) e h) (leb n i) refl)
    where
      go : (i : ℕ) → i < w → (z : Bool) → leb n i ≡ z → get_or x i 0 ≡ get_or (long w n b) i 0
      go i h true q = let m = leb-true n i q in g i h m ∙ sym (long_out n b i h m)
      go i h false q = let m = leb-false n i q in f i h m ∙ sym (long_in n b i h m)

  -- padding twice, and padding the id alone
  long_again : (n : ℕ) (b : List ℕ) → long w n b ≡ long w n (long w n b)
  long_again n b = long_is n (long w n b) (long w n b) (long_length n b) (λ i h k. refl) (λ i h k. long_out n b i h k)

  long_own : (n : ℕ) (b : List ℕ) → long w n b ≡ long w n (take n b)
  long_own n b = ap (λ (p : List ℕ). take w (p ++ replicate w 0)) (sym (take-take n n b (omega arith)))

  -- an id put down over zeros
  long_over : (n : ℕ) (b : List ℕ) → length (take n b) ≡ n → n ≤ w → take n b ++ drop n (replicate w 0) ≡ long w n b
  long_over n b h k =
      let e : length (take n b) + (w - n) ≡ w = omega arith in
      ap (λ (z : List ℕ). take n b ++ z) (drop-replicate n w 0 ∙ sym (take-replicate (w - n) w 0 (omega arith)))
      ∙ sym (take-append-add (take n b) (replicate w 0) (w - n))
      ∙ ap (λ (m : ℕ). take m (take n b ++ replicate w 0)) e

  -- one more byte, and what stands behind
  long_more : (n : ℕ) (b : List ℕ) → n < w → set (long w n b) n (get_or b n 0) ≡ long w (n + 1) b
  long_more n b h = long_is (n + 1) b (set (long w n b) n (get_or b n 0)) (length-set (long w n b) n (get_or b n 0) ∙ long_length n b) (λ i k l. go i k l (eqb i n) refl) (λ i k l. get_or-set_other (long w n b) n i (get_or b n 0) 0 (λ e. omega arith) ∙ long_out n b i k (omega arith))
    where
      go : (i : ℕ) → i < w → i < n + 1 → (z : Bool) → eqb i n ≡ z → get_or (set (long w n b) n (get_or b n 0)) i 0 ≡ get_or b i 0
      go i k l true e =
          let q = eqb-true i n e in
          rw q (get_or-set_same (long w n b) n (get_or b n 0) 0 (omega (arith, long_length n b)))
      go i k l false e =
          let q = eqb-false i n e in
          get_or-set_other (long w n b) n i (get_or b n 0) 0 q ∙ long_in n b i k (omega arith)

  long_behind : (n : ℕ) (b : List ℕ) → n ≤ w → drop n (long w n b) ≡ replicate (w - n) 0
  long_behind n b h = ext_get_or 0 (drop n (long w n b)) (replicate (w - n) 0) (omega (arith, length-drop n (long w n b), long_length n b, length-replicate {A = ℕ} (w - n) 0)) (λ i k. at i (omega (arith, length-drop n (long w n b), long_length n b)))
    where
      at : (i : ℕ) → i < w - n → get_or (drop n (long w n b)) i 0 ≡ get_or (replicate (w - n) 0) i 0
      at i k = get_or-drop n (long w n b) i 0 ∙ long_out n b (n + i) (omega arith) (omega arith) ∙ sym (get_or-replicate (w - n) i 0 0 k)

pub padded_more : (n : ℕ) (b : List ℕ) → n < 80 → set (padded n b) n (get_or b n 0) ≡ padded (n + 1) b
padded_more = long_more 80

-- What `righted` is, by the length.
pub righted_in : (f : Forecast) → f.length ≤ 80 → record { length = f.length; bytes = padded f.length f.bytes } ≡ righted f
unfolding righted
righted_in f h = rw (le-leb f.length 80 h)

-- The id's bytes, put down over zeros.
pub righted_over_zeros : (f : Forecast) {id : List ℕ} → id ≡ take f.length f.bytes → length id ≡ f.length → f.length ≤ 80 → record { length = f.length; bytes = id ++ drop f.length zeros } ≡ righted f
righted_over_zeros f {id} e h k =
    ap (λ (b : List ℕ). record { length = f.length; bytes = b })
    (ap (λ (x : List ℕ). x ++ drop f.length zeros) e ∙ long_over 80 f.length f.bytes (ap length (sym e) ∙ h) k)
    ∙ righted_in f k

module _ (f : Forecast) where
  pub righted_none : f.length ≡ 0 → no_forecast ≡ righted f
  unfolding righted
  righted_none e = rw e

  pub righted_over : 80 < f.length → no_forecast ≡ righted f
  unfolding righted
  righted_over h = rw (lt-leb f.length 80 h)

  -- its length is at most 80, its bytes are an id of that length, padded
  pub righted_short : (righted f).length ≤ 80
  unfolding righted
  righted_short = go (leb f.length 80) refl
    where
      go : (z : Bool) → leb f.length 80 ≡ z → (righted f).length ≤ 80
      go true e = rw e (leb-true f.length 80 e)
      go false e = rw e (omega arith)

  pub righted_padded : (righted f).bytes ≡ padded (righted f).length (righted f).bytes
  unfolding righted
  righted_padded = go (leb f.length 80) refl
    where
      go : (z : Bool) → leb f.length 80 ≡ z → (righted f).bytes ≡ padded (righted f).length (righted f).bytes
      go true e = rw e (long_again 80 f.length f.bytes)
      go false e = rw e

  pub righted_long : length (righted f).bytes ≡ 80
  righted_long = ap length righted_padded ∙ long_length 80 (righted f).length (righted f).bytes

  pub righted_behind : drop (righted f).length (righted f).bytes ≡ replicate (80 - (righted f).length) 0
  righted_behind = ap (drop (righted f).length) righted_padded ∙ long_behind 80 (righted f).length (righted f).bytes righted_short

  pub righted_again : righted (righted f) ≡ righted f
  righted_again =
      sym (righted_in (righted f) righted_short)
      ∙ ap (λ (b : List ℕ). record { length = (righted f).length; bytes = b }) (sym righted_padded)

-- The id decides what a forecast reads as: it is as long as the length says, and the rest is zeros.
own_length : (f : Forecast) → length (id_of f) ≡ (righted f).length
own_length f = length-take-le (righted f).length (righted f).bytes (omega (arith, righted_short f, righted_long f))

own_bytes : (f : Forecast) → (righted f).bytes ≡ padded (righted f).length (id_of f)
own_bytes f = righted_padded f ∙ long_own 80 (righted f).length (righted f).bytes

same_parts : {n m : ℕ} {a b : List ℕ} → n ≡ m → a ≡ b → ◌≡◌ {A = Forecast} (record { length = n; bytes = a }) (record { length = m; bytes = b })
same_parts e f = rw (e, f)

same_forecast_lem : (f : Forecast) → same_forecast f f ≡ true
same_forecast_lem f = rw (eq-eqb f.length f.length refl) (same_refl f.bytes)

pub same_own : (f g : Forecast) → id_of f ≡ id_of g → righted f ≡ righted g
same_own f g e =
    let n : (righted f).length ≡ (righted g).length = sym (own_length f) ∙ ap length e ∙ own_length g in
    let b : (righted f).bytes ≡ (righted g).bytes = own_bytes f ∙ ap (λ (x : List ℕ). long 80 (righted f).length x) e ∙ ap (λ (m : ℕ). long 80 m (id_of g)) n ∙ sym (own_bytes g) in
    same_parts n b

-- Two forecasts that are right are the same if their ids are.
pub same_ids : (f g : Forecast) → same_forecast (righted f) (righted g) ≡ same_id (id_of f) (id_of g)
same_ids f g = go (same_id (id_of f) (id_of g)) refl
  where
    go : (z : Bool) → same_id (id_of f) (id_of g) ≡ z → same_forecast (righted f) (righted g) ≡ z
    go true e = rw (same_own f g (same_true e)) (same_forecast_lem (righted g))
    go false e = other (same_forecast (righted f) (righted g)) refl
      where
        other : (z : Bool) → same_forecast (righted f) (righted g) ≡ z → same_forecast (righted f) (righted g) ≡ false
        other true h =
            let p = both_parts (eqb (righted f).length (righted g).length) (same_id (righted f).bytes (righted g).bytes) (subst T (sym h) tt) in
            let q = same_parts (eqb→eq (righted f).length (righted g).length p.0) (same_eq (righted f).bytes (righted g).bytes p.1) in
            let i : id_of f ≡ id_of g = ap (λ (r : Forecast). take r.length r.bytes) q in
            let z : true ≡ false = sym (ap (λ (x : List ℕ). same_id x (id_of g)) i ∙ same_refl (id_of g)) ∙ e in
            absurd (let x : ◌≡◌ {A = ℕ} 0 1 = cc in omega arith)
        other false h = h
