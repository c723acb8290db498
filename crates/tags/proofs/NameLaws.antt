-- The steps of a name that is not among given ones.
use mathlib.Core.Path.{◌≡◌, refl, sym, ap, subst, ◌∙◌}
use mathlib.Core.List.{List, [], ◌∷◌, ◌++◌, append_assoc, append-nil}
use mathlib.Core.Logic.{inl, inr}
use mathlib.Core.Bool.{Bool, true, false, ◌&&◌, ◌||◌}
use Prim.Native.Nat.{ℕ, zero, suc, ◌+◌, ◌-◌, ◌≤◌, ◌<◌}
use native.Mathlib.Omega.{arith}
use native.Mathlib.Numerals.{add-one}
use lib.ListN.{length, length-append, take, drop, get_or, drop_of_length-le}
use lib.Seq.{drop-cons, take_at}
use lib.Dec.{eqb, leb, ltb}
use borrow.Author.Tests.{leb-true, leb-false, le-leb, lt-leb}
use Rattle.model.specs.Tests.{and_left, and_right, and_both, and_false, or_left, every_left, every_append}
use Rattle.model.specs.Names.{live, new}
use Rattle.model.proofs.Names.{glue_not_name, of_live, live_shut}
use Rattle.model.specs.Attributes.{State, equals_p, attr_p}
use Rattle.exact.specs.Exact.{Out, bad, Reader}
use Rattle.exact.specs.Chain.{clash}
use Rattle.exact.specs.Byte.{pick, other}
use Rattle.exact.specs.Token.{token_p}
use Rattle.grammar.specs.Bytes.{Bytes, within, digit, every, non_empty, among}
use Rattle.grammar.specs.Glue.{is_glue}
use Rattle.grammar.specs.Name.{letter, name_start, name_byte, shaped}
use Rattle.tags.specs.Names.{Part, Run, Named, Marked, Ready, Meets, NameTo, Fresh, FreshSays}
use Rattle.tags.proofs.CompareLaws.{part_at, every_at}
use Rattle.std.specs.Prelude.{Ok, Err}
use Rattle.scan.specs.Pieces.{Step}
use Rattle.scan.specs.declared.Stop.TheVariants.{Open, Bad}

shape_grow : (n : Bytes) (b : ℕ) → 0 < length n → shaped n ≡ true → name_byte b ≡ true → shaped (n ++ b ∷ []) ≡ true
shape_grow [] b h k f = absurd (omega arith)
shape_grow (x ∷ n) b h k f = and_both (name_start x) (every name_byte (n ++ b ∷ [])) (and_left (name_start x) (every name_byte n) k) (every_append name_byte n (b ∷ []) (and_right (name_start x) (every name_byte n) k) (rw f))

part_is : (x y : Bytes) (n : ℕ) → length x ≡ n → x ≡ take n (x ++ y)
part_is x y n h = sym (take_at x y n h)

pub part_first : (s : Bytes) (at : ℕ) → at < length s → name_start (get_or s at 0) ≡ true → Part s at (at + 1)
part_first s at h f =
    let d : at + 1 - at ≡ 1 = omega arith in
    let e : drop at s ≡ (get_or s at 0 ∷ []) ++ drop (at + 1) s = rw (add-one, drop-cons s at 0 h) in
    record { name = get_or s at 0 ∷ []; from = omega arith; upto = omega arith; short = omega arith; is = rw (d, drop-cons s at 0 h); size = omega arith; shape = rw f; split = e }

pub part_more : (s : Bytes) (at i : ℕ) → Part s at i → i < length s → i - at < 63 → name_byte (get_or s i 0) ≡ true → Part s at (i + 1)
part_more s at i w h k f =
    let a = w.from in
    let b = w.size in
    let e : drop at s ≡ (w.name ++ get_or s i 0 ∷ []) ++ drop (i + 1) s = w.split ∙ rw (add-one, append_assoc, drop-cons s i 0 h) in
    let l : length (w.name ++ get_or s i 0 ∷ []) ≡ i + 1 - at = rw length-append (omega arith) in
    record {
      name = w.name ++ get_or s i 0 ∷ [];
      from = omega arith;
      upto = omega arith;
      short = omega arith;
      is = rw e (part_is (w.name ++ get_or s i 0 ∷ []) (drop (i + 1) s) (i + 1 - at) l);
      size = rw length-append (omega arith);
      shape = shape_grow w.name (get_or s i 0) (omega arith) w.shape f;
      split = e;
    }

pub part_many : (s : Bytes) (at n i : ℕ) → Part s at i → i + n ≤ length s → i + n ≤ at + 63 → Named s i n → Part s at (i + n)
part_many s at zero i w h k p = subst (λ (x : ℕ). Part s at x) (omega arith) w
part_many s at (suc n) i w h k p =
    let z : i + 0 ≡ i = omega arith in
    let y = w.from in
    let f : name_byte (get_or s i 0) ≡ true = rw z at (p 0 (omega arith)) in
    subst (λ (x : ℕ). Part s at x) (omega arith) (part_many s at n (i + 1) (part_more s at i w (omega arith) (omega arith) f) (omega arith) (omega arith) (λ j l. let e : i + suc j ≡ i + 1 + j = omega arith in rw e at (p (suc j) (omega arith))))

shaped_every : (n : Bytes) → shaped n ≡ true → every name_byte n ≡ true
unfolding name_byte
shaped_every [] h = refl
shaped_every (b ∷ n) h = and_both (name_byte b) (every name_byte n) (or_left (name_start b) _ (and_left (name_start b) (every name_byte n) h)) (and_right (name_start b) (every name_byte n) h)

part_named : (s : Bytes) (at i : ℕ) → Part s at i → Named s at (i - at)
part_named s at i w k l =
    let a = w.size in
    let b : name_byte (get_or w.name k 0) ≡ true = every_at name_byte w.name k (shaped_every w.name w.shape) (omega arith) in
    sym (ap name_byte (ap (λ (y : Bytes). get_or y k 0) w.is ∙ part_at s at (i - at) k l)) ∙ b

-- what is a name up to i, and at i too
named_more : (s : Bytes) (at i : ℕ) → at ≤ i → Named s at (i - at) → name_byte (get_or s i 0) ≡ true → Named s at (i + 1 - at)
named_more s at i h w f k l = go (leb (suc k) (i - at)) refl
  where
    go : (z : Bool) → leb (suc k) (i - at) ≡ z → name_byte (get_or s (at + k) 0) ≡ true
    go true e = w k (leb-true (suc k) (i - at) e)
    go false e = let m = leb-false (suc k) (i - at) e in let z : at + k ≡ i = omega arith in ap (λ (j : ℕ). name_byte (get_or s j 0)) z ∙ f

-- while there is room, the names seen do not matter
pub run_on : {A : Type 0} (earlier : List Bytes) (q : Bytes → Reader A) (n m x : Bytes) → shaped (n ++ m) ≡ true → length (n ++ m) ≤ 63 → token_p (live earlier) (new earlier) q n (m ++ x) ≡ token_p (live earlier) (new earlier) q (n ++ m) x
run_on earlier q n [] x h k = rw append-nil
run_on earlier q n (b ∷ m) x h k =
    let e : (n ++ b ∷ []) ++ m ≡ n ++ b ∷ m = append_assoc n (b ∷ []) m in
    let h' : shaped ((n ++ b ∷ []) ++ m) ≡ true = rw e h in
    let k' : length ((n ++ b ∷ []) ++ m) ≤ 63 = rw e k in
    let s : shaped (n ++ b ∷ []) ≡ true = shape_cut (n ++ b ∷ []) m h' in
    let l : length (n ++ b ∷ []) ≤ 63 = omega (arith, k', length-append (n ++ b ∷ []) m) in
    let i : live earlier (n ++ b ∷ []) ≡ true = of_live earlier (n ++ b ∷ []) (record { shape = s; fits = omega arith; room = inl (omega arith) }) in
    rw i (run_on earlier q (n ++ b ∷ []) m x h' k' ∙ rw e)
  where
    shape_cut : (n m : Bytes) → shaped (n ++ m) ≡ true → shaped n ≡ true
    shape_cut [] m h = refl
    shape_cut (x ∷ n) m h = and_both (name_start x) (every name_byte n) (and_left (name_start x) (every name_byte (n ++ m)) h) (every_left name_byte n m (and_right (name_start x) (every name_byte (n ++ m)) h))

-- at the last place that a name may have, or at the end
pub run_end : (s : Bytes) (at i k : ℕ) → Part s at i → k ≤ i → (k < length s → k ≡ at + 63) → Run s at i
run_end s at i k w h e = record { part = w; stops = λ l f. go (leb (length s) k) refl l }
  where
    go : (y : Bool) → leb (length s) k ≡ y → i < length s → i ≡ at + 63
    go true q l = let m = leb-true (length s) k q in absurd (omega arith)
    go false q l = let m = e (leb-false (length s) k q) in let z = w.short in omega arith

pub run_stop : (s : Bytes) (at i : ℕ) → Part s at i → name_byte (get_or s i 0) ≡ false → Run s at i
run_stop s at i w h = record { part = w; stops = λ k f. clash (sym f ∙ h) }

not_glue : (b : ℕ) → name_byte b ≡ true → is_glue b ≡ false
not_glue b h = go (is_glue b) refl
  where
    go : (z : Bool) → is_glue b ≡ z → is_glue b ≡ false
    go false e = e
    go true e = clash (sym h ∙ glue_not_name b e)

not_equals : (b : ℕ) → name_byte b ≡ true → eqb 61 b ≡ false
unfolding name_byte name_start letter within digit
not_equals b h = other name_byte 61 refl b h

equals_bad : (may : Bool) (st : State) (g n : Bytes) (b : ℕ) (r : Bytes) → name_byte b ≡ true → equals_p may st g n (b ∷ r) ≡ bad (b ∷ r)
unfolding equals_p
equals_bad may st g n b r h = rw (not_glue b h, not_equals b h)

new_no : (earlier : List Bytes) (n : Bytes) → among earlier n ≡ true → new earlier n ≡ false
unfolding new
new_no earlier n h = and_false (non_empty n) _ (rw h)

new_yes : (earlier : List Bytes) (n : Bytes) → 0 < length n → among earlier n ≡ false → new earlier n ≡ true
unfolding new
new_yes earlier [] h k = absurd (omega arith)
new_yes earlier (x ∷ n) h k = rw k

live_no : (earlier : List Bytes) (n : Bytes) → 64 ≤ length n → among earlier n ≡ true → live earlier n ≡ false
unfolding live
live_no earlier n h k = and_false (shaped n) _ (and_false (leb (length n) 64) _ (rw (lt-leb (length n) 63 h, k)))

live_long : (earlier : List Bytes) (n : Bytes) → 64 < length n → live earlier n ≡ false
unfolding live
live_long earlier n h = and_false (shaped n) _ (rw (lt-leb (length n) 64 h))

module _ (earlier : List Bytes) (s : Bytes) (at i : ℕ) (w : Run s at i) where
  name_at_own : (may : Bool) (st : State) (g : Bytes) → attr_p may st g (drop at s) ≡ token_p (live st.seen) (new st.seen) (equals_p may st g) w.part.name (drop i s)
  unfolding attr_p
  name_at_own may st g = let a = w.part.size in let b = w.part.short in
      rw w.part.split (run_on st.seen (equals_p may st g) [] w.part.name (drop i s) w.part.shape (omega arith))

  name_at_lem : (may : Bool) (st : State) (g : Bytes) → st.seen ≡ earlier → attr_p may st g (drop at s) ≡ token_p (live earlier) (new earlier) (equals_p may st g) w.part.name (drop i s)
  name_at_lem may st g e = subst (λ (l : List Bytes). attr_p may st g (drop at s) ≡ token_p (live l) (new l) (equals_p may st g) w.part.name (drop i s)) e (name_at_own may st g)

  fresh_end : length s ≤ i → Fresh s earlier at (Err Open)
  fresh_end h = record { says = λ may st g e. name_at_lem may st g e ∙ rw (drop_of_length-le s h) }

  module _ (h : i < length s) where
    fresh_again : name_byte (get_or s i 0) ≡ false → among earlier (take (i - at) (drop at s)) ≡ true → Fresh s earlier at (Err (Bad i))
    fresh_again f a = let x = w.part.from in
        let n : new earlier w.part.name ≡ false = new_no earlier w.part.name (rw w.part.is a) in
        record { says = λ may st g e. (omega arith, h, name_at_lem may st g e ∙ rw (drop-cons s i 0 h, live_shut earlier w.part.name (get_or s i 0) f, n)) }

    fresh_done : name_byte (get_or s i 0) ≡ false → among earlier (take (i - at) (drop at s)) ≡ false → Fresh s earlier at (Ok i)
    fresh_done f a = let x = w.part.from in let y = w.part.size in
        let n : new earlier w.part.name ≡ true = new_yes earlier w.part.name (omega arith) (rw w.part.is a) in
        record { says = record { far = x; upto = h; named = part_named s at i w.part; ends = f; reads = λ may st g e. name_at_lem may st g e ∙ rw (← w.part.is, drop-cons s i 0 h, live_shut earlier w.part.name (get_or s i 0) f, n) } }

    module _ (f : name_byte (get_or s i 0) ≡ true) where
      name2 : Bytes
      name2 = w.part.name ++ get_or s i 0 ∷ []

      long2 : length name2 ≡ 64
      unfolding name2
      long2 = let a = w.part.size in let b = w.stops h f in rw length-append (omega arith)

      is2 : name2 ≡ take (i + 1 - at) (drop at s)
      unfolding name2
      is2 = let a = w.part.size in
          let l : length (w.part.name ++ get_or s i 0 ∷ []) ≡ i + 1 - at = rw length-append (omega arith) in
          let e : drop at s ≡ (w.part.name ++ get_or s i 0 ∷ []) ++ drop (i + 1) s = w.part.split ∙ rw (add-one, append_assoc, drop-cons s i 0 h) in
          rw e (part_is (w.part.name ++ get_or s i 0 ∷ []) (drop (i + 1) s) (i + 1 - at) l)

      fresh-full : among earlier (take (i + 1 - at) (drop at s)) ≡ true → Fresh s earlier at (Err (Bad i))
      unfolding name2
      fresh-full a = let x = w.part.from in
          let l : live earlier (w.part.name ++ get_or s i 0 ∷ []) ≡ false = live_no earlier name2 (let z = long2 in omega arith) (rw is2 a) in
          record { says = λ may st g e. (omega arith, h, name_at_lem may st g e ∙ rw (drop-cons s i 0 h, l, equals_bad may st g w.part.name (get_or s i 0) (drop (suc i) s) f) (go (new earlier w.part.name) (bad (get_or s i 0 ∷ drop (suc i) s)))) }
        where
          go : {A : Type 0} (z : Bool) (o : Out A) → pick z o o ≡ o
          go true o = refl
          go false o = refl

      module _ (a : among earlier (take (i + 1 - at) (drop at s)) ≡ false) where
        name-full-at : (may : Bool) (st : State) (g : Bytes) → st.seen ≡ earlier → attr_p may st g (drop at s) ≡ token_p (live earlier) (new earlier) (equals_p may st g) name2 (drop (i + 1) s)
        unfolding name2
        name-full-at may st g e =
            let x = w.part.from in
            let y = w.part.size in
            let l : live earlier (w.part.name ++ get_or s i 0 ∷ []) ≡ true = of_live earlier (w.part.name ++ get_or s i 0 ∷ []) (record { shape = shape_grow w.part.name (get_or s i 0) (omega arith) w.part.shape f; fits = let z = long2 in omega arith; room = inr (rw is2 a) }) in
            name_at_lem may st g e ∙ rw (add-one, drop-cons s i 0 h, l)

        fresh-full-end : length s - i < 2 → Fresh s earlier at (Err Open)
        fresh-full-end k = let j : length s ≤ i + 1 = omega arith in record { says = λ may st g e. name-full-at may st g e ∙ rw (drop_of_length-le s j) }

        module _ (k : 2 ≤ length s - i) where
          last-at : (may : Bool) (st : State) (g : Bytes) → st.seen ≡ earlier → attr_p may st g (drop at s) ≡ equals_p may st g (take (i + 1 - at) (drop at s)) (drop (i + 1) s)
          last-at may st g e =
              let j : i + 1 < length s = omega arith in
              let z = long2 in
              let n : new earlier name2 ≡ true = new_yes earlier name2 (omega arith) (rw is2 a) in
              let l : live earlier (name2 ++ get_or s (i + 1) 0 ∷ []) ≡ false = live_long earlier (name2 ++ get_or s (i + 1) 0 ∷ []) (rw length-append (omega arith)) in
              name-full-at may st g e ∙ rw (← is2, drop-cons s (i + 1) 0 j, l, n)

          fresh-long : name_byte (get_or s (i + 1) 0) ≡ true → Fresh s earlier at (Err (Bad (i + 1)))
          fresh-long u = let x = w.part.from in let j : i + 1 < length s = omega arith in
              record { says = λ may st g e. (omega arith, j, last-at may st g e ∙ rw (drop-cons s (i + 1) 0 j) (equals_bad may st g (take (i + 1 - at) (drop at s)) (get_or s (i + 1) 0) (drop (suc (i + 1)) s) u)) }

          fresh-last : name_byte (get_or s (i + 1) 0) ≡ false → Fresh s earlier at (Ok (i + 1))
          fresh-last u = let x = w.part.from in
              record { says = record { far = omega arith; upto = omega arith; named = named_more s at i (omega arith) (part_named s at i w.part) f; ends = u; reads = λ may st g e. last-at may st g e } }

-- the name that runs up to i, as a whole
module _ (s : Bytes) (first at i to : ℕ) (w : Run s at i) (h : i < length s) (t : NameTo s i to) where
  pub name_whole : (at < to) × (to ≤ length s) × Named s at (to - at)
  name_whole = go t
    where
      go : NameTo s i to → (at < to) × (to ≤ length s) × Named s at (to - at)
      go (inl (e, f)) = let x = w.part.from in (omega arith, omega arith, subst (λ (m : ℕ). Named s at (m - at)) (sym e) (part_named s at i w.part))
      go (inr (e, f)) = let x = w.part.from in (omega arith, omega arith, subst (λ (m : ℕ). Named s at (m - at)) (sym e) (named_more s at i (omega arith) (part_named s at i w.part) f))

  fresh_met : (earlier : List Bytes) → among earlier (take (to - at) (drop at s)) ≡ true → Fresh s earlier at (Err (Bad i))
  fresh_met earlier a = go t
    where
      go : NameTo s i to → Fresh s earlier at (Err (Bad i))
      go (inl (e, f)) = fresh_again earlier s at i w h f (subst (λ (m : ℕ). among earlier (take (m - at) (drop at s)) ≡ true) e a)
      go (inr (e, f)) = fresh-full earlier s at i w h f (subst (λ (m : ℕ). among earlier (take (m - at) (drop at s)) ≡ true) e a)

  module _ (marks marks' : List ℕ) where
    pub says_met : {r : Bool} → Meets s first at to marks marks' r → r ≡ true → FreshSays s first at marks marks' (Err (Bad i))
    says_met m q = record { says = λ r. fresh_met r.stood.names (sym (m.says r) ∙ q); marked = λ r e z. absurd (let y : ◌≡◌ {A = ℕ} 0 1 = cc in omega arith); long = m.long }

    module _ {r : Bool} (m : Meets s first at to marks marks' r) (q : r ≡ false) where
      unseen : (d : Ready s first marks at) (n : ℕ) → to ≡ n → among d.stood.names (take (n - at) (drop at s)) ≡ false
      unseen d n e = subst (λ (j : ℕ). among d.stood.names (take (j - at) (drop at s)) ≡ false) e (sym (m.says d) ∙ q)

      marked-to : (d : Ready s first marks at) (n : ℕ) → to ≡ n → (e : ℕ) → ◌≡◌ {A = Step} (Ok n) (Ok e) → Marked marks' (take (e - at) (drop at s) ∷ d.stood.names)
      marked-to d n z e u = let v : n ≡ e = cc in subst (λ (j : ℕ). Marked marks' (take (j - at) (drop at s) ∷ d.stood.names)) (z ∙ v) (m.marked d)

      pub says-short : to ≡ i → FreshSays s first at marks marks' (Ok i)
      says-short z = record { says = λ d. go d t; marked = λ d e u. marked-to d i z e u; long = m.long }
        where
          go : (d : Ready s first marks at) → NameTo s i to → Fresh s d.stood.names at (Ok i)
          go d (inl (e, f)) = fresh_done d.stood.names s at i w h f (unseen d i z)
          go d (inr (e, f)) = absurd (omega (arith, z, e))

      module _ (z : to ≡ i → ⊥) where
        is-full : (to ≡ i + 1) × (name_byte (get_or s i 0) ≡ true)
        is-full = go t
          where
            go : NameTo s i to → (to ≡ i + 1) × (name_byte (get_or s i 0) ≡ true)
            go (inl (e, f)) = absurd (z e)
            go (inr x) = x

        pub says-full-end : length s - i < 2 → FreshSays s first at marks marks' (Err Open)
        says-full-end k =
            record { says = λ d. fresh-full-end d.stood.names s at i w h is-full.1 (unseen d (i + 1) is-full.0) k; marked = λ d e u. absurd (let y : ◌≡◌ {A = ℕ} 0 1 = cc in omega arith); long = m.long }

        module _ (k : 2 ≤ length s - i) where
          pub says_long : name_byte (get_or s (i + 1) 0) ≡ true → FreshSays s first at marks marks' (Err (Bad (i + 1)))
          says_long f =
              record { says = λ d. fresh-long d.stood.names s at i w h is-full.1 (unseen d (i + 1) is-full.0) k f; marked = λ d e u. absurd (let y : ◌≡◌ {A = ℕ} 0 1 = cc in omega arith); long = m.long }

          pub says_last : name_byte (get_or s (i + 1) 0) ≡ false → FreshSays s first at marks marks' (Ok (i + 1))
          says_last f =
              record { says = λ d. fresh-last d.stood.names s at i w h is-full.1 (unseen d (i + 1) is-full.0) k f; marked = λ d e u. marked-to d (i + 1) is-full.0 e u; long = m.long }

pub says_end : (s : Bytes) (first at i : ℕ) (marks : List ℕ) → Run s at i → length s ≤ i → FreshSays s first at marks marks (Err Open)
says_end s first at i marks w h = record { says = λ d. fresh_end d.stood.names s at i w h; marked = λ d e u. absurd (let y : ◌≡◌ {A = ℕ} 0 1 = cc in omega arith); long = refl }

pub small_test : (b : ℕ) → ltb 96 b && ltb b 123 ≡ true → name_byte b ≡ true
unfolding name_byte name_start letter within
small_test b k =
    let x = leb-true 97 b (and_left (ltb 96 b) (ltb b 123) k) in
    let y = leb-true (suc b) 123 (and_right (ltb 96 b) (ltb b 123) k) in
    rw (le-leb 65 b (omega arith), lt-leb b 90 (omega arith), le-leb 97 b x, le-leb b 122 (omega arith))

large_test : (b : ℕ) → ltb 64 b && ltb b 91 ≡ true → name_byte b ≡ true
unfolding name_byte name_start letter within
large_test b k =
    let x = leb-true 65 b (and_left (ltb 64 b) (ltb b 91) k) in
    let y = leb-true (suc b) 91 (and_right (ltb 64 b) (ltb b 91) k) in
    rw (le-leb 65 b x, le-leb b 90 (omega arith))

pub letter_test : (b : ℕ) → (ltb 64 b && ltb b 91) || (ltb 96 b && ltb b 123) ≡ true → name_byte b ≡ true
letter_test b h = go (ltb 64 b && ltb b 91) refl h
  where
    go : (z : Bool) → ltb 64 b && ltb b 91 ≡ z → z || (ltb 96 b && ltb b 123) ≡ true → name_byte b ≡ true
    go true e k = large_test b e
    go false e k = small_test b k
