-- The walk over attributes that are known to be right: each name is found again, and each value ends at the next quote like its first.
use mathlib.Core.Path.{◌≡◌, refl, sym, ap, subst, ◌∙◌}
use mathlib.Core.List.{List, [], ◌∷◌}
use mathlib.Core.Bool.{Bool, true, false, ◌&&◌, ◌||◌, not}
use Prim.Native.Nat.{ℕ, ◌+◌, ◌-◌, ◌≤◌, ◌<◌}
use native.Mathlib.Omega.{arith}
use lib.ListN.{length, take, drop, get_or}
use lib.Dec.{leb}
use borrow.Author.Tests.{leb-true, leb-false}
use Rattle.exact.specs.Chain.{clash}
use Rattle.model.specs.Tests.{and_false, same_true}
use Rattle.model.proofs.Names.{start_not_glue}
use Rattle.model.proofs.Glue.{quote_not_glue}
use Rattle.grammar.specs.Bytes.{Bytes, every, same, among}
use Rattle.grammar.specs.Glue.{is_glue}
use Rattle.grammar.specs.Name.{name_byte}
use Rattle.scan.specs.Pieces.{Skipped}
use Rattle.tags.specs.Names.{Named, Lacks, Found, One, Rows, rows_none, rows_more, Stood, Repeats}
use Rattle.tags.proofs.CompareLaws.{part_long, part_at, every_at, same_not}

-- less, equal or greater
data Order (j k : ℕ) : Type 0 where
  before : j < k → Order j k
  here : j ≡ k → Order j k
  behind : k < j → Order j k

order : (j k : ℕ) → Order j k
order j k = go (leb j k) (leb k j) refl refl
  where
    go : (x y : Bool) → leb j k ≡ x → leb k j ≡ y → Order j k
    go true true e f = let a = leb-true j k e in let b = leb-true k j f in here (omega arith)
    go true false e f = before (leb-false k j f)
    go false y e f = behind (leb-false j k e)

-- a byte of glue
glue_at : (s : Bytes) (i r k : ℕ) → every is_glue (take (r - i) (drop i s)) ≡ true → i ≤ k → k < r → r ≤ length s → is_glue (get_or s k 0) ≡ true
glue_at s i r k h a b c =
    let n : length (take (r - i) (drop i s)) ≡ r - i = part_long s i (r - i) (omega arith) in
    let e : i + (k - i) ≡ k = omega arith in
    let f : is_glue (get_or (take (r - i) (drop i s)) (k - i) 0) ≡ true = every_at is_glue (take (r - i) (drop i s)) (k - i) h (omega (arith, n)) in
    sym (ap is_glue (part_at s i (r - i) (k - i) (omega arith) ∙ ap (λ (m : ℕ). get_or s m 0) e)) ∙ f

-- glue ends where the first byte is none
skip_is : (s : Bytes) (i j k : ℕ) → every is_glue (take (k - i) (drop i s)) ≡ true → i ≤ k → k < length s → is_glue (get_or s k 0) ≡ false → Skipped s i j → j ≡ k
skip_is s i j k h a b n w = go (order j k)
  where
    go : Order j k → j ≡ k
    go (before l) = clash (sym (glue_at s i k j h w.walked.from l (omega arith)) ∙ w.ends (omega arith))
    go (here e) = e
    go (behind l) = clash (sym (glue_at s i j k w.walked.begun a l w.walked.upto) ∙ n)

lacks_at : (q : ℕ) (s : Bytes) (i n k : ℕ) → Lacks q s i n → i ≤ k → k - i < n → get_or s k 0 ≡ q → ⊥
lacks_at q s i n k w a b f = let e : i + (k - i) ≡ k = omega arith in w (k - i) b (ap (λ (m : ℕ). get_or s m 0) e ∙ f)

-- the first byte that is q is the one before which there is none
found_is : (q : ℕ) (s : Bytes) (i stop r k : ℕ) → Found q s i stop r → i ≤ k → k < stop → Lacks q s i (k - i) → get_or s k 0 ≡ q → r ≡ k
found_is q s i stop r k w a b n f = go (order r k)
  where
    go : Order r k → r ≡ k
    go (before l) = let z = w.from in absurd (lacks_at q s i (k - i) r n z (omega arith) (w.is (omega arith)))
    go (here e) = e
    go (behind l) = absurd (lacks_at q s i (r - i) k w.lacks a (omega arith) f)

-- a whole name, compared by its bytes and the one behind them
module _ (s : Bytes) (a b n : ℕ) (h : b + n ≤ length s) (less : a < b) (is_name : Named s b n) (name : Bytes) (is : name ≡ take (length name) (drop a s)) (named : Named s a (length name))
    (ends : name_byte (get_or s (a + length name) 0) ≡ false) where
  abbrev x : Bytes
  x = take n (drop b s)

  x_long : length x ≡ n
  x_long = part_long s b n h

  differs : (length name ≡ n → ⊥) → same name x ≡ false
  differs f = same_not name x (λ e. f (e ∙ x_long))

  shorter : length name < n → same (take n (drop a s)) x ≡ false
  shorter l = go (same (take n (drop a s)) (take n (drop b s))) refl
    where
      go : (z : Bool) → same (take n (drop a s)) (take n (drop b s)) ≡ z → same (take n (drop a s)) (take n (drop b s)) ≡ false
      go false e = e
      go true e =
          let q : get_or s (b + length name) 0 ≡ get_or s (a + length name) 0
          = sym (part_at s b n (length name) l) ∙ ap (λ (y : Bytes). get_or y (length name) 0) (same_true (take n (drop a s)) (take n (drop b s)) e) ∙ part_at s a n (length name) l in
          clash (sym (is_name (length name) l) ∙ ap name_byte q ∙ ends)

  pub stands_is : not (name_byte (get_or s (a + n) 0)) && same (take n (drop a s)) x ≡ same name x
  stands_is = go (order (length name) n)
    where
      go : Order (length name) n → not (name_byte (get_or s (a + n) 0)) && same (take n (drop a s)) x ≡ same name x
      go (before l) = and_false (not (name_byte (get_or s (a + n) 0))) (same (take n (drop a s)) x) (shorter l) ∙ sym (differs (λ e. omega (arith, e, l)))
      go (here e) =
          let f : name_byte (get_or s (a + n) 0) ≡ false = ap (λ (k : ℕ). name_byte (get_or s (a + k) 0)) (sym e) ∙ ends in
          let i : take n (drop a s) ≡ name = ap (λ (k : ℕ). take k (drop a s)) (sym e) ∙ sym is in
          ap (λ (z : Bool). not z && same (take n (drop a s)) x) f ∙ ap (λ (y : Bytes). same y x) i
      go (behind l) = ap (λ (z : Bool). not z && same (take n (drop a s)) x) (named n l) ∙ sym (differs (λ e. omega (arith, e, l)))

-- attributes that stand from a place up to `end`; their names, the first one first
pub data Ahead (s : Bytes) (end : ℕ) : ℕ → List Bytes → Type 0 where
  ahead_none : {i : ℕ} → i ≡ end → Ahead s end i []
  ahead_more : {i e : ℕ} {name : Bytes} {l : List Bytes} → One s i e name → Ahead s end e l → Ahead s end i (name ∷ l)

one_less : {s : Bytes} {i e : ℕ} {name : Bytes} (o : One s i e name) → (i ≤ o.start) × (o.start < e) × (o.start < length s)
one_less o = let a = o.begins in let b = o.inside in let z = o.apart in let c = o.order in let d = o.far in let f = o.upto in (a, omega arith, omega arith)

ahead_le : {s : Bytes} {end i : ℕ} {l : List Bytes} → Ahead s end i l → i ≤ end
ahead_le (ahead_none e) = omega arith
ahead_le (ahead_more o a) = let x = one_less o in let y = ahead_le a in omega (arith, x.0, x.1, y)

or_turn : (a b c : Bool) → a || (b || c) ≡ (b || a) || c
or_turn true true c = refl
or_turn true false c = refl
or_turn false true c = refl
or_turn false false c = refl

or_none : (a : Bool) → a || false ≡ a
or_none true = refl
or_none false = refl

rows_ahead : {s : Bytes} {first end i : ℕ} {ns ms : List Bytes} → Rows s first i ns → Ahead s end i ms → (l : List Bytes) × Ahead s end first l × ((x : Bytes) → among l x ≡ among ns x || among ms x)
rows_ahead {s} {end = end} {ms = ms} (rows_none e) a = (ms, subst (λ (i : ℕ). Ahead s end i ms) e a, λ x. refl)
rows_ahead {ms = ms} (rows_more {name = n} {l = ns} r o) a = let (l, b, f) = rows_ahead r (ahead_more o a) in (l, b, λ x. f x ∙ or_turn (among ns x) (same n x) (among ms x))

-- of all names those that are left from i on decide
pub record Left (s : Bytes) (end : ℕ) (names : List Bytes) (x : Bytes) (i : ℕ) : Type 0 where
  pub left : List Bytes
  pub ahead : Ahead s end i left
  pub same_so : among names x ≡ among left x

pub record Walk (s : Bytes) (first at to i : ℕ) : Type 0 where
  pub left : (h : Stood s first at) → Left s h.upto h.names (take (to - at) (drop at s)) i

pub walk_start : (s : Bytes) (first at to : ℕ) → Walk s first at to first
walk_start s first at to = record { left = λ h. go h (rows_ahead h.rows (ahead_none refl)) }
  where
    go : (h : Stood s first at) → (l : List Bytes) × Ahead s h.upto first l × ((x : Bytes) → among l x ≡ among h.names x || false) → Left s h.upto h.names (take (to - at) (drop at s)) first
    go h (l, b, f) = record { left = l; ahead = b; same_so = sym (f (take (to - at) (drop at s)) ∙ or_none (among h.names (take (to - at) (drop at s)))) }

-- an attribute stands at i, its name at j, and others behind it
record Here (s : Bytes) (end : ℕ) (names : List Bytes) (x : Bytes) (i j : ℕ) : Type 0 where
  name : Bytes
  rest : List Bytes
  e : ℕ
  one : One s i e name
  ahead : Ahead s end e rest
  is : j ≡ one.start
  same_so : among names x ≡ same name x || among rest x

module _ (s : Bytes) (first at to : ℕ) where
  pub walk_in : {i : ℕ} → Stood s first at → Walk s first at to i → i ≤ length s
  walk_in h w = let a = ahead_le (w.left h).ahead in let b = h.from in let c = h.inside in omega arith

  bare : Stood s first at → is_glue (get_or s at 0) ≡ false
  bare h = start_not_glue (get_or s at 0) h.starts

  module _ (i j : ℕ) (w : Walk s first at to i) (k : Skipped s i j) where
    pub walk_none : at ≤ j → Repeats s first at to false
    walk_none n = record { says = λ h. go h (w.left h).left (w.left h).ahead (w.left h).same_so }
      where
        go : (h : Stood s first at) (l : List Bytes) → Ahead s h.upto i l → among h.names (take (to - at) (drop at s)) ≡ among l (take (to - at) (drop at s)) → false ≡ among h.names (take (to - at) (drop at s))
        go h [] a q = sym q
        go h (m ∷ l) (ahead_more o a) q =
            let (u, v, t) = one_less o in
            let z = skip_is s i j o.start o.glued u t o.bare k in
            absurd (omega (arith, v, z, n, ahead_le a, h.from))

    module _ (n : j < at) where
      here_at : (h : Stood s first at) → Here s h.upto h.names (take (to - at) (drop at s)) i j
      here_at h = go (w.left h).left (w.left h).ahead (w.left h).same_so
        where
          go : (l : List Bytes) → Ahead s h.upto i l → among h.names (take (to - at) (drop at s)) ≡ among l (take (to - at) (drop at s)) → Here s h.upto h.names (take (to - at) (drop at s)) i j
          go [] (ahead_none e) q =
              let z = skip_is s h.upto j at h.glued h.from h.inside (bare h) (subst (λ (m : ℕ). Skipped s m j) e k) in
              absurd (omega (arith, z, n))
          go (m ∷ l) (ahead_more {e = e} o a) q =
              let (u, v, t) = one_less o in
              record { name = m; rest = l; e = e; one = o; ahead = a; is = skip_is s i j o.start o.glued u t o.bare k; same_so = q }

      module _ (o₁ : at ≤ to) (o₂ : to ≤ length s) (o₃ : Named s at (to - at)) where
        compared : {end : ℕ} {names : List Bytes} → (v : Here s end names (take (to - at) (drop at s)) i j)
            → not (name_byte (get_or s (j + (to - at)) 0)) && same (take (to - at) (drop j s)) (take (to - at) (drop at s)) ≡ same v.name (take (to - at) (drop at s))
        compared v =
            let o = v.one in
            subst (λ (m : ℕ). not (name_byte (get_or s (m + (to - at)) 0)) && same (take (to - at) (drop m s)) (take (to - at) (drop at s)) ≡ same v.name (take (to - at) (drop at s))) (sym v.is)
            (stands_is s o.start at (to - at) (omega arith) (omega (arith, v.is, n)) o₃ v.name o.name_is o.named o.name_ends)

        pub walk_found : true ≡ not (name_byte (get_or s (j + (to - at)) 0)) && same (take (to - at) (drop j s)) (take (to - at) (drop at s)) → Repeats s first at to true
        walk_found f = record { says = λ h. let v = here_at h in sym (v.same_so ∙ ap (λ (z : Bool). z || among v.rest (take (to - at) (drop at s))) (sym (compared v) ∙ sym f)) }

        module _ (e : ℕ) (f : Found 61 s j at e) where
          equals_at : {end : ℕ} {names : List Bytes} → end ≤ at → (v : Here s end names (take (to - at) (drop at s)) i j) → e ≡ v.one.equals
          equals_at le v =
              let o = v.one in
              let p = o.inside in let z = o.apart in let q = o.order in let r = o.far in let t = ahead_le v.ahead in let u = v.is in
              found_is 61 s j at e o.equals f (omega arith) (omega arith) (λ m l. subst (λ (z : ℕ). get_or s (z + m) 0 ≡ 61 → ⊥) (sym u) (o.unequal m (omega arith))) o.equal

          pub walk_equals : Stood s first at → e + 1 ≤ length s
          walk_equals h =
              let v = here_at h in
              let p = equals_at h.from v in let z = v.one.apart in let q = v.one.order in let r = v.one.far in let t = v.one.upto in
              omega arith

          module _ (a : ℕ) (k' : Skipped s (e + 1) a) where
            opens_at : {end : ℕ} {names : List Bytes} → end ≤ at → (v : Here s end names (take (to - at) (drop at s)) i j) → a ≡ v.one.opens
            opens_at le v =
                let o = v.one in
                let p = equals_at le v in let z = o.apart in let q = o.order in let r = o.far in let t = o.upto in
                skip_is s (e + 1) a o.opens (subst (λ (m : ℕ). every is_glue (take (o.opens - (m + 1)) (drop (m + 1) s)) ≡ true) (sym p) o.spaced) (omega arith) (omega arith) (quote_not_glue (get_or s o.opens 0) o.quote) k'

            pub walk_opens : Stood s first at → a < at
            walk_opens h =
                let v = here_at h in
                let p = opens_at h.from v in let q = v.one.order in let r = v.one.far in let t = ahead_le v.ahead in let u = h.from in
                omega arith

            module _ (x : ℕ) (g : Found (get_or s a 0) s (a + 1) at x) where
              shuts_at : {end : ℕ} {names : List Bytes} → end ≤ at → (v : Here s end names (take (to - at) (drop at s)) i j) → a ≡ v.one.opens → x ≡ v.one.shuts
              shuts_at le v p =
                  let o = v.one in
                  let q = o.order in let r = o.far in let t = ahead_le v.ahead in
                  found_is (get_or s a 0) s (a + 1) at x o.shuts g (omega arith) (omega arith)
                  (λ m l. subst (λ (z : ℕ). get_or s (z + 1 + m) 0 ≡ get_or s z 0 → ⊥) (sym p) (o.unshut m (omega arith)))
                  (o.shut ∙ ap (λ (z : ℕ). get_or s z 0) (sym p))

              pub walk_on : false ≡ not (name_byte (get_or s (j + (to - at)) 0)) && same (take (to - at) (drop j s)) (take (to - at) (drop at s)) → Walk s first at to (x + 1)
              walk_on b = record { left = λ h. go h (here_at h) }
                where
                  go : (h : Stood s first at) → Here s h.upto h.names (take (to - at) (drop at s)) i j → Left s h.upto h.names (take (to - at) (drop at s)) (x + 1)
                  go h v =
                      let p = shuts_at h.from v (opens_at h.from v) in
                      let q : v.e ≡ x + 1 = sym v.one.far ∙ ap (λ (m : ℕ). m + 1) (sym p) in
                      record {
                        left = v.rest;
                        ahead = subst (λ (m : ℕ). Ahead s h.upto m v.rest) q v.ahead;
                        same_so = v.same_so ∙ ap (λ (z : Bool). z || among v.rest (take (to - at) (drop at s))) (sym (compared v) ∙ sym b);
                      }
