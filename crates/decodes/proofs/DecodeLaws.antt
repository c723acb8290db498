-- A value walked to its end: how long it reads, and its bytes put one behind the other.
use mathlib.Core.Path.{◌≡◌, refl, sym, ap, subst, ◌∙◌}
use mathlib.Core.List.{List, [], ◌∷◌, ◌++◌, append_assoc}
use Prim.Native.Nat.{ℕ, suc, ◌+◌, ◌≤◌, ◌<◌, min}
use native.Mathlib.Omega.{arith}
use native.Mathlib.Numerals.{add-one}
use lib.ListN.{length, take, drop, set, get_or, length-append, length-set, take-append-drop}
use lib.Seq.{drop-cons, drop-drop, get_or-take, length-take-le, take-suc, take_all, drop-append_seam, take-append_seam}
use Rattle.grammar.specs.Bytes.{Bytes}
use Rattle.grammar.specs.Character.{utf8}
use Rattle.grammar.specs.Value.{Item, read_value}
use Rattle.value.specs.Loose.{Loose}
use Rattle.decodes.specs.Walk.{Taken, Walked, walked_start, walked_step, walked_end, walked_fail}
use Rattle.decodes.specs.Units.{UnitCase, UnitSays}
use Rattle.decodes.specs.Decoded.{LengthCase, LengthSays, Put, PutInRoom, Decoded}
use Rattle.std.specs.Prelude.{Option, Some, None}
use Rattle.value.proofs.Theorems.{loose_one}
use Rattle.pieces.specs.declared.Character.{Character}

-- a step that is known
pub taken : {s : Bytes} {at : ℕ} {r : Option Character} {c : Character} → r ≡ Some c → UnitSays s at r → Taken s at c.code_point c.next
taken {s} {at} q g = subst (λ (r : Option Character). UnitCase s at r) q g.says

-- n bytes were read up to i
pub record Counted (src : Bytes) (i n : ℕ) : Type 0 where
  pub bytes : Bytes
  pub walked : Walked src i bytes
  pub count : n ≡ length bytes

pub counted_none : (src : Bytes) → Counted src 0 0
counted_none src = record { bytes = []; walked = walked_start src; count = refl }

pub counted_more : {src : Bytes} {i n c e m : ℕ} → Counted src i n → Taken src i c e → m ≡ length (utf8 c) → Counted src e (n + m)
counted_more {c = c} k t h = record { bytes = k.bytes ++ utf8 c; walked = walked_step k.walked t; count = let z = k.count in rw (z, h) (sym (length-append k.bytes (utf8 c))) }

pub counted_room : {src : Bytes} {i n c e m : ℕ} → Counted src i n → Taken src i c e → m ≡ length (utf8 c) → n + m ≤ length src
counted_room k t h = let a = k.count in let b = k.walked.no_longer in let c = t.no_longer in let d = t.upto in omega arith

pub counted_end : {src : Bytes} {i n : ℕ} → Counted src i n → length src ≤ i → LengthSays src (Some n)
counted_end k h = let (l, x, e) = walked_end k.walked h in record { says = (l, x, k.count ∙ ap length (sym e)) }

pub counted_fail : {src : Bytes} {i n : ℕ} → Counted src i n → UnitSays src i None → LengthSays src None
counted_fail k g = record { says = walked_fail k.walked g.says }

-- bytes put one behind the other
set_behind : (x z : Bytes) (y b : ℕ) → set (x ++ y ∷ z) (length x) b ≡ x ++ b ∷ z
set_behind [] z y b = refl
set_behind (a ∷ x) z y b = ap (λ (l : Bytes). a ∷ l) (set_behind x z y b)

pub put_none : (old : Bytes) (n : ℕ) → n ≤ length old → Put old n [] old (n + 0)
put_none old n h = let z : n + 0 ≡ n = omega arith in record { next = refl; bytes = rw z (sym (take_drop n old)) }
  where
    take_drop : (n : ℕ) (old : Bytes) → take n old ++ drop n old ≡ old
    take_drop n old = take-append-drop n old

pub put_more : {old m new : Bytes} {n r : ℕ} (b : ℕ) → Put old n m new r → r < length old → Put old n (m ++ b ∷ []) (set new r b) (r + 1)
put_more {old} {m} {new} {n} {r} b p h = record { next = let a = p.next in omega (arith, length-append m (b ∷ [])); bytes = stored }
  where
    front : Bytes
    front = take n old ++ m

    before : new ≡ front ++ (get_or old r 0 ∷ drop (suc r) old)
    before = p.bytes ∙ sym (append_assoc (take n old) m (drop r old)) ∙ ap (λ (l : Bytes). front ++ l) (drop-cons old r 0 h)

    at : r ≡ length front
    at = let a = p.next in let c = length-take-le n old (omega arith) in let d = length-append (take n old) m in omega arith

    stored : set new r b ≡ take n old ++ ((m ++ b ∷ []) ++ drop (r + 1) old)
    stored =
        ap (λ (l : Bytes). set l r b) before ∙ ap (λ (k : ℕ). set (front ++ (get_or old r 0 ∷ drop (suc r) old)) k b) at
        ∙ set_behind front (drop (suc r) old) (get_or old r 0) b
        ∙ append_assoc (take n old) m (b ∷ drop (suc r) old)
        ∙ ap (λ (l : Bytes). take n old ++ l) (sym (append_assoc m (b ∷ []) (drop (suc r) old)) ∙ ap (λ (k : ℕ). (m ++ b ∷ []) ++ drop k old) (sym (add-one r)))

-- the first k bytes of m are put
pub record Putting (old : Bytes) (n : ℕ) (m new : Bytes) (k : ℕ) : Type 0 where
  pub upto : k ≤ length m
  pub room : n + length m ≤ length old
  pub put : Put old n (take k m) new (n + k)
  pub long : length new ≡ length old

pub putting_none : (old : Bytes) (n : ℕ) (m : Bytes) → n + length m ≤ length old → Putting old n m old 0
putting_none old n m h = record { upto = omega arith; room = h; put = put_none old n (omega arith); long = refl }

pub putting_more : {old m new : Bytes} {n k : ℕ} {b : ℕ} → Putting old n m new k → k < length m → b ≡ get_or m k 0 → Putting old n m (set new (n + k) b) (k + 1)
putting_more {old} {m} {new} {n} {k} {b} p h e =
    let r = p.room in
    let z : n + (k + 1) ≡ n + k + 1 = omega arith in
    let t : take (k + 1) m ≡ take k m ++ b ∷ [] = rw (add-one, e) (take-suc m k 0 h) in
    record { upto = omega arith; room = r; put = rw (z, t) (put_more b p.put (omega arith)); long = rw length-set p.long }

pub putting_end : {old m new : Bytes} {n k r : ℕ} → Putting old n m new k → length m ≤ k → r ≡ n + length m → Put old n m new r
putting_end {old} {m} {new} {n} {k} {r} p h e =
    let u = p.upto in
    let z : n + k ≡ r = omega arith in
    let t : take k m ≡ m = take_all k m h in
    rw (t, z) at p.put

-- of bytes that begin with m the k-th is put, or stands behind it and is not
module _ (k : ℕ) {old m new new' : Bytes} {n r : ℕ} (p : Putting old n m new (min k (length m))) (e : r ≡ n + length m) where
  pub putting_byte : (bytes : Bytes) → take (length m) bytes ≡ m → n + k < r → new' ≡ set new (n + k) (get_or bytes k 0) → Putting old n m new' (min (k + 1) (length m))
  putting_byte bytes t l f =
      let h : k < length m = omega arith in
      let z : min k (length m) ≡ k = omega arith in
      let y : min (k + 1) (length m) ≡ k + 1 = omega arith in
      let b : get_or bytes k 0 ≡ get_or m k 0 = sym (get_or-take (length m) bytes k 0 h) ∙ ap (λ (x : Bytes). get_or x k 0) t in
      rw (f, y) (putting_more (rw z at p) h b)

  pub byte_behind : r ≤ n + k → new' ≡ new → Putting old n m new' (min (k + 1) (length m))
  byte_behind l f = let z : min (k + 1) (length m) ≡ min k (length m) = omega arith in rw (f, z) p

-- what was read up to i stands first, if there is room for it
pub record Filled (src old new : Bytes) (i n : ℕ) : Type 0 where
  pub counted : Counted src i n
  pub long : length new ≡ length old
  pub stands : n ≤ length old → new ≡ counted.bytes ++ drop n old

pub filled_none : (src old : Bytes) → Filled src old old 0 0
filled_none src old = record { counted = record { bytes = []; walked = walked_start src; count = refl }; long = refl; stands = λ h. refl }

pub filled_more : {src old new new' : Bytes} {i n c e r : ℕ} → Filled src old new i n → Taken src i c e → PutInRoom new n (utf8 c) new' r → Filled src old new' e r
filled_more {src} {old} {new} {new'} {i} {n} {c} {e} {r} k t p = record {
  counted = record { bytes = v ++ utf8 c; walked = walked_step k.counted.walked t; count = p.next ∙ ap (λ (m : ℕ). m + length (utf8 c)) k.counted.count ∙ sym (length-append v (utf8 c)) };
  long = p.long ∙ k.long;
  stands = λ h. all h (let b = p.next in k.stands (omega arith)) (let g = k.long in p.put (omega arith));
}
  where
    v : Bytes
    v = k.counted.bytes

    all : r ≤ length old → new ≡ v ++ drop n old → Put new n (utf8 c) new' r → new' ≡ (v ++ utf8 c) ++ drop r old
    all h s q =
        let a : n ≡ length v = k.counted.count in
        let first : take n new ≡ v = ap (take n) s ∙ ap (λ (j : ℕ). take j (v ++ drop n old)) a ∙ take-append_seam v (drop n old) in
        let kept : drop n new ≡ drop n old = ap (drop n) s ∙ ap (λ (j : ℕ). drop j (v ++ drop n old)) a ∙ drop-append_seam v (drop n old) in
        let rest : drop r new ≡ drop r old = ap (λ (j : ℕ). drop j new) p.next ∙ sym (drop-drop (length (utf8 c)) n new) ∙ ap (drop (length (utf8 c))) kept ∙ drop-drop (length (utf8 c)) n old ∙ ap (λ (j : ℕ). drop j old) (sym p.next) in
        q.bytes ∙ ap (λ (l : Bytes). l ++ (utf8 c ++ drop r new)) first ∙ ap (λ (l : Bytes). v ++ (utf8 c ++ l)) rest ∙ sym (append_assoc v (utf8 c) (drop r old))

pub filled_end : {src old new : Bytes} {i n : ℕ} → Filled src old new i n → length src ≤ i → Decoded src old new (Some n)
filled_end {src} {old} {new} {i} {n} k h = record { long = counted_end k.counted h; bytes = bytes }
  where
    bytes : (l : List Item) → Loose src l → length (read_value l) ≤ length old → new ≡ read_value l ++ drop (length (read_value l)) old
    bytes l x f =
        let (m, y, e) = walked_end k.counted.walked h in
        let o : read_value l ≡ k.counted.bytes = ap read_value (loose_one x y) ∙ e in
        let c : n ≡ length (read_value l) = k.counted.count ∙ ap length (sym o) in
        rw (o, ← k.counted.count) (k.stands (omega arith))

pub filled_fail : {src old new : Bytes} {i n : ℕ} → Filled src old new i n → UnitSays src i None → Decoded src old new None
filled_fail k g = let z = counted_fail k.counted g in record { long = z; bytes = λ l x h. absurd (z.says l x) }

-- a length that is known, and none
pub length_known : {w : Bytes} {l : Option ℕ} {n : ℕ} → l ≡ Some n → LengthSays w l → (k : List Item) × Loose w k × (n ≡ length (read_value k))
length_known {w} q g = subst (λ (l : Option ℕ). LengthCase w l) q g.says

pub no_length : {w : Bytes} {l : Option ℕ} → l ≡ None → LengthSays w l → (k : List Item) → Loose w k → ⊥
no_length {w} q g = subst (λ (l : Option ℕ). LengthCase w l) q g.says
