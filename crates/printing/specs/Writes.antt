-- Bytes put into a buffer: two writes one behind the other are one, and what a write that starts the buffer leaves.
use Rattle.std.specs.Prelude.{◌≡◌, refl, [], ◌∷◌, ◌++◌, ℕ, zero, suc, ◌+◌, ◌-◌, ◌≤◌, length, take, drop, set}
use Rattle.std.proofs.Common.{sym, ap, ◌∙◌, append_assoc, zero-add, add-zero, suc-add, add-suc, arith, length-append, take-append-drop, take_all, length-take-le}
use Rattle.std.proofs.Math.Nat.{zero-sub, sub-zero, suc-sub-suc}
use Rattle.std.proofs.Math.Seq.{take-nil, drop-nil, take-append_seam}
use Rattle.grammar.specs.Bytes.{Bytes}
use Rattle.printing.specs.Put.{put_at, Wrote}

-- by the bytes of the buffer
put_empty : (at : ℕ) (m : Bytes) → put_at [] at m ≡ []
unfolding put_at
put_empty at m = rw (take-nil, zero-sub, drop-nil)

put_none : (o : Bytes) (at : ℕ) → put_at o at [] ≡ o
unfolding put_at
put_none o at = rw (take-nil, add-zero) (take-append-drop at o)

put_first : (x b : ℕ) (o m : Bytes) → put_at (x ∷ o) 0 (b ∷ m) ≡ b ∷ put_at o 0 m
unfolding put_at
put_first x b o m = simp (sub-zero, zero-add)

put_skip : (x : ℕ) (o : Bytes) (at : ℕ) (m : Bytes) → put_at (x ∷ o) (suc at) m ≡ x ∷ put_at o at m
unfolding put_at
put_skip x o at m = rw (suc-sub-suc, suc-add)

pub length_put : (o : Bytes) (at : ℕ) (m : Bytes) → length (put_at o at m) ≡ length o
length_put [] at m = rw put_empty
length_put (x ∷ o) zero [] = rw put_none
length_put (x ∷ o) zero (b ∷ m) = rw put_first (ap suc (length_put o zero m))
length_put (x ∷ o) (suc at) m = rw put_skip (ap suc (length_put o at m))

put_put : (o : Bytes) (at : ℕ) (m w : Bytes) → put_at (put_at o at m) (at + length m) w ≡ put_at o at (m ++ w)
put_put [] at m w = rw (put_empty at m, put_empty (at + length m) w, put_empty at (m ++ w))
put_put (x ∷ o) zero [] w = rw (put_none (x ∷ o) 0, add-zero)
put_put (x ∷ o) zero (b ∷ m) w = rw (put_first x b o m, put_first x b o (m ++ w), add-suc, put_skip) (ap (λ (l : Bytes). b ∷ l) (put_put o zero m w))
put_put (x ∷ o) (suc at) m w = rw (put_skip x o at m, suc-add, put_skip x (put_at o at m), put_skip x o at (m ++ w)) (ap (λ (l : Bytes). x ∷ l) (put_put o at m w))

put_one : (o : Bytes) (at b : ℕ) → put_at o at (b ∷ []) ≡ set o at b
put_one [] at b = rw put_empty
put_one (x ∷ o) zero b = rw (put_first, put_none)
put_one (x ∷ o) (suc at) b = rw put_skip (ap (λ (l : Bytes). x ∷ l) (put_one o at b))

-- no more is stored than fits
pub put_fits : (o : Bytes) (at k : ℕ) (m : Bytes) → length o - at ≤ k → put_at o at (take k m) ≡ put_at o at m
put_fits [] at k m h = rw (put_empty at (take k m), put_empty at m)
put_fits (x ∷ o) zero zero m h = absurd (omega arith)
put_fits (x ∷ o) zero (suc k) [] h = refl
put_fits (x ∷ o) zero (suc k) (b ∷ m) h = rw (put_first x b o (take k m), put_first x b o m) (ap (λ (l : Bytes). b ∷ l) (put_fits o zero k m (omega arith)))
put_fits (x ∷ o) (suc at) k m h = rw (put_skip x o at (take k m), put_skip x o at m) (ap (λ (l : Bytes). x ∷ l) (put_fits o at k m (omega arith)))

-- a write that starts the buffer and fits
pub put_starts : (o m : Bytes) → length m ≤ length o → put_at o 0 m ≡ m ++ drop (length m) o
unfolding put_at
put_starts o m h = simp (sub-zero, zero-add, take_all (length o) m h)

-- nothing written
pub wrote_none : (o : Bytes) (at : ℕ) → Wrote o at [] o at
wrote_none o at = record { bytes = sym (put_none o at); next = sym (add-zero at); long = refl }

infixl 5 ◌then◌
-- m, and then w
pub ◌then◌ : {o : Bytes} {at : ℕ} {m n : Bytes} {a : ℕ} {w p : Bytes} {r : ℕ} → Wrote o at m n a → Wrote n a w p r → Wrote o at (m ++ w) p r
◌then◌ {o} {at} {m} {n} {a} {w} {p} {r} f g = record {
  bytes = g.bytes ∙ rw (f.next, f.bytes) (put_put o at m w);
  next = rw (length-append m w) (omega (arith, f.next, g.next));
  long = g.long ∙ f.long;
}

-- one byte, where it fits and where it does not
pub one_in : (o : Bytes) (at b : ℕ) → Wrote o at (b ∷ []) (set o at b) (at + 1)
one_in o at b = record { bytes = sym (put_one o at b); next = refl; long = ap length (sym (put_one o at b)) ∙ length_put o at (b ∷ []) }

pub one_out : (o : Bytes) (at b : ℕ) → length o ≤ at → Wrote o at (b ∷ []) o (at + 1)
one_out o at b h = record { bytes = sym (put_none o at) ∙ put_fits o at 0 (b ∷ []) (omega arith); next = refl; long = refl }

-- no second result meets the promise of a write
pub wrote_only : {old m new new' : Bytes} {at r r' : ℕ} → Wrote old at m new r → Wrote old at m new' r' → (new ≡ new') × (r ≡ r')
wrote_only x y = (x.bytes ∙ sym y.bytes, x.next ∙ sym y.next)

-- a write that fits stands behind what stands before it
pub wrote_behind : {old m new : Bytes} {at r : ℕ} → Wrote old at m new r → r ≤ length new → take r new ≡ take at old ++ m
unfolding put_at
wrote_behind {old} {m} {new} {at} {r} w h =
    let a : length (take at old) ≡ at = length-take-le at old (omega (arith, w.next, w.long)) in
    let b : length (take at old ++ m) ≡ r = length-append (take at old) m ∙ omega (arith, w.next) in
    let c : take (length old - at) m ≡ m = take_all (length old - at) m (omega (arith, w.next, w.long)) in
    let d : new ≡ (take at old ++ m) ++ drop (at + length m) old =
    w.bytes ∙ ap (λ (y : Bytes). take at old ++ (y ++ drop (at + length m) old)) c ∙ sym (append_assoc (take at old) m (drop (at + length m) old)) in
    ap (λ (k : ℕ). take k new) (sym b) ∙ ap (take (length (take at old ++ m))) d ∙ take-append_seam (take at old ++ m) (drop (at + length m) old)
