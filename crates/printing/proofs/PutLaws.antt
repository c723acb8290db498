-- A write in a loop: the first k bytes are put.
use mathlib.Core.Path.{◌≡◌, refl, ap, ◌∙◌}
use Prim.Native.Nat.{ℕ, ◌+◌, ◌-◌, ◌≤◌, ◌<◌, min}
use native.Mathlib.Nat.{add-zero}
use native.Mathlib.Numerals.{add-one}
use native.Mathlib.Omega.{arith}
use lib.Dec.{leb}
use lib.ListN.{length, take, set, get_or}
use lib.Seq.{take_all, take-suc}
use borrow.Author.Tests.{leb-true, leb-false}
use Rattle.grammar.specs.Bytes.{Bytes}
use Rattle.number.proofs.Tests.{cases}
use Rattle.printing.specs.Put.{put_at, Wrote}
use Rattle.printing.specs.Writes.{put_fits, wrote_none, ◌then◌, one_in}

-- under another name
pub wrote_to : {o m n p : Bytes} {at r : ℕ} → p ≡ n → Wrote o at m n r → Wrote o at m p r
wrote_to e w = record { bytes = e ∙ w.bytes; next = w.next; long = ap length e ∙ w.long }

-- the first k bytes of m are put
pub record Putting (old : Bytes) (at : ℕ) (m new : Bytes) (k : ℕ) : Type 0 where
  pub upto : k ≤ length m
  pub put : Wrote old at (take k m) new (at + k)

pub putting_none : (old : Bytes) (at : ℕ) (m : Bytes) → Putting old at m old 0
putting_none old at m = record { upto = omega arith; put = rw add-zero (wrote_none old at) }

pub putting_more : {old m new : Bytes} {at k : ℕ} → Putting old at m new k → k < length m → Putting old at m (set new (at + k) (get_or m k 0)) (k + 1)
putting_more {old} {m} {new} {at} {k} p h =
    let z : at + (k + 1) ≡ at + k + 1 = omega arith in
    record { upto = omega arith; put = rw (z, add-one k, take-suc m k 0 h) (p.put then one_in new (at + k) (get_or m k 0)) }

-- all that fits is put
pub putting_end : {old m new : Bytes} {at k : ℕ} → Putting old at m new k → min (length m) (length old - at) ≤ k → Wrote old at m new (at + length m)
putting_end {old} {m} {new} {at} {k} p h = record { bytes = p.put.bytes ∙ enough; next = refl; long = p.put.long }
  where
    enough : put_at old at (take k m) ≡ put_at old at m
    enough =
        cases (leb (length m) k) (λ l. ap (put_at old at) (take_all k m (leb-true (length m) k l)))
        (λ l. put_fits old at k m (omega (arith, leb-false (length m) k l)))
