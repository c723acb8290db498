-- Pieces put down one behind the other.
use mathlib.Core.Path.{◌≡◌, sym, ap, subst}
use mathlib.Core.List.{List, [], ◌∷◌, ◌++◌, append-nil}
use Prim.Native.Nat.{ℕ, ◌+◌, ◌≤◌}
use native.Mathlib.Omega.{arith}
use lib.ListN.{length, length-append}
use Rattle.grammar.specs.Bytes.{Bytes}
use Rattle.printing.specs.Put.{Countable, MOST, Wrote}
use Rattle.printing.specs.Writes.{wrote_none, ◌then◌}

-- the pieces as one
abbrev pub join : List Bytes → Bytes
join [] = []
join (m ∷ l) = m ++ join l

-- m is these pieces
pub record Made (m : Bytes) (l : List Bytes) : Type 0 where
  pub is : m ≡ join l

-- they can be counted from `at` on
pub record Room (at : ℕ) (l : List Bytes) : Type 0 where
  pub room : at + length (join l) ≤ MOST

pub has_room : {at : ℕ} {m : Bytes} {l : List Bytes} → Made m l → Countable at m → Room at l
has_room {at} {m} {l} e c = record { room = let z = ap length e.is in omega arith }

pub first_fits : {at : ℕ} {m : Bytes} {l : List Bytes} → Room at (m ∷ l) → Countable at m
first_fits {at} {m} {l} r = let z = r.room in omega (arith, length-append m (join l))

pub rest_fits : {at a : ℕ} {m : Bytes} {l : List Bytes} → Room at (m ∷ l) → a ≡ at + length m → Room a l
rest_fits {at} {a} {m} {l} r e = record { room = let z = r.room in omega (arith, length-append m (join l)) }

-- they were put down
pub record Puts (old : Bytes) (at : ℕ) (l : List Bytes) (new : Bytes) (r : ℕ) : Type 0 where
  pub wrote : Wrote old at (join l) new r

pub last_put : {old new : Bytes} {at r : ℕ} {m : Bytes} → Wrote old at m new r → Puts old at (m ∷ []) new r
last_put {old} {new} {at} {r} {m} w = record { wrote = subst (λ (y : Bytes). Wrote old at y new r) (sym (append-nil m)) w }

pub and_put : {old mid new : Bytes} {at a r : ℕ} {m : Bytes} {l : List Bytes} → Wrote old at m mid a → Puts mid a l new r → Puts old at (m ∷ l) new r
and_put w p = record { wrote = w then p.wrote }

pub all_put : {old new : Bytes} {at r : ℕ} {m : Bytes} {l : List Bytes} → Made m l → Puts old at l new r → Wrote old at m new r
all_put {old} {new} {at} {r} e p = subst (λ (y : Bytes). Wrote old at y new r) (sym e.is) p.wrote

-- nothing was put down, or the same under another name
pub none_put : (old : Bytes) (at : ℕ) {m : Bytes} → m ≡ [] → Wrote old at m old at
none_put old at e = subst (λ (y : Bytes). Wrote old at y old at) (sym e) (wrote_none old at)

pub same_put : {old new : Bytes} {at r : ℕ} {m w : Bytes} → m ≡ w → Wrote old at w new r → Wrote old at m new r
same_put {old} {new} {at} {r} e p = subst (λ (y : Bytes). Wrote old at y new r) (sym e) p

pub same_fits : (at : ℕ) {m : Bytes} (w : Bytes) → m ≡ w → Countable at m → Countable at w
same_fits at {m} w e c = let z = ap length e in omega arith
