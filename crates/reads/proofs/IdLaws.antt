-- The id that stands at the place in its cell.
use Rattle.std.specs.Prelude.{Option, Some, None}
use mathlib.Core.Path.{◌≡◌, refl, sym, ap, subst, ◌∙◌}
use mathlib.Core.List.{List, [], ◌∷◌, ◌++◌}
use mathlib.Core.Bool.{Bool, true, false, cond}
use Prim.Native.Nat.{ℕ, suc, ◌+◌, ◌-◌, ◌≤◌, ◌<◌}
use native.Mathlib.Omega.{arith}
use lib.ListN.{length, take, drop, get_or, get_or-eq_default}
use lib.Seq.{get_or_at, length-take-le}
use Prim.Native.Char.{code}
use lib.Dec.{eqb, leb}
use borrow.Author.Tests.{ne_eqb, eqb-true, eqb-false, le-leb, lt-leb}
use Rattle.grammar.specs.Bytes.{Bytes}
use Rattle.value.specs.Text.{altered, as_read}
use Rattle.value.proofs.AsRead.{raw_as_read_iff}
use Rattle.value.proofs.Loose.{loosen}
use Rattle.value.specs.Ids.{no_bytes, id_read, IdReads}
use Rattle.table.specs.Table.{rows_of, guid_cell_in}
use Rattle.message.specs.Cells.{NUMBERS, cell_at}
use Rattle.message.specs.Messages.{id_cell, bytes_in}
use Rattle.reads.specs.Ids.{IdOf, IdAt, TakesId}
use Rattle.reads.proofs.JudgeLaws.{as_read_lem}

-- the id at a place
pub outside_id : {s r : Bytes} {start len : ℕ} → length s < start + len → IdAt s start len r
outside_id h = record { says = λ a. absurd (omega arith) }

pub inside_id : {s r : Bytes} {start len : ℕ} → IdOf (take (start + len - start) (drop start s)) r → IdAt s start len r
inside_id {s} {r} {start} {len} h =
    let n : start + len - start ≡ len = omega arith in
    record { says = λ a. subst (λ (n : ℕ). IdOf (take n (drop start s)) r) n h }

-- the id of a kind
module _ (s : Bytes) (k : ℕ) (before : List ℕ) {at : ℕ} (e : at ≡ guid_cell_in NUMBERS (rows_of k) 0) (long : length before ≡ NUMBERS) where
  so : {after : List ℕ} {r : Bytes} → TakesId s at before after r → TakesId s (id_cell k) before after r
  unfolding id_cell
  so {after} {r} t = subst (λ (n : ℕ). TakesId s n before after r) e t

  pub takes_none : NUMBERS ≤ at → TakesId s (id_cell k) before before no_bytes
  takes_none h =
      let f = le-leb NUMBERS at h in
      so (record { id = λ n. absurd (n (get_or-eq_default before 0 (omega arith))); cells = rw f refl; by = rw f refl })

  module _ (h : at < NUMBERS) {after : List ℕ} (p : after ≡ take at before ++ (cell_at before at ∷ 0 ∷ 0 ∷ drop (at + 3) before)) where
    f : leb NUMBERS at ≡ false
    f = lt-leb NUMBERS at h

    same : cell_at after at ≡ cell_at before at
    same = ap (λ (l : List ℕ). cell_at l at) p ∙ get_or_at (take at before) (cell_at before at) (0 ∷ 0 ∷ drop (at + 3) before) 0 at (length-take-le at before (omega arith))

    pub takes_absent : cell_at before at ≡ 0 → TakesId s (id_cell k) before after no_bytes
    takes_absent z = so (record { id = λ n. absurd (n z); cells = p ∙ rw f refl; by = rw (f, same, z) refl })

    pub takes_there : {r : Bytes} → (cell_at before at ≡ 0 → ⊥) → IdAt s (cell_at before (at + 1)) (cell_at before (at + 2)) r → TakesId s (id_cell k) before after r
    takes_there {r} n x = so (record { id = λ m. x; cells = p ∙ rw f refl; by = rw (f, same, ne_eqb (cell_at before at) 0 n) refl })

-- bytes that are not below `-` stand as they read
clear : (b : ℕ) → 45 ≤ b → altered b ≡ false
unfolding altered
clear b z = rw (ne_eqb (code "&") b (λ e. omega arith), ne_eqb (code "\t") b (λ e. omega arith), ne_eqb (code "\n") b (λ e. omega arith), ne_eqb (code "\r") b (λ e. omega arith))

none_low : (raw : Bytes) → ((k : ℕ) → k < length raw → 45 ≤ get_or raw k 0) → as_read raw ≡ true
none_low [] h = refl
none_low (b ∷ raw) h = rw (clear b (h 0 (omega arith))) (none_low raw (λ k z. h (suc k) (omega arith)))

pub record Clear (raw : Bytes) (low k : ℕ) : Type 0 where
  pub upto : k ≤ 36
  pub below : low ≤ 45
  pub least : (j : ℕ) → j < k → low ≤ get_or raw j 0

pub clear_none : (raw : Bytes) → Clear raw 45 0
clear_none raw = record { upto = omega arith; below = omega arith; least = λ j h. absurd (omega arith) }

pub clear_more : {raw : Bytes} {low low' k : ℕ} → Clear raw low k → k < 36 → (low' ≤ low) × (low' ≤ get_or raw k 0) → Clear raw low' (k + 1)
clear_more {raw} {low} {low'} {k} c h (a, b) = record { upto = omega arith; below = let z = c.below in omega arith; least = least }
  where
    least : (j : ℕ) → j < k + 1 → low' ≤ get_or raw j 0
    least j z = go (eqb j k) refl
      where
        go : (x : Bool) → eqb j k ≡ x → low' ≤ get_or raw j 0
        go true e = subst (λ (j : ℕ). low' ≤ get_or raw j 0) (sym (eqb-true j k e)) b
        go false e = let n = eqb-false j k e in let m = c.least j (omega arith) in omega arith

pub clear_end : {raw : Bytes} {low k : ℕ} → Clear raw low k → length raw ≡ 36 → 36 ≤ k → low ≡ 45 → as_read raw ≡ true
clear_end {raw} c l h e = none_low raw (λ j z. let m = c.least j (omega arith) in omega arith)

pub clear_id : {raw r : Bytes} → as_read raw ≡ true → r ≡ raw → IdOf raw r
clear_id h e = record { says = λ v x g. e ∙ sym ((raw_as_read_iff x).0 h) }

pub read_id : {raw : Bytes} {g : Option Bytes} → IdReads raw g → IdOf raw (bytes_in g)
unfolding id_read
read_id {raw} {g} h = record { says = λ v x q. ap bytes_in (as_read_lem (record { good = loosen x.good; spelt = x.spelt }) h ∙ ap id_read (sym x.reads) ∙ ap (λ (b : Bool). cond b (Some v) None) q) }
