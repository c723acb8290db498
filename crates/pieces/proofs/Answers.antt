-- Answers taken apart, passed on and put together; what combinators do at a position.
use mathlib.Core.Path.{◌≡◌, refl, subst, ◌∙◌}
use mathlib.Core.List.{[], ◌∷◌}
use mathlib.Core.Bool.{Bool, true, false}
use Prim.Native.Nat.{ℕ, ◌+◌, ◌≤◌, ◌<◌}
use native.Mathlib.Omega.{arith}
use native.Mathlib.Numerals.{add-one}
use lib.ListN.{length, drop, get_or, drop_of_length-le}
use lib.Seq.{drop-cons}
use Rattle.exact.specs.Exact.{Out, done, more, bad, Reader}
use Rattle.exact.specs.Chain.{ret_p, and_then}
use Rattle.exact.specs.Byte.{pick, on_p}
use Rattle.grammar.specs.Bytes.{Bytes, same}
use Rattle.std.specs.Prelude.{Ok, Err}
use Rattle.scan.specs.Pieces.{Got as StepSays}
use Rattle.scan.specs.Unfold.{then_and}
use Rattle.scan.proofs.Chain.{stops}
use Rattle.scan.specs.declared.Stop.{Stop}
use Rattle.scan.specs.declared.Stop.TheVariants.{Open, Bad}
use Rattle.pieces.specs.Says.{Piece, got, Known, PieceCase, Says}
use Rattle.pieces.specs.declared.Character.{Character}

-- the answer is no Ok
abbrev pub Fails : Piece → Type 0
Fails r = (c e : ℕ) → r ≡ Ok (record { code_point = c; next = e }) → ⊥

pub never : {A : Type 0} {c e : ℕ} → Fails (Ok (record { code_point = c; next = e })) → A
never {A} {c} {e} f = absurd (f c e refl)

-- an answer that is known
pub known : {A : Type 0} {f : A → ℕ} {k : ℕ} {s : Bytes} {at : ℕ} {r : Piece} {o : Out A} {c : Character} → r ≡ Ok c → Says f k s at r o → Known f k s at c.code_point c.next o
known {A} {f} {k} {s} {at} {r} {o} q g = subst (λ (r : Piece). PieceCase f k s at r o) q g.says

-- what stopped stops what it begins
pub pass : {A B : Type 0} {f : A → ℕ} {k : ℕ} {s : Bytes} {at : ℕ} {x : Stop} {o : Out A} → Says f k s at (Err x) o
    → {f' : B → ℕ} {k' at' : ℕ} → at' ≤ at → (K : A → Reader B) {o' : Out B} → o' ≡ and_then o K → Says f' k' s at' (Err x) o'
pass {s = s} {at = at} {x = x} {o = o} g {at' = at'} le K q = record { says = stops s at o x g.says at' le K (q ∙ then_and o K) }

-- the last thing that is read
pub last : {A B : Type 0} {f : A → ℕ} {k : ℕ} {s : Bytes} {at : ℕ} {r : Piece} {o : Out A} → Says f k s at r o
    → {f' : B → ℕ} {k' at' : ℕ} → at' + k' ≤ at + k → at' ≤ at → (v : A → B) → ((x : A) → f' (v x) ≡ f x) → {o' : Out B} → o' ≡ and_then o (λ x t. done (v x) t) → Says f' k' s at' r o'
last {A} {B} {f} {k} {s} {at} {r} {o} g {f'} {k'} {at'} le le₂ v same {o'} q = go r g
  where
    go : (r : Piece) → Says f k s at r o → Says f' k' s at' r o'
    go (Ok c) g = let y = g.says in let z = y.reads in record { says = record { value = v y.value; is = same y.value ∙ y.is; far = omega arith; upto = y.upto; reads = q ∙ rw z } }
    go (Err x) g = pass g le₂ (λ x t. done (v x) t) q

pub moved : {A : Type 0} {f : A → ℕ} {k : ℕ} {s : Bytes} {at : ℕ} {r : Piece} {o : Out A} → Says f k s at r o → {k' at' : ℕ} → at' + k' ≤ at + k → at' ≤ at → {o' : Out A} → o' ≡ o → Says f k' s at' r o'
moved {A} {f} {k} {s} {at} {r} {o} g {k'} {at'} le le₂ {o'} q = go r g
  where
    go : (r : Piece) → Says f k s at r o → Says f k' s at' r o'
    go (Ok c) g = let y = g.says in record { says = record { value = y.value; is = y.is; far = omega arith; upto = y.upto; reads = q ∙ y.reads } }
    go (Err Open) g = record { says = q ∙ g.says }
    go (Err (Bad p)) g = record { says = (let h = g.says.0 in omega arith, g.says.1, q ∙ g.says.2) }

-- a byte by a test, and then more: a test that is the same at each byte may stand for it
pub on_as : {A : Type 0} (t t' : ℕ → Bool) → ((b : ℕ) → t b ≡ t' b) → (q : ℕ → Reader A) (x : Bytes) → on_p t q x ≡ and_then (on_p t' (λ b. ret_p b) x) q
on_as t t' h q [] = refl
on_as {A} t t' h q (b ∷ r) = rw (h b) (go (t' b))
  where
    go : (z : Bool) → pick z (q b r) (bad (b ∷ r)) ≡ and_then (pick z (done b r) (bad (b ∷ r))) q
    go true = refl
    go false = refl

module _ {A : Type 0} (t : ℕ → Bool) (q : ℕ → Reader A) (s : Bytes) (at : ℕ) where
  pub on_end : length s ≤ at → on_p t q (drop at s) ≡ more
  on_end h = rw (drop_of_length-le s h)

  pub on_hit : at < length s → t (get_or s at 0) ≡ true → on_p t q (drop at s) ≡ q (get_or s at 0) (drop (at + 1) s)
  on_hit h k = rw (add-one, drop-cons s at 0 h, k)

  pub on_miss : at < length s → t (get_or s at 0) ≡ false → on_p t q (drop at s) ≡ bad (drop at s)
  on_miss h k = rw (drop-cons s at 0 h, k)

-- what was read by a test passes it
pub on_tested : (t : ℕ → Bool) (x : Bytes) (v : ℕ) (y : Bytes) → on_p t (λ b. ret_p b) x ≡ done v y → t v ≡ true
on_tested t [] v y h = absurd (let z : ◌≡◌ {A = ℕ} 0 1 = cc in omega arith)
on_tested t (b ∷ r) v y h = go (t b) refl h
  where
    go : (z : Bool) → t b ≡ z → pick z (done b r) (bad (b ∷ r)) ≡ done v y → t v ≡ true
    go true e k = let q : b ≡ v = cc in rw (← q) e
    go false e k = absurd (let z : ◌≡◌ {A = ℕ} 0 1 = cc in omega arith)

module _ {s : Bytes} {at k c e : ℕ} (t' : ℕ → Bool) (g : Known (λ (b : ℕ). b) k s at c e (on_p t' (λ b. ret_p b) (drop at s))) where
  pub on_known : {A : Type 0} (t : ℕ → Bool) → ((b : ℕ) → t b ≡ t' b) → (q : ℕ → Reader A) → on_p t q (drop at s) ≡ q c (drop e s)
  on_known t h q = let i = g.is in let z = g.reads in on_as t t' h q (drop at s) ∙ rw (z, i)

  pub on_passed : t' c ≡ true
  on_passed = let i = g.is in rw i at (on_tested t' (drop at s) g.value (drop e s) g.reads)

-- a reader without a value, which stands for the number c
pub spoken : {A : Type 0} {k : ℕ} {s : Bytes} {at e : ℕ} {o : Out A} (c : ℕ) → StepSays k s at (Ok e) o → Says (λ (x : A). c) k s at (got c e) o
spoken c g = record { says = record { value = g.says.0; is = refl; far = g.says.1; upto = g.says.2; reads = g.says.3 } }

-- what stopped a reader of a character stops what reads no number
pub stepped : {A B : Type 0} {f : A → ℕ} {k : ℕ} {s : Bytes} {at : ℕ} {x : Stop} {o : Out A} → Says f k s at (Err x) o
    → {k' at' : ℕ} → at' ≤ at → (K : A → Reader B) {o' : Out B} → o' ≡ and_then o K → StepSays k' s at' (Err x) o'
stepped {s = s} {at = at} {x = x} {o = o} g {at' = at'} le K q = record { says = stops s at o x g.says at' le K (q ∙ then_and o K) }

-- without its number: what stopped, and the next place
pub unread : {A : Type 0} {f : A → ℕ} {k : ℕ} {s : Bytes} {at : ℕ} {x : Stop} {o : Out A} → Says f k s at (Err x) o → StepSays k s at (Err x) o
unread g = record { says = g.says }

pub next : {A : Type 0} {f : A → ℕ} {k : ℕ} {s : Bytes} {at : ℕ} {c : Character} {o : Out A} → Says f k s at (Ok c) o → StepSays k s at (Ok c.next) o
next g = let y = g.says in record { says = (y.value, y.far, y.upto, y.reads) }

-- an answer that is known, with all that it says
pub read : {A : Type 0} {f : A → ℕ} {k : ℕ} {s : Bytes} {at : ℕ} {r : Piece} {o : Out A} {c : Character} → r ≡ Ok c → Says f k s at r o → Says f k s at (Ok c) o
read q g = record { says = known q g }
