-- Runs of plain bytes.
use mathlib.Core.Path.{◌≡◌, refl, subst}
use mathlib.Core.Bool.{Bool, true, false}
use Prim.Native.Nat.{ℕ, ◌+◌, ◌-◌, ◌≤◌, ◌<◌}
use native.Mathlib.Omega.{arith}
use lib.ListN.{length, get_or}
use lib.Dec.{leb}
use borrow.Author.Tests.{leb-true, leb-false}
use Rattle.grammar.specs.Bytes.{Bytes}
use Rattle.grammar.specs.Value.{banned}
use Rattle.model.specs.Characters.{plain_byte}
use Rattle.pieces.specs.Parts.{Plain, PlainRun}

module _ (q : ℕ) (s : Bytes) (at : ℕ) where
  pub run_none : at ≤ length s → PlainRun q s at at
  run_none h = record { from = omega arith; upto = h; plain = λ k l. absurd (omega arith) }

  -- n bytes further
  pub run_many : (n i : ℕ) → PlainRun q s at i → i + n ≤ length s → Plain q s i n → PlainRun q s at (i + n)
  run_many n i w h p = record { from = let z = w.from in omega arith; upto = h; plain = λ k l. go k l (leb i (at + k)) refl }
    where
      go : (k : ℕ) → at + k < i + n → (z : Bool) → leb i (at + k) ≡ z → plain_byte (banned q) (get_or s (at + k) 0) ≡ true
      go k l true e =
          let y = leb-true i (at + k) e in
          let x : i + (at + k - i) ≡ at + k = omega arith in
          subst (λ (j : ℕ). plain_byte (banned q) (get_or s j 0) ≡ true) x (p (at + k - i) (omega arith))
      go k l false e = w.plain k (leb-false i (at + k) e)

  pub run_more : (i : ℕ) → PlainRun q s at i → i < length s → plain_byte (banned q) (get_or s i 0) ≡ true → PlainRun q s at (i + 1)
  run_more i w h p = run_many 1 i w (omega arith) (λ k l. let z : i ≡ i + k = omega arith in subst (λ (j : ℕ). plain_byte (banned q) (get_or s j 0) ≡ true) z p)
