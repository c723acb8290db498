-- A part, by whether the slice reaches so far; and the part of each answer.
use mathlib.Core.Path.{◌≡◌}
use mathlib.Core.List.{List}
use Prim.Native.Nat.{ℕ, ◌+◌, ◌≤◌, ◌<◌}
use lib.ListN.{length}
use denote.Ref.{Bor}
use borrow.Author.Tests.{le-leb, lt-leb}
use Rattle.grammar.specs.Bytes.{Bytes}
use Rattle.value.specs.Parts.{placed, part_or, part_at, Lies}
use Rattle.value.specs.declared.text.Span.{Span}
use Rattle.value.specs.declared.text.TextAt.{TextAt}
use Rattle.value.specs.declared.text.TextAt.TheVariants.{InMessage, InScratch, No}

module _ (a : ℕ × ℕ) (m : Bytes) (b : ℕ × ℕ) (s : Bytes) where
  pub part_in : (at n : ℕ) → at + n ≤ length s → {r : Bor (List ℕ)} → Lies (placed b s at n) r → Lies (part_or a m b s at n) r
  unfolding part_or
  part_in at n h l = rw (le-leb (at + n) (length s) h) l

  pub part_out : (at n : ℕ) → length s < at + n → {r : Bor (List ℕ)} → Lies (placed a m 0 0) r → Lies (part_or a m b s at n) r
  unfolding part_or
  part_out at n h l = rw (lt-leb (at + n) (length s) h) l

  pub part_message : (p : Span) {t : TextAt} → t ≡ InMessage p → {r : Bor (List ℕ)} → Lies (part_or a m a m p.start p.len) r → Lies (part_at a m b s t) r
  unfolding part_at
  part_message p e l = rw e l

  pub part_scratch : (n : ℕ) {t : TextAt} → t ≡ InScratch n → {r : Bor (List ℕ)} → Lies (part_or a m b s 0 n) r → Lies (part_at a m b s t) r
  unfolding part_at
  part_scratch n e l = rw e l

  pub part_none : (k : ℕ) {t : TextAt} → t ≡ No k → {r : Bor (List ℕ)} → Lies (placed a m 0 0) r → Lies (part_at a m b s t) r
  unfolding part_at
  part_none k e l = rw e l
