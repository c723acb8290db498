-- A text that was asked for: the part that is handed out is its bytes.
use Rattle.std.specs.Prelude.{Some}
use mathlib.Core.Path.{◌≡◌, refl, sym, ap, subst, ◌∙◌}
use mathlib.Core.List.{List, ◌++◌}
use Prim.Native.Nat.{ℕ, ◌+◌, ◌≤◌}
use native.Mathlib.Omega.{arith}
use lib.ListN.{length, take, drop, length-append}
use lib.Seq.{take-append_seam}
use denote.Ref.{Bor}
use borrow.Author.Tests.{le-leb}
use Rattle.grammar.specs.Bytes.{Bytes}
use Rattle.value.specs.Text.{Text}
use Rattle.value.proofs.Quotes.{text_one}
use Rattle.value.proofs.AsRead.{raw_as_read_iff}
use Rattle.value.specs.Asking.{paper, Answer, no_value, stands, no_room_case, decoded, TextSays, absent, outside, there}
use Rattle.value.proofs.Only.{paper_injective}
use Rattle.value.specs.Parts.{part_or, part_at, Lies}
use Rattle.value.specs.declared.text.Span.{Span}
use Rattle.value.specs.declared.text.TextAt.{TextAt}
use Rattle.value.specs.declared.text.TextAt.TheVariants.{InMessage, InScratch}

module _ (s scratch : Bytes) (at : TextAt) (a b : ℕ × ℕ) {part : Bor (List ℕ)} (lies : Lies (part_at a s b scratch at) part) where
  pub in_message_lem : (p : Span) → at ≡ InMessage p → p.start + p.len ≤ length s → part.now ≡ take p.len (drop p.start s)
  unfolding part_at part_or
  in_message_lem p e l = lies.bytes ∙ ap (λ (t : TextAt). (part_at a s b scratch t).bytes) e ∙ rw (le-leb (p.start + p.len) (length s) l) refl

  pub in_scratch_lem : (v room : Bytes) → at ≡ InScratch (length v) → scratch ≡ v ++ drop (length v) room → part.now ≡ v
  unfolding part_at part_or
  in_scratch_lem v room e g =
      let long = ap length g ∙ length-append v (drop (length v) room) in
      lies.bytes
      ∙ ap (λ (t : TextAt). (part_at a s b scratch t).bytes) e
      ∙ rw (le-leb (0 + length v) (length scratch) (omega arith)) (ap (take (length v)) g ∙ take-append_seam v (drop (length v) room))

  -- where the scratch has room for it
  pub part_is_text : {room : Bytes} (p : Span) → TextSays s (Some p) room scratch (paper at) → p.start + p.len ≤ length s → (v : Bytes) → Text (take p.len (drop p.start s)) v → length v ≤ length room → part.now ≡ v
  part_is_text {room} p says l v t h = go says
    where
      one : {q : Span} → Some p ≡ Some q → p ≡ q
      one e = cc

      of : Answer (take p.len (drop p.start s)) p room scratch (paper at) → part.now ≡ v
      of (no_value n f g) = absurd (n v t)
      of (stands u x y f g) = in_message_lem p (paper_injective at (InMessage p) f) l ∙ sym ((raw_as_read_iff x).0 y) ∙ text_one x t
      of (no_room_case u x y m f g) = absurd (let e = ap length (text_one x t) in omega arith)
      of (decoded u x y m f g) = in_scratch_lem u room (paper_injective at (InScratch (length u)) f) g ∙ text_one x t

      go : TextSays s (Some p) room scratch (paper at) → part.now ≡ v
      go (absent e f g) = absurd (let z : ◌≡◌ {A = ℕ} 0 1 = cc in omega arith)
      go (outside q e m f g) = absurd (let z = ap (λ (p : Span). p.start + p.len) (one e) in omega arith)
      go (there q e m x) = of (subst (λ (q : Span). Answer (take q.len (drop q.start s)) q room scratch (paper at)) (sym (one e)) x)
