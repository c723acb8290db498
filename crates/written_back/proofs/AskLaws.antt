-- The Id of a CheckAlive, asked for with a scratch of 80 bytes, and what is replied.
use Rattle.std.specs.Prelude.{Option, Some}
use mathlib.Core.Path.{◌≡◌, refl, sym, ap, subst, ◌∙◌}
use mathlib.Core.List.{List, [], ◌∷◌}
use mathlib.Core.Bool.{Bool, true, false}
use Prim.Native.Nat.{ℕ, ◌+◌, ◌≤◌}
use native.Mathlib.Omega.{arith}
use lib.ListN.{length, take, drop}
use lib.Dec.{leb}
use denote.Ref.{Bor}
use borrow.Author.Tests.{leb-true, leb-false}
use Rattle.grammar.specs.Bytes.{Bytes}
use Rattle.spelling.proofs.EscapeLaws.{Unnamed}
use Rattle.value.specs.Text.{Text}
use Rattle.value.proofs.AsRead.{raw_as_read_iff}
use Rattle.value.specs.Asking.{Told, refused, paper, Answer, no_value, stands, no_room_case, decoded, TextSays, absent, outside, there}
use Rattle.value.specs.Asked.{refusal_of}
use Rattle.value.proofs.Only.{paper_injective}
use Rattle.value.specs.Parts.{part_at, Lies}
use Rattle.value.proofs.AskedLaws.{in_message_lem, in_scratch_lem}
use Rattle.value.specs.declared.text.Span.{Span}
use Rattle.value.specs.declared.text.TextAt.{TextAt}
use Rattle.value.specs.declared.text.TextAt.TheVariants.{InMessage, InScratch}
use Rattle.meant.specs.Written.{written_of}
use Rattle.meant.specs.Writes.{refused_by}
use Rattle.meant.specs.declared.Written.{Written}
use Rattle.meant.specs.First.{First}
use Rattle.written_back.specs.Framed.{bare_reply, SameReply}
use Rattle.meant.specs.Replies.{same_of, bare_of, same_id_case, no_id_case, Replies, replied, too_long, outside as lies-outside, no_text}
use Rattle.written_back.proofs.ReplyLaws.{bare_bytes, same_bytes}

-- what is known of the Id by the number that was said of it
module _ {s : Bytes} {w : Option Span} {room scratch : Bytes} (at : TextAt) {k : ℕ} (says : TextSays s w room scratch (paper at)) (said : k ≡ refusal_of at) where
  number_of_lem : {t : Told} → paper at ≡ t → k ≡ t.number
  unfolding refusal_of
  number_of_lem e = said ∙ ap (λ (t : Told). t.number) e

  no_number_lem : {X : Type 0} {n : ℕ} (m : ℕ) → paper at ≡ refused m → k ≡ n → (m ≡ n → ⊥) → X
  no_number_lem m e h f = absurd (f (sym (number_of_lem e) ∙ h))

  -- 4
  pub says_absent : {old new : Bytes} {r : Written} → k ≡ 4 → First bare_reply old new r → Replies s w old new r
  says_absent {old} {new} {r} h x = go says
    where
      not-four : {X : Type 0} {t : Told} → paper at ≡ t → t.number ≡ 0 → X
      not-four e f = absurd (let z = sym h ∙ number_of_lem e ∙ f in omega arith)

      there-not : {X : Type 0} {v : Bytes} {p : Span} → Answer v p room scratch (paper at) → X
      there-not (no_value n e f) = no_number_lem 6 e h (λ z. omega arith)
      there-not (stands v t a e f) = not-four e refl
      there-not (no_room_case v t a l e f) = no_number_lem 7 e h (λ z. omega arith)
      there-not (decoded v t a l e f) = not-four e refl

      go : TextSays s w room scratch (paper at) → Replies s w old new r
      go (absent e f g) = replied (written_of bare_of []) (no_id_case e refl) (subst (λ (b : Bytes). First b old new r) bare_bytes x)
      go (outside p e l f g) = no_number_lem 6 f h (λ z. omega arith)
      go (there p e l a) = there-not a

  -- 6
  pub says_no_text : {old : Bytes} → k ≡ 6 → Replies s w old old (refused_by 6)
  says_no_text {old} h = go says
    where
      not-six : {X : Type 0} {t : Told} → paper at ≡ t → t.number ≡ 0 → X
      not-six e f = absurd (let z = sym h ∙ number_of_lem e ∙ f in omega arith)

      of : (p : Span) → w ≡ Some p → p.start + p.len ≤ length s → Answer (take p.len (drop p.start s)) p room scratch (paper at) → Replies s w old old (refused_by 6)
      of p e l (no_value n f g) = no_text p e l n refl refl
      of p e l (stands v t a f g) = not-six f refl
      of p e l (no_room_case v t a m f g) = no_number_lem 7 f h (λ z. omega arith)
      of p e l (decoded v t a m f g) = not-six f refl

      go : TextSays s w room scratch (paper at) → Replies s w old old (refused_by 6)
      go (absent e f g) = no_number_lem 4 f h (λ z. omega arith)
      go (outside p e l f g) = lies-outside p e l refl refl
      go (there p e l a) = of p e l a

  -- 7, with 80 bytes of room
  pub says_no_room : {old : Bytes} → length room ≡ 80 → Unnamed (6 ∷ 4 ∷ 0 ∷ []) k → Replies s w old old (refused_by 5)
  says_no_room {old} long u = go says
    where
      not-zero : {X : Type 0} {t : Told} → paper at ≡ t → t.number ≡ 0 → X
      not-zero e f = absurd (u.0.0.1 (number_of_lem e ∙ f))

      of : (p : Span) → w ≡ Some p → p.start + p.len ≤ length s → Answer (take p.len (drop p.start s)) p room scratch (paper at) → Replies s w old old (refused_by 5)
      of p e l (no_value n f g) = absurd (u.1 (number_of_lem f))
      of p e l (stands v t a f g) = not-zero f refl
      of p e l (no_room_case v t a m f g) = too_long p e l v t (omega arith) refl refl
      of p e l (decoded v t a m f g) = not-zero f refl

      go : TextSays s w room scratch (paper at) → Replies s w old old (refused_by 5)
      go (absent e f g) = absurd (u.0.1 (number_of_lem f))
      go (outside p e l f g) = absurd (u.1 (number_of_lem f))
      go (there p e l a) = of p e l a

  -- 0: the part that was handed out is the text
  module _ (a b : ℕ × ℕ) {part : Bor (List ℕ)} (lies : Lies (part_at a s b scratch at) part) where
    with_text : {old new : Bytes} {r : Written} (p : Span) → w ≡ Some p → p.start + p.len ≤ length s → (v : Bytes) → Text (take p.len (drop p.start s)) v → part.now ≡ v → SameReply part.now old new r → Replies s w old new r
    with_text {old} {new} {r} p e l v t q x = by (subst (λ (y : Bytes). SameReply y old new r) q x) (leb (length v) 80) refl
      where
        by : SameReply v old new r → (z : Bool) → leb (length v) 80 ≡ z → Replies s w old new r
        by x true f =
            let h = leb-true (length v) 80 f in
            replied (written_of (same_of (length v)) v) (same_id_case p e l v t h refl) (subst (λ (b : Bytes). First b old new r) (same_bytes v) (x.short h))
        by x false f = let h = leb-false (length v) 80 f in let y = x.long h in too_long p e l v t h y.0 y.1

    pub says_text : {old new : Bytes} {r : Written} → k ≡ 0 → SameReply part.now old new r → Replies s w old new r
    says_text {old} {new} {r} h x = go says
      where
        of : (p : Span) → w ≡ Some p → p.start + p.len ≤ length s → Answer (take p.len (drop p.start s)) p room scratch (paper at) → Replies s w old new r
        of p e l (no_value n f g) = no_number_lem 6 f h (λ z. omega arith)
        of p e l (stands v t y f g) = with_text p e l v t (in_message_lem s scratch at a b lies p (paper_injective at (InMessage p) f) l ∙ sym ((raw_as_read_iff t).0 y)) x
        of p e l (no_room_case v t y m f g) = no_number_lem 7 f h (λ z. omega arith)
        of p e l (decoded v t y m f g) = with_text p e l v t (in_scratch_lem s scratch at a b lies v room (paper_injective at (InScratch (length v)) f) g) x

        go : TextSays s w room scratch (paper at) → Replies s w old new r
        go (absent e f g) = no_number_lem 4 f h (λ z. omega arith)
        go (outside p e l f g) = no_number_lem 6 f h (λ z. omega arith)
        go (there p e l y) = of p e l y
