-- No second answer meets a promise; when the answer is 6; and where it is never 7.
use Rattle.std.specs.Prelude.{◌≡◌, refl, List, ◌++◌, ◌⊎◌, ◌↔◌, ℕ, ◌+◌, ◌≤◌, ◌<◌, length, take, drop, Option, Some, None}
use Rattle.std.proofs.Common.{sym, ap, subst, ◌∙◌, inl, inr, arith, length-drop, length-take-le}
use Rattle.std.specs.Borrow.{Bor}
use Rattle.exact.specs.Chain.{clash}
use Rattle.grammar.specs.Bytes.{Bytes}
use Rattle.value.specs.Text.{Text}
use Rattle.value.proofs.Quotes.{text_one}
use Rattle.value.proofs.Loose.{text_loose}
use Rattle.value.proofs.Size.{reads_no_longer}
use Rattle.value.specs.Asking.{in_scratch, Told, handed, refused, paper, NoText, Answer, no_value, stands, no_room_case, decoded, TextSays, absent, outside, there}
use Rattle.value.specs.Parts.{Place, Lies}
use Rattle.value.specs.declared.text.Span.{Span}
use Rattle.value.specs.declared.text.TextAt.{TextAt}
use Rattle.value.specs.declared.text.TextAt.TheVariants.{InMessage, InScratch, No}
use Rattle.value.specs.Only.{Same}

spans : (p q : Span) → p.start ≡ q.start → p.len ≡ q.len → p ≡ q
spans p q a b =
    ap (λ (n : ℕ). let r : Span = record { start = n; len = p.len } in r) a ∙ ap (λ (n : ℕ). let r : Span = record { start = q.start; len = n } in r) b

-- no two cases have the same number and values
pub paper_injective : (r q : TextAt) → paper r ≡ paper q → r ≡ q
paper_injective r q h = go r q (ap (λ (t : Told). t.number) h) (ap (λ (t : Told). t.place) h)
  where
    go : (r q : TextAt) → (paper r).number ≡ (paper q).number → (paper r).place ≡ (paper q).place → r ≡ q
    go (InMessage p) (InMessage q) n e =
        let a : p.start ≡ q.start = cc in
        let b : p.len ≡ q.len = cc in
        ap InMessage (spans p q a b)
    go (InMessage p) (InScratch m) n e = absurd (let z : ◌≡◌ {A = ℕ} 0 1 = cc in omega arith)
    go (InMessage p) (No k) n e = absurd (let z : ◌≡◌ {A = ℕ} 0 1 = cc in omega arith)
    go (InScratch m) (InMessage q) n e = absurd (let z : ◌≡◌ {A = ℕ} 0 1 = cc in omega arith)
    go (InScratch m) (InScratch o) n e = let a : m ≡ o = cc in ap InScratch a
    go (InScratch m) (No k) n e = absurd (let z : ◌≡◌ {A = ℕ} 0 1 = cc in omega arith)
    go (No k) (InMessage q) n e = absurd (let z : ◌≡◌ {A = ℕ} 0 1 = cc in omega arith)
    go (No k) (InScratch m) n e = absurd (let z : ◌≡◌ {A = ℕ} 0 1 = cc in omega arith)
    go (No k) (No j) n e = ap No n

both : {new new' old : Bytes} {r r' x : Told} → r ≡ x → new ≡ old → r' ≡ x → new' ≡ old → Same new new' r r'
both a b c d = record { answer = a ∙ sym c; scratch = b ∙ sym d }

longer : {w : Bytes} (old v v' : Bytes) → Text w v → Text w v' → length old < length v → length v' ≤ length old → ⊥
longer old v v' x y h k = let e = ap length (text_one x y) in omega arith

module _ {w old new new' : Bytes} {p : Span} {r r' : Told} where
  answer_only : Answer w p old new r → Answer w p old new' r' → Same new new' r r'
  answer_only (no_value n a b) (no_value m c d) = both a b c d
  answer_only (no_value n a b) (stands v x s c d) = absurd (n v x)
  answer_only (no_value n a b) (no_room_case v x s l c d) = absurd (n v x)
  answer_only (no_value n a b) (decoded v x s l c d) = absurd (n v x)
  answer_only (stands v x s a b) (no_value m c d) = absurd (m v x)
  answer_only (stands v x s a b) (stands v' x' s' c d) = both a b c d
  answer_only (stands v x s a b) (no_room_case v' x' s' l c d) = clash (sym s ∙ s')
  answer_only (stands v x s a b) (decoded v' x' s' l c d) = clash (sym s ∙ s')
  answer_only (no_room_case v x s l a b) (no_value m c d) = absurd (m v x)
  answer_only (no_room_case v x s l a b) (stands v' x' s' c d) = clash (sym s' ∙ s)
  answer_only (no_room_case v x s l a b) (no_room_case v' x' s' l' c d) = both a b c d
  answer_only (no_room_case v x s l a b) (decoded v' x' s' l' c d) = absurd (longer old v v' x x' l l')
  answer_only (decoded v x s l a b) (no_value m c d) = absurd (m v x)
  answer_only (decoded v x s l a b) (stands v' x' s' c d) = clash (sym s' ∙ s)
  answer_only (decoded v x s l a b) (no_room_case v' x' s' l' c d) = absurd (longer old v' v x' x l' l)
  answer_only (decoded v x s l a b) (decoded v' x' s' l' c d) =
      let e = text_one x' x in
      both a b (c ∙ ap (λ (v : Bytes). handed (in_scratch (length v))) e) (d ∙ ap (λ (v : Bytes). v ++ drop (length v) old) e)

one_span : {t : Option Span} {p p' : Span} → t ≡ Some p → t ≡ Some p' → p ≡ p'
one_span a b = cc

not_both : {X : Type 0} {t : Option Span} {p : Span} → t ≡ None → t ≡ Some p → X
not_both a b = absurd (let z : ◌≡◌ {A = ℕ} 0 1 = cc in omega arith)

far_out : (msg : Bytes) (p p' : Span) → p ≡ p' → length msg < p.start + p.len → p'.start + p'.len ≤ length msg → ⊥
far_out msg p p' e h k = let a = ap (λ (p : Span). p.start + p.len) e in omega arith

pub says_only : {msg old new new' : Bytes} {t : Option Span} {r r' : Told} → TextSays msg t old new r → TextSays msg t old new' r' → Same new new' r r'
says_only (absent e a b) (absent f c d) = both a b c d
says_only (absent e a b) (outside p f h c d) = not_both e f
says_only (absent e a b) (there p f h y) = not_both e f
says_only (outside p e h a b) (absent f c d) = not_both f e
says_only (outside p e h a b) (outside p' f k c d) = both a b c d
says_only {msg} (outside p e h a b) (there p' f k y) = absurd (far_out msg p p' (one_span e f) h k)
says_only (there p e h x) (absent f c d) = not_both f e
says_only {msg} (there p e h x) (outside p' f k c d) = absurd (far_out msg p' p (one_span f e) k h)
says_only {msg} {old} {new} {new'} {t} {r} {r'} (there p e h x) (there p' f k y) =
    answer_only x (subst (λ (p : Span). Answer (take p.len (drop p.start msg)) p old new' r') (one_span f e) y)

-- of `text_decode`
pub decode_only : {msg old new new' : Bytes} {t : Option Span} {r r' : TextAt} → TextSays msg t old new (paper r) → TextSays msg t old new' (paper r') → Same new new' r r'
decode_only {r = r} {r' = r'} x y = let s = says_only x y in record { answer = paper_injective r r' s.answer; scratch = s.scratch }

-- of `text_part`: one address, and one list of bytes
pub part_only : {p : Place} {r r' : Bor (List ℕ)} → Lies p r → Lies p r' → (r.ref_ptr.0 ≡ r'.ref_ptr.0) × (r.ref_ptr.1 ≡ r'.ref_ptr.1) × (r.now ≡ r'.now)
part_only x y = (x.block ∙ sym y.block, x.offset ∙ sym y.offset, x.bytes ∙ sym y.bytes)

-- T1.7: the answer is 6 exactly if the place runs outside the message bytes or the bytes there could stand as a value in neither kind of quotes
pub text_six_iff : {msg old new : Bytes} {p : Span} {r : Told} → TextSays msg (Some p) old new r → (r ≡ refused 6) ↔ ((length msg < p.start + p.len) ⊎ NoText (take p.len (drop p.start msg)))
text_six_iff {msg} {old} {new} {p} {r} x = (to x, from x)
  where
    Outcome : Type 0
    Outcome = (length msg < p.start + p.len) ⊎ NoText (take p.len (drop p.start msg))

    other : {a b : Told} → r ≡ a → r ≡ b → a.number ≡ b.number
    other f g = ap (λ (t : Told). t.number) (sym f ∙ g)

    six : {p' : Span} → p' ≡ p → Answer (take p'.len (drop p'.start msg)) p' old new r → r ≡ refused 6 → Outcome
    six e (no_value n a b) q = inr (subst (λ (p : Span). NoText (take p.len (drop p.start msg))) e n)
    six e (stands v y s a b) q = absurd (let z = other a q in omega arith)
    six e (no_room_case v y s l a b) q = absurd (let z = other a q in omega arith)
    six e (decoded v y s l a b) q = absurd (let z = other a q in omega arith)

    to : TextSays msg (Some p) old new r → r ≡ refused 6 → Outcome
    to (absent e a b) q = not_both e refl
    to (outside p' e h a b) q = inl (let z = ap (λ (p : Span). p.start + p.len) (one_span e refl) in omega arith)
    to (there p' e h y) q = six (one_span e refl) y q

    none : {p' : Span} → p' ≡ p → Answer (take p'.len (drop p'.start msg)) p' old new r → NoText (take p.len (drop p.start msg)) → r ≡ refused 6
    none e (no_value m a b) n = a
    none e (stands v y s a b) n = absurd (n v (subst (λ (p : Span). Text (take p.len (drop p.start msg)) v) e y))
    none e (no_room_case v y s l a b) n = absurd (n v (subst (λ (p : Span). Text (take p.len (drop p.start msg)) v) e y))
    none e (decoded v y s l a b) n = absurd (n v (subst (λ (p : Span). Text (take p.len (drop p.start msg)) v) e y))

    from : TextSays msg (Some p) old new r → Outcome → r ≡ refused 6
    from (absent e a b) o = not_both e refl
    from (outside p' e h a b) o = a
    from (there p' e h y) (inl k) = absurd (far_out msg p p' (one_span refl e) k h)
    from (there p' e h y) (inr n) = none (one_span e refl) y n

-- a scratch as long as the raw value is long enough
pub scratch_enough : {msg old new : Bytes} {p : Span} {r : Told} → TextSays msg (Some p) old new r → p.len ≤ length old → r ≡ refused 7 → ⊥
scratch_enough {msg} {old} {new} {p} {r} x enough q = go x
  where
    other : {a : Told} → r ≡ a → a.number ≡ 7
    other f = ap (λ (t : Told). t.number) (sym f ∙ q)

    short : {p' : Span} → p' ≡ p → p'.start + p'.len ≤ length msg → {v : Bytes} → Text (take p'.len (drop p'.start msg)) v → length old < length v → ⊥
    short {p'} e h y l =
        let a = ap (λ (p : Span). p.len) e in
        let d = length-drop p'.start msg in
        let t = length-take-le p'.len (drop p'.start msg) (omega arith) in
        let (k, x, v, s) = text_loose y in
        let n = reads_no_longer x in
        let b = ap length v in
        omega arith

    room : {p' : Span} → p' ≡ p → p'.start + p'.len ≤ length msg → Answer (take p'.len (drop p'.start msg)) p' old new r → ⊥
    room e h (no_value n a b) = let z = other a in omega arith
    room e h (stands v y s a b) = let z = other a in omega arith
    room e h (no_room_case v y s l a b) = short e h y l
    room e h (decoded v y s l a b) = let z = other a in omega arith

    go : TextSays msg (Some p) old new r → ⊥
    go (absent e a b) = not_both e refl
    go (outside p' e h a b) = let z = other a in omega arith
    go (there p' e h y) = room (one_span e refl) h y
