-- T3.13: with a message that ends, nothing behind its end matters: to checking, and to receiving.
use Rattle.std.specs.Prelude.{Option, Some, None}
use mathlib.Core.Path.{◌≡◌, sym, ap, subst, ◌∙◌}
use mathlib.Core.List.{List, ◌++◌}
use mathlib.Core.Logic.{⊎_elim}
use Prim.Native.Nat.{ℕ, ◌-◌, ◌≤◌}
use Prim.Native.String.{String}
use native.Mathlib.Omega.{arith}
use lib.ListN.{length, take, drop, length-drop}
use lib.Seq.{drop-append-le, take-append-le, take_all}
use Rattle.exact.specs.Chain.{clash}
use Rattle.grammar.specs.Bytes.{Bytes, text}
use Rattle.grammar.specs.Tree.{Pair, Tree}
use Rattle.grammar.specs.Message.{Laid, Message as IsMessage}
use Rattle.grammar.specs.Answer.{Answers, ends_at}
use Rattle.model.proofs.Theorems.{one_reading, tail_free}
use Rattle.lane.specs.declared.Event.{Event}
use Rattle.lane.specs.declared.Lane.{Lane}
use Rattle.value.specs.Text.{Text}
use Rattle.value.proofs.Quotes.{text_one}
use Rattle.value.specs.declared.text.Span.{Span}
use Rattle.table.specs.Says.{child_of}
use Rattle.message.specs.Checked.{Checks, ends, more, malformed, too_long, checked_as}
use Rattle.message.specs.Handed.{Has, has_here, has_later, attributes_of}
use Rattle.message.specs.Fields.{the_words}
use Rattle.message.specs.Messages.{called}
use Rattle.message.specs.declared.checking.Checked.{Checked}
use Rattle.message.proofs.Theorems.{check_only, handed_out}
use Rattle.meant.specs.Written.{written_of}
use Rattle.meant.specs.First.{first_in}
use Rattle.meant.specs.Replies.{same_of, Reply, same_id_case, no_id_case}
use Rattle.promises.specs.Receiving.{reply_id, moved_by, Owes, answer_of, Receives}
use Rattle.promises.specs.declared.Received.{Received}
use Rattle.promises.proofs.SoundLaws.{place_called, called_accepted}
use Rattle.meant.specs.Events.{Carried, event_of, forecast_id, Carries}
use Rattle.meant.proofs.EventLaws.{carries_alike}
use Rattle.promises.proofs.Theorems as all

-- the bytes of a message that ends at the end of s
bytes_of : (s r : Bytes) (start : ℕ) → start ≤ length s → take (length s - start) (drop start (s ++ r)) ≡ drop start s
bytes_of s r start h =
    let n : length (drop start s) ≡ length s - start = length-drop start s in
    ap (take (length s - start)) (drop-append-le start s r h) ∙ take-append-le (length s - start) (drop start s) r (omega arith) ∙ take_all (length s - start) (drop start s) (omega arith)

alike : (s r r' : Bytes) (start : ℕ) → start ≤ length s → take (length s - start) (drop start (s ++ r)) ≡ take (length s - start) (drop start (s ++ r'))
alike s r r' start h = bytes_of s r start h ∙ sym (bytes_of s r' start h)

starts_before : {s : Bytes} {start end : ℕ} → Answers s (ends_at start end) → start ≤ end
starts_before a = let x = a.starts in let y = a.ends in omega arith

-- the same check of s with anything behind it
moved_check : (s r r' : Bytes) {c : Checked} → Checks (s ++ r) c → c.end ≡ length s → 1 ≤ length s → Checks (s ++ r') c
moved_check s r r' {c} (ends start end a l w e) h k =
    let q : end ≡ length s = sym (ap (λ (c : Checked). c.end) e) ∙ h in
    let a1 : Answers (s ++ r) (ends_at start (length s)) = subst (λ (n : ℕ). Answers (s ++ r) (ends_at start n)) q a in
    let w1 : Laid (take (length s - start) (drop start (s ++ r))) l = subst (λ (n : ℕ). Laid (take (n - start) (drop start (s ++ r))) l) q w in
    ends start (length s) (tail_free s r r' start a1) l (subst (λ (b : Bytes). Laid b l) (alike s r r' start (starts_before a1)) w1) (e ∙ ap (λ (n : ℕ). checked_as start n l) q)
moved_check s r r' (more start a e) h k = absurd (let x = ap (λ (c : Checked). c.end) e in omega arith)
moved_check s r r' (malformed start place a e) h k = absurd (let x = ap (λ (c : Checked). c.end) e in omega arith)
moved_check s r r' (too_long start a e) h k = absurd (let x = ap (λ (c : Checked). c.end) e in omega arith)

pub check_tail_free : (s r r' : Bytes) {c c' : Checked} → Checks (s ++ r) c → c.end ≡ length s → 1 ≤ length s → Checks (s ++ r') c' → c ≡ c'
check_tail_free s r r' x h k y = check_only (moved_check s r r' x h k) y

-- an attribute's value is one
has_one : {n v v' : Bytes} {l : List Pair} → Has n v l → Has n v' l → v ≡ v'
has_one (has_here f e) (has_here f' e') = e ∙ sym e'
has_one (has_here f e) (has_later f' h') = clash (sym f ∙ f')
has_one (has_later f h) (has_here f' e') = clash (sym f' ∙ f)
has_one (has_later f h) (has_later f' h') = has_one h h'

-- two inputs with the same message, one check: a text reads alike
module _ (a b : Bytes) {c : Checked} (x : Checks a c) (y : Checks b c) (z : c.refusal ≡ 0) (same_bytes : take (c.end - c.start) (drop c.start a) ≡ take (c.end - c.start) (drop c.start b)) where
  one : (handed_out x z).reading ≡ (handed_out y z).reading
  one = one_reading (subst (λ (w : Bytes). IsMessage w (handed_out x z).reading) same_bytes (handed_out x z).message) (handed_out y z).message

  text_alike : (n : String) (p : Span) → the_words (called n c.message) ≡ Some p → (v v' : Bytes) → Text (take p.len (drop p.start a)) v → Text (take p.len (drop p.start b)) v' → v ≡ v'
  text_alike n p e v v' t t' =
      let f = (handed_out x z).there (text n) p (place_called n (handed_out x z) p e) in
      let g = (handed_out y z).there (text n) p (place_called n (handed_out y z) p e) in
      text_one t f.text ∙ has_one f.has (subst (λ (t : Tree). Has (text n) g.value (attributes_of (child_of t))) (sym one) g.has) ∙ text_one g.text t'

one_span : {w : Option Span} {p p' : Span} → w ≡ Some p → w ≡ Some p' → p ≡ p'
one_span a b = cc

not_both : {X : Type 0} {w : Option Span} {p : Span} → w ≡ None → w ≡ Some p → X
not_both a b = absurd (let z : ◌≡◌ {A = ℕ} 0 1 = cc in omega arith)

reply_alike : {a b d d' : Bytes} {w : Option Span} → ((p : Span) → w ≡ Some p → (v v' : Bytes) → Text (take p.len (drop p.start a)) v → Text (take p.len (drop p.start b)) v' → v ≡ v') → Reply a w d → Reply b w d' → d ≡ d'
reply_alike {a} {b} h (same_id_case p e l v t k f) (same_id_case p' e' l' v' t' k' f') =
    f ∙ ap (λ (v : Bytes). written_of (same_of (length v)) v) (h p e v v' t (subst (λ (p : Span). Text (take p.len (drop p.start b)) v') (one_span e' e) t')) ∙ sym f'
reply_alike h (same_id_case p e l v t k f) (no_id_case e' f') = not_both e' e
reply_alike h (no_id_case e f) (same_id_case p' e' l' v' t' k' f') = not_both e e'
reply_alike h (no_id_case e f) (no_id_case e' f') = f ∙ sym f'

-- the bytes behind those that are used change nothing
pub receive_tail_free : {l : Lane} (s r r' : Bytes) {old new new' : Bytes} {x x' : Received} → Receives l (s ++ r) old new x → x.used ≡ length s → 1 ≤ length s → Receives l (s ++ r') old new' x' → (x ≡ x') × (new ≡ new')
unfolding reply_id forecast_id
receive_tail_free {l} s r r' {old} {new} {new'} {x} {x'} p h k q = ⊎_elim yes (λ f. absurd (let u = ap (λ (x : Received). x.used) (all.fits_not p f) in omega arith)) (all.room p)
  where
    at_end : length p.due ≤ length old → p.checked.end ≡ length s
    at_end f = sym (all.told_used p f) ∙ h

    there : length p.due ≤ length old → Checks (s ++ r') p.checked
    there f = moved_check s r r' p.checks (at_end f) k

    same_check : length p.due ≤ length old → p.checked ≡ q.checked
    same_check f = check_only (there f) q.checks

    cut_alike : length p.due ≤ length old → take (p.checked.end - p.checked.start) (drop p.checked.start (s ++ r)) ≡ take (p.checked.end - p.checked.start) (drop p.checked.start (s ++ r'))
    cut_alike f = go p.checks (at_end f)
      where
        go : {c : Checked} → Checks (s ++ r) c → c.end ≡ length s → take (c.end - c.start) (drop c.start (s ++ r)) ≡ take (c.end - c.start) (drop c.start (s ++ r'))
        go {c} (ends start end a i w e) g =
            let es = ap (λ (c : Checked). c.start) e in
            let ee : end ≡ length s = sym (ap (λ (c : Checked). c.end) e) ∙ g in
            let b : start ≤ length s = let y = starts_before a in omega arith in
            rw (g, es) (alike s r r' start b)
        go (more start a e) g = absurd (let y = ap (λ (c : Checked). c.end) e in omega arith)
        go (malformed start place a e) g = absurd (let y = ap (λ (c : Checked). c.end) e in omega arith)
        go (too_long start a e) g = absurd (let y = ap (λ (c : Checked). c.end) e in omega arith)

    forecast_alike : length p.due ≤ length old → p.forecast ≡ q.forecast
    forecast_alike f =
        carries_alike (λ w e t t' i j. text_alike (s ++ r) (s ++ r') p.checks (there f) (called_accepted "ForecastId" p.checks w e) (cut_alike f) "ForecastId" w e t t' i j) p.carries
        (subst (λ (c : Checked). Carries (s ++ r') (forecast_id c.message) q.forecast) (sym (same_check f)) q.carries)

    same_event : length p.due ≤ length old → all.event p ≡ all.event q
    same_event f = ap (λ (F : Carried). event_of p.checked.message F) (forecast_alike f) ∙ ap (λ (c : Checked). event_of c.message q.forecast) (same_check f)

    due_alike : length p.due ≤ length old → p.due ≡ q.due
    due_alike f =
        all.owes_alike (λ z a u v. reply_alike (λ w e t t' i j. text_alike (s ++ r) (s ++ r') p.checks (there f) (all.moved_zero l p.checked.refusal (all.event p) z) (cut_alike f) "Id" w e t t' i j) u v) p.owes
        (subst (λ (e : Event). Owes (s ++ r') p.checked.message (moved_by l p.checked.refusal e).refusal q.due) (sym (same_event f))
        (subst (λ (c : Checked). Owes (s ++ r') c.message (moved_by l c.refusal (all.event q)).refusal q.due) (sym (same_check f)) q.owes))

    yes : length p.due ≤ length old → (x ≡ x') × (new ≡ new')
    yes f = (p.answer ∙ ap (λ (c : Checked). answer_of l c (all.event p) p.due (length old)) (same_check f) ∙ ap (λ (e : Event). answer_of l q.checked e p.due (length old)) (same_event f) ∙ ap (λ (b : Bytes). answer_of l q.checked (all.event q) b (length old)) (due_alike f) ∙ sym q.answer, p.buffer ∙ ap (λ (b : Bytes). first_in b old) (due_alike f) ∙ sym q.buffer)
