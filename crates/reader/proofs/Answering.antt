-- From the model's outcome on the window behind the glue to the four answers.
use mathlib.Core.Path.{◌≡◌, refl, sym, subst, ap, ◌∙◌}
use mathlib.Core.Bool.{Bool, true, false}
use mathlib.Core.List.{List, [], ◌++◌}
use Prim.Native.Nat.{ℕ, ◌+◌, ◌-◌, ◌≤◌, ◌<◌}
use native.Mathlib.Omega.{arith}
use native.Mathlib.Nat.{sub-zero}
use lib.Dec.{leb}
use lib.ListN.{length, get_or, take, drop, length-take, length-drop, drop_of_length-le, take-append-drop}
use lib.Seq.{drop-cons, take-take, take-add, drop_at}
use borrow.Author.Tests.{leb-true, leb-false, le-leb, lt-leb}
use Rattle.exact.specs.Exact.{done, more, bad}
use Rattle.grammar.specs.Bytes.{Bytes}
use Rattle.grammar.specs.Limits.{MESSAGE}
use Rattle.grammar.specs.Glue.{is_glue}
use Rattle.grammar.specs.Message.{Layout, Laid}
use Rattle.grammar.specs.Answer.{leads, Behind, Answer as PaperAnswer, ends_at, more_from, malformed_at, too_long_from, Answers}
use Rattle.model.specs.Messages.{layout_p, message_p}
use Rattle.model.proofs.Messages.{layout_exact}
use Rattle.model.specs.Answers.{answer_at, Window}
use Rattle.model.proofs.Answers.{answers, window_behind, from_window}
use Rattle.scan.specs.Pieces.{Skipped}
use Rattle.std.specs.Prelude.{Ok, Err}
use Rattle.scan.specs.declared.Stop.TheVariants.{Open, Bad}
use Rattle.grammar.specs.Places.{child_of, lead}
use Rattle.reader.specs.Message.{InnerRead, GotInner}
use Rattle.reader.specs.Answer.{AtMost, Outlined}
use Rattle.reader.specs.declared.answer.Child.{Child}
use Rattle.reader.specs.declared.answer.Unread.TheVariants.{More as Begun, Malformed as Dead, TooLong as Over}
use Rattle.reader.proofs.message.Laws.{spanned}

-- the model's outcome as an answer
answer_done : (a : ℕ) (w : Bytes) (l : Layout) (r : Bytes) → layout_p w ≡ done l r → length w - length r ≤ MESSAGE → answer_at a w ≡ ends_at a (a + (length w - length r))
unfolding answer_at message_p
answer_done a w l r e h = rw (e, le-leb (length w - length r) MESSAGE h)

answer_more : (a : ℕ) (w : Bytes) → layout_p w ≡ more → length w < MESSAGE → answer_at a w ≡ more_from a
unfolding answer_at message_p
answer_more a w e h = rw (e, lt-leb MESSAGE (length w) h)

answer_long : (a : ℕ) (w : Bytes) → layout_p w ≡ more → MESSAGE ≤ length w → answer_at a w ≡ too_long_from a
unfolding answer_at message_p
answer_long a w e h = rw (e, le-leb MESSAGE (length w) h)

answer_bad : (a : ℕ) (w r : Bytes) → layout_p w ≡ bad r → length w - length r < MESSAGE → answer_at a w ≡ malformed_at a (a + (length w - length r))
unfolding answer_at message_p
answer_bad a w r e h = rw (e, lt-leb MESSAGE (length w - length r) h)

leads_drop : (s : Bytes) (i : ℕ) → (i < length s → is_glue (get_or s i 0) ≡ false) → leads (drop i s) ≡ false
leads_drop s i f = go (leb (length s) i) refl
  where
    go : (z : Bool) → leb (length s) i ≡ z → leads (drop i s) ≡ false
    go true e = rw (drop_of_length-le s (leb-true (length s) i e))
    go false e = let h = leb-false (length s) i e in rw (drop-cons s i 0 h) (f h)

-- the window of n bytes at start, behind the glue; part ends with it
module _ (s : Bytes) (start n : ℕ) (k : Skipped s 0 start) (m : AtMost (length s - start) n) where
  abbrev part : Bytes
  part = take (start + n) s

  abbrev g : Bytes
  g = take start s

  abbrev w : Bytes
  w = drop start part

  glue_behind : Behind s g (drop start s)
  glue_behind = record { whole = sym (take-append-drop start s); glue = rw (sub-zero start) at k.walked.begun; most = leads_drop s start k.ends }

  long_g : length g ≡ start
  long_g = let h = k.walked.upto in rw length-take (omega arith)

  window_is : w ≡ take n (drop start s)
  window_is = ap (λ (y : Bytes). drop start y) (take-add start n s) ∙ drop_at g (take n (drop start s)) start long_g

  pub long_part : length part ≡ start + n
  long_part = let h = k.walked.upto in let i = m.within in rw length-take (omega arith)

  long_w : length w ≡ n
  long_w = let h = long_part in length-drop start part ∙ (omega arith)

  rest_none : length w < MESSAGE → drop n (drop start s) ≡ []
  rest_none h =
      let i = long_w in
      let j = m.all (omega arith) in
      let l : length (drop start s) ≤ n = rw length-drop (omega arith) in
      drop_of_length-le (drop start s) l

  in_window : Window (drop start s) w
  in_window = record {
    rest = drop n (drop start s);
    whole = sym (take-append-drop n (drop start s)) ∙ ap (λ (y : Bytes). y ++ drop n (drop start s)) (sym window_is);
    small = let h = long_w in let i = m.small in omega arith;
    all = λ h. rest_none h;
  }

  pub starts_in : start ≤ length part
  starts_in = let h = long_part in omega arith

  the_answer : Answers s (answer_at start w)
  the_answer = subst (λ (a : ℕ). Answers s (answer_at a w)) long_g (from_window glue_behind in_window (answer_at (length g) w) (answers (window_behind glue_behind in_window)))

  module _ (old new : List ℕ) where
    pub outline_ends : (r : Child) → InnerRead child_of lead part start old new r (layout_p w) → Outlined s old new (Ok (record { start = start; end = r.next; child = r.outline }))
    outline_ends r c = record {
      says = record {
        answers = subst (λ (a : PaperAnswer). Answers s a) there the_answer;
        accepted = record { layout = c.value; laid = laid; lines = c.drawn.lines; table = λ h. c.drawn.table.noted (record { whole = h; short = fits }) };
      };
    }
      where
        fits : length part ≤ r.outline.to + MESSAGE
        fits = let a = long_part in let b = m.small in let d = c.drawn.lines.ends in omega arith

        least : start + 1 ≤ r.next
        least = c.far

        room : r.next ≤ length part
        room = c.upto

        size : start + (length w - length (drop r.next part)) ≡ r.next
        size = omega (arith, long_w, long_part, length-drop r.next part, least, room)

        there : answer_at start w ≡ ends_at start r.next
        there = answer_done start w c.value (drop r.next part) c.reads (omega (arith, long_w, m.small)) ∙ ap (ends_at start) size

        laid : Laid (take (r.next - start) (drop start s)) c.value
        laid =
            let (u, i, j, x) = spanned layout_exact part start r.next c.value (omega (arith, least)) room c.reads in
            let y : take (r.next - start) (drop start s) ≡ u = sym (take-take (r.next - start) n (drop start s) (omega (arith, room, long_part))) ∙ ap (λ (y : Bytes). take (r.next - start) y) (sym window_is) ∙ j in
            subst (λ (y : Bytes). Laid y c.value) (sym y) x

    pub outline_more : GotInner child_of lead part start old new (Err Open) (layout_p w) → n < MESSAGE → Outlined s old new (Err (Begun start))
    outline_more c h =
        let there : answer_at start w ≡ more_from start = answer_more start w c.says (omega (arith, long_w)) in
        record { says = subst (λ (a : PaperAnswer). Answers s a) there the_answer }

    pub outline_long : GotInner child_of lead part start old new (Err Open) (layout_p w) → MESSAGE ≤ n → Outlined s old new (Err (Over start))
    outline_long c h =
        let there : answer_at start w ≡ too_long_from start = answer_long start w c.says (omega (arith, long_w)) in
        record { says = subst (λ (a : PaperAnswer). Answers s a) there the_answer }

    pub outline_bad : {p : ℕ} → GotInner child_of lead part start old new (Err (Bad p)) (layout_p w) → Outlined s old new (Err (Dead start p))
    outline_bad {p} c =
        let y = c.says in
        let size : start + (length w - length (drop p part)) ≡ p = omega (arith, long_w, long_part, length-drop p part) in
        let there : answer_at start w ≡ malformed_at start p = answer_bad start w (drop p part) y.2 (omega (arith, long_w, long_part, length-drop p part, m.small)) ∙ ap (malformed_at start) size in
        record { says = subst (λ (a : PaperAnswer). Answers s a) there the_answer }
