-- The reader of comments, and that it is exact.
use Rattle.std.specs.Prelude.{◌≡◌, refl, List, [], ◌∷◌, ◌++◌, false, ℕ, ◌<◌, length}
use Rattle.std.proofs.Common.{ap, ◌∙◌, append_assoc, arith, ne_eqb}
use Rattle.exact.specs.Exact.{Lang, Exact, exact_like}
use Rattle.exact.specs.Chain.{Seq, seq, bind_p, bind_exact, Map, mapped, map_exact}
use Rattle.exact.specs.Byte.{On, on, on_exact, Lit, lit, lit_exact, eqb-true, Alt, left, right, Starts, starts, on_starts, map_starts, choice_exact}
use Rattle.exact.specs.Loop.{again, stop, Loop, last, next, onward, loop_p, loop_eq, loop_exact}
use Rattle.grammar.specs.Bytes.{Bytes, text, within}
use Rattle.grammar.specs.Character.{is_char, utf8}
use Rattle.grammar.specs.Comment.{Mark, mark, dash_mark, spell_marks, good_mark, good_dash, GoodMarks, marks_end, marks_then}
use Rattle.model.specs.Characters.{IsRaw, plain_byte}
use Rattle.model.proofs.Characters.{char_exact, raw_starts}
use Rattle.model.specs.Comments.{is_dash, no_dash_p, MarkAcc, MarkTurn, mark_turn, dash_turn, dash_p, mark_p, marks_p, IsMarks, comment_p, IsComment}

no_dash_exact : Exact (IsRaw is_dash) no_dash_p
unfolding no_dash_p plain_byte is_char within
no_dash_exact = char_exact is_dash (λ c h. ne_eqb 45 c (λ z. omega arith)) 65 refl

no_dash_starts : (w : Bytes) (c : ℕ) → IsRaw is_dash w c → Starts is_dash false w
unfolding plain_byte is_char within
no_dash_starts = raw_starts is_dash (λ c h. ne_eqb 45 c (λ z. omega arith)) 45 (omega arith) refl

abbrev DashL : MarkAcc → Lang MarkTurn
DashL k = Alt (On is_dash (λ b. Lit (text ">") (stop (k [])))) (Map (dash_turn k) (IsRaw is_dash))

abbrev MarkL : MarkAcc → Lang MarkTurn
MarkL k = Alt (On is_dash (λ b. DashL k)) (Map (mark_turn k) (IsRaw is_dash))

dash_exact : (k : MarkAcc) → Exact (DashL k) (dash_p k)
unfolding dash_p
dash_exact k = choice_exact (on_starts (λ b h. h)) (map_starts no_dash_starts) (on_exact 45 refl (λ b h. lit_exact (text ">") (stop (k [])))) (map_exact (dash_turn k) no_dash_exact)

mark_exact : (k : MarkAcc) → Exact (MarkL k) (mark_p k)
unfolding mark_p
mark_exact k = choice_exact (on_starts (λ b h. h)) (map_starts no_dash_starts) (on_exact 45 refl (λ b h. dash_exact k)) (map_exact (mark_turn k) no_dash_exact)

reads : (k : MarkAcc) (w : Bytes) (k' : MarkAcc) → Unit {0} → MarkL k w (again k') → 0 < length w
reads k w k' u (left (on b w' e h l)) = rw e (omega arith)
reads k w k' u (right (mapped c l s)) = go (no_dash_starts w c l)
  where
    go : Starts is_dash false w → 0 < length w
    go (starts b w' e h) = rw e (omega arith)

ending : (k : MarkAcc) → Loop MarkL k (text "-->") (k [])
ending k = last (left (on 45 _ refl refl (left (on 45 _ refl refl (lit refl refl)))))

loop_good : (k : MarkAcc) (w : Bytes) (v : List Mark) → Loop MarkL k w v → (l : List Mark) × (v ≡ k l) × IsMarks w l
loop_good k w v (last (left (on b w₁ e h (left (on c w₂ i j (lit z s)))))) = ([], (cc), record { good = marks_end; spelt = e ∙ rw (eqb-true 45 b h, i, eqb-true 45 c j, z) })
loop_good k w v (last (left (on b w₁ e h (right (mapped c l s))))) = absurd (let z : ◌≡◌ {A = ℕ} 0 1 = cc in omega arith)
loop_good k w v (last (right (mapped c l s))) = absurd (let z : ◌≡◌ {A = ℕ} 0 1 = cc in omega arith)
loop_good k w v (next w₁ k' w₂ e (left (on b w₃ i h (left (on c w₄ j y (lit z s))))) t) = absurd (let z : ◌≡◌ {A = ℕ} 0 1 = cc in omega arith)
loop_good k w v (next w₁ k' w₂ e (left (on b w₃ i h (right (mapped c m s)))) t) = step (loop_good k' w₂ v t)
  where
    step : (l : List Mark) × (v ≡ k' l) × IsMarks w₂ l → (l : List Mark) × (v ≡ k l) × IsMarks w l
    step (l, y, z) =
        let g : k' ≡ (λ l. k (dash_mark c ∷ l)) = cc in
        let d : b ≡ 45 = eqb-true 45 b h in
        let x : w₁ ≡ 45 ∷ utf8 c = i ∙ rw (d, m.spelt) in
        (dash_mark c ∷ l, y ∙ ap (λ (f : MarkAcc). f l) g, record { good = marks_then (good_dash m.char m.free) z.good; spelt = e ∙ rw (x, z.spelt, append_assoc) })
loop_good k w v (next w₁ k' w₂ e (right (mapped c m s)) t) = step (loop_good k' w₂ v t)
  where
    step : (l : List Mark) × (v ≡ k' l) × IsMarks w₂ l → (l : List Mark) × (v ≡ k l) × IsMarks w l
    step (l, y, z) =
        let g : k' ≡ (λ l. k (mark c ∷ l)) = cc in
        (mark c ∷ l, y ∙ ap (λ (f : MarkAcc). f l) g, record { good = marks_then (good_mark m.char m.free) z.good; spelt = e ∙ rw (m.spelt, z.spelt, append_assoc) })

good_loop : (k : MarkAcc) {l : List Mark} → GoodMarks l → Loop MarkL k (spell_marks l ++ text "-->") (k l)
good_loop k marks_end = ending k
good_loop k (marks_then {l = l} (good_mark {c} h d) r) =
    next (utf8 c) (λ l. k (mark c ∷ l)) _ (append_assoc (utf8 c) (spell_marks l) (text "-->")) (right (mapped c (record { char = h; free = d; spelt = refl }) refl)) (good_loop (λ l. k (mark c ∷ l)) r)
good_loop k (marks_then {l = l} (good_dash {c} h d) r) =
    next (45 ∷ utf8 c) (λ l. k (dash_mark c ∷ l)) _ (append_assoc (45 ∷ utf8 c) (spell_marks l) (text "-->"))
    (left (on 45 (utf8 c) refl refl (right (mapped c (record { char = h; free = d; spelt = refl }) refl)))) (good_loop (λ l. k (dash_mark c ∷ l)) r)

pub marks_exact : Exact IsMarks marks_p
unfolding marks_p
marks_exact = exact_like to from (loop_exact (λ k. Unit {0}) (λ k u. mark_exact k) (λ k w k' u l. tt) reads (λ k u. (text "-->", k [], ending k)) (λ l. l) tt)
  where
    to : (w : Bytes) (v : List Mark) → Loop MarkL (λ l. l) w v → IsMarks w v
    to w v l = let z = loop_good (λ l. l) w v l in rw z.1 z.2

    from : (w : Bytes) (v : List Mark) → IsMarks w v → Loop MarkL (λ l. l) w v
    from w v l = rw l.spelt (good_loop (λ l. l) l.good)

-- the unfolding equation, for code
pub marks_eq : (k : MarkAcc) (s : Bytes) → loop_p mark_p k s ≡ bind_p (mark_p k) (onward (loop_p mark_p)) s
marks_eq k s = loop_eq (λ k. Unit {0}) (λ k u. mark_exact k) (λ k w k' u l. tt) reads (λ k u. (text "-->", k [], ending k)) k tt s

pub comment_exact : Exact IsComment comment_p
unfolding comment_p
comment_exact = exact_like to from (bind_exact (lit_exact {A = ℕ} (text "--") 0) (λ w u l. marks_exact))
  where
    to : (w : Bytes) (v : List Mark) → Seq (Lit {A = ℕ} (text "--") 0) (λ u. IsMarks) w v → IsComment w v
    to w v (seq w₁ a w₂ e (lit i q) m) = record { good = m.good; spelt = e ∙ rw (i, m.spelt) }

    from : (w : Bytes) (v : List Mark) → IsComment w v → Seq (Lit {A = ℕ} (text "--") 0) (λ u. IsMarks) w v
    from w v m = seq (text "--") 0 _ m.spelt (lit refl refl) (record { good = m.good; spelt = refl })
