-- What the promise of `list_step` determines, and that a listing by windows is that of the whole input.
use Rattle.std.specs.Prelude.{◌≡◌, refl, List, [], ◌++◌, Bool, true, ℕ, ◌+◌, ◌≤◌, ◌<◌, length, drop}
use Rattle.std.proofs.Common.{sym, ap, subst, ◌∙◌, append_assoc, arith, length-append}
use Rattle.std.proofs.lemmas.List.{drop-append-le}
use Rattle.std.proofs.Math.Seq.{drop-append_seam}
use Rattle.exact.specs.Chain.{clash}
use Rattle.grammar.specs.Bytes.{Bytes}
use Rattle.grammar.specs.Limits.{MESSAGE}
use Rattle.grammar.specs.Answer.{Behind, more_from, Answers}
use Rattle.model.proofs.Answers.{behind_one}
use Rattle.model.proofs.Theorems.{answers_only}
use Rattle.table.specs.Table.{table}
use Rattle.table.specs.Says.{rows_for, child_of, said_of}
use Rattle.lines.specs.Lines.{MessageLine, LastLine, FirstLine, EndLine, unfinished, malformed, too_long, Lists, list_end, list_line, Listing}
use Rattle.lines.specs.Step.{Shows, ListStep}
use Rattle.lines.specs.Refusals.{Refusal, refusal_is}
use Rattle.lines.specs.Runs.{Run, run_read, run_line, run_drop, run_end}
use Rattle.lines.proofs.Unique.{end_line_one, line_or_end, first_line_one, lists_same, lists_some, line_moves}
use Rattle.lines.proofs.Windows.{line_more, end_more, lists_glue}
use Rattle.lines.specs.declared.Listed.{Listed}
use Rattle.lines.specs.declared.Listed.TheVariants.{Line, Drop, End}

-- where bytes are unfinished the last line is that of 1, at them
more_end : {s : Bytes} {start : ℕ} {z : LastLine} → Answers s (more_from start) → EndLine s z → z ≡ record { place = start; answer = 1 }
more_end {s} {start} p q = end_line_one q (unfinished start p refl)

-- no second answer meets the promise of `list_step`
pub list_only : (s : Bytes) (last : Bool) (r r' : Listed) → ListStep s last r → ListStep s last r' → r ≡ r'
list_only s last r r' p q = go r r' p.shows q.shows
  where
    never : (glue place answer : ℕ) → Shows s last (Drop glue) → Shows s last (End place answer) → ⊥
    never glue place answer (a, b) (c, d) = clash (sym (d (ap (λ (z : LastLine). z.answer) (more_end a c))) ∙ b)

    go : (r r' : Listed) → Shows s last r → Shows s last r' → r ≡ r'
    go (Line a b c d) (Line a' b' c' d') p q = ap (λ (m : MessageLine). Line m.start m.end m.kind m.refusal) (first_line_one p q)
    go (Line a b c d) (Drop g) p q = absurd (line_or_end p (unfinished g q.0 refl))
    go (Line a b c d) (End e n) p q = absurd (line_or_end p q.0)
    go (Drop g) (Line a b c d) p q = absurd (line_or_end q (unfinished g p.0 refl))
    go (Drop g) (Drop g') p q = let e = answers_only s (more_from g) (more_from g') p.0 q.0 in cc
    go (Drop g) (End e n) p q = absurd (never g e n p q)
    go (End e n) (Line a b c d) p q = absurd (line_or_end q p.0)
    go (End e n) (Drop g) p q = absurd (never g e n q p)
    go (End e n) (End e' n') p q = ap (λ (z : LastLine). End z.place z.answer) (end_line_one p.0 q.0)

-- what a step drops lies in the window, and a line drops a byte at least
pub line_within : {s : Bytes} {last : Bool} {start end kind refusal : ℕ} → ListStep s last (Line start end kind refusal) → (0 < end) × (end ≤ length s)
line_within p = line_moves p.shows

pub drop_within : {s : Bytes} {last : Bool} {glue : ℕ} → ListStep s last (Drop glue) → glue ≤ length s
drop_within p = let q = p.shows.0 in omega (arith, q.starts, ap length q.behind.whole, length-append q.g q.x)

-- places lie in the input, and a message starts before its end
pub start_within : {s : Bytes} {m : MessageLine} → FirstLine s m → m.start ≤ m.end
start_within f = omega (arith, f.message.starts, f.message.ends)

pub end_within : {s : Bytes} {z : LastLine} → EndLine s z → z.place ≤ length s
end_within {s} (unfinished start p e) = let q = ap (λ (z : LastLine). z.place) e in omega (arith, p.starts, ap length p.behind.whole, length-append p.g p.x)
end_within {s} (malformed start place p e) = let q = ap (λ (z : LastLine). z.place) e in omega (arith, p.at_place, p.shorter, ap length p.behind.whole, length-append p.g p.x)
end_within {s} (too_long start p e) = let q = ap (λ (z : LastLine). z.place) e in omega (arith, p.starts, ap length p.behind.whole, length-append p.g (p.u ++ p.rest))

-- "refusal (0, 4, 5 or 6)"
pub line_refusal : {s : Bytes} {m : MessageLine} → FirstLine s m → Refusal m.refusal
line_refusal f = let t = f.message.reading in subst Refusal (sym f.refusal) (refusal_is (rows_for table (said_of t).kind (child_of t)) (child_of t))

-- every input has a listing, and no two
pub lists_one : (s : Bytes) → (l : List MessageLine) × (z : LastLine) × Listing s l z × ((k : List MessageLine) (y : LastLine) → Listing s k y → (l ≡ k) × (z ≡ y))
lists_one s = let (l, z, p) = lists_some 0 s in (l, z, p, λ k y q. lists_same p q)

-- a run that goes on from a window prints the lines of the window and what is to come
pub run_lists : {n : ℕ} {window rest : Bytes} {l : List MessageLine} {z : LastLine} → Run n window rest l z → Lists n (window ++ rest) l z
run_lists {n} {window} {rest} {l} {z} (run_read more later e r) =
    subst (λ (y : Bytes). Lists n y l z) (append_assoc window more later ∙ ap (λ (y : Bytes). window ++ y) (sym e)) (run_lists r)
run_lists {n} {window} {rest} (run_line {l} {z = z} last start end kind refusal h p e r) =
    let f : FirstLine window (record { start = start; end = end; kind = kind; refusal = refusal }) = p.shows in
    list_line (record { start = start; end = end; kind = kind; refusal = refusal }) (line_more rest f) e
    (subst (λ (y : Bytes). Lists (n + end) y l z) (sym (drop-append-le end window rest (line_moves f).1)) (run_lists r))
run_lists {n} {window} {rest} {l} {z} (run_drop glue p r) =
    let q = p.shows.0 in
    let w = q.behind.whole in
    let e : drop glue window ≡ q.x = ap (λ (k : ℕ). drop k window) q.starts ∙ ap (drop (length q.g)) w ∙ drop-append_seam q.g q.x in
    let t : Lists (n + glue) (q.x ++ rest) l z = subst (λ (y : Bytes). Lists (n + glue) (y ++ rest) l z) e (run_lists r) in
    let u : Lists n (q.g ++ (q.x ++ rest)) l z = lists_glue q.g q.behind.glue (subst (λ (k : ℕ). Lists (n + k) (q.x ++ rest) l z) q.starts t) in
    subst (λ (y : Bytes). Lists n y l z) (sym (append_assoc q.g q.x rest) ∙ ap (λ (y : Bytes). y ++ rest) (sym w)) u
run_lists {n} {window} {rest} (run_end last place answer h p e) =
    list_end (record { place = place; answer = answer }) (end_more rest (λ k. h (p.shows.1 k)) p.shows.0) e

-- however the windows fall, a run that ends prints exactly the lines of the whole input
pub list_exact : (s : Bytes) (l k : List MessageLine) (z y : LastLine) → Run 0 [] s l z → Listing s k y → (l ≡ k) × (z ≡ y)
list_exact s l k z y r q = lists_same (run_lists r) q

-- with 65,536 bytes behind the glue the answer is never 1: a full window shows a line or the end
pub full_window : {s g x : Bytes} → Behind s g x → MESSAGE ≤ length x → (start : ℕ) → Answers s (more_from start) → ⊥
full_window p h start q = let e = (behind_one q.behind p).1 in omega (arith, q.below, ap length e)

-- so a window that is short of a line holds fewer behind its glue, and there is room to read more
pub drop_leaves : {s : Bytes} {last : Bool} {glue : ℕ} → ListStep s last (Drop glue) → length s < glue + MESSAGE
drop_leaves p = let q = p.shows.0 in omega (arith, q.below, q.starts, ap length q.behind.whole, length-append q.g q.x)

-- and every listing is printed by a run
pub run_some : {n : ℕ} {s : Bytes} {l : List MessageLine} {z : LastLine} → Lists n s l z → Run n s [] l z
run_some (list_end e p i) = run_end true e.place e.answer (λ _. refl) (record { shows = (p, λ _. refl) }) i
run_some (list_line m f i t) = run_line true m.start m.end m.kind m.refusal (λ _. refl) (record { shows = f }) i (run_some t)
