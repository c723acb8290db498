-- Every input has exactly one listing.
use Rattle.std.specs.Prelude.{◌≡◌, refl, List, [], ◌++◌, false, ℕ, zero, suc, ◌+◌, ◌≤◌, ◌<◌, length, drop}
use Rattle.std.proofs.Common.{sym, ap, subst, ◌∙◌, arith, length-append, length-drop}
use Rattle.exact.specs.Byte.{Starts, starts}
use Rattle.grammar.specs.Bytes.{Bytes}
use Rattle.grammar.specs.Glue.{is_glue}
use Rattle.grammar.specs.Tree.{Tree}
use Rattle.grammar.specs.Answer.{Ends, Answer, ends_at, more_from, malformed_at, too_long_from, Answers}
use Rattle.model.proofs.Answers.{behind_one}
use Rattle.model.proofs.Cuts.{message_starts}
use Rattle.model.proofs.Messages.{message_exact}
use Rattle.model.proofs.Theorems.{answers_total, answers_only}
use Rattle.exact.specs.Exact.{unique}
use Rattle.table.specs.Says.{said_of}
use Rattle.lines.specs.Lines.{MessageLine, LastLine, FirstLine, EndLine, unfinished, malformed, too_long, line_from, last_from, Lists, list_end, list_line}

-- the answer behind a last line, and the line of an answer that ends no message
abbrev Closes : Answer → LastLine → Type 0
Closes (ends_at start end) z = ⊥
Closes (more_from start) z = z ≡ record { place = start; answer = 1 }
Closes (malformed_at start place) z = z ≡ record { place = place; answer = 2 }
Closes (too_long_from start) z = z ≡ record { place = start; answer = 3 }

closing : {s : Bytes} {z : LastLine} → EndLine s z → (a : Answer) × Answers s a × Closes a z
closing (unfinished start p e) = (more_from start, p, e)
closing (malformed start place p e) = (malformed_at start place, p, e)
closing (too_long start p e) = (too_long_from start, p, e)

closes_one : (a : Answer) {y z : LastLine} → Closes a y → Closes a z → y ≡ z
closes_one (ends_at start end) p q = absurd p
closes_one (more_from start) p q = p ∙ sym q
closes_one (malformed_at start place) p q = p ∙ sym q
closes_one (too_long_from start) p q = p ∙ sym q

pub end_line_one : {s : Bytes} {y z : LastLine} → EndLine s y → EndLine s z → y ≡ z
end_line_one {s} {y} {z} p q =
    let (a, i, j) = closing p in
    let (b, k, l) = closing q in
    closes_one a j (subst (λ (b : Answer). Closes b z) (sym (answers_only s a b i k)) l)

-- an input with a message at its front has no last line yet
pub line_or_end : {s : Bytes} {m : MessageLine} {z : LastLine} → FirstLine s m → EndLine s z → ⊥
line_or_end {s} {m} {z} f q =
    let (b, k, l) = closing q in
    subst (λ (b : Answer). Closes b z) (sym (answers_only s (ends_at m.start m.end) b f.message k)) l

-- the message at the front is one, and so is its reading
reading_one : {s : Bytes} {a b c d : ℕ} (p : Ends s a b) (q : Ends s c d) → p.reading ≡ q.reading
reading_one p q =
    let z = behind_one p.behind q.behind in
    (unique message_exact p.bytes q.bytes p.reading q.reading p.rest q.rest p.message q.message z.1).1

pub first_line_one : {s : Bytes} {m l : MessageLine} → FirstLine s m → FirstLine s l → m ≡ l
first_line_one {s} {m} {l} p q =
    let e = answers_only s (ends_at m.start m.end) (ends_at l.start l.end) p.message q.message in
    let r = reading_one p.message q.message in
    let a : m.start ≡ l.start = cc in
    let b : m.end ≡ l.end = cc in
    made a b (p.kind ∙ ap (λ (t : Tree). (said_of t).kind) r ∙ sym q.kind) (p.refusal ∙ ap (λ (t : Tree). (said_of t).refusal) r ∙ sym q.refusal)
  where
    made : m.start ≡ l.start → m.end ≡ l.end → m.kind ≡ l.kind → m.refusal ≡ l.refusal → m ≡ l
    made a b c d =
        ap (λ (x : ℕ). record { start = x; end = m.end; kind = m.kind; refusal = m.refusal }) a
        ∙ ap (λ (x : ℕ). record { start = l.start; end = x; kind = m.kind; refusal = m.refusal }) b
        ∙ ap (λ (x : ℕ). record { start = l.start; end = l.end; kind = x; refusal = m.refusal }) c
        ∙ ap (λ (x : ℕ). record { start = l.start; end = l.end; kind = l.kind; refusal = x }) d

pub lists_same : {n : ℕ} {s : Bytes} {l k : List MessageLine} {y z : LastLine} → Lists n s l y → Lists n s k z → (l ≡ k) × (y ≡ z)
lists_same {n} (list_end e p i) (list_end f q j) = (refl, i ∙ ap (last_from n) (end_line_one p q) ∙ sym j)
lists_same (list_end e p i) (list_line m q j t) = absurd (line_or_end q p)
lists_same (list_line m q j t) (list_end e p i) = absurd (line_or_end q p)
lists_same {n} {s} (list_line {l} {y} {z} m p i t) (list_line {l = k} {y = y'} {z = z'} m' q j u) =
    let e : m ≡ m' = first_line_one p q in
    let v : Lists (n + m.end) (drop m.end s) k z' = subst (λ (m : MessageLine). Lists (n + m.end) (drop m.end s) k z') (sym e) u in
    let d = lists_same t v in
    let h : y ≡ y' = i ∙ ap (line_from n) e ∙ sym j in
    let d0 = d.0 in (cc, d.1)

-- a message has a byte
pub line_moves : {s : Bytes} {m : MessageLine} → FirstLine s m → (0 < m.end) × (m.end ≤ length s)
line_moves {s} {m} f = go (message_starts f.message.message)
  where
    go : Starts is_glue false f.message.bytes → (0 < m.end) × (m.end ≤ length s)
    go (starts b w i k) =
        let p = f.message in
        let a : length p.bytes ≡ suc (length w) = ap length i in
        let c : length s ≡ length p.g + length (p.bytes ++ p.rest) = ap length p.behind.whole ∙ length-append p.g (p.bytes ++ p.rest) in
        (omega (arith, p.ends), omega (arith, p.ends, length-append p.bytes p.rest))

abbrev Some : ℕ → Bytes → Type 0
Some n s = (l : List MessageLine) × (z : LastLine) × Lists n s l z

some : (n : ℕ) (s : Bytes) → ((e : ℕ) → 0 < e → e ≤ length s → Some (n + e) (drop e s)) → Some n s
some n s next = let (a, p) = answers_total s in go a p
  where
    go : (a : Answer) → Answers s a → Some n s
    go (ends_at start end) p =
        let f : FirstLine s (record { start = start; end = end; kind = (said_of p.reading).kind; refusal = (said_of p.reading).refusal }) = record { message = p; kind = refl; refusal = refl } in
        let (i, j) = line_moves f in
        let (l, z, t) = next end i j in
        (_, z, list_line _ f refl t)
    go (more_from start) p = ([], _, list_end _ (unfinished start p refl) refl)
    go (malformed_at start place) p = ([], _, list_end _ (malformed start place p refl) refl)
    go (too_long_from start) p = ([], _, list_end _ (too_long start p refl) refl)

listed : (k n : ℕ) (s : Bytes) → length s ≤ k → Some n s
listed zero n s h = some n s (λ e i j. absurd (omega arith))
listed (suc k) n s h = some n s (λ e i j. listed k (n + e) (drop e s) (omega (arith, length-drop e s)))

pub lists_some : (n : ℕ) (s : Bytes) → (l : List MessageLine) × (z : LastLine) × Lists n s l z
lists_some n s = listed (length s) n s (omega arith)
