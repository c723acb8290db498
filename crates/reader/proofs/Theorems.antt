-- What the promises of `read` and `outline` determine, and what each answer of `read` says: `Answers s (paper r)` is what it
-- promises of its answer r. Of every result it is said in Demand3.
use Rattle.std.specs.Prelude.{◌≡◌, refl, List, [], ◌∷◌, ◌++◌, ◌↔◌, false, ℕ, ◌+◌, ◌*◌, ◌≤◌, ◌<◌, length, drop, Result, Ok, Err, Option, Some, None}
use Rattle.std.proofs.Common.{sym, ap, subst, ◌∙◌, append_assoc, append-nil, arith, length-append, drop_at}
use Rattle.exact.specs.Exact.{inhabited}
use Rattle.exact.specs.Byte.{Starts, starts}
use Rattle.grammar.specs.Bytes.{Bytes}
use Rattle.grammar.specs.Limits.{ATTRIBUTES, MESSAGE}
use Rattle.grammar.specs.Glue.{is_glue, Glue}
use Rattle.grammar.specs.Filler.{Filler, spell_filler}
use Rattle.grammar.specs.Tree.{Tree}
use Rattle.grammar.specs.Element.{Element, spell_element}
use Rattle.grammar.specs.Message.{Layout, Message}
use Rattle.grammar.specs.Answer.{Behind, Open, EndedIn, Answer as PaperAnswer, ends_at, more_from, malformed_at, too_long_from, Answers}
use Rattle.grammar.specs.Cut.{Piece, Cut, cut_end, cut_piece}
use Rattle.model.proofs.Messages.{message_exact}
use Rattle.model.proofs.Answers.{behind_one}
use Rattle.model.proofs.Cuts.{message_starts, piece_behind}
use Rattle.model.proofs.Theorems.{one_layout, answers_only, tail_free as tail-free-by}
use Rattle.tags.specs.Places.{places}
use Rattle.grammar.specs.Places.{child_of, tag_in, lead, inside_from, Outlines}
use Rattle.reader.specs.Answer.{paper, unread, Accepted, Outlined}
use Rattle.reader.specs.declared.answer.Answer.{Answer}
use Rattle.reader.specs.declared.answer.Answer.TheVariants.{Ends, More, Malformed, TooLong}
use Rattle.reader.specs.Child.{Stands, NextChild}
use Rattle.reader.proofs.Parts.{next_one}
use Rattle.reader.specs.declared.answer.Outline.{Outline}
use Rattle.reader.specs.declared.answer.Sketch.{Sketch}
use Rattle.reader.specs.declared.answer.Unread.{Unread}
use Rattle.reader.specs.declared.answer.Unread.TheVariants.{More as Begun, Malformed as Dead, TooLong as Over}
use Rattle.reader.specs.declared.answer.Child.{Child}
use Rattle.reader.specs.Theorems.{EachFits, fits_piece, Finds}

abbrev code_of : PaperAnswer → Answer
code_of (ends_at start end) = Ends start end
code_of (more_from start) = More start
code_of (malformed_at start place) = Malformed start place
code_of (too_long_from start) = TooLong start

code_paper : (a : Answer) → code_of (paper a) ≡ a
code_paper (Ends start end) = refl
code_paper (More start) = refl
code_paper (Malformed start place) = refl
code_paper (TooLong start) = refl

-- no two answers of the code are one of the paper's
pub paper_injective : (a b : Answer) → paper a ≡ paper b → a ≡ b
paper_injective a b e = sym (code_paper a) ∙ ap code_of e ∙ code_paper b

-- no second answer satisfies the promise of `read`
pub read_only : (s : Bytes) (a b : Answer) → Answers s (paper a) → Answers s (paper b) → a ≡ b
read_only s a b p q = paper_injective a b (answers_only s (paper a) (paper b) p q)

-- what is said of an element's places determines them
same_lines : {m m' : ℕ} {x x' : Element} {f t c i f' t' c' i' : ℕ} → m ≡ m' → x ≡ x' → Outlines m x f t c i → Outlines m' x' f' t' c' i' → (f ≡ f') × (t ≡ t') × (c ≡ c') × (i ≡ i')
same_lines {m} {m'} {x} {x'} {f} {t} {c} {i} {f'} {t'} {c'} {i'} e₁ e₂ p q' =
    let q₁ : Outlines m x' f' t' c' i' = subst (λ (k : ℕ). Outlines k x' f' t' c' i') (sym e₁) q' in
    let q : Outlines m x f' t' c' i' = subst (λ (k : Element). Outlines m k f' t' c' i') (sym e₂) q₁ in
    let a : f ≡ f' = p.starts ∙ sym q.starts in
    let b : t ≡ t' = p.ends ∙ sym q.ends in
    let d : c ≡ c' = p.counts ∙ sym q.counts in
    (a, b, d, p.behind ∙ ap (λ (t : ℕ). inside_from t x) b ∙ sym q.behind)

outline_same : (r r' : Outline) → r.from ≡ r'.from → r.to ≡ r'.to → r.count ≡ r'.count → r.inside ≡ r'.inside → r ≡ r'
outline_same r r' a b c d = made a b c d
  where
    made : {f t n i f' t' n' i' : ℕ} → f ≡ f' → t ≡ t' → n ≡ n' → i ≡ i' → ◌≡◌ {A = Outline} (record { from = f; to = t; count = n; inside = i }) (record { from = f'; to = t'; count = n'; inside = i' })
    made a b c d = rw (a, b, c, d)

sketch_only : (r r' : Sketch) → r.start ≡ r'.start → r.end ≡ r'.end → r.child ≡ r'.child → r ≡ r'
sketch_only r r' a b c = made a b c
  where
    made : {n m n' m' : ℕ} {x x' : Outline} → n ≡ n' → m ≡ m' → x ≡ x' → ◌≡◌ {A = Sketch} (record { start = n; end = m; child = x }) (record { start = n'; end = m'; child = x' })
    made a b c = rw (a, b, c)

next_same : (r r' : Child) → r.outline ≡ r'.outline → r.next ≡ r'.next → r ≡ r'
next_same r r' a b = made a b
  where
    made : {x x' : Outline} {n n' : ℕ} → x ≡ x' → n ≡ n' → ◌≡◌ {A = Child} (record { outline = x; next = n }) (record { outline = x'; next = n' })
    made a b = rw (a, b)

same_child : {s : Bytes} {start end f t c i f' t' c' i' : ℕ} {old new new' : List ℕ} → Accepted s start end f t c i old new → Accepted s start end f' t' c' i' old new' → (f ≡ f') × (t ≡ t') × (c ≡ c') × (i ≡ i')
same_child {start} p q = let e = one_layout p.laid q.laid in same_lines (ap (λ (l : Layout). start + length (lead l)) e) (ap child_of e) p.lines q.lines

-- of an answer without a message the numbers are 0, and the table is scratch: nothing is said of it
abbrev pub RestOf : Bytes → List ℕ → List ℕ → Answer → ℕ → ℕ → ℕ → ℕ → Type 0
RestOf s old new (Ends start end) from to count inside = Accepted s start end from to count inside old new
RestOf s old new (More start) from to count inside = (from ≡ 0) × (to ≡ 0) × (count ≡ 0) × (inside ≡ 0)
RestOf s old new (Malformed start place) from to count inside = (from ≡ 0) × (to ≡ 0) × (count ≡ 0) × (inside ≡ 0)
RestOf s old new (TooLong start) from to count inside = (from ≡ 0) × (to ≡ 0) × (count ≡ 0) × (inside ≡ 0)

same_rest : (s : Bytes) (old new new' : List ℕ) (a : Answer) (f t c i f' t' c' i' : ℕ) → RestOf s old new a f t c i → RestOf s old new' a f' t' c' i' → (f ≡ f') × (t ≡ t') × (c ≡ c') × (i ≡ i')
same_rest s old new new' (Ends start end) f t c i f' t' c' i' p q = same_child p q
same_rest s old new new' (More start) f t c i f' t' c' i' p q = (p.0 ∙ sym q.0, p.1 ∙ sym q.1, p.2 ∙ sym q.2, p.3 ∙ sym q.3)
same_rest s old new new' (Malformed start place) f t c i f' t' c' i' p q = (p.0 ∙ sym q.0, p.1 ∙ sym q.1, p.2 ∙ sym q.2, p.3 ∙ sym q.3)
same_rest s old new new' (TooLong start) f t c i f' t' c' i' p q = (p.0 ∙ sym q.0, p.1 ∙ sym q.1, p.2 ∙ sym q.2, p.3 ∙ sym q.3)

abbrev unread_answer : Unread → Answer
unread_answer (Begun start) = More start
unread_answer (Dead start place) = Malformed start place
unread_answer (Over start) = TooLong start

-- an answer that is one of the paper's without a message
unread_paper : (x : Unread) → paper (unread_answer x) ≡ unread x
unread_paper (Begun start) = refl
unread_paper (Dead start place) = refl
unread_paper (Over start) = refl

unread_same : (x x' : Unread) → unread_answer x ≡ unread_answer x' → x ≡ x'
unread_same (Begun a) (Begun b) e = cc
unread_same (Begun a) (Dead b p) e = cc
unread_same (Begun a) (Over b) e = cc
unread_same (Dead a p) (Begun b) e = cc
unread_same (Dead a p) (Dead b q) e = cc
unread_same (Dead a p) (Over b) e = cc
unread_same (Over a) (Begun b) e = cc
unread_same (Over a) (Dead b p) e = cc
unread_same (Over a) (Over b) e = cc

-- an answer without a message is none with one
unread_apart : {A : Type 0} (s : Bytes) (start end : ℕ) (x : Unread) → Answers s (ends_at start end) → Answers s (unread x) → A
unread_apart s start end x p q = go x (read_only s (Ends start end) (unread_answer x) p (subst (λ (a : PaperAnswer). Answers s a) (sym (unread_paper x)) q))
  where
    go : {A : Type 0} (x : Unread) → Ends start end ≡ unread_answer x → A
    go (Begun a) e = cc
    go (Dead a p) e = cc
    go (Over a) e = cc

-- no second outline satisfies the promise of `outline`
pub outline_only : (s : Bytes) (old new new' : List ℕ) (r r' : Result Sketch Unread) → Outlined s old new r → Outlined s old new' r' → r ≡ r'
outline_only s old new new' (Ok r) (Ok r') p q =
    let e : Ends r.start r.end ≡ Ends r'.start r'.end = read_only s (Ends r.start r.end) (Ends r'.start r'.end) p.says.answers q.says.answers in
    let x : r.start ≡ r'.start = cc in
    let y : r.end ≡ r'.end = cc in
    let z : Accepted s r.start r.end r'.child.from r'.child.to r'.child.count r'.child.inside old new' = rw (x, y) q.says.accepted in
    let (a, b, c, d) = same_child p.says.accepted z in
    made x y a b c d
  where
    made : r.start ≡ r'.start → r.end ≡ r'.end → r.child.from ≡ r'.child.from → r.child.to ≡ r'.child.to → r.child.count ≡ r'.child.count → r.child.inside ≡ r'.child.inside → ◌≡◌ {A = Result Sketch Unread} (Ok r) (Ok r')
    made x y a b c d = ap Ok (sketch_only r r' x y (outline_same r.child r'.child a b c d))
outline_only s old new new' (Ok r) (Err x) p q = unread_apart s r.start r.end x p.says.answers q.says
outline_only s old new new' (Err x) (Ok r) p q = unread_apart s r.start r.end x q.says.answers p.says
outline_only s old new new' (Err x) (Err x') p q =
    let e : unread_answer x ≡ unread_answer x' = read_only s (unread_answer x) (unread_answer x') (subst (λ (a : PaperAnswer). Answers s a) (sym (unread_paper x)) p.says) (subst (λ (a : PaperAnswer). Answers s a) (sym (unread_paper x')) q.says) in
    ap Err (unread_same x x' e)

-- nor, with a message, a second table, if one is lent
pub table_only : (s : Bytes) (start end f t c i f' t' c' i' : ℕ) (old new new' : List ℕ) → length old ≡ 4 * ATTRIBUTES → Accepted s start end f t c i old new → Accepted s start end f' t' c' i' old new' → new ≡ new'
table_only s start end f t c i f' t' c' i' old new new' h p q =
    p.table h ∙ ap (λ (l : Layout). places 0 (tag_in (child_of l)).attributes ++ drop (4 * length (tag_in (child_of l)).attributes) old) (one_layout p.laid q.laid) ∙ sym (q.table h)

-- no second child satisfies the promise of `child`
pub child_only : (s : Bytes) (at : ℕ) (r r' : Option Child) → NextChild s at r → NextChild s at r' → r ≡ r'
child_only s at (Some r) (Some r') p q = both p.says q.says
  where
    both : Stands s at r → Stands s at r' → ◌≡◌ {A = Option Child} (Some r) (Some r')
    both a b =
        let (e, d, z) = next_one a.next b.next in
        let (g, h, i, j) = same_lines (ap (λ (f : Filler). at + length (spell_filler f) + 1) e) d a.lines b.lines in
        let l : r.next ≡ r'.next = a.ends ∙ ap (λ (f : Filler). at + length (spell_filler f) + length (spell_element a.x)) e ∙ ap (λ (x : Element). at + length (spell_filler b.f) + length (spell_element x)) d ∙ sym b.ends in
        ap Some (next_same r r' (outline_same r.outline r'.outline g h i j) l)
child_only s at (Some r) None p q = absurd (q.says p.says.f p.says.x p.says.next)
child_only s at None (Some r) p q = absurd (p.says q.says.f q.says.x q.says.next)
child_only s at None None p q = refl

-- "With the limit of 65,536 bytes, and glue before it dropped, a string is accepted as well formed to its last byte
-- exactly if it is one of them"
pub accepted_iff : (s : Bytes) (start : ℕ) → Answers s (paper (Ends start (length s)))
    ↔ ((g : Bytes) × (m : Bytes) × (t : Tree) × (s ≡ g ++ m) × Glue g × Message m t × (length m ≤ MESSAGE) × (start ≡ length g))
accepted_iff s start = (to, from)
  where
    none : (x : Bytes) → length x ≡ 0 → x ≡ []
    none [] h = refl
    none (b ∷ x) h = absurd (omega arith)

    to : Answers s (ends_at start (length s)) → (g : Bytes) × (m : Bytes) × (t : Tree) × (s ≡ g ++ m) × Glue g × Message m t × (length m ≤ MESSAGE) × (start ≡ length g)
    to p =
        let w = p.behind.whole in
        let k : length s ≡ length p.g + (length p.bytes + length p.rest) = ap length w ∙ length-append p.g (p.bytes ++ p.rest) ∙ ap (λ (n : ℕ). length p.g + n) (length-append p.bytes p.rest) in
        let e : p.rest ≡ [] = none p.rest (omega (arith, p.ends)) in
        (p.g, p.bytes, p.reading, w ∙ ap (λ (y : Bytes). p.g ++ (p.bytes ++ y)) e ∙ ap (λ (y : Bytes). p.g ++ y) (append-nil p.bytes), p.behind.glue, p.message, p.fits, p.starts)

    from : (g : Bytes) × (m : Bytes) × (t : Tree) × (s ≡ g ++ m) × Glue g × Message m t × (length m ≤ MESSAGE) × (start ≡ length g) → Answers s (ends_at start (length s))
    from (g, m, t, e, h, x, l, q) = record {
      g = g;
      bytes = m;
      rest = [];
      reading = t;
      behind = piece_behind [] h x (e ∙ ap (λ (y : Bytes). g ++ y) (sym (append-nil m)));
      message = x;
      fits = l;
      starts = q;
      ends = ap length e ∙ length-append g m;
    }

-- "Below the limit, more bytes are asked for only while some message, however long, could still begin so"
pub more_iff : {s g x : Bytes} → Behind s g x → length x < MESSAGE → (Answers s (paper (More (length g))) ↔ (Open x × ¬ EndedIn x))
more_iff {s} {g} {x} p h = (to, λ (o, n). record { g = g; x = x; behind = p; is_open = o; unended = n; below = h; starts = refl })
  where
    to : Answers s (more_from (length g)) → Open x × ¬ EndedIn x
    to q = let e = (behind_one q.behind p).1 in (subst (λ (y : Bytes). Open y) e q.is_open, subst (λ (y : Bytes). ¬ EndedIn y) e q.unended)

-- nothing behind the end of a message matters
pub tail_free : (s r r' : Bytes) (start : ℕ) → Answers (s ++ r) (paper (Ends start (length s))) → Answers (s ++ r') (paper (Ends start (length s)))
tail_free = tail-free-by

-- glue alone is open
glue_more : (s : Bytes) → Glue s → Answers s (more_from (length s))
glue_more s h =
    let (w, t, m) = inhabited message_exact in
    record { g = s; x = []; behind = record { whole = sym (append-nil s); glue = h; most = refl }; is_open = record { rest = w; reading = t; message = m }; unended = λ e. no e.bytes e.rest (message_starts e.message) e.whole; below = omega arith; starts = refl }
  where
    no : (u r : Bytes) → Starts is_glue false u → [] ≡ u ++ r → ⊥
    no u r (starts b u' i k) e = let n : 0 ≡ length u + length r = ap length e ∙ length-append u r in let m = ap length i in omega arith

-- "the library finds it where each message keeps the limit": so does each read in turn, dropping what was read
pub cut_found : {s g : Bytes} {l : List Piece} → Cut s l g → EachFits l → (a : Answer) → Answers s (paper a) → Finds s l g a
cut_found (cut_end {s} h) f a p = read_only s a (More (length s)) p (glue_more s h)
cut_found {s} (cut_piece {r} {g} {p} {l} h m e c) (fits_piece k f) a q =
    let i : length p.glue + length p.bytes ≡ length (p.glue ++ p.bytes) = sym (length-append p.glue p.bytes) in
    let j : s ≡ (p.glue ++ p.bytes) ++ r = e ∙ sym (append_assoc p.glue p.bytes r) in
    let z : drop (length p.glue + length p.bytes) s ≡ r = ap (λ (y : Bytes). drop (length p.glue + length p.bytes) y) j ∙ drop_at (p.glue ++ p.bytes) r (length p.glue + length p.bytes) (sym i) in (
      read_only s a (Ends (length p.glue) (length p.glue + length p.bytes)) q
          (record { g = p.glue; bytes = p.bytes; rest = r; reading = p.reading; behind = piece_behind r h m e; message = m; fits = k; starts = refl; ends = refl }),
      subst (λ (y : Bytes). Cut y l g) (sym z) c,
    )
