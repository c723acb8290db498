-- What the promise of `decided` determines, and that the row it names is the first that is refused.
use Rattle.std.specs.Prelude.{Option}
use Rattle.value.specs.declared.text.Span.{Span}
use mathlib.Core.Path.{◌≡◌, refl, sym, ap, subst, ◌∙◌}
use mathlib.Core.List.{List, [], ◌∷◌, ◌++◌, append_assoc}
use Prim.Native.Nat.{ℕ, zero, suc, ◌+◌, ◌-◌}
use native.Mathlib.Omega.{arith}
use lib.ListN.{length, length-append, length-drop, take, drop}
use lib.Seq.{drop-append-le, take-append-le}
use Rattle.std.specs.Prelude.{Option, None, Some}
use Rattle.grammar.specs.Bytes.{Bytes}
use Rattle.grammar.specs.Tree.{Tree}
use Rattle.grammar.specs.Message.{Layout, Laid, read_layout}
use Rattle.grammar.specs.Answer.{Ends, Answer as PaperAnswer, Answers, ends_at, more_from, malformed_at, too_long_from}
use Rattle.model.proofs.Cuts.{piece_behind}
use Rattle.model.proofs.Theorems.{one_layout, answers_only}
use Rattle.table.specs.Table.{Row, Entry}
use Rattle.table.specs.Says.{refusal_in, tried, first, refusal_of, child_of, rows_for, said_in}
use Rattle.message.specs.Checked.{places_in, ChecksBy, ends as ends_so, more as more_so, malformed as malformed_so, too_long as too_long_so}
use Rattle.message.specs.declared.checking.Checked.{Checked}
use Rattle.decides.specs.Deciding.{value_in, ruled_by, first_refused, decided_by, decided_in, undecided, DecidesBy, ends, more, malformed, too_long}
use Rattle.decides.specs.declared.Ruling.{Ruling}
use Rattle.decides.specs.declared.Decision.{Decision}

-- the result of the call for an answer of the paper, by a given table
abbrev ResultOf : List Entry → Bytes → PaperAnswer → Decision → Type 0
ResultOf by s (ends_at start end) r = (l : Layout) × Laid (take (end - start) (drop start s)) l × (r ≡ decided_in by start l)
ResultOf by s (more_from start) r = r ≡ undecided 1
ResultOf by s (malformed_at start place) r = r ≡ undecided 2
ResultOf by s (too_long_from start) r = r ≡ undecided 3

answered : {by : List Entry} {s : Bytes} {r : Decision} → DecidesBy by s r → (a : PaperAnswer) × Answers s a × ResultOf by s a r
answered (ends start end p l w e) = (ends_at start end, p, (l, w, e))
answered (more start p e) = (more_from start, p, e)
answered (malformed start place p e) = (malformed_at start place, p, e)
answered (too_long start p e) = (too_long_from start, p, e)

same_result : (by : List Entry) (s : Bytes) (a : PaperAnswer) {r r' : Decision} → ResultOf by s a r → ResultOf by s a r' → r ≡ r'
same_result by s (ends_at start end) (l, w, e) (l', w', e') = e ∙ ap (decided_in by start) (one_layout w w') ∙ sym e'
same_result by s (more_from start) e e' = e ∙ sym e'
same_result by s (malformed_at start place) e e' = e ∙ sym e'
same_result by s (too_long_from start) e e' = e ∙ sym e'

-- no second result satisfies the promise of `decided`, by any table
pub decided_only : {by : List Entry} {s : Bytes} {r r' : Decision} → DecidesBy by s r → DecidesBy by s r' → r ≡ r'
decided_only {by} {s} {r} {r'} p q =
    let (a, x, y) = answered p in
    let (a', x', y') = answered q in
    same_result by s a y (subst (λ (b : PaperAnswer). ResultOf by s b r') (sym (answers_only s a a' x x')) y')

-- what rules over rows refuses as they do, by 0 if none does
abbrev pub refused_by : Option Ruling → ℕ
refused_by None = 0
refused_by (Some x) = x.refusal

decision_refuses : (k : ℕ) (x : Option Ruling) → (decided_by k x).refusal ≡ refused_by x
decision_refuses k None = refl
decision_refuses k (Some x) = refl

pub ruled_refusal : (i : ℕ) (l : List Row) (place : Bytes → Option Span) (t : Tree) → refused_by (first_refused i l place t) ≡ refusal_of l t
unfolding first_refused refusal_of
ruled_refusal i [] place t = refl
ruled_refusal i (r ∷ l) place t = go (refusal_in (tried r t)) (ruled_refusal (suc i) l place t)
  where
    go : (n : ℕ) → refused_by (first_refused (suc i) l place t) ≡ refusal_of l t → refused_by (ruled_by n i (value_in r.form (place r.name)) (first_refused (suc i) l place t)) ≡ first n (refusal_of l t)
    go zero e = e
    go (suc n) e = refl

-- the refusal that `check` answers, by any table
abbrev Refuses : List Entry → Bytes → PaperAnswer → ℕ → Type 0
Refuses by s (ends_at start end) n = (l : Layout) × Laid (take (end - start) (drop start s)) l × (n ≡ (said_in by (read_layout l)).refusal)
Refuses by s (more_from start) n = n ≡ 1
Refuses by s (malformed_at start place) n = n ≡ 2
Refuses by s (too_long_from start) n = n ≡ 3

checked_refuses : {by : List Entry} {s : Bytes} {r : Checked} → ChecksBy by s r → (a : PaperAnswer) × Answers s a × Refuses by s a r.refusal
checked_refuses (ends_so start end p l w e) = (ends_at start end, p, (l, w, ap (λ (r : Checked). r.refusal) e))
checked_refuses (more_so start p e) = (more_from start, p, ap (λ (r : Checked). r.refusal) e)
checked_refuses (malformed_so start place p e) = (malformed_at start place, p, ap (λ (r : Checked). r.refusal) e)
checked_refuses (too_long_so start p e) = (too_long_from start, p, ap (λ (r : Checked). r.refusal) e)

decided_refuses : {by : List Entry} {s : Bytes} {r : Decision} → DecidesBy by s r → (a : PaperAnswer) × Answers s a × Refuses by s a r.refusal
decided_refuses {by} (ends start end p l w e) = (ends_at start end, p, (l, w, ap (λ (r : Decision). r.refusal) e ∙ decision_refuses (said_in by (read_layout l)).kind (first_refused 0 (rows_for by (said_in by (read_layout l)).kind (child_of (read_layout l))) (places_in start l) (child_of (read_layout l))) ∙ ruled_refusal 0 (rows_for by (said_in by (read_layout l)).kind (child_of (read_layout l))) (places_in start l) (child_of (read_layout l))))
decided_refuses (more start p e) = (more_from start, p, ap (λ (r : Decision). r.refusal) e)
decided_refuses (malformed start place p e) = (malformed_at start place, p, ap (λ (r : Decision). r.refusal) e)
decided_refuses (too_long start p e) = (too_long_from start, p, ap (λ (r : Decision). r.refusal) e)

same_refusal : (by : List Entry) (s : Bytes) (a : PaperAnswer) {m n : ℕ} → Refuses by s a m → Refuses by s a n → m ≡ n
same_refusal by s (ends_at start end) (l, w, e) (l', w', e') = e ∙ ap (λ (l : Layout). (said_in by (read_layout l)).refusal) (one_layout w w') ∙ sym e'
same_refusal by s (more_from start) e e' = e ∙ sym e'
same_refusal by s (malformed_at start place) e e' = e ∙ sym e'
same_refusal by s (too_long_from start) e e' = e ∙ sym e'

-- `decided` and `check` refuse alike
pub decided_as_checked : {by : List Entry} {s : Bytes} {c : Checked} {r : Decision} → ChecksBy by s c → DecidesBy by s r → c.refusal ≡ r.refusal
decided_as_checked {by} {s} {c} {r} p q =
    let (a, x, y) = checked_refuses p in
    let (a', x', y') = decided_refuses q in
    same_refusal by s a y (subst (λ (b : PaperAnswer). Refuses by s b r.refusal) (sym (answers_only s a a' x x')) y')

-- the row that rules: none before it is refused, it is, and the value is its own
pub record First (l : List Row) (place : Bytes → Option Span) (t : Tree) (x : Ruling) : Type 0 where
  pub before : List Row
  pub row : Row
  pub behind : List Row
  pub rows : l ≡ before ++ (row ∷ behind)
  pub number : x.row ≡ length before
  pub passed : refusal_of before t ≡ 0
  pub refused : refusal_in (tried row t) ≡ x.refusal
  pub value : x.value ≡ value_in row.form (place row.name)

-- with the numbers counted from i
record FirstFrom (i : ℕ) (l : List Row) (place : Bytes → Option Span) (t : Tree) (x : Ruling) : Type 0 where
  before : List Row
  row : Row
  behind : List Row
  rows : l ≡ before ++ (row ∷ behind)
  number : x.row ≡ i + length before
  passed : refusal_of before t ≡ 0
  refused : refusal_in (tried row t) ≡ x.refusal
  value : x.value ≡ value_in row.form (place row.name)

-- what rules, and that it is that row
abbrev pub IsFirst : List Row → (Bytes → Option Span) → Tree → Option Ruling → Type 0
IsFirst l place t r = (x : Ruling) × (r ≡ Some x) × First l place t x

abbrev IsFirstFrom : ℕ → List Row → (Bytes → Option Span) → Tree → Option Ruling → Type 0
IsFirstFrom i l place t r = (x : Ruling) × (r ≡ Some x) × FirstFrom i l place t x

first_from : (i : ℕ) (l : List Row) (place : Bytes → Option Span) (t : Tree) → (refusal_of l t ≡ 0 → ⊥) → IsFirstFrom i l place t (first_refused i l place t)
unfolding first_refused refusal_of
first_from i [] place t h = absurd (h refl)
first_from i (r ∷ l) place t h = go (refusal_in (tried r t)) refl (first_from (suc i) l place t) h
  where
    go : (n : ℕ) → refusal_in (tried r t) ≡ n → ((refusal_of l t ≡ 0 → ⊥) → IsFirstFrom (suc i) l place t (first_refused (suc i) l place t)) → (first n (refusal_of l t) ≡ 0 → ⊥)
        → IsFirstFrom i (r ∷ l) place t (ruled_by n i (value_in r.form (place r.name)) (first_refused (suc i) l place t))
    go zero e on h = let (y, q, x) = on h in (y, q, record { before = r ∷ x.before; row = x.row; behind = x.behind; rows = ap (λ (l : List Row). r ∷ l) x.rows; number = let y = x.number in omega arith; passed = ap (λ (n : ℕ). first n (refusal_of x.before t)) e ∙ x.passed; refused = x.refused; value = x.value })
    go (suc n) e on h = (record { refusal = suc n; row = i; value = value_in r.form (place r.name) }, refl, record { before = []; row = r; behind = l; rows = refl; number = omega arith; passed = refl; refused = e; value = refl })

-- where rows refuse, the row that rules is the first that does
pub first_decides : (l : List Row) (place : Bytes → Option Span) (t : Tree) → (refusal_of l t ≡ 0 → ⊥) → IsFirst l place t (first_refused 0 l place t)
first_decides l place t h = let (y, q, x) = first_from 0 l place t h in (y, q, record { before = x.before; row = x.row; behind = x.behind; rows = x.rows; number = let y = x.number in omega arith; passed = x.passed; refused = x.refused; value = x.value })

-- the message that ends in s ends in s with bytes behind it, and has the same bytes
ends_more : {s : Bytes} {start end : ℕ} (t : Bytes) → Ends s start end → Ends (s ++ t) start end
ends_more {s} t p = record {
  g = p.g;
  bytes = p.bytes;
  rest = p.rest ++ t;
  reading = p.reading;
  behind = piece_behind (p.rest ++ t) p.behind.glue p.message (ap (λ (y : Bytes). y ++ t) p.behind.whole ∙ append_assoc p.g (p.bytes ++ p.rest) t ∙ ap (λ (y : Bytes). p.g ++ y) (append_assoc p.bytes p.rest t));
  message = p.message;
  fits = p.fits;
  starts = p.starts;
  ends = p.ends;
}

bytes_more : {s : Bytes} {start end : ℕ} (t : Bytes) → Ends s start end → take (end - start) (drop start s) ≡ take (end - start) (drop start (s ++ t))
bytes_more {s} {start} {end} t p =
    let whole : length s ≡ length p.g + length (p.bytes ++ p.rest) = ap length p.behind.whole ∙ length-append p.g (p.bytes ++ p.rest) in
    let rest = length-append p.bytes p.rest in
    let left = length-drop start s in
    sym (ap (take (end - start)) (drop-append-le start s t (omega (arith, p.starts))) ∙ take-append-le (end - start) (drop start s) t (omega (arith, p.starts, p.ends)))

-- nothing behind the end of a message matters: what decides in a window decides in the whole input
pub decided_more : {by : List Entry} {s : Bytes} {r : Decision} {start end : ℕ} (t : Bytes) → Answers s (ends_at start end) → DecidesBy by s r → DecidesBy by (s ++ t) r
decided_more {by} {s} {r} {start} {end} t a d =
    let (b, x, y) = answered d in
    let (l, w, e) = subst (λ (b : PaperAnswer). ResultOf by s b r) (answers_only s b (ends_at start end) x a) y in
    ends start end (ends_more t a) l (subst (λ (y : Bytes). Laid y l) (bytes_more t a) w) e
