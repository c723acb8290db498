-- The bytes of a line: its columns, one put behind the other, and that they fit.
use Rattle.std.proofs.Common.{◌≡◌, ℕ, ◌+◌, ◌-◌, ◌^◌, ◌<◌, ◌≤◌, Bool, true, false, cond, [], ◌∷◌, length, sym, subst, arith, length-append, le-leb, leb-true}
use Prim.Native.Char.{code}
use borrow.Author.Tests.{lt-leb}
use Rattle.grammar.specs.Bytes.{Bytes, text}
use Rattle.number.proofs.Tests.{cases}
use Rattle.number.specs.Digits.{print_int}
use Rattle.printing.specs.Put.{MOST, Countable, Wrote}
use Rattle.printing.specs.Writes.{◌then◌}
use Rattle.number.proofs.DigitLaws.{int_short}
use Rattle.lines.specs.Text.{LF, column, line_text, last_text}
use Rattle.windows.specs.Printed.{in64, line_printed, last_printed, LINE, Printed, roomy, left}

-- what a column takes at most: the digits of a number of 64 bits, and a byte
abbrev pub COLUMN : ℕ
COLUMN = 21

pub column_short : (n b : ℕ) → n < 2 ^ 64 → length (column n b) ≤ COLUMN
unfolding column
column_short n b h = let z = int_short 19 n (omega arith) in omega (arith, length-append (print_int n) (b ∷ []))

pub column_fits : (at n b : ℕ) → n < 2 ^ 64 → at + COLUMN ≤ MOST → Countable at (column n b)
column_fits at n b h k = omega (arith, column_short n b h)

-- a column put, and how far it reaches
pub record ColumnPut (old : Bytes) (at n b : ℕ) (new : Bytes) (r : ℕ) : Type 0 where
  pub wrote : Wrote old at (column n b) new r
  pub reach : r ≤ at + COLUMN

pub column_put : {old new : Bytes} {at n b r : ℕ} → n < 2 ^ 64 → Wrote old at (column n b) new r → ColumnPut old at n b new r
column_put {old} {new} {at} {n} {b} {r} h w = record { wrote = w; reach = omega (arith, w.next, column_short n b h) }

pub line_put : {old o p q new : Bytes} {at a b c r first past kind refusal : ℕ} (base start end : ℕ) → at + LINE ≤ length old → first ≡ in64 (base + start) → past ≡ in64 (base + end)
    → ColumnPut old at first (code " ") o a → ColumnPut o a past (code " ") p b → ColumnPut p b kind (code " ") q c → ColumnPut q c refusal LF new r → Printed old at (line_printed base start end kind refusal) new r
unfolding line_text
line_put {old} {o} {p} {q} {new} {at} {a} {b} {c} {r} {first} {past} {kind} {refusal} base start end room e f i j k l =
    let whole = i.wrote then j.wrote then k.wrote then l.wrote in
    subst (λ (x : ℕ). Printed old at (line_text (record { start = x; end = in64 (base + end); kind = kind; refusal = refusal })) new r) e
    (subst (λ (x : ℕ). Printed old at (line_text (record { start = first; end = x; kind = kind; refusal = refusal })) new r) f
    (record { wrote = whole; inside = omega (arith, i.reach, j.reach, k.reach, l.reach, whole.long) }))

pub last_put : {old o p new : Bytes} {at a b r byte answer : ℕ} (base place : ℕ) → at + LINE ≤ length old → byte ≡ in64 (base + place)
    → Wrote old at (text "end ") o a → ColumnPut o a byte (code " ") p b → ColumnPut p b answer LF new r → Printed old at (last_printed base place answer) new r
unfolding last_text
last_put {old} {o} {p} {new} {at} {a} {b} {r} {byte} {answer} base place room e i j k =
    let whole = i then j.wrote then k.wrote in
    subst (λ (x : ℕ). Printed old at (last_text (record { place = x; answer = answer })) new r) e
    (record { wrote = whole; inside = omega (arith, i.next, j.reach, k.reach, whole.long) })

-- how much waits where there is room for a line, and where there is none
pub left_all : (dry : Bool) (size at : ℕ) {m : ℕ} → m ≡ cond dry 0 (size - LINE) → LINE ≤ size → at ≤ m → at ≡ left dry size at
left_all true size at e h k = omega arith
left_all false size at e h k = rw (le-leb (at + LINE) size (omega arith))

pub left_none : (dry : Bool) (size at : ℕ) {m r : ℕ} → m ≡ cond dry 0 (size - LINE) → m < at → r ≡ 0 → r ≡ left dry size at
left_none true size at e h q = q
left_none false size at e h q = rw (lt-leb (at + LINE) size (omega arith)) q

-- there is room for a line then
pub left_room : (dry : Bool) (size at : ℕ) {r : ℕ} → r ≡ left dry size at → LINE ≤ size → r + LINE ≤ size
left_room dry size at {r} q h = subst (λ (k : ℕ). k + LINE ≤ size) (sym q) (go dry)
  where
    go : (dry : Bool) → left dry size at + LINE ≤ size
    go true = h
    go false = cases (roomy size at) (λ e. rw e (leb-true (at + LINE) size e)) (λ e. rw e h)
