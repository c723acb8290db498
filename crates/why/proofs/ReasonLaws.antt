-- The bytes of the line: a word and four columns, one put behind the other, and that they fit.
use Rattle.std.specs.Prelude.{Option, Some, None}
use mathlib.Core.Path.{◌≡◌, refl, sym, subst}
use mathlib.Core.Bool.{false}
use Prim.Native.Nat.{ℕ, ◌+◌, ◌≤◌}
use Prim.Native.Char.{code}
use native.Mathlib.Omega.{arith}
use lib.ListN.{length}
use Rattle.grammar.specs.Bytes.{Bytes, text}
use Rattle.value.specs.declared.text.Span.{Span}
use Rattle.printing.specs.Put.{Wrote}
use Rattle.printing.specs.Writes.{◌then◌}
use Rattle.lines.specs.Text.{LF}
use Rattle.windows.specs.Held.{fresh, Held}
use Rattle.windows.specs.Printed.{in64, LINE, Printed, left}
use Rattle.windows.specs.declared.output.Room.{Room}
use Rattle.windows.specs.declared.window.Window.{Window}
use Rattle.windows.proofs.LineLaws.{ColumnPut}
use Rattle.decides.specs.declared.Decision.{Decision}
use Rattle.why.specs.declared.Place.{Place}
use Rattle.why.specs.Reason.{reason_text, value_text, why_text, Explained, Behind, Stepped}

pub reason_put : {old o p q u new : Bytes} {at a b c d r row there start len : ℕ} → at + LINE ≤ length old → Wrote old at (text "why ") o a → ColumnPut o a row (code " ") p b → ColumnPut p b there (code " ") q c
    → ColumnPut q c start (code " ") u d → ColumnPut u d len LF new r → Printed old at (reason_text row there start len) new r
unfolding reason_text
reason_put room i j k l m =
    let whole = i then j.wrote then k.wrote then l.wrote then m.wrote in
    record { wrote = whole; inside = omega (arith, i.next, j.reach, k.reach, l.reach, m.reach, whole.long) }

pub absent_told : {old new : Bytes} {at r : ℕ} (base : ℕ) (d : Decision) → d.value ≡ None → Printed old at (reason_text d.row 0 0 0) new r → Printed old at (why_text base d) new r
absent_told {old} {new} {at} {r} base d e p = subst (λ (w : Option Span). Printed old at (value_text base d.row w) new r) (sym e) p

pub present_told : {old new : Bytes} {at r n : ℕ} (base : ℕ) (d : Decision) (p : Span) → d.value ≡ Some p → n ≡ in64 (base + p.start) → Printed old at (reason_text d.row 1 n p.len) new r → Printed old at (why_text base d) new r
present_told {old} {new} {at} {r} {n} base d p e f q = subst (λ (w : Option Span). Printed old at (value_text base d.row w) new r) (sym e) (subst (λ (n : ℕ). Printed old at (reason_text d.row 1 n p.len) new r) f q)

-- behind a line, by the refusal
pub behind_none : {b old : Bytes} {w : Window} {refusal : ℕ} {r : Room} → refusal ≡ 0 → r.waiting ≤ length old → Behind b w refusal old r.waiting old r
behind_none e h = record { none = λ _. (refl, refl); some = λ f. absurd (f e); inside = h }

pub behind_some : {b old new : Bytes} {w : Window} {refusal waiting at : ℕ} {r : Room} → (refusal ≡ 0 → ⊥) → at ≡ left false (length old) waiting → Explained b w old at new r.waiting → Behind b w refusal old waiting new r
behind_some {b} {old} {new} {w} {r = r} f e x = record { none = λ z. absurd (f z); some = λ _. subst (λ (k : ℕ). Explained b w old k new r.waiting) e x; inside = x.printed.inside }

-- where a step leaves the window and what waits
pub stepped_held : {b old new : Bytes} {w : Window} {waiting : ℕ} {r : Place} → Stepped b w old waiting new r → Held r.window (length b)
stepped_held {b} x = subst (λ (v : Window). Held v (length b)) (sym x.window) x.turned.held

pub stepped_inside : {b old new : Bytes} {w : Window} {waiting : ℕ} {r : Place} → Stepped b w old waiting new r → r.waiting ≤ length new
stepped_inside {new = new} x = subst (λ (n : ℕ). n ≤ length new) (sym x.waits) x.behind.inside

pub opened_held : {w : Window} (n : ℕ) → w ≡ fresh → Held w n
opened_held n e = subst (λ (w : Window). Held w n) (sym e) (record { front = omega arith; back = omega arith; room = λ _. omega arith })
