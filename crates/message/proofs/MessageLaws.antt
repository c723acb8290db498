-- Messages put together.
use Rattle.std.specs.Prelude.{Option}
use Rattle.value.specs.declared.text.Span.{Span}
use mathlib.Core.Path.{◌≡◌, refl, sym, ap, ◌∙◌}
use mathlib.Core.List.{List, []}
use mathlib.Core.Bool.{Bool, true, cond}
use Prim.Native.Nat.{ℕ}
use borrow.Author.Tests.{ne_eqb, eq-eqb}
use Rattle.exact.specs.Chain.{clash}
use Rattle.grammar.specs.Bytes.{Bytes}
use Rattle.grammar.specs.Tree.{Tree}
use Rattle.table.specs.Table.{Need, required, optional, required_with, ignored, Row, rows_of}
use Rattle.table.specs.Theorems.{plain_need, rows_table}
use Rattle.message.specs.Fields.{placed_by, fields_in}
use Rattle.message.specs.Cells.{cells_of}
use Rattle.message.specs.Messages.{with_zeros, message_from, blank}
use Rattle.message.specs.Checked.{message_of, judged_to}
use Rattle.message.specs.declared.cells.Message.{Message}
use Rattle.message.specs.declared.checking.Checked.{Checked}

-- without fields nothing is there
pub none_there : (k : ℕ) → message_from k [] ≡ blank k
unfolding message_from with_zeros cells_of
none_there k = refl

-- of plain rows, every text has its place
pub plain_placed : (n : Need) (w : Option Span) → plain_need n ≡ true → placed_by n w ≡ w
plain_placed required w h = refl
plain_placed optional w h = refl
plain_placed (required_with m) w h = clash (sym h)
plain_placed ignored w h = clash (sym h)

-- and the rows of document 01 stand as they are
pub message_table : (k : ℕ) (place : Bytes → Option Span) (t : Tree) → message_of k place t ≡ message_from k (fields_in (rows_of k) place t)
message_table k place t = ap (λ (rows : List Row). message_from k (fields_in rows place t)) (rows_table k t)

abbrev answered : ℕ → ℕ → ℕ → Message → Checked
answered n start end m = record { refusal = n; start = start; end = end; place = 0; message = m }

pub is_refused : (n start end k : ℕ) (m : Message) {b : Message} → (n ≡ 0 → ⊥) → b ≡ blank k → answered n start end b ≡ judged_to start end k n m
is_refused n start end k m h e = ap (answered n start end) (e ∙ sym (ap (λ (z : Bool). cond z m (blank k)) (ne_eqb n 0 h)))

pub is_accepted : (n start end k : ℕ) (m : Message) → n ≡ 0 → answered n start end m ≡ judged_to start end k n m
is_accepted n start end k m h = ap (answered n start end) (sym (ap (λ (z : Bool). cond z m (blank k)) (eq-eqb n 0 h)))
