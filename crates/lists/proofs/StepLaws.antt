-- What check_cells' result shows of a window, by its refusal.
use mathlib.Core.Path.{◌≡◌, refl, sym, ap, subst}
use mathlib.Core.List.{List, ◌++◌}
use mathlib.Core.Bool.{Bool, true, false, cond}
use Prim.Native.Nat.{ℕ, ◌-◌, ◌<◌}
use native.Mathlib.Omega.{arith}
use lib.ListN.{length, take, drop}
use lib.Seq.{take-append_seam, drop-append_seam}
use Rattle.grammar.specs.Bytes.{Bytes}
use Rattle.grammar.specs.Tree.{Tree}
use Rattle.grammar.specs.Message.{Layout, Laid, read_layout}
use Rattle.grammar.specs.Answer.{Ends, Answers, more_from, malformed_at, too_long_from}
use Rattle.model.proofs.Theorems.{one_reading}
use Rattle.table.specs.Table.{table}
use Rattle.table.specs.Says.{rows_for, child_of, said_of}
use Rattle.reads.specs.Whole.{CellsChecked, ends, more, malformed, too_long}
use Rattle.reads.specs.declared.whole.Outcome.{Outcome}
use Rattle.lines.specs.Lines.{MessageLine, FirstLine, unfinished as unfinished-line, malformed as malformed-line, too_long as too-long-line}
use Rattle.lines.specs.Step.{ListStep}
use Rattle.lines.specs.Refusals.{Refusal, none_of_it, refuses, refusal_is}
use Rattle.lines.specs.declared.Listed.{Listed}
use Rattle.lines.specs.declared.Listed.TheVariants.{Line, Drop, End}

-- a message's bytes are those from its start to its end
bytes_of : {s : Bytes} {start end : ℕ} (p : Ends s start end) → p.bytes ≡ take (end - start) (drop start s)
bytes_of {s} {start} {end} p =
    let i : end - start ≡ length p.bytes = omega (arith, p.starts, p.ends) in
    sym (rw (i, p.starts, p.behind.whole, drop-append_seam p.g (p.bytes ++ p.rest)) (take-append_seam p.bytes p.rest))

reading_of_lem : {s : Bytes} {start end : ℕ} (p : Ends s start end) (l : Layout) → Laid (take (end - start) (drop start s)) l → p.reading ≡ read_layout l
reading_of_lem p l w = one_reading p.message (record { layout = l; laid = subst (λ (y : Bytes). Laid y l) (sym (bytes_of p)) w; reads = refl })

-- the line by its result
abbrev line_of : Outcome → MessageLine
line_of c = record { start = c.start; end = c.end; kind = c.kind; refusal = c.refusal }

record ByNumber (s : Bytes) (c : Outcome) : Type 0 where
  one : c.refusal ≡ 1 → Answers s (more_from c.start)
  two : c.refusal ≡ 2 → (start : ℕ) × Answers s (malformed_at start c.place)
  three : c.refusal ≡ 3 → Answers s (too_long_from c.start)
  others : (c.refusal ≡ 1 → ⊥) → (c.refusal ≡ 2 → ⊥) → (c.refusal ≡ 3 → ⊥) → FirstLine s (line_of c)

-- no message is refused by 1, 2 or 3
never : {n : ℕ} (k : ℕ) → 0 < k → k < 4 → n ≡ k → Refusal n → ⊥
never k a b h (none_of_it e) = omega arith
never k a b h (refuses i j) = omega arith

by_number : {s : Bytes} {before after : List ℕ} {c : Outcome} → CellsChecked s before after c → ByNumber s c
by_number {s} {c = c} (ends start end p l w e _) = subst (λ (c : Outcome). ByNumber s c) (sym e) (record {
  one = λ h. absurd (never 1 (omega arith) (omega arith) h (refusal_is (rows_for table (said_of (read_layout l)).kind (child_of (read_layout l))) (child_of (read_layout l))));
  two = λ h. absurd (never 2 (omega arith) (omega arith) h (refusal_is (rows_for table (said_of (read_layout l)).kind (child_of (read_layout l))) (child_of (read_layout l))));
  three = λ h. absurd (never 3 (omega arith) (omega arith) h (refusal_is (rows_for table (said_of (read_layout l)).kind (child_of (read_layout l))) (child_of (read_layout l))));
  others = λ _ _ _. record {
    message = p;
    kind = ap (λ (t : Tree). (said_of t).kind) (sym (reading_of_lem p l w));
    refusal = ap (λ (t : Tree). (said_of t).refusal) (sym (reading_of_lem p l w));
  };
})
by_number {s} (more start p e _) = subst (λ (c : Outcome). ByNumber s c) (sym e) (record { one = λ _. p; two = λ h. absurd (omega arith); three = λ h. absurd (omega arith); others = λ f _ _. absurd (f refl) })
by_number {s} (malformed start place p e _) = subst (λ (c : Outcome). ByNumber s c) (sym e) (record { one = λ h. absurd (omega arith); two = λ _. (start, p); three = λ h. absurd (omega arith); others = λ _ f _. absurd (f refl) })
by_number {s} (too_long start p e _) = subst (λ (c : Outcome). ByNumber s c) (sym e) (record { one = λ h. absurd (omega arith); two = λ h. absurd (omega arith); three = λ _. p; others = λ _ _ f. absurd (f refl) })

-- one law for each return
pub shows_unfinished : {s : Bytes} {before after : List ℕ} {c : Outcome} (last : Bool) {r : Listed} → CellsChecked s before after c → c.refusal ≡ 1 → r ≡ cond last (End c.start 1) (Drop c.start) → ListStep s last r
shows_unfinished {s} {c = c} last {r} p h e = subst (λ (r : Listed). ListStep s last r) (sym e) (go last)
  where
    go : (last : Bool) → ListStep s last (cond last (End c.start 1) (Drop c.start))
    go true = record { shows = (unfinished-line c.start ((by_number p).one h) refl, λ _. refl) }
    go false = record { shows = ((by_number p).one h, refl) }

pub shows_malformed : {s : Bytes} {before after : List ℕ} {c : Outcome} (last : Bool) → CellsChecked s before after c → c.refusal ≡ 2 → ListStep s last (End c.place 2)
shows_malformed {c = c} last p h = let (start, q) = (by_number p).two h in record { shows = (malformed-line start c.place q refl, λ k. absurd (omega arith)) }

pub shows_too_long : {s : Bytes} {before after : List ℕ} {c : Outcome} (last : Bool) → CellsChecked s before after c → c.refusal ≡ 3 → ListStep s last (End c.start 3)
shows_too_long {c = c} last p h = record { shows = (too-long-line c.start ((by_number p).three h) refl, λ k. absurd (omega arith)) }

pub shows_line : {s : Bytes} {before after : List ℕ} {c : Outcome} (last : Bool) → CellsChecked s before after c → (c.refusal ≡ 1 → ⊥) → (c.refusal ≡ 2 → ⊥) → (c.refusal ≡ 3 → ⊥) → ListStep s last (Line c.start c.end c.kind c.refusal)
shows_line last p f g h = record { shows = (by_number p).others f g h }
