-- What `list_step` promises.
use Rattle.std.specs.Prelude.{◌≡◌, Bool, true, false}
use Rattle.grammar.specs.Bytes.{Bytes}
use Rattle.grammar.specs.Answer.{Answers, more_from}
use Rattle.lines.specs.Lines.{FirstLine, EndLine}
use Rattle.lines.specs.declared.Listed.{Listed}
use Rattle.lines.specs.declared.Listed.TheVariants.{Line, Drop, End}

-- what each case says of a window: a message's line; that its bytes behind the glue are unfinished, and the input is not at
-- its end; the last line, for unfinished bytes only at the input's end
abbrev pub Shows : Bytes → Bool → Listed → Type 0
Shows s last (Line start end kind refusal) = FirstLine s (record { start = start; end = end; kind = kind; refusal = refusal })
Shows s last (Drop glue) = Answers s (more_from glue) × (last ≡ false)
Shows s last (End place answer) = EndLine s (record { place = place; answer = answer }) × (answer ≡ 1 → last ≡ true)

pub record ListStep (s : Bytes) (last : Bool) (r : Listed) : Type 0 where
  pub shows : Shows s last r
