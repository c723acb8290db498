-- One value of a message as its cell, as the code has it.
use Rattle.value.specs.declared.text.Span.{Span}
use Rattle.message.specs.declared.values.Decimal.{Decimal}
use Rattle.std.specs.Prelude.{List, [], ◌∷◌, ◌++◌, ℕ, ◌+◌, ◌*◌, take, drop, replicate, Option}
use Rattle.grammar.specs.Bytes.{Bytes}
use Rattle.message.specs.Fields.{Field}
use Rattle.message.specs.Cells.{NUMBERS, words_by, whole_by, measure_by, guid_by, features_by, cell_at, cell_of}
use Rattle.message.specs.declared.values.Features.{Features}
use Rattle.structs.specs.declared.celled.Cell.{Cell}

-- the cells in which nothing is there
abbrev pub zeros : List ℕ
zeros = replicate NUMBERS 0

-- the three numbers of a cell
abbrev pub numbers : Cell → List ℕ
numbers c = c.there ∷ c.a ∷ c.b ∷ []

-- the cell i
abbrev pub held_in : List ℕ → ℕ → Cell
held_in c i = record { there = cell_at c (3 * i); a = cell_at c (3 * i + 1); b = cell_at c (3 * i + 2) }

-- what the cell i is
abbrev pub words_at : List ℕ → ℕ → Option Span
words_at c i = words_by (cell_at c (3 * i)) (cell_at c (3 * i + 1)) (cell_at c (3 * i + 2))

abbrev pub whole_at : List ℕ → ℕ → Option ℕ
whole_at c i = whole_by (cell_at c (3 * i)) (cell_at c (3 * i + 1))

abbrev pub measure_at : List ℕ → ℕ → Option Decimal
measure_at c i = measure_by (cell_at c (3 * i)) (cell_at c (3 * i + 1)) (cell_at c (3 * i + 2))

abbrev pub guid_at : List ℕ → ℕ → Bytes → Option Bytes
guid_at c i id = guid_by (cell_at c (3 * i)) id

abbrev pub features_at : List ℕ → ℕ → Option Features
features_at c i = features_by (cell_at c (3 * i)) (cell_at c (3 * i + 1))

-- the numbers of the cell i replaced
unfoldable pub placed : ℕ → List ℕ → List ℕ → List ℕ
placed i three c = take (3 * i) c ++ (three ++ drop (3 * i + 3) c)

abbrev pub laid : ℕ → Field → List ℕ → List ℕ
laid i x c = placed i (cell_of x) c

-- fields laid one behind the other, from the cell i on
unfoldable pub all_laid : ℕ → List Field → List ℕ → List ℕ
all_laid i [] c = c
all_laid i (x ∷ l) c = all_laid (i + 1) l (laid i x c)
