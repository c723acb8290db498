-- What is laid into a cell is what the cell holds.
use Rattle.std.specs.Prelude.{◌≡◌, refl, ℕ, ◌+◌, ◌*◌, Bool, true, false, List, get_or, Option, Some, None}
use Rattle.std.proofs.Common.{ap, ◌∙◌}
use Rattle.value.specs.declared.text.Span.{Span}
use Rattle.message.specs.Cells.{words_by, whole_by, measure_by, features_by, flag, words_cell, whole_cell, measure_cell, features_cell}
use Rattle.message.specs.declared.values.Decimal.{Decimal}
use Rattle.message.specs.declared.values.Features.{Features}
use Rattle.structs.specs.Celled.{numbers}
use Rattle.structs.specs.declared.celled.Cell.{Cell}

abbrev three : {A : Type 0} → (ℕ → ℕ → ℕ → A) → List ℕ → A
three f l = f (get_or l 0 0) (get_or l 1 0) (get_or l 2 0)

pub words_held : (v : Option Span) (c : Cell) → numbers c ≡ words_cell v → words_by c.there c.a c.b ≡ v
unfolding words_by
words_held None c e = ap (three words_by) e
words_held (Some p) c e = ap (three words_by) e

pub whole_held : (v : Option ℕ) (c : Cell) → numbers c ≡ whole_cell v → whole_by c.there c.a ≡ v
unfolding whole_by
whole_held None c e = ap (three (λ t a b. whole_by t a)) e
whole_held (Some n) c e = ap (three (λ t a b. whole_by t a)) e

pub measure_held : (v : Option Decimal) (c : Cell) → numbers c ≡ measure_cell v → measure_by c.there c.a c.b ≡ v
unfolding measure_by
measure_held None c e = ap (three measure_by) e
measure_held (Some d) c e = ap (three measure_by) e

pub features_held : (v : Option Features) (c : Cell) → numbers c ≡ features_cell v → features_by c.there c.a ≡ v
unfolding features_by
features_held None c e = ap (three (λ t a b. features_by t a)) e
features_held (Some f) c e = ap (three (λ t a b. features_by t a)) e ∙ bits f.forecast f.query f.send
  where
    bits : (x y z : Bool) → features_by 1 (flag x + (2 * flag y + 4 * flag z)) ≡ Some (record { forecast = x; query = y; send = z })
    bits true true true = refl
    bits true true false = refl
    bits true false true = refl
    bits true false false = refl
    bits false true true = refl
    bits false true false = refl
    bits false false true = refl
    bits false false false = refl
