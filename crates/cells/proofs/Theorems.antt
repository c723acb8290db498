-- What the promises of `number_at`, `cell_of`, `clear`, `kind_from`, `text_from`, `blank` and `named_id` determine: each is an equation.
use mathlib.Core.Path.{◌≡◌, sym, ◌∙◌}

-- no second result meets it
pub told_only : {A : Type 0} {x r r' : A} → r ≡ x → r' ≡ x → r ≡ r'
told_only p q = p ∙ sym q
