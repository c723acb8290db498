use mathlib.Core.Path.{◌≡◌, ◌∙◌}
use Prim.Native.Nat.{ℕ}
use lib.Dec.{leb}
use Rattle.std.specs.Char.{is_ascii_digit}
use Rattle.number.specs.Bytes.{digit}
use Rattle.number.proofs.Tests.{cases}
use Rattle.numerals.proofs.byte.is_digit.Goals as goal

same : (b : ℕ) → is_ascii_digit b ≡ digit b
unfolding digit
same b = cases (leb 48 b) (λ t. rw t) (λ t. rw t)

pub returns : goal.returns
returns c = c.is_ascii_digit.ensures.value ∙ same c.args.b
