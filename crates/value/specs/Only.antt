-- No second answer meets a promise; when the answer is 6; and where it is never 7.
use Rattle.std.specs.Prelude.{◌≡◌}
use Rattle.grammar.specs.Bytes.{Bytes}

-- the same answer, and the same bytes in the scratch
pub record Same {A : Type 0} (new new' : Bytes) (r r' : A) : Type 0 where
  pub answer : r ≡ r'
  pub scratch : new ≡ new'
