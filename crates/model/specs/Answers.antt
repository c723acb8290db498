-- Every input has exactly one of the four answers: the model finds it, and none but it satisfies its sentence.
use Rattle.std.specs.Prelude.{◌≡◌, [], ◌∷◌, ◌++◌, cond, ℕ, ◌+◌, ◌-◌, ◌≤◌, ◌<◌, length}
use Rattle.exact.specs.Limit.{Ans, fine, wait, wrong, long, limited}
use Rattle.grammar.specs.Bytes.{Bytes}
use Rattle.grammar.specs.Limits.{MESSAGE}
use Rattle.grammar.specs.Glue.{is_glue}
use Rattle.grammar.specs.Tree.{Tree}
use Rattle.grammar.specs.Answer.{Answer, ends_at, more_from, malformed_at, too_long_from}
use Rattle.model.specs.Messages.{message_p}

-- the glue in front of an input, and what follows it
unfoldable pub leading : Bytes → Bytes
leading [] = []
leading (b ∷ s) = cond (is_glue b) (b ∷ leading s) []

unfoldable pub following : Bytes → Bytes
following [] = []
following (b ∷ s) = cond (is_glue b) (following s) (b ∷ s)

-- what the model says, as an answer: a bytes of glue, then x
abbrev pub answer_by : ℕ → Bytes → Ans Tree → Answer
answer_by a x (fine t r) = ends_at a (a + (length x - length r))
answer_by a x wait = more_from a
answer_by a x (wrong r) = malformed_at a (a + (length x - length r))
answer_by a x long = too_long_from a

unfoldable pub answer_at : ℕ → Bytes → Answer
answer_at a x = answer_by a x (limited MESSAGE x (message_p x))

unfoldable pub answer_of : Bytes → Answer
answer_of s = answer_at (length (leading s)) (following s)

-- w is the first 65,536 bytes of x, or all of it
pub record Window (x w : Bytes) : Type 0 where
  pub rest : Bytes
  pub whole : x ≡ w ++ rest
  pub small : length w ≤ MESSAGE
  pub all : length w < MESSAGE → rest ≡ []
