-- What an answer says of a model at a place.
use Rattle.std.specs.Prelude.{◌≡◌, [], ◌∷◌, Bool, true, false, ℕ, ◌+◌, ◌-◌, ◌≤◌, ◌<◌, length, take, drop, get_or, Result, Ok, Err}
use Rattle.model.specs.Glue.{always}
use Rattle.model.specs.Names.{live, new}
use Rattle.exact.specs.Exact.{Out, done, more, bad, Reader}
use Rattle.exact.specs.Chain.{ret_p}
use Rattle.exact.specs.Byte.{lit_p}
use Rattle.exact.specs.Token.{token_p}
use Rattle.grammar.specs.Bytes.{Bytes, every}
use Rattle.grammar.specs.Glue.{is_glue}
use Rattle.scan.specs.declared.Stop.{Stop}
use Rattle.scan.specs.declared.Stop.TheVariants.{Open, Bad}

-- the next place, or why there is none
abbrev pub Step : Type 0
Step = Result ℕ Stop

-- what an outcome is where reading stopped
abbrev pub StopCase : {A : Type 0} → Bytes → ℕ → Stop → Out A → Type 0
StopCase s at Open o = o ≡ more
StopCase s at (Bad p) o = (at ≤ p) × (p < length s) × (o ≡ bad (drop p s))

-- what an answer says of an outcome: at least k bytes are read
abbrev pub GotCase : {A : Type 0} → ℕ → Bytes → ℕ → Step → Out A → Type 0
GotCase {A} k s at (Ok e) o = (v : A) × (at + k ≤ e) × (e ≤ length s) × (o ≡ done v (drop e s))
GotCase k s at (Err x) o = StopCase s at x o

pub record Got {A : Type 0} (k : ℕ) (s : Bytes) (at : ℕ) (r : Step) (o : Out A) : Type 0 where
  pub says : GotCase k s at r o

-- a token is the bytes up to where it ends, and a byte stands behind it
abbrev pub TokCase : ℕ → Bytes → ℕ → Step → Out Bytes → Type 0
TokCase k s at (Ok e) o = (at + k ≤ e) × (e < length s) × (o ≡ done (take (e - at) (drop at s)) (drop e s))
TokCase k s at (Err x) o = StopCase s at x o

pub record GotTok (k : ℕ) (s : Bytes) (at : ℕ) (r : Step) (o : Out Bytes) : Type 0 where
  pub says : TokCase k s at r o

-- a token's bytes from at up to i are read
pub record Walked (pre ok : Bytes → Bool) (s : Bytes) (at i : ℕ) : Type 0 where
  pub from : at ≤ i
  pub upto : i ≤ length s
  pub begun : pre (take (i - at) (drop at s)) ≡ true
  pub same : token_p pre ok ret_p [] (drop at s) ≡ token_p pre ok ret_p (take (i - at) (drop at s)) (drop i s)

-- r is where the glue at `at` ends
pub record Skipped (s : Bytes) (at r : ℕ) : Type 0 where
  pub walked : Walked (every is_glue) always s at r
  pub ends : r < length s → is_glue (get_or s r 0) ≡ false

-- the pieces of the models
unfoldable pub byte_p : ℕ → Reader ℕ
byte_p b = lit_p (b ∷ []) 0

unfoldable pub word_p : Bytes → Reader ℕ
word_p w = lit_p w 0

unfoldable pub glue_tok : Reader Bytes
glue_tok = token_p (every is_glue) always ret_p []

unfoldable pub name_tok : Reader Bytes
name_tok = token_p (live []) (new []) ret_p []

-- one after the other
unfoldable pub chained : {A B : Type 0} → Out A → (A → Bytes → Out B) → Out B
chained (done a r) q = q a r
chained more q = more
chained (bad r) q = bad r

-- glue, then the byte b
unfoldable pub glued_p : ℕ → Reader Bytes
glued_p b t = chained (glue_tok t) (λ g u. chained (byte_p b u) (λ _ v. done g v))

-- behind '<': '/', the name n, glue, '>'
unfoldable pub end_tag_p : Bytes → Reader Bytes
end_tag_p n t = chained (byte_p 47 t) (λ _ u. chained (word_p n u) (λ _ v. glued_p 62 v))
