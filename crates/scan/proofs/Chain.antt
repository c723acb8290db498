-- Chains of readers at positions: what stopped one stops the chain, what was read leads to what is left.
use mathlib.Core.Path.{◌≡◌, refl, ap, subst, ◌∙◌}
use Prim.Native.Nat.{ℕ, suc, ◌+◌, ◌-◌, ◌≤◌, ◌<◌}
use native.Mathlib.Omega.{arith}
use native.Mathlib.Numerals.{add-one}
use lib.ListN.{length, take, drop, get_or, drop_of_length-le}
use lib.Seq.{drop-cons}
use Rattle.std.specs.Prelude.{Result, Ok, Err, IsErrAnd}
use Rattle.std.proofs.lemmas.Result.{err_from_is_err_and}
use Rattle.exact.specs.Exact.{Out, done, more, bad}
use Rattle.grammar.specs.Bytes.{Bytes}
use Rattle.scan.specs.Pieces.{StopCase, Got, GotTok, byte_p, word_p, glue_tok, chained, Step, glued_p, end_tag_p}
use Rattle.scan.specs.Unfold.{lit_bind}
use Rattle.scan.specs.declared.Stop.{Stop}
use Rattle.scan.specs.declared.Stop.TheVariants.{Open, Bad}

pub then_done : {A B : Type 0} {o : Out A} {v : A} {t : Bytes} (K : A → Bytes → Out B) → o ≡ done v t → chained o K ≡ K v t
unfolding chained
then_done K e = ap (λ o. chained o K) e

pub then_more : {A B : Type 0} {o : Out A} (K : A → Bytes → Out B) → o ≡ more → chained o K ≡ more
unfolding chained
then_more K e = ap (λ o. chained o K) e

pub then_bad : {A B : Type 0} {o : Out A} {t : Bytes} (K : A → Bytes → Out B) → o ≡ bad t → chained o K ≡ bad t
unfolding chained
then_bad K e = ap (λ o. chained o K) e

-- the answer is no Ok
abbrev pub Fails : Step → Type 0
Fails r = (e : ℕ) → r ≡ Ok e → ⊥

pub never : {A : Type 0} {e : ℕ} → Fails (Ok e) → A
never {A} {e} f = absurd (f e refl)

-- the exit of a `?` returns what stopped: `rw (exits c.from_residual.ensures.1)` at `returns-in_err-..`
pub exits : {T : Type 0} {r : Result T Stop} {x : Stop} → IsErrAnd r (λ y. y ≡ x) → r ≡ Err x
exits {T} {r} {x} h = let (y, e, q) = err_from_is_err_and r h in e ∙ ap Err q

-- what stopped stops what it begins
pub stops : {A B : Type 0} (s : Bytes) (at : ℕ) (o : Out A) (x : Stop) → StopCase s at x o → (at' : ℕ) → at' ≤ at → (K : A → Bytes → Out B) {o' : Out B} → o' ≡ chained o K → StopCase s at' x o'
stops s at o Open h at' le K q = q ∙ then_more K h
stops s at o (Bad p) h at' le K q = (let a = h.0 in omega arith, h.1, q ∙ then_bad K h.2)

pub pass : {A B : Type 0} {k : ℕ} {s : Bytes} {at : ℕ} {x : Stop} {o : Out A} → Got k s at (Err x) o → (k' at' : ℕ) → at' ≤ at → (K : A → Bytes → Out B) {o' : Out B} → o' ≡ chained o K → Got k' s at' (Err x) o'
pass {s = s} {at = at} {x = x} {o = o} g k' at' le K q = record { says = stops s at o x g.says at' le K q }

pub tok : {k : ℕ} {s : Bytes} {at : ℕ} {r : Step} {o : Out Bytes} → GotTok k s at r o → Got k s at r o
tok {k} {s} {at} {r} {o} g = go r g
  where
    go : (r : Step) → GotTok k s at r o → Got k s at r o
    go (Ok e) g = record { says = (take (e - at) (drop at s), g.says.0, let h = g.says.1 in omega arith, g.says.2) }
    go (Err x) g = record { says = g.says }

-- the last thing that is read
pub last : {A B : Type 0} {k : ℕ} {s : Bytes} {at : ℕ} {r : Step} {o : Out A} → Got k s at r o → (k' at' : ℕ) → at' + k' ≤ at + k → at' ≤ at → (v : A → B) {o' : Out B} → o' ≡ chained o (λ x t. done (v x) t) → Got k' s at' r o'
last {A} {B} {k} {s} {at} {r} {o} g k' at' le le₂ v {o'} q = go r g
  where
    go : (r : Step) → Got k s at r o → Got k' s at' r o'
    go (Ok e) g = record { says = (v g.says.0, let h = g.says.1 in omega arith, g.says.2, q ∙ then_done (λ x t. done (v x) t) g.says.3) }
    go (Err x) g = pass g k' at' le₂ (λ x t. done (v x) t) q

-- the same outcome, from further in front
pub moved : {A : Type 0} {k : ℕ} {s : Bytes} {at : ℕ} {r : Step} {o : Out A} → Got k s at r o → (k' at' : ℕ) → at' + k' ≤ at + k → at' ≤ at → {o' : Out A} → o' ≡ o → Got k' s at' r o'
moved {A} {k} {s} {at} {r} {o} g k' at' le le₂ {o'} q = go r g
  where
    go : (r : Step) → Got k s at r o → Got k' s at' r o'
    go (Ok e) g = record { says = (g.says.0, let h = g.says.1 in omega arith, g.says.2, q ∙ g.says.3) }
    go (Err Open) g = record { says = q ∙ g.says }
    go (Err (Bad p)) g = record { says = (let h = g.says.0 in omega arith, g.says.1, q ∙ g.says.2) }

-- an answer that is known
pub known : {A : Type 0} {k : ℕ} {s : Bytes} {at : ℕ} {r : Step} {o : Out A} {e : ℕ} → r ≡ Ok e → Got k s at r o → Got k s at (Ok e) o
known {A} {k} {s} {at} {r} {o} q g = subst (λ (r : Step). Got k s at r o) q g

pub known_tok : {k : ℕ} {s : Bytes} {at : ℕ} {r : Step} {o : Out Bytes} {e : ℕ} → r ≡ Ok e → GotTok k s at r o → GotTok k s at (Ok e) o
known_tok {k} {s} {at} {r} {o} q g = subst (λ (r : Step). GotTok k s at r o) q g

-- bytes: k of w are read, up to i
pub Rest : Bytes → ℕ → Bytes → ℕ → ℕ → Type 0
Rest s at w k i = word_p w (drop at s) ≡ word_p (drop k w) (drop i s)

pub rest_none : (s : Bytes) (at : ℕ) (w : Bytes) → Rest s at w 0 at
unfolding Rest
rest_none s at w = refl

module _ (s : Bytes) (at : ℕ) (w : Bytes) (k i : ℕ) (lt : k < length w) (r : Rest s at w k i) where
  rest_byte : word_p w (drop at s) ≡ chained (byte_p (get_or w k 0) (drop i s)) (λ _ u. word_p (drop (k + 1) w) u)
  unfolding Rest word_p
  rest_byte = r ∙ rw (drop-cons w k 0 lt, add-one) (lit_bind (get_or w k 0) (drop (suc k) w) 0 (drop i s))

  pub rest_fails : at ≤ i → {n : ℕ} {x : Stop} → Got 1 s i (Err x) (byte_p (get_or w k 0) (drop i s)) → Got n s at (Err x) (word_p w (drop at s))
  rest_fails le {n} g = pass g n at le _ rest_byte

  pub rest_more : {e : ℕ} → Got 1 s i (Ok e) (byte_p (get_or w k 0) (drop i s)) → Rest s at w (k + 1) e
  unfolding Rest
  rest_more g = rest_byte ∙ then_done _ g.says.3

pub rest_done : (s : Bytes) (at : ℕ) (w : Bytes) (k i : ℕ) → length w ≤ k → Rest s at w k i → word_p w (drop at s) ≡ done 0 (drop i s)
unfolding Rest word_p
rest_done s at w k i h r = r ∙ rw (drop_of_length-le w h)

-- glue and a byte
module _ (b : ℕ) (s : Bytes) (at : ℕ) where
  pub glued_1 : {x : Stop} → GotTok 0 s at (Err x) (glue_tok (drop at s)) → Got 1 s at (Err x) (glued_p b (drop at s))
  unfolding glued_p
  glued_1 g = pass (tok g) 1 at (omega arith) _ refl

  pub glued_2 : {a : ℕ} {r : Step} → GotTok 0 s at (Ok a) (glue_tok (drop at s)) → Got 1 s a r (byte_p b (drop a s)) → Got 1 s at r (glued_p b (drop at s))
  unfolding glued_p
  glued_2 {a} t g = last g 1 at (omega arith) (omega arith) (λ _. take (a - at) (drop at s)) (then_done _ t.says.2)

-- the end tag
module _ (n s : Bytes) (at : ℕ) where
  pub end_1 : {k : ℕ} {x : Stop} → Got k s at (Err x) (byte_p 47 (drop at s)) → Got 1 s at (Err x) (end_tag_p n (drop at s))
  unfolding end_tag_p
  end_1 g = pass g 1 at (omega arith) _ refl

  module _ (a : ℕ) (g₁ : Got 1 s at (Ok a) (byte_p 47 (drop at s))) where
    pub end_2 : {k : ℕ} {x : Stop} → Got k s a (Err x) (word_p n (drop a s)) → Got 1 s at (Err x) (end_tag_p n (drop at s))
    unfolding end_tag_p
    end_2 g = pass g 1 at (omega arith) _ (then_done _ g₁.says.3)

    pub end_3 : {k e : ℕ} {r : Step} → Got k s a (Ok e) (word_p n (drop a s)) → Got 1 s e r (glued_p 62 (drop e s)) → Got 1 s at r (end_tag_p n (drop at s))
    unfolding end_tag_p
    end_3 {k} {e} g₂ g = moved g 1 at (omega arith) (omega arith) (then_done _ g₁.says.3 ∙ then_done _ g₂.says.3)
