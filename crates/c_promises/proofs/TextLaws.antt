-- An answer that is known tells its numbers, and no second numbers and scratch satisfy the promise of `tryphomel_text`.
use Rattle.std.specs.Prelude.{Option}
use Rattle.value.specs.declared.text.Span.{Span}
use mathlib.Core.Path.{◌≡◌, refl, sym, ap, subst, ◌∙◌}
use Prim.Native.Nat.{ℕ}
use Rattle.grammar.specs.Bytes.{Bytes}
use Rattle.value.specs.Asking.{Told, paper, TextSays}
use Rattle.value.proofs.Only.{says_only}
use Rattle.value.specs.declared.text.TextAt.{TextAt}
use Rattle.message.specs.Cells.{words_by}
use Rattle.c_promises.specs.Texts.{side_of, at_of, count_of, TextTold}

pub text_told : (s : Bytes) (there start len : ℕ) (old new : Bytes) (t : Option Span) (r a : TextAt) → t ≡ words_by there start len → r ≡ a → TextSays s t old new (paper r) → TextTold s there start len old new (paper a).number (side_of (paper a).place) (at_of (paper a).place) (count_of (paper a).place)
text_told s there start len old new t r a e f p =
    record {
      told = paper a;
      says = subst (λ (x : TextAt). TextSays s (words_by there start len) old new (paper x)) f (subst (λ (x : Option Span). TextSays s x old new (paper r)) e p);
      refuses = refl;
      sides = refl;
      ats = refl;
      counts = refl;
    }

pub record SameTold (new new' : Bytes) (r r' p p' a a' c c' : ℕ) : Type 0 where
  pub scratch : new ≡ new'
  pub refusal : r ≡ r'
  pub place : p ≡ p'
  pub at : a ≡ a'
  pub count : c ≡ c'

pub text_told_only : {s : Bytes} {there start len : ℕ} {old new new' : Bytes} {r r' p p' a a' c c' : ℕ} → TextTold s there start len old new r p a c → TextTold s there start len old new' r' p' a' c' → SameTold new new' r r' p p' a a' c c'
text_told_only x y =
    let q = says_only x.says y.says in
    record {
      scratch = q.scratch;
      refusal = x.refuses ∙ ap (λ (t : Told). t.number) q.answer ∙ sym y.refuses;
      place = x.sides ∙ ap (λ (t : Told). side_of t.place) q.answer ∙ sym y.sides;
      at = x.ats ∙ ap (λ (t : Told). at_of t.place) q.answer ∙ sym y.ats;
      count = x.counts ∙ ap (λ (t : Told). count_of t.place) q.answer ∙ sym y.counts;
    }
