-- An answer that is known tells its numbers.
use mathlib.Core.Path.{◌≡◌, refl, sym, ap, ◌∙◌}
use Prim.Native.Nat.{ℕ}
use Rattle.grammar.specs.Bytes.{Bytes}
use Rattle.grammar.specs.Answer.{Answer, Answers, answer_number}
use Rattle.model.proofs.Theorems.{answers_only}
use Rattle.c_promises.specs.Reading.{start_of, place_of, Told}

pub told : (s : Bytes) (a : Answer) → Answers s a → Told s (answer_number a) (start_of a) (place_of a)
told s a p = record { answer = a; answers = p; numbers = refl; starts = refl; places = refl }

-- no second three numbers satisfy the promise of `tryphomel_read`
pub told_only : {s : Bytes} {n a b n' a' b' : ℕ} → Told s n a b → Told s n' a' b' → (n ≡ n') × (a ≡ a') × (b ≡ b')
told_only {s} x y =
    let q : x.answer ≡ y.answer = answers_only s x.answer y.answer x.answers y.answers in
    (x.numbers ∙ ap answer_number q ∙ sym y.numbers, x.starts ∙ ap start_of q ∙ sym y.starts, x.places ∙ ap place_of q ∙ sym y.places)
