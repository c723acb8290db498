-- The next child: filler and an element, by the exactness of their reader.
use mathlib.Core.Path.{◌≡◌, refl, sym, subst, ap, ◌∙◌}
use mathlib.Core.List.{List, [], ◌∷◌, ◌++◌, append_assoc}
use Prim.Native.Nat.{ℕ, suc, ◌+◌, ◌-◌, ◌≤◌, ◌<◌}
use Prim.Native.Char.{code}
use native.Mathlib.Omega.{arith}
use lib.ListN.{length, length-append, drop, length-drop, drop_of_length-le}
use Rattle.exact.specs.Exact.{done, more, Reader, Exact, sound, done≢more, done≢bad}
use Rattle.grammar.specs.Bytes.{Bytes}
use Rattle.grammar.specs.Limits.{DEPTH}
use Rattle.grammar.specs.Filler.{below_root, Filler, spell_filler, GoodFiller}
use Rattle.grammar.specs.Element.{Element, spell_element}
use Rattle.exact.specs.Loop.{loop_p}
use Rattle.model.specs.Fillers.{bit_p, peek_p, FillThen, filled, fill_p}
use Rattle.model.proofs.Fillers.{fill_exact}
use Rattle.model.specs.Elements.{elem_p, content_p, IsElement}
use Rattle.model.proofs.Elements.{element_lt, element_no_bang, read_exact}
use Rattle.scan.specs.Pieces.{Got, chained}
use Rattle.scan.proofs.Chain.{then_done, pass, moved}
use Rattle.std.specs.Prelude.{Ok, Err, Some, None}
use Rattle.scan.specs.declared.Stop.{Stop}
use Rattle.scan.specs.declared.Stop.TheVariants.{Open, Bad}
use Rattle.fillers.specs.Fills.{fill_tok, GotFiller}
use Rattle.fillers.proofs.Fills.{fill_bind, fill_word}
use Rattle.grammar.specs.Places.{Outlines}
use Rattle.reader.specs.Message.{itself, none, InnerRead, GotInner}
use Rattle.reader.specs.Child.{Next, Stands, NextChild}
use Rattle.reader.specs.declared.answer.Child.{Child}
use Rattle.reader.proofs.message.Laws.{filler_there}

-- filler, `<`, and an element
abbrev element_p : Reader Element
element_p = elem_p (content_p (DEPTH - 3))

unfoldable next_p : Reader Element
next_p = fill_p below_root (λ f. element_p)

next_bind : (t : Bytes) → next_p t ≡ chained (fill_tok below_root t) (λ f u. element_p u)
unfolding next_p
next_bind t = fill_bind below_root (λ f. element_p) t

next_open : next_p [] ≡ more
unfolding next_p fill_p peek_p bit_p loop_p
next_open = refl

next_exact : Exact (FillThen below_root (λ f. IsElement (DEPTH - 3))) next_p
unfolding next_p
next_exact = fill_exact below_root (λ f. element_no_bang (DEPTH - 3)) (λ f y. read_exact (DEPTH - 3))

-- what stands there is read
next_read : {w : Bytes} {f : Filler} {x : Element} (n : Next w f x) → next_p w ≡ done x n.rest
next_read {w} {f} {x} n =
    let (u, i) = element_lt x in
    let e : w ≡ (spell_filler f ++ code "<" ∷ u) ++ n.rest = n.whole ∙ ap (λ (y : Bytes). spell_filler f ++ (y ++ n.rest)) (sym i) ∙ sym (append_assoc (spell_filler f) (code "<" ∷ u) n.rest) in
    ap next_p e ∙ next_exact.comp (spell_filler f ++ code "<" ∷ u) x n.rest (filled f u refl n.filler (record { good = n.element; spelt = i }))

-- the filler that was read stands there
filler_word : (s : Bytes) (at j : ℕ) (g : Got 1 s at (Ok j) (fill_tok below_root (drop at s))) → (drop at s ≡ spell_filler g.says.0 ++ code "<" ∷ drop j s) × GoodFiller below_root g.says.0
filler_word s at j g = fill_word below_root (drop at s) g.says.0 (drop j s) g.says.3

fails_none : {s : Bytes} {at : ℕ} (x : Stop) → Got 1 s at (Err x) (next_p (drop at s)) → (f : Filler) (y : Element) → ¬ Next (drop at s) f y
fails_none Open g f y n = done≢more (next_read n) g.says
fails_none (Bad p) g f y n = done≢bad (next_read n) g.says.2

module _ (s : Bytes) (at : ℕ) where
  pub child_out : length s < at → NextChild s at None
  child_out h = record { says = fails_none {s = s} {at = at} Open (record { says = let k : length s ≤ at = omega arith in ap next_p (drop_of_length-le s k) ∙ next_open }) }

  pub child_bare : {x : Stop} → GotFiller below_root s at (Err x) → NextChild s at None
  child_bare {x} g = record { says = fails_none x (pass g.says 1 at (omega arith) _ (next_bind (drop at s))) }

  module _ (j : ℕ) (g₁ : Got 1 s at (Ok j) (fill_tok below_root (drop at s))) (old new : List ℕ) where
    so : next_p (drop at s) ≡ element_p (drop j s)
    so = next_bind (drop at s) ∙ then_done _ g₁.says.3

    pub child_none : {x : Stop} → GotInner itself none s j old new (Err x) (element_p (drop j s)) → NextChild s at None
    child_none {x} g =
        let g' : Got 1 s j (Err x) (element_p (drop j s)) = record { says = g.says } in
        record { says = fails_none x (moved g' 1 at (let h = g₁.says.1 in omega arith) (let h = g₁.says.1 in omega arith) so) }

    pub child_found : {c : Child} → InnerRead itself none s j old new c (element_p (drop j s)) → NextChild s at (Some c)
    child_found {c} g = record { says = stands }
      where
        x : Element
        x = g.value

        f : Filler
        f = g₁.says.0

        place : j ≡ at + length (spell_filler f) + 1
        place = filler_there below_root s at j g₁

        stands : Stands s at c
        stands =
            let (u, i, l) = sound (read_exact (DEPTH - 3)) (drop j s) x (drop c.next s) g.reads in
            let (w, good) = filler_word s at j g₁ in
            let n : length s - j ≡ length u + (length s - c.next) = sym (length-drop j s) ∙ ap length i ∙ length-append u (drop c.next s) ∙ ap (λ (m : ℕ). length u + m) (length-drop c.next s) in
            let k : suc (length u) ≡ length (spell_element x) = ap length l.spelt in
            record {
              f = f;
              x = x;
              next = record { rest = drop c.next s; filler = good; element = l.good; whole = w ∙ ap (λ (y : Bytes). spell_filler f ++ code "<" ∷ y) i ∙ ap (λ (y : Bytes). spell_filler f ++ (y ++ drop c.next s)) l.spelt };
              lines = subst (λ (m : ℕ). Outlines m x c.outline.from c.outline.to c.outline.count c.outline.inside) (let p = place in omega arith) g.drawn.lines;
              ends = let p = place in let a = g.far in let b = g.upto in omega arith;
            }
