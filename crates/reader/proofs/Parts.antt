-- What stands at the places that an outline or a child names: the name, the attributes, the content; and that `child`, called
-- again and again from the place behind a start tag, finds the children of that content and then its end.
use Rattle.std.specs.Prelude.{◌≡◌, List, [], ◌∷◌, ◌++◌, ℕ, suc, ◌+◌, ◌-◌, length, take, drop, Option, Some, None}
use Rattle.std.proofs.Math.Path.{refl, sym, ap}
use Rattle.std.proofs.Common.{subst, ◌∙◌, append_assoc, arith, length-append}
use Prim.Native.Char.{code}
use Rattle.exact.specs.Exact.{Out, done, bad, Reader, Exact, unique, done≢bad}
use Rattle.exact.specs.Chain.{Map, mapped, map_p, map_exact}
use Rattle.exact.specs.Byte.{map_starts}
use Rattle.grammar.specs.Bytes.{Bytes, text, within}
use Rattle.grammar.specs.Limits.{DEPTH}
use Rattle.grammar.specs.Name.{letter, name_start}
use Rattle.grammar.specs.Filler.{below_root, Filler, spell_filler, GoodFiller}
use Rattle.grammar.specs.Element.{Element, Content, bare, child, spell_end, spell_element, spell_content, GoodElement, good_empty, good_full, GoodContent, good_bare, good_child}
use Rattle.grammar.specs.Message.{read_layout, Message}
use Rattle.model.specs.Names.{live, new}
use Rattle.model.specs.Fillers.{FillThen, filled, fill_p}
use Rattle.model.proofs.Fillers.{fill_exact}
use Rattle.model.specs.Elements.{elem_p, content_p, IsElement}
use Rattle.model.proofs.Elements.{element_no_bang, read_exact}
use Rattle.scan.specs.Pieces.{chained}
use Rattle.model.specs.Standing.{behind_lt, Parts, behind, parts_stand, element_is, laid_parts}
use Rattle.fillers.specs.Fills.{fill_tok}
use Rattle.fillers.proofs.Fills.{fill_bind, word_fill}
use Rattle.grammar.specs.Places.{child_of, Outlines}
use Rattle.reader.specs.Answer.{Accepted}
use Rattle.reader.specs.Child.{Next, Stands, NextChild}
use Rattle.reader.specs.declared.answer.Child.{Child}
use Rattle.reader.specs.Parts.{InContent}

-- the same of an accepted message
pub accepted_parts : {s : Bytes} {start end from to count inside : ℕ} {old new : List ℕ} (a : Accepted s start end from to count inside old new) → (rest : Bytes) × Parts s (child_of a.layout) from to inside rest
accepted_parts {s} {start} {end} a = laid_parts s start end a.layout a.laid a.lines

-- and its reading is the one of those bytes
pub accepted_reads : {s : Bytes} {start end from to count inside : ℕ} {old new : List ℕ} (a : Accepted s start end from to count inside old new) → Message (take (end - start) (drop start s)) (read_layout a.layout)
accepted_reads a = record { layout = a.layout; laid = a.laid; reads = refl }

pub child_parts : {s : Bytes} {at : ℕ} {r : Child} (p : Stands s at r) → Parts s p.x r.outline.from r.outline.to r.outline.inside p.next.rest
child_parts {s} {at} p =
    let f = spell_filler p.f in
    let e : drop at s ≡ (f ++ code "<" ∷ []) ++ (behind_lt p.x ++ p.next.rest) = p.next.whole ∙ ap (λ (y : Bytes). f ++ (y ++ p.next.rest)) (element_is p.x) ∙ sym (append_assoc f (code "<" ∷ []) (behind_lt p.x ++ p.next.rest)) in
    let n : at + length (f ++ code "<" ∷ []) ≡ at + length f + 1 = let l = length-append f (code "<" ∷ []) in omega arith in
    parts_stand s (at + length f + 1) p.x p.next.rest (subst (λ (m : ℕ). drop m s ≡ behind_lt p.x ++ p.next.rest) n (behind s (f ++ code "<" ∷ []) (behind_lt p.x ++ p.next.rest) at e)) p.lines

-- filler and an element are read in one way
pub record Met : Type 0 where
  pub filler : Filler
  pub element : Element

abbrev met : Filler → Element → Met
met f x = record { filler = f; element = x }

unfoldable met_p : Reader Met
met_p = fill_p below_root (λ f. map_p (met f) (elem_p (content_p (DEPTH - 3))))

met_exact : Exact (FillThen below_root (λ f. Map (met f) (IsElement (DEPTH - 3)))) met_p
unfolding met_p
met_exact = fill_exact below_root (λ f. map_starts (element_no_bang (DEPTH - 3))) (λ f y. map_exact (met f) (read_exact (DEPTH - 3)))

module _ {w : Bytes} {f : Filler} {x : Element} (n : Next w f x) where
  met_word : Bytes
  met_word = spell_filler f ++ code "<" ∷ behind_lt x

  met_there : FillThen below_root (λ f. Map (met f) (IsElement (DEPTH - 3))) met_word (met f x)
  unfolding met_word
  met_there = filled f (behind_lt x) refl n.filler (mapped x (record { good = n.element; spelt = sym (element_is x) }) refl)

  met_whole : w ≡ met_word ++ n.rest
  unfolding met_word
  met_whole = n.whole ∙ ap (λ (y : Bytes). spell_filler f ++ (y ++ n.rest)) (element_is x) ∙ sym (append_assoc (spell_filler f) (code "<" ∷ behind_lt x) n.rest)

pub next_one : {w : Bytes} {f f' : Filler} {x x' : Element} (n : Next w f x) (n' : Next w f' x') → (f ≡ f') × (x ≡ x') × (n.rest ≡ n'.rest)
next_one {w} {f} {f'} {x} {x'} n n' =
    let u = unique met_exact (met_word n) (met_word n') (met f x) (met f' x') n.rest n'.rest (met_there n) (met_there n') (sym (met_whole n) ∙ met_whole n') in
    (ap (λ (m : Met). m.filler) u.1, ap (λ (m : Met). m.element) u.1, u.2)

-- where an end tag stands behind filler, there is no child
slash_bad : (f : Filler) (y : Bytes) → map_p (met f) (elem_p (content_p (DEPTH - 3))) (code "/" ∷ y) ≡ bad (code "/" ∷ y)
unfolding elem_p live new name_start letter within
slash_bad f y = refl

pub end_no_child : {w : Bytes} (f : Filler) (y : Bytes) → GoodFiller below_root f → w ≡ spell_filler f ++ code "<" ∷ code "/" ∷ y → (f' : Filler) (x : Element) → ¬ Next w f' x
unfolding met_p chained
end_no_child {w} f y h e f' x n =
    let t : fill_tok below_root w ≡ done f (code "/" ∷ y) = ap (fill_tok below_root) e ∙ word_fill below_root f (code "/") y h refl in
    let b : met_p w ≡ bad (code "/" ∷ y) = fill_bind below_root (λ f. map_p (met f) (elem_p (content_p (DEPTH - 3)))) w ∙ ap (λ (o : Out Filler). chained o (λ f. map_p (met f) (elem_p (content_p (DEPTH - 3))))) t ∙ slash_bad f y in
    done≢bad (ap met_p (met_whole n) ∙ met_exact.comp (met_word n) (met f' x) n.rest (met_there n)) b

-- n is the name of the element whose content this is
pub in_content : {s : Bytes} {at : ℕ} {r : Option Child} (n g rest : Bytes) (c : Content) → GoodContent (DEPTH - 2) c → drop at s ≡ spell_content c ++ (spell_end n g ++ rest) → NextChild s at r → InContent s at c (spell_end n g ++ rest) r
in_content {r = None} n g rest (bare f) (good_bare h) e p = refl
in_content {r = Some r} n g rest (bare f) (good_bare h) e p = absurd (end_no_child f (n ++ ((g ++ text ">") ++ rest)) h (e ∙ ends) p.says.f p.says.x p.says.next)
  where
    ends : spell_filler f ++ (spell_end n g ++ rest) ≡ spell_filler f ++ code "<" ∷ code "/" ∷ (n ++ ((g ++ text ">") ++ rest))
    ends = ap (λ (y : Bytes). spell_filler f ++ code "<" ∷ code "/" ∷ y) (append_assoc n (g ++ text ">") rest)
in_content {s} {at} {r} n g rest (child f x c) (good_child h k m) e p = go r p
  where
    left : Bytes
    left = spell_content c ++ (spell_end n g ++ rest)

    here : Next (drop at s) f x
    here = record { rest = left; filler = h; element = k; whole = e ∙ append_assoc (spell_filler f) (spell_element x ++ spell_content c) (spell_end n g ++ rest) ∙ ap (λ (y : Bytes). spell_filler f ++ y) (append_assoc (spell_element x) (spell_content c) (spell_end n g ++ rest)) }

    go : (r : Option Child) → NextChild s at r → InContent s at (child f x c) (spell_end n g ++ rest) r
    go None p = absurd (p.says f x here)
    go (Some r) p =
        let t = p.says in
        let (a, b, d) = next_one t.next here in
        let w : drop at s ≡ (spell_filler f ++ spell_element x) ++ left = here.whole ∙ sym (append_assoc (spell_filler f) (spell_element x) left) in
        let l : r.next ≡ at + length (spell_filler f ++ spell_element x) = t.ends ∙ rw (a, b) (let y = length-append (spell_filler f) (spell_element x) in omega arith) in
        record {
          lines = subst (λ (y : Element). Outlines (at + length (spell_filler f) + 1) y r.outline.from r.outline.to r.outline.count r.outline.inside) b (subst (λ (y : Filler). Outlines (at + length (spell_filler y) + 1) t.x r.outline.from r.outline.to r.outline.count r.outline.inside) a t.lines);
          left_over = ap (λ (m : ℕ). drop m s) l ∙ behind s (spell_filler f ++ spell_element x) left at w;
        }

-- what is good with d more open elements is good with one more
mutual
  pub element_deeper : {d : ℕ} {x : Element} → GoodElement d x → GoodElement (suc d) x
  element_deeper (good_empty t) = good_empty t
  element_deeper (good_full t c g) = good_full t (content_deeper c) g

  pub content_deeper : {d : ℕ} {c : Content} → GoodContent d c → GoodContent (suc d) c
  content_deeper (good_bare f) = good_bare f
  content_deeper (good_child f x c) = good_child f (element_deeper x) (content_deeper c)
