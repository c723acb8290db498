-- The reader of the root and of whole messages, and that it is exact.
use Rattle.std.specs.Prelude.{◌≡◌, refl, ◌∷◌, ◌++◌, Bool, true, false, ℕ, ◌-◌, eqb}
use Rattle.std.proofs.Common.{sym, ap, ◌∙◌, append_assoc}
use Prim.Native.Char.{code}
use Rattle.exact.specs.Exact.{Lang, Exact, exact_like}
use Rattle.exact.specs.Chain.{Seq, seq, bind_exact, Map, mapped, map_exact, clash}
use Rattle.exact.specs.Byte.{On, on, on_exact, Lit, lit, eqb-true, lit_exact, Alt, left, right, Starts, starts, on_starts, map_starts, choice_exact, seq_starts}
use Rattle.grammar.specs.Bytes.{Bytes, text}
use Rattle.grammar.specs.Limits.{DEPTH}
use Rattle.grammar.specs.Glue.{is_glue}
use Rattle.grammar.specs.Attribute.{spell_attributes}
use Rattle.grammar.specs.Filler.{in_root, spell_filler}
use Rattle.grammar.specs.Tree.{Tree}
use Rattle.grammar.specs.Element.{spell_end}
use Rattle.grammar.specs.Declaration.{spell_declaration}
use Rattle.grammar.specs.Message.{Root, Layout, plain, declared, hermes, spell_layout, GoodLayout, good_plain, good_declared, read_layout, Laid, Message}
use Rattle.model.specs.Tests.{uncons}
use Rattle.model.specs.Attributes.{Head, spell_head, IsHead}
use Rattle.model.proofs.Attributes.{head_exact}
use Rattle.model.specs.Fillers.{no_bang, FillThen, filled}
use Rattle.model.proofs.Fillers.{fill_exact}
use Rattle.model.specs.Elements.{CloseL, close, IsElement}
use Rattle.model.proofs.Elements.{close_exact, element_lt, element_no_bang, close_no_bang, read_exact}
use Rattle.model.specs.Declarations.{IsDeclaration}
use Rattle.model.proofs.Declarations.{declaration_exact}
use Rattle.model.specs.Messages.{mk_root, root_p, IsRoot, layout_p, message_p}

abbrev RootL : Lang Root
RootL =
    Seq (Lit {A = ℕ} hermes 0) (λ u. Seq (IsHead false) (λ h. FillThen in_root (λ f. Seq (IsElement (DEPTH - 2)) (λ e. FillThen in_root (λ f'. CloseL hermes (mk_root h f e f'))))))

pub root_exact : Exact IsRoot root_p
unfolding root_p
root_exact =
    exact_like to from
    (bind_exact (lit_exact {A = ℕ} hermes 0) (λ w u l. bind_exact (head_exact false) (λ w h l.
    fill_exact in_root (λ f. seq_starts (element_no_bang (DEPTH - 2))) (λ f y. bind_exact (read_exact (DEPTH - 2)) (λ w e l. fill_exact in_root (λ f'. close_no_bang hermes (mk_root h f e f')) (λ f' z. close_exact hermes (mk_root h f e f')))))))
  where
    -- the root has no empty tag
    started : (w : Bytes) (h : Head) → IsHead false w h → h.empty ≡ false
    started w h l = go h.empty refl
      where
        go : (z : Bool) → h.empty ≡ z → h.empty ≡ false
        go true e = clash (sym (l.allowed e))
        go false e = e

    to : (w : Bytes) (r : Root) → RootL w r → IsRoot w r
    to w r (seq w₀ u w₁ e₀ (lit i₀ q₀) (seq w₂ h w₃ e₁ l (filled f k₁ e₂ y (seq w₄ x w₅ e₃ m (filled f' k₂ e₄ z (close g j e₅ q)))))) =
        let s : spell_head h ≡ spell_attributes h.attributes ++ (h.trail ++ text ">") = rw (started w₂ h l) in
        let c : k₁ ≡ w₄ ++ (spell_filler f' ++ spell_end hermes g) = e₃ ∙ rw (e₄, e₅) in
        rw q (record {
          good = record { attributes = l.attributes; trail = l.trail; before = y; inner = m.good; after = z; shut = j };
          spelt = ap (λ (v : Bytes). code "<" ∷ v) (e₀ ∙ rw (i₀, e₁, l.spelt, s, e₂, c) (ap (λ (v : Bytes). hermes ++ v) (simp append_assoc (rw (← m.spelt)))));
        })

    from : (w : Bytes) (r : Root) → IsRoot w r → RootL w r
    from w r l =
        let h : Head = record { attributes = r.attributes; trail = r.trail; empty = false } in
        let z = element_lt r.inner in
        let i : w ≡ hermes ++ (spell_head h ++ (spell_filler r.before ++ code "<" ∷ (z.0 ++ (spell_filler r.after ++ spell_end hermes r.shut)))) =
        uncons l.spelt ∙ ap (λ (v : Bytes). hermes ++ v) (rw (← z.1) (simp append_assoc)) in
        seq hermes 0 _ i (lit refl refl) (seq (spell_head h) h _ refl (record { allowed = λ x. clash (sym x); attributes = l.good.attributes; trail = l.good.trail; spelt = refl })
        (filled r.before _ refl l.good.before (seq z.0 r.inner _ refl (record { good = l.good.inner; spelt = z.1 })
        (filled r.after _ refl l.good.after (close r.shut l.good.shut refl refl)))))

abbrev LayoutL : Lang Layout
LayoutL =
    On (eqb (code "<")) (λ b. Alt (On (eqb (code "?")) (λ c. Seq IsDeclaration (λ d. FillThen in_root (λ f. Map (declared d f) IsRoot)))) (Map plain IsRoot))

pub layout_exact : Exact Laid layout_p
unfolding layout_p
layout_exact =
    exact_like to from (on_exact (code "<") refl (λ b h. choice_exact (on_starts (λ c k. k)) (map_starts root_starts)
    (on_exact (code "?") refl (λ c k. bind_exact declaration_exact (λ w d l. fill_exact in_root (λ f. map_starts root_no_bang) (λ f y. map_exact (declared d f) root_exact))))
    (map_exact plain root_exact)))
  where
    root_starts : (w : Bytes) (r : Root) → IsRoot w r → Starts (eqb (code "?")) false w
    root_starts w r l = starts (code "H") _ (uncons l.spelt) refl

    root_no_bang : (w : Bytes) (r : Root) → IsRoot w r → Starts no_bang true w
    root_no_bang w r l = starts (code "H") _ (uncons l.spelt) refl

    to : (w : Bytes) (m : Layout) → LayoutL w m → Laid w m
    to w m (on b w₁ e₁ h₁ (left (on c w₂ e₂ h₂ (seq w₃ d w₄ e₃ l (filled f k e₄ y (mapped r n q)))))) =
        let i : w ≡ (code "<" ∷ code "?" ∷ w₃) ++ (spell_filler f ++ code "<" ∷ k) = e₁ ∙ rw (eqb-true (code "<") b h₁, e₂, eqb-true (code "?") c h₂, e₃, e₄) in
        rw q (record { good = good_declared l.good y n.good; spelt = i ∙ ap (λ (v : Bytes). v ++ (spell_filler f ++ code "<" ∷ k)) l.spelt ∙ ap (λ (v : Bytes). spell_declaration d ++ (spell_filler f ++ v)) n.spelt })
    to w m (on b w₁ e₁ h₁ (right (mapped r n q))) = rw q (record { good = good_plain n.good; spelt = e₁ ∙ rw (eqb-true (code "<") b h₁) n.spelt })

    go : {m : Layout} → GoodLayout m → (w : Bytes) → w ≡ spell_layout m → LayoutL w m
    go (good_plain {r} x) w e = on (code "<") _ e refl (right (mapped r (record { good = x; spelt = refl }) refl))
    go (good_declared {d} {f} {r} y h x) w e =
        on (code "<") _ e refl (left (on (code "?") _ refl refl (seq _ d _ refl (record { good = y; spelt = refl }) (filled f _ refl h (mapped r (record { good = x; spelt = refl }) refl)))))

    from : (w : Bytes) (m : Layout) → Laid w m → LayoutL w m
    from w m l = go l.good w l.spelt

pub message_exact : Exact Message message_p
unfolding message_p
message_exact = exact_like to from (map_exact read_layout layout_exact)
  where
    to : (w : Bytes) (t : Tree) → Map read_layout Laid w t → Message w t
    to w t (mapped l x q) = record { layout = l; laid = x; reads = q }

    from : (w : Bytes) (t : Tree) → Message w t → Map read_layout Laid w t
    from w t m = mapped m.layout m.laid m.reads

pub laid_starts : {w : Bytes} {l : Layout} → Laid w l → Starts is_glue false w
unfolding is_glue
laid_starts {w} {l} x = go l x.spelt
  where
    go : (l : Layout) → w ≡ spell_layout l → Starts is_glue false w
    go (plain r) e = starts (code "<") _ e refl
    go (declared d f r) e = starts (code "<") _ e refl
