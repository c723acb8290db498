-- The reader of elements and their content, and that it is exact.
use Rattle.std.specs.Prelude.{◌≡◌, refl, Bool, false, ℕ, zero, suc, ◌<◌, length, eqb}
use Rattle.std.proofs.Common.{sym, subst, ◌∙◌, arith, length-append}
use Rattle.std.proofs.Math.Path.{ap}
use mathlib.Core.List.{[], ◌∷◌, ◌++◌, append_assoc, append-nil}
use Rattle.std.proofs.Math.Bool.{true}
use Prim.Native.Char.{code}
use Rattle.exact.specs.Exact.{Lang, Reader, Exact, exact_like}
use Rattle.exact.specs.Chain.{Ret, ret, ret_exact, Seq, seq, bind_p, bind_exact, Map, mapped, map_exact, If, yes_if, no_if, if_exact}
use Rattle.exact.specs.Byte.{Lit, lit, other, lit_exact, Alt, left, right, Starts, starts, lit_starts, map_starts, choice_exact, seq_starts}
use Rattle.exact.specs.Token.{TokenFrom, token}
use Rattle.exact.specs.Loop.{again, stop, Loop, last, next, onward, loop_p, loop_eq, loop_exact}
use Rattle.grammar.specs.Bytes.{Bytes, text, within}
use Rattle.grammar.specs.Glue.{is_glue, Glue}
use Rattle.grammar.specs.Name.{letter, name_start, Name}
use Rattle.grammar.specs.Filler.{below_root, Filler, spell_filler, bits_end, GoodFiller}
use Rattle.grammar.specs.Element.{Tag, Element, empty, full, Content, bare, child, spell_end, spell_element, spell_content, GoodTag, GoodElement, good_empty, good_full, GoodContent, good_bare, good_child}
use Rattle.model.specs.Tests.{uncons}
use Rattle.model.specs.Glue.{GlueThen}
use Rattle.model.proofs.Glue.{glue_exact}
use Rattle.model.specs.Names.{live, new}
use Rattle.model.proofs.Names.{name_exact}
use Rattle.model.proofs.Names.{name_of_lem, of_name, name_starts}
use Rattle.model.specs.Attributes.{Head, spell_head, IsHead, head_p}
use Rattle.model.proofs.Attributes.{head_exact, head_starts}
use Rattle.model.specs.Fillers.{no_bang, FillThen, filled}
use Rattle.model.proofs.Fillers.{fill_exact}
use Rattle.model.specs.Elements.{closing, close_p, CloseL, close, Tail, tag_of, body_p, elem_p, Acc, ContentTurn, shut_turn, child_turn, leaf_tag_p, node_tag_p, content_turn_p, content_p, IsElement, TagL, shutting, opening, head_of}

pub close_exact : {A : Type 0} (n : Bytes) (f : Bytes → A) → Exact (CloseL n f) (close_p n f)
unfolding close_p is_glue
close_exact {A} n f = exact_like to from (bind_exact (lit_exact {A = ℕ} (code "/" ∷ n) 0) (λ w u l. glue_exact (λ g k v. lit_starts (code ">") [] refl k v) (λ g h. lit_exact (text ">") (f g))))
  where
    to : (w : Bytes) (v : A) → Seq (Lit {A = ℕ} (code "/" ∷ n) 0) (λ u. GlueThen (λ g. Lit (text ">") (f g))) w v → CloseL n f w v
    to w v (seq w₁ a w₂ e (lit i q) (token g k e₂ h o (lit j s))) = close g h (e ∙ rw (i, e₂, j)) s

    from : (w : Bytes) (v : A) → CloseL n f w v → Seq (Lit {A = ℕ} (code "/" ∷ n) 0) (λ u. GlueThen (λ g. Lit (text ">") (f g))) w v
    from w v (close g h e q) = seq (code "/" ∷ n) 0 (g ++ text ">") e (lit refl refl) (token g (text ">") refl h refl (lit refl q))

close_starts : {A : Type 0} (n : Bytes) (f : Bytes → A) (w : Bytes) (v : A) → CloseL n f w v → Starts (eqb (code "/")) true w
close_starts n f w v (close g h e q) = starts (code "/") _ e refl

record ContentL (d : ℕ) (n : Bytes) (w : Bytes) (t : Tail) : Type 0 where
  good : GoodContent d t.content
  glue : Glue t.glue
  spelt : w ≡ spell_content t.content ++ spell_end n t.glue

-- an element, if its content is exact
module _ (d : ℕ) (inner : Bytes → Reader Tail) (ex : (n : Bytes) → Name n → Exact (ContentL d n) (inner n)) where
  abbrev BodyL : Bytes → Head → Lang Element
  BodyL n h = If h.empty (Ret (empty (tag_of n h))) (Map (λ t. full (tag_of n h) t.content t.glue) (ContentL d n))

  abbrev RestL : Bytes → Lang Element
  RestL n = Seq (IsHead true) (BodyL n)

  rest_exact : (n : Bytes) → Name n → Exact (RestL n) (bind_p (head_p true) (body_p inner n))
  rest_exact n r = bind_exact (head_exact true) (λ w h l. if_exact h.empty (λ z. ret_exact (empty (tag_of n h))) (λ z. map_exact (λ t. full (tag_of n h) t.content t.glue) (ex n r)))

  good_tag : (n w : Bytes) (h : Head) → Name n → IsHead true w h → GoodTag (tag_of n h)
  good_tag n w h r l = record { name = r; attributes = l.attributes; trail = l.trail }

  element_exact : Exact (IsElement d) (elem_p inner)
  unfolding elem_p
  element_exact = exact_like to from (name_exact [] (omega arith) (λ n w v. seq_starts (head_starts true) w v) (λ n h o. rest_exact n (name_of_lem [] n h o).0))
    where
      to-empty : (n w : Bytes) (h : Head) → Name n → h.empty ≡ true → IsHead true w h → IsElement d (n ++ w) (empty (tag_of n h))
      to-empty n w h r z l = record { good = good_empty (good_tag n w h r l); spelt = ap (λ (y : Bytes). code "<" ∷ (n ++ y)) (l.spelt ∙ rw z) }

      to-full : (n w u : Bytes) (h : Head) (t : Tail) → Name n → h.empty ≡ false → IsHead true w h → ContentL d n u t → IsElement d (n ++ (w ++ u)) (full (tag_of n h) t.content t.glue)
      to-full n w u h t r z l m = record {
        good = good_full (good_tag n w h r l) m.good m.glue;
        spelt = ap (λ (y : Bytes). code "<" ∷ y) (sym (append_assoc n w u) ∙ rw (l.spelt, z, m.spelt));
      }

      to : (w : Bytes) (v : Element) → TokenFrom (live []) (new []) RestL [] w v → IsElement d w v
      to w v (token n k e h o (seq w₁ x w₂ i l (yes_if z (ret j q)))) = rw (q, e, i, j, append-nil) (to-empty n w₁ x (name_of_lem [] n h o).0 z l)
      to w v (token n k e h o (seq w₁ x w₂ i l (no_if z (mapped t m q)))) = rw (q, e, i) (to-full n w₁ w₂ x t (name_of_lem [] n h o).0 z l m)

      is-head : (t : Tag) (z : Bool) → GoodTag t → IsHead true (spell_head (head_of t z)) (head_of t z)
      is-head t z g = record { allowed = λ x. refl; attributes = g.attributes; trail = g.trail; spelt = refl }

      go : {v : Element} → GoodElement d v → (w : Bytes) → code "<" ∷ w ≡ spell_element v → TokenFrom (live []) (new []) RestL [] w v
      go (good_empty {t} g) w e =
          let y = of_name [] t.name g.name refl in
          token t.name _ (uncons e) y.0 y.1 (seq (spell_head (head_of t true)) (head_of t true) [] (sym (append-nil _)) (is-head t true g) (yes_if refl (ret refl refl)))
      go (good_full {t} {c} {g = x} g m b) w e =
          let y = of_name [] t.name g.name refl in
          let i : w ≡ t.name ++ (spell_head (head_of t false) ++ (spell_content c ++ spell_end t.name x)) = uncons e ∙ append_assoc t.name (spell_head (head_of t false)) (spell_content c ++ spell_end t.name x) in
          token t.name _ i y.0 y.1 (seq (spell_head (head_of t false)) (head_of t false) _ refl (is-head t false g) (no_if refl (mapped (record { content = c; glue = x }) (record { good = m; glue = b; spelt = refl }) refl)))

      from : (w : Bytes) (v : Element) → IsElement d w v → TokenFrom (live []) (new []) RestL [] w v
      from w v l = go l.good w l.spelt

-- an element starts with `<`
pub element_lt : (e : Element) → (w : Bytes) × (code "<" ∷ w ≡ spell_element e)
element_lt (empty t) = (_, refl)
element_lt (full t c g) = (_, refl)

-- what stands behind filler and `<`
element_first : (d : ℕ) (w : Bytes) (e : Element) → IsElement d w e → Starts name_start true w
element_first d w e l = go l.good l.spelt
  where
    named : (t : Tag) (r : Bytes) → Name t.name → w ≡ t.name ++ r → Starts name_start true w
    named t r g i = subst (λ (y : Bytes). Starts name_start true y) (sym i) (name_starts t.name r g)

    go : {v : Element} → GoodElement d v → code "<" ∷ w ≡ spell_element v → Starts name_start true w
    go (good_empty {t} g) i = named t _ g.name (uncons i)
    go (good_full {t} {c} {g = x} g m b) i = named t _ g.name (uncons i ∙ append_assoc t.name _ _)

-- neither an element nor an end tag is a comment
pub element_no_bang : (d : ℕ) (w : Bytes) (e : Element) → IsElement d w e → Starts no_bang true w
unfolding name_start letter within
element_no_bang d w e l = go (element_first d w e l)
  where
    go : Starts name_start true w → Starts no_bang true w
    go (starts b w' i k) = starts b w' i (rw (other name_start (code "!") refl b k))

pub close_no_bang : {A : Type 0} (n : Bytes) (f : Bytes → A) (w : Bytes) (v : A) → CloseL n f w v → Starts no_bang true w
close_no_bang n f w v (close g h e q) = starts (code "/") _ e refl

tag_starts : (n : Bytes) (k : Acc) {d : ℕ} (f : Filler) (w : Bytes) (t : ContentTurn) → TagL n k f d w t → Starts no_bang true w
tag_starts n k f w t (shutting l) = close_no_bang n (shut_turn k f) w t l
tag_starts n k f w t (opening {d} e l q) = element_no_bang d w e l

pub element_starts : (d : ℕ) (w : Bytes) (e : Element) → IsElement d w e → Starts (eqb (code "/")) false w
unfolding name_start letter within
element_starts d w e l = go (element_first d w e l)
  where
    go : Starts name_start true w → Starts (eqb (code "/")) false w
    go (starts b w' i k) = starts b w' i (other name_start (code "/") refl b k)

pub leaf_tag_exact : (n : Bytes) (k : Acc) (f : Filler) → Exact (TagL n k f 0) (leaf_tag_p n k f)
unfolding leaf_tag_p
leaf_tag_exact n k f = exact_like (λ w v l. shutting l) from (close_exact n (shut_turn k f))
  where
    from : (w : Bytes) (v : ContentTurn) → TagL n k f 0 w v → CloseL n (shut_turn k f) w v
    from w v (shutting l) = l

pub node_tag_exact : (d : ℕ) {elem : Reader Element} → Exact (IsElement d) elem → (n : Bytes) (k : Acc) (f : Filler) → Exact (TagL n k f (suc d)) (node_tag_p elem n k f)
unfolding node_tag_p
node_tag_exact d x n k f =
    exact_like to from
    (choice_exact (close_starts n (shut_turn k f)) (map_starts (element_starts d)) (close_exact n (shut_turn k f)) (map_exact (child_turn k f) x))
  where
    to : (w : Bytes) (v : ContentTurn) → Alt (CloseL n (shut_turn k f)) (Map (child_turn k f) (IsElement d)) w v → TagL n k f (suc d) w v
    to w v (left l) = shutting l
    to w v (right (mapped a l q)) = opening a l q

    from : (w : Bytes) (v : ContentTurn) → TagL n k f (suc d) w v → Alt (CloseL n (shut_turn k f)) (Map (child_turn k f) (IsElement d)) w v
    from w v (shutting l) = left l
    from w v (opening a l q) = right (mapped a l q)

-- the turns of a content at depth d in an element n
abbrev TurnL : ℕ → Bytes → Acc → Lang ContentTurn
TurnL d n k = FillThen below_root (λ f. TagL n k f d)

reads : (d : ℕ) (n : Bytes) (k : Acc) (w : Bytes) (k' : Acc) → Unit {0} → TurnL d n k w (again k') → 0 < length w
reads d n k w k' u (filled f r e g l) = rw (e, length-append) (omega arith)

ending : (d : ℕ) (n : Bytes) (k : Acc) (f : Filler) (g : Bytes) → GoodFiller below_root f → Glue g → Loop (TurnL d n) k (spell_filler f ++ spell_end n g) (record { content = k (bare f); glue = g })
ending d n k f g y h = last (filled f (closing n g) refl y (shutting (close g h refl refl)))

record ContentFrom (d : ℕ) (n : Bytes) (k : Acc) (w : Bytes) (t : Tail) : Type 0 where
  inside : Content
  built : t ≡ record { content = k inside; glue = t.glue }
  says : ContentL d n w (record { content = inside; glue = t.glue })

tag_stop : (n : Bytes) (k : Acc) (f : Filler) {d : ℕ} {w : Bytes} {v : Tail} → TagL n k f d w (stop v) → (g : Bytes) × Glue g × (w ≡ closing n g) × (v ≡ record { content = k (bare f); glue = g })
tag_stop n k f (shutting (close g h e q)) = (g, h, e, cc)
tag_stop n k f (opening a l q) = absurd (let z : ◌≡◌ {A = ℕ} 0 1 = cc in omega arith)

tag_again : (n : Bytes) (k : Acc) (f : Filler) {d : ℕ} {w : Bytes} {k' : Acc} → TagL n k f d w (again k')
    → (e : Element) × (code "<" ∷ w ≡ spell_element e) × (k' ≡ (λ c. k (child f e c))) × ((c : Content) → GoodFiller below_root f → GoodContent d c → GoodContent d (child f e c))
tag_again n k f (shutting (close g h e q)) = absurd (let z : ◌≡◌ {A = ℕ} 0 1 = cc in omega arith)
tag_again n k f (opening a l q) = (a, l.spelt, (cc), λ c y g. good_child y l.good g)

loop_good : (d : ℕ) (n : Bytes) (k : Acc) (w : Bytes) (t : Tail) → Loop (TurnL d n) k w t → ContentFrom d n k w t
loop_good d n k w t (last (filled f r e y l)) = step (tag_stop n k f l)
  where
    step : (g : Bytes) × Glue g × (r ≡ closing n g) × (t ≡ record { content = k (bare f); glue = g }) → ContentFrom d n k w t
    step (g, x, i, q) = rw q (record { inside = bare f; built = refl; says = record { good = good_bare y; glue = x; spelt = e ∙ rw i } })
loop_good d n k w t (next w₁ k' w₂ e (filled f r i y l) m) = step (tag_again n k f l) (loop_good d n k' w₂ t m)
  where
    step : (x : Element) × (code "<" ∷ r ≡ spell_element x) × (k' ≡ (λ c. k (child f x c))) × ((c : Content) → GoodFiller below_root f → GoodContent d c → GoodContent d (child f x c))
        → ContentFrom d n k' w₂ t → ContentFrom d n k w t
    step (x, j, g, h) s = record {
      inside = child f x s.inside;
      built = s.built ∙ ap (λ (a : Acc). record { content = a s.inside; glue = t.glue }) g;
      says = record { good = h s.inside y s.says.good; glue = s.says.glue; spelt = e ∙ rw (i, j, s.says.spelt) (simp append_assoc) };
    }

good_loop : {d : ℕ} (n : Bytes) (k : Acc) {c : Content} (g : Bytes) → Glue g → GoodContent d c → Loop (TurnL d n) k (spell_content c ++ spell_end n g) (record { content = k c; glue = g })
good_loop {d} n k g h (good_bare {f} y) = ending d n k f g y h
good_loop n k g h (good_child {d} {f} {e} {c} y x r) = go (element_lt e) (good_loop n (λ c. k (child f e c)) g h r)
  where
    go : (w : Bytes) × (code "<" ∷ w ≡ spell_element e) → Loop (TurnL (suc d) n) (λ c. k (child f e c)) (spell_content c ++ spell_end n g) (record { content = k (child f e c); glue = g })
        → Loop (TurnL (suc d) n) k (spell_content (child f e c) ++ spell_end n g) (record { content = k (child f e c); glue = g })
    go (w, i) t =
        let j : spell_content (child f e c) ++ spell_end n g ≡ (spell_filler f ++ spell_element e) ++ (spell_content c ++ spell_end n g) = simp append_assoc in
        next (spell_filler f ++ spell_element e) (λ c. k (child f e c)) _ j (filled f w (rw i) y (opening e (record { good = x; spelt = i }) refl)) t

-- a content, at any depth, if what stands behind filler and `<` is exact
module _ (d : ℕ) (n : Bytes) (tag : Acc → Filler → Reader ContentTurn) (ex : (k : Acc) (f : Filler) → Exact (TagL n k f d) (tag k f)) where
  turn_exact : (k : Acc) → Exact (TurnL d n k) (content_turn_p tag k)
  unfolding content_turn_p
  turn_exact k = fill_exact below_root (tag_starts n k) (λ f y. ex k f)

  loop_content : Exact (ContentL d n) (loop_p (content_turn_p tag) (λ c. c))
  loop_content = exact_like to from (loop_exact (λ k. Unit {0}) (λ k u. turn_exact k) (λ k w k' u l. tt) (reads d n) some_end (λ c. c) tt)
    where
      some_end : (k : Acc) → Unit {0} → (w : Bytes) × (v : Tail) × Loop (TurnL d n) k w v
      some_end k u = (_, _, ending d n k [] [] bits_end refl)

      to : (w : Bytes) (t : Tail) → Loop (TurnL d n) (λ c. c) w t → ContentL d n w t
      to w t l = let z = loop_good d n (λ c. c) w t l in rw z.built z.says

      from : (w : Bytes) (t : Tail) → ContentL d n w t → Loop (TurnL d n) (λ c. c) w t
      from w t l = rw l.spelt (good_loop n (λ c. c) t.glue l.glue l.good)

  -- the unfolding equation, for code
  pub loop_content_eq : (k : Acc) (s : Bytes) → loop_p (content_turn_p tag) k s ≡ bind_p (content_turn_p tag k) (onward (loop_p (content_turn_p tag))) s
  loop_content_eq k s = loop_eq (λ k. Unit {0}) (λ k u. turn_exact k) (λ k w k' u l. tt) (reads d n) (λ k u. (_, _, ending d n k [] [] bits_end refl)) k tt s

-- every depth
content_exact : (d : ℕ) (n : Bytes) → Exact (ContentL d n) (content_p d n)
unfolding content_p
content_exact zero n = loop_content 0 n (leaf_tag_p n) (leaf_tag_exact n)
content_exact (suc d) n = loop_content (suc d) n (node_tag_p (elem_p (content_p d)) n) (node_tag_exact d (element_exact d (content_p d) (λ m h. content_exact d m)) n)

pub read_exact : (d : ℕ) → Exact (IsElement d) (elem_p (content_p d))
read_exact d = element_exact d (content_p d) (λ m h. content_exact d m)
