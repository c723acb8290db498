-- The loop over a tag's attributes: the state of the model, the list of what was read and a table that is lent grow together.
use mathlib.Core.Path.{◌≡◌, refl, sym, ap, ◌∙◌}
use mathlib.Core.List.{List, [], ◌∷◌, ◌++◌, append_assoc, append-nil}
use mathlib.Core.Bool.{Bool, true, false, ◌&&◌}
use Prim.Native.Nat.{ℕ, suc, ◌+◌, ◌-◌, ◌*◌, ◌≤◌, ◌<◌}
use native.Mathlib.Omega.{arith}
use native.Mathlib.Numerals.{add-one}
use lib.ListN.{length, length-append, take, drop, get_or, length-take, length-drop}
use lib.Seq.{drop-cons}
use lib.Dec.{leb}
use borrow.Author.Tests.{leb-true, le-leb}
use Rattle.scan.specs.Pieces.{GotTok, glue_tok, chained}
use Rattle.scan.specs.Unfold.{then_and, and_and, glue_bind}
use Rattle.scan.proofs.Chain.{then_done, stops, tok, pass}
use Rattle.model.specs.Tests.{and_left, and_right}
use Rattle.model.specs.Attributes.{T, turn_p, State, end_p, attr_p, head_p}
use Rattle.model.proofs.Attributes.{head_eq}
use Rattle.exact.specs.Exact.{Out}
use Rattle.exact.specs.Chain.{if_p}
use Rattle.exact.specs.Byte.{pick, choice_p}
use Rattle.exact.specs.Loop.{onward, loop_p}
use Rattle.grammar.specs.Bytes.{Bytes, non_empty}
use Rattle.grammar.specs.Limits.{ATTRIBUTES}
use Rattle.grammar.specs.Name.{name_start}
use Rattle.grammar.specs.Attribute.{Attribute, spell_attributes}
use Rattle.grammar.specs.Places.{name_at, name_end, value_at, value_end}
use Rattle.tags.specs.Places.{places, stored}
use Rattle.tags.specs.Heads.{Lent, HeadCase, HeadSays}
use Rattle.tags.specs.Names.{Rows, rows_none, rows_more, Marked, Ready}
use Rattle.tags.specs.Inner.{AttributeTo, AttributeSays, PutRow, EndCase, EndSays}
use Rattle.tags.proofs.MarkLaws.{marked_none}
use Rattle.tags.proofs.AttributeLaws.{glue_read}
use Rattle.tags.proofs.PlaceLaws.{same_row, attribute_size, spell_append, places_stored}
use Rattle.std.specs.Prelude.{Result, Ok, Err}
use Rattle.scan.specs.declared.Stop.{Stop}
use Rattle.tags.specs.declared.attributes.Given.{Given}
use Rattle.tags.specs.declared.attributes.Tag.{Tag}

-- n attributes are read up to i, their names are marked, and a table that is lent has their places
pub record InHead (may : Bool) (s : Bytes) (at : ℕ) (old t marks : List ℕ) (n i : ℕ) : Type 0 where
  pub st : State
  pub read : List Attribute
  pub from : at + length (spell_attributes read) ≡ i
  pub upto : i ≤ length s
  pub size : length read ≡ n
  pub built : (l : List Attribute) → st.build l ≡ read ++ l
  pub names : length st.seen ≡ n
  pub rows : Rows s at i st.seen
  pub marked : Marked marks st.seen
  pub marks_long : length marks ≡ 64
  pub room : n ≤ ATTRIBUTES
  pub table_long : length t ≡ length old
  pub places_are : Lent s at old → t ≡ places 0 read ++ drop (4 * n) old
  pub same : head_p may (drop at s) ≡ loop_p (turn_p may) st (drop i s)

pub head_start : (may : Bool) (s : Bytes) (at : ℕ) (old marks : List ℕ) → at ≤ length s → length marks ≡ 64 → InHead may s at old old marks 0 at
unfolding head_p places
head_start may s at old marks h k = record {
  st = record { seen = []; build = λ l. l };
  read = [];
  from = omega arith;
  upto = h;
  size = refl;
  built = λ l. refl;
  names = refl;
  rows = rows_none refl;
  marked = marked_none marks;
  marks_long = k;
  room = omega arith;
  table_long = refl;
  places_are = λ _. refl;
  same = refl;
}

some_size : (g : Bytes) (k : ℕ) → length g ≡ k → non_empty g ≡ leb 1 k
some_size [] k h = rw (← h)
some_size (b ∷ g) k h = sym (le-leb 1 k (omega arith))

module _ (may : Bool) (s : Bytes) (at : ℕ) (old t marks : List ℕ) (n i : ℕ) (w : InHead may s at old t marks n i) where
  -- behind the glue g: an attribute, or the end
  abbrev Next : Bytes → Bytes → Out T
  Next g = if_p (non_empty g && leb (length w.st.seen) (ATTRIBUTES - 1)) (choice_p name_start (attr_p may w.st g) (end_p may w.st g)) (end_p may w.st g)

  turned : head_p may (drop at s) ≡ chained (chained (glue_tok (drop i s)) Next) (onward (loop_p (turn_p may)))
  unfolding turn_p
  turned =
      w.same ∙ head_eq may w.st (drop i s) ∙ then_and (turn_p may w.st (drop i s)) (onward (loop_p (turn_p may)))
      ∙ ap (λ (o : Out T). chained o (onward (loop_p (turn_p may)))) (glue_bind Next (drop i s))

  i_far : at ≤ i
  i_far = let z = w.from in omega arith

  pub head_glue_fails : {x : Stop} → GotTok 0 s i (Err x) (glue_tok (drop i s)) → HeadSays may s at old t (Err x)
  head_glue_fails g = record {
    says = (pass (tok g) 1 at i_far (λ g u. chained (Next g u) (onward (loop_p (turn_p may)))) (turned ∙ and_and (glue_tok (drop i s)) Next (onward (loop_p (turn_p may))))).says;
    long = w.table_long;
  }

  module _ (j : ℕ) (g : GotTok 0 s i (Ok j) (glue_tok (drop i s))) where
    abbrev glue : Bytes
    glue = take (j - i) (drop i s)

    glue_size : length glue ≡ j - i
    glue_size = let a = g.says.0 in let b = g.says.1 in rw (length-take, length-drop) (omega arith)

    at_glue : head_p may (drop at s) ≡ chained (Next glue (drop j s)) (onward (loop_p (turn_p may)))
    at_glue = turned ∙ ap (λ (o : Out T). chained o (onward (loop_p (turn_p may)))) (then_done Next g.says.2)

    in_s : j < length s
    in_s = g.says.1

    -- the tests of the model are those of the code
    behind_is : Next glue (drop j s) ≡ pick (leb 1 (j - i) && (leb n (ATTRIBUTES - 1) && name_start (get_or s j 0))) (attr_p may w.st glue (drop j s)) (end_p may w.st glue (drop j s))
    behind_is = rw (some_size glue (j - i) glue_size, w.names) (go (leb 1 (j - i)) (leb n (ATTRIBUTES - 1)) (name_start (get_or s j 0)) refl)
      where
        first : choice_p name_start (attr_p may w.st glue) (end_p may w.st glue) (drop j s) ≡ pick (name_start (get_or s j 0)) (attr_p may w.st glue (drop j s)) (end_p may w.st glue (drop j s))
        first = rw (drop-cons s j 0 in_s)

        go : (x y z : Bool) → name_start (get_or s j 0) ≡ z
            → if_p (x && y) (choice_p name_start (attr_p may w.st glue) (end_p may w.st glue)) (end_p may w.st glue) (drop j s) ≡ pick (x && (y && z)) (attr_p may w.st glue (drop j s)) (end_p may w.st glue (drop j s))
        go true true z e = first ∙ rw e
        go true false z e = refl
        go false y z e = refl

    -- the end of the tag
    pub head_ends : leb 1 (j - i) && (leb n (ATTRIBUTES - 1) && name_start (get_or s j 0)) ≡ false → (r : Result Tag Stop) → EndSays may s j n r → HeadSays may s at old t r
    unfolding chained
    head_ends e r x = record { says = go r x.says; long = w.table_long }
      where
        ended : head_p may (drop at s) ≡ chained (end_p may w.st glue (drop j s)) (onward (loop_p (turn_p may)))
        ended = at_glue ∙ rw (behind_is, e)

        whole-list : w.st.build [] ≡ w.read
        whole-list = w.built [] ∙ append-nil w.read

        go : (r : Result Tag Stop) → EndCase may s j n r → HeadCase may s at old t r
        go (Ok tag) (c, y) =
            let a = i_far in
            let b = g.says.0 in
            let d = y.far in
            record {
              head = record { attributes = w.st.build []; trail = glue; empty = tag.empty };
              reads = ended ∙ then_done _ (y.reads w.st glue);
              far = omega arith;
              upto = y.upto;
              ends = refl;
              counts = c ∙ sym w.size ∙ ap length (sym whole-list);
              table = record { noted = λ k. w.places_are k ∙ ap (λ (m : ℕ). places 0 w.read ++ drop (4 * m) old) (sym w.size) ∙ ap (λ (l : List Attribute). places 0 l ++ drop (4 * length l) old) (sym whole-list) };
            }
        go (Err x) y = let a = i_far in let b = g.says.0 in stops s j (end_p may w.st glue (drop j s)) x (y w.st glue) at (omega arith) (onward (loop_p (turn_p may))) ended

    -- one attribute more
    module _ (e : leb 1 (j - i) && (leb n (ATTRIBUTES - 1) && name_start (get_or s j 0)) ≡ true) where
      some-glue : i < j
      some-glue = let z = leb-true 1 (j - i) (and_left (leb 1 (j - i)) _ e) in omega arith

      few : n < ATTRIBUTES
      few = let r = and_right (leb 1 (j - i)) _ e in let z = leb-true n (ATTRIBUTES - 1) (and_left (leb n (ATTRIBUTES - 1)) _ r) in omega arith

      pub head-ready : Ready s at marks j
      head-ready =
          let r = and_right (leb 1 (j - i)) _ e in
          let b = g.says.0 in
          record {
            stood = record { names = w.st.seen; upto = i; rows = w.rows; from = omega arith; glued = glue_read g; inside = in_s; starts = and_right (leb n (ATTRIBUTES - 1)) _ r };
            marked = w.marked;
            long = w.marks_long;
          }

      at-attribute : head_p may (drop at s) ≡ chained (attr_p may w.st glue (drop j s)) (onward (loop_p (turn_p may)))
      at-attribute = at_glue ∙ rw (behind_is, e)

      module _ (marks' : List ℕ) where
        pub head-attribute-fails : {x : Stop} → AttributeSays s at j marks marks' (Err x) → HeadSays may s at old t (Err x)
        unfolding head-ready
        head-attribute-fails {x} y = let a = i_far in let b = some-glue in
            record { says = stops s j (attr_p may w.st glue (drop j s)) x ((y.says head-ready).says may w.st glue refl) at (omega arith) (onward (loop_p (turn_p may))) at-attribute; long = w.table_long }

        module _ (d : Given) (x : AttributeSays s at j marks marks' (Ok d)) where
          y : AttributeTo s w.st.seen j d.past d.value d.end
          unfolding head-ready
          y = (x.says head-ready).says

          -- the order of the places
          pub head-order : (at ≤ j) × (j ≤ d.end - 1) × (j < d.past) × (d.past ≤ d.end - 1) × (d.value ≤ d.end - 1) × (i < d.end) × (d.end ≤ length s) × (n < ATTRIBUTES) × (at ≤ d.value)
          head-order =
              let a = i_far in let b = some-glue in let c = y.name_some in let f = y.value_from_holds in let k = y.value_to in let l = y.upto in let m = few in
              (omega arith, omega arith, omega arith, omega arith, omega arith, omega arith, omega arith, m, omega arith)

          a : Attribute
          a = record { before = glue; name = take (d.past - j) (drop j s); mid = y.mid; after = y.after; quote = y.quote; value = y.value }

          -- its places, counted from `at`
          record Counted : Type 0 where
            name : name_at (i - at) a ≡ j - at
            past : name_end (i - at) a ≡ d.past - at
            value : value_at (i - at) a ≡ d.value - at
            end : value_end (i - at) a ≡ d.end - 1 - at

          counted : Counted
          unfolding a
          counted =
              let h₁ = i_far in
              let h₂ = some-glue in
              let h₃ = y.name_some in
              let h₄ = y.value_from_holds in
              let h₅ = y.value_to in
              let h₇ = y.upto in
              let p₀ = glue_size in
              let p₂ : length (take (d.past - j) (drop j s)) ≡ d.past - j = rw (length-take, length-drop) (omega arith) in
              record { name = omega arith; past = omega arith; value = omega arith; end = omega arith }

          next_place : at + length (spell_attributes (w.read ++ a ∷ [])) ≡ d.end
          next_place = let b = spell_append w.read a in let c = attribute_size (i - at) a in let f = w.from in let k = counted.end in let l = i_far in let m = y.value_to in let o = y.value_from_holds in omega arith

          at_turn : head_p may (drop at s) ≡ loop_p (turn_p may) (record { seen = take (d.past - j) (drop j s) ∷ w.st.seen; build = λ l. w.st.build (a ∷ l) }) (drop d.end s)
          unfolding a
          at_turn = at-attribute ∙ then_done _ (y.reads may w.st glue refl)

          pub head-next : (t' : List ℕ) → PutRow t t' n (j - at) (d.past - at) (d.value - at) (d.end - 1 - at) → InHead may s at old t' marks' (n + 1) d.end
          unfolding head-ready
          head-next t' p = record {
            st = record { seen = take (d.past - j) (drop j s) ∷ w.st.seen; build = λ l. w.st.build (a ∷ l) };
            read = w.read ++ a ∷ [];
            from = next_place;
            upto = y.upto;
            size = length-append w.read (a ∷ []) ∙ rw w.size;
            built = λ l. w.built (a ∷ l) ∙ sym (append_assoc w.read (a ∷ []) l);
            names = ap suc w.names ∙ sym (add-one n);
            rows = rows_more w.rows (y.one i (let b = g.says.0 in omega arith) (glue_read g));
            marked = x.marked head-ready d refl;
            marks_long = x.long ∙ w.marks_long;
            room = let m = few in omega arith;
            table_long = p.long ∙ w.table_long;
            places_are = noted;
            same = at_turn;
          }
            where
              noted : Lent s at old → t' ≡ places 0 (w.read ++ a ∷ []) ++ drop (4 * (n + 1)) old
              noted k =
                  let b = few in
                  let l : 4 * n + 3 < length t = omega (arith, w.table_long, k.whole) in
                  let m : d.end - 1 - at < 65_536 = omega (arith, k.short, y.upto, y.value_to, i_far) in
                  let o : 0 + length (spell_attributes w.read) ≡ i - at = let z = w.from in omega arith in
                  let r : stored t n (j - at) (d.past - at) (d.value - at) (d.end - 1 - at) ≡ stored (places 0 w.read ++ drop (4 * n) old) n (name_at (i - at) a) (name_end (i - at) a) (value_at (i - at) a) (value_end (i - at) a)
                  = same_row n (w.places_are k) (sym counted.name) (sym counted.past) (sym counted.value) (sym counted.end) in
                  p.row l m ∙ r ∙ places_stored 0 w.read a n old w.size (omega (arith, k.whole)) (i - at) o
