-- No second answer meets the promise of `head`: the tag, and of a tag that is read the whole table, if one is lent, are determined.
use Rattle.std.specs.Prelude.{◌≡◌, List, ◌++◌, Bool, ℕ, ◌*◌, length, drop, Result, Ok, Err}
use Rattle.std.proofs.Common.{sym, ap, ◌∙◌}
use Rattle.grammar.specs.Bytes.{Bytes}
use Rattle.scan.specs.declared.Stop.{Stop}
use Rattle.model.specs.Attributes.{Head, head_p}
use Rattle.pieces.specs.Only.{done_only, stop_only, done_stops}
use Rattle.tags.specs.Places.{places}
use Rattle.tags.specs.Heads.{Lent, HeadSays}
use Rattle.tags.specs.declared.attributes.Tag.{Tag}

tag_only : (t t' : Tag) → t.empty ≡ t'.empty → t.count ≡ t'.count → t.end ≡ t'.end → t ≡ t'
tag_only t t' a b c = made a b c
  where
    made : {e e' : Bool} {n n' q q' : ℕ} → e ≡ e' → n ≡ n' → q ≡ q' → ◌≡◌ {A = Tag} (record { empty = e; count = n; end = q }) (record { empty = e'; count = n'; end = q' })
    made a b c = rw (a, b, c)

pub record SameHead (s : Bytes) (at : ℕ) (old new new' : List ℕ) (r r' : Result Tag Stop) : Type 0 where
  pub tag : r ≡ r'
  pub table : (t : Tag) → r ≡ Ok t → Lent s at old → new ≡ new'

pub head_only : {may : Bool} {s : Bytes} {at : ℕ} {old new new' : List ℕ} {r r' : Result Tag Stop} → HeadSays may s at old new r → HeadSays may s at old new' r' → SameHead s at old new new' r r'
head_only {may} {s} {at} {old} {new} {new'} {r} {r'} x y = go r r' x y
  where
    go : (r r' : Result Tag Stop) → HeadSays may s at old new r → HeadSays may s at old new' r' → SameHead s at old new new' r r'
    go (Ok t) (Ok t') x y =
        let h = x.says in
        let h' = y.says in
        let z = done_only s t.end t'.end h.upto h'.upto h.reads h'.reads in
        let u : t.count ≡ t'.count = h.counts ∙ ap (λ (x : Head). length x.attributes) z.0 ∙ sym h'.counts in
        let v : places 0 h.head.attributes ++ drop (4 * length h.head.attributes) old ≡ places 0 h'.head.attributes ++ drop (4 * length h'.head.attributes) old
        = ap (λ (x : Head). places 0 x.attributes ++ drop (4 * length x.attributes) old) z.0 in
        record {
          tag = ap Ok (tag_only t t' (h.ends ∙ ap (λ (x : Head). x.empty) z.0 ∙ sym h'.ends) u z.1);
          table = λ _ _ k. h.table.noted k ∙ v ∙ sym (h'.table.noted k);
        }
    go (Ok t) (Err e) x y = absurd (done_stops s at e x.says.reads y.says)
    go (Err e) (Ok t) x y = absurd (done_stops s at e y.says.reads x.says)
    go (Err e) (Err e') x y = record { tag = ap Err (stop_only (head_p may (drop at s)) s at e e' x.says y.says); table = λ t q k. cc }
