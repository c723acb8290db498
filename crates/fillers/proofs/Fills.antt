-- What the answers of the readers of comments, text and filler say of the models.
use Rattle.std.specs.Prelude.{◌≡◌, refl, [], ◌∷◌, ◌++◌, true, ℕ}
use Rattle.std.proofs.Common.{sym, ap, subst, ◌∙◌, append_assoc, arith}
use Prim.Native.Char.{code}
use Rattle.exact.specs.Exact.{Out, done, more, bad, Reader, sound}
use Rattle.exact.specs.Ahead.{Ahead, put_back}
use Rattle.grammar.specs.Bytes.{Bytes}
use Rattle.grammar.specs.Filler.{Site, Filler, spell_filler, GoodFiller}
use Rattle.model.specs.Fillers.{no_bang, peek_p, fill_p}
use Rattle.model.proofs.Fillers.{peek_exact}
use Rattle.scan.specs.Pieces.{chained}
use Rattle.scan.specs.Unfold.{then_and, and_ext, and_and}
use Rattle.fillers.specs.Fills.{fill_tok}

-- filler and `<`, then q
pub fill_bind : {A : Type 0} (s : Site) (q : Filler → Reader A) (t : Bytes) → fill_p s q t ≡ chained (fill_tok s t) q
unfolding fill_p fill_tok chained
fill_bind {A} s q t =
    then_and (peek_p s t) (put_back q)
    ∙ sym (and_and (peek_p s t) (λ x u. done x.value (x.first ∷ u)) q ∙ and_ext (peek_p s t) (λ x u. handed x.value (x.first ∷ u)))
  where
    handed : (f : Filler) (u : Bytes) → chained (done f u) q ≡ q f u
    handed f u = refl

-- the filler that was read stands there
pub fill_word : (s : Site) (t : Bytes) (f : Filler) (u : Bytes) → fill_tok s t ≡ done f u → (t ≡ spell_filler f ++ code "<" ∷ u) × GoodFiller s f
unfolding fill_tok chained
fill_word s t f u h = go (peek_p s t) refl h
  where
    go : (o : Out (Ahead Filler)) → peek_p s t ≡ o → chained o (λ x u. done x.value (x.first ∷ u)) ≡ done f u → (t ≡ spell_filler f ++ code "<" ∷ u) × GoodFiller s f
    go (done x v) e q =
        let a : x.value ≡ f = cc in
        let b : x.first ∷ v ≡ u = cc in
        let (w, i, l) = sound (peek_exact s) t x v e in
        let y : w ≡ (spell_filler x.value ++ code "<" ∷ []) ++ x.first ∷ [] = l.spelt ∙ ap (λ (z : Bytes). z ++ x.first ∷ []) l.reads.spelt in
        let z : t ≡ spell_filler x.value ++ code "<" ∷ x.first ∷ v = i ∙ ap (λ (n : Bytes). n ++ v) y ∙ append_assoc (spell_filler x.value ++ code "<" ∷ []) (x.first ∷ []) v ∙ append_assoc (spell_filler x.value) (code "<" ∷ []) (x.first ∷ v) in
        (z ∙ ap (λ (n : Filler). spell_filler n ++ code "<" ∷ x.first ∷ v) a ∙ ap (λ (n : Bytes). spell_filler f ++ code "<" ∷ n) b, subst (λ (n : Filler). GoodFiller s n) a l.reads.good)
    go more e q = absurd (let z : ◌≡◌ {A = ℕ} 0 1 = cc in omega arith)
    go (bad v) e q = absurd (let z : ◌≡◌ {A = ℕ} 0 1 = cc in omega arith)

-- and what stands there is read, if the byte behind `<` begins no comment
pub word_fill : (s : Site) (f : Filler) (b : ℕ) (u : Bytes) → GoodFiller s f → no_bang b ≡ true → fill_tok s (spell_filler f ++ code "<" ∷ b ∷ u) ≡ done f (b ∷ u)
unfolding fill_tok chained
word_fill s f b u g h =
    let e : spell_filler f ++ code "<" ∷ b ∷ u ≡ ((spell_filler f ++ code "<" ∷ []) ++ b ∷ []) ++ u = sym (append_assoc (spell_filler f ++ code "<" ∷ []) (b ∷ []) u ∙ append_assoc (spell_filler f) (code "<" ∷ []) (b ∷ u)) in
    ap (λ (t : Bytes). chained (peek_p s t) (λ x u. done x.value (x.first ∷ u))) e
    ∙ ap (λ (o : Out (Ahead Filler)). chained o (λ x u. done x.value (x.first ∷ u)))
    ((peek_exact s).comp ((spell_filler f ++ code "<" ∷ []) ++ b ∷ []) (record { value = f; first = b }) u
    (record { word = spell_filler f ++ code "<" ∷ []; spelt = refl; reads = record { good = g; spelt = refl }; passes = h }))
