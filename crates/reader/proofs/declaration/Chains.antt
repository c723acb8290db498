-- The models of the declaration as chains of what the code calls.
use mathlib.Core.Path.{◌≡◌, refl, sym, ap, ◌∙◌}
use mathlib.Core.List.{List, [], ◌∷◌, ◌++◌}
use mathlib.Core.Bool.{Bool, true, false, ◌||◌}
use Prim.Native.Nat.{ℕ}
use lib.Dec.{eqb}
use Rattle.scan.specs.Pieces.{byte_p, word_p, glue_tok, chained, glued_p}
use Rattle.scan.specs.Unfold.{then_and, and_ext, and_and, glue_bind, on_bind, glued_bind}
use Rattle.model.specs.Glue.{always, glue_p}
use Rattle.model.specs.Declarations.{fits_p, version_p, encoding_p, yes_no_p, mk_setting, setting_p, behind_standalone_p, standalone_or_end_p, behind_encoding_p, behind_version_p, mk_declaration, declaration_p}
use Rattle.exact.specs.Exact.{Out, done, more, bad, Reader}
use Rattle.exact.specs.Chain.{ret_p, bind_p, if_p}
use Rattle.exact.specs.Byte.{pick, on_p, lit_p, choice_p}
use Rattle.exact.specs.Token.{token_p}
use Rattle.grammar.specs.Bytes.{Bytes, text, either, every, non_empty}
use Rattle.grammar.specs.Glue.{is_glue}
use Rattle.grammar.specs.Value.{is_quote}
use Rattle.grammar.specs.Declaration.{Setting, Optional, absent, present, Declaration, version_bytes, encoding_bytes}
use Rattle.reader.specs.Declaration.{pairs, pairs_p, Opening, mk_opening, quote_p, open_p}

data Alike : List (ℕ → Bool) → List (ℕ → Bool) → Type 0 where
  none : Alike [] []
  one : {t t' : ℕ → Bool} {ts ts' : List (ℕ → Bool)} → ((b : ℕ) → t b ≡ t' b) → Alike ts ts' → Alike (t ∷ ts) (t' ∷ ts')

fits_ext : {ts ts' : List (ℕ → Bool)} → Alike ts ts' → (u : Bytes) → fits_p ts u ≡ fits_p ts' u
fits_ext none u = refl
fits_ext (one f a) [] = refl
fits_ext (one f a) (b ∷ u) = rw (f b, fits_ext a u)

twice : (x b : ℕ) → eqb x b ≡ either x x b
twice x b = go (eqb x b)
  where
    go : (z : Bool) → z ≡ z || z
    go true = refl
    go false = refl

pub version_pairs : (u : Bytes) → version_p u ≡ pairs_p (49 ∷ 46 ∷ 48 ∷ []) (49 ∷ 46 ∷ 49 ∷ []) u
unfolding version_p pairs_p
version_pairs u = let a : Alike version_bytes (pairs (49 ∷ 46 ∷ 48 ∷ []) (49 ∷ 46 ∷ 49 ∷ [])) = one (twice 49) (one (twice 46) (one (λ b. refl) none)) in fits_ext a u

pub encoding_pairs : (u : Bytes) → encoding_p u ≡ pairs_p (85 ∷ 84 ∷ 70 ∷ 45 ∷ 56 ∷ []) (117 ∷ 116 ∷ 102 ∷ 45 ∷ 56 ∷ []) u
unfolding encoding_p pairs_p
encoding_pairs u = let a : Alike encoding_bytes (pairs (85 ∷ 84 ∷ 70 ∷ 45 ∷ 56 ∷ []) (117 ∷ 116 ∷ 102 ∷ 45 ∷ 56 ∷ [])) = one (λ b. refl) (one (λ b. refl) (one (λ b. refl) (one (twice 45) (one (twice 56) none)))) in fits_ext a u

pub lit_word : {A : Type 0} (cs : Bytes) (a : A) (t : Bytes) → lit_p cs a t ≡ chained (word_p cs t) (λ _ u. done a u)
unfolding word_p chained
lit_word [] a t = refl
lit_word (c ∷ cs) a [] = refl
lit_word {A} (c ∷ cs) a (b ∷ t) = go (eqb c b) (lit_word cs a t)
  where
    go : (z : Bool) → lit_p cs a t ≡ chained (lit_p {A = ℕ} cs 0 t) (λ _ u. done a u) → pick z (lit_p cs a t) (bad (b ∷ t)) ≡ chained (pick z (lit_p {A = ℕ} cs 0 t) (bad (b ∷ t))) (λ _ u. done a u)
    go true h = h
    go false h = refl

abbrev ShutP : Bytes → Reader Bytes → Opening → Reader Setting
ShutP g W o u = chained (W u) (λ v w. chained (byte_p o.quote w) (λ _ x. done (mk_setting g o.mid o.after o.quote v) x))

pub setting_bind : (name : Bytes) (W : Reader Bytes) (g t : Bytes) → setting_p name W g t ≡ chained (open_p name t) (λ o u. chained (W u) (λ v w. chained (byte_p o.quote w) (λ _ x. done (mk_setting g o.mid o.after o.quote v) x)))
unfolding setting_p open_p word_p quote_p chained
setting_bind name W g t =
    then_and (lit_p {A = ℕ} name 0 t) _
    ∙ and_ext (lit_p {A = ℕ} name 0 t) (λ _ u. glued_bind 61 (λ m. glue_p (λ a. on_p is_quote (λ q. bind_p W (λ v. lit_p (q ∷ []) (mk_setting g m a q v))))) u
    ∙ and_ext (glued_p 61 u) (λ m v. glue_bind (λ a. on_p is_quote (λ q. bind_p W (λ v. lit_p (q ∷ []) (mk_setting g m a q v)))) v
    ∙ and_ext (glue_tok v) (λ a w. onq m a w) ∙ sym (and_and (glue_tok v) (λ a w. quote_p m a w) (ShutP g W)))
    ∙ sym (and_and (glued_p 61 u) (λ m v. chained (glue_tok v) (λ a w. quote_p m a w)) (ShutP g W)))
    ∙ sym (and_and (lit_p {A = ℕ} name 0 t) (λ _ u. chained (glued_p 61 u) (λ m v. chained (glue_tok v) (λ a w. quote_p m a w))) (ShutP g W))
  where
    shut : (m a : Bytes) (q : ℕ) (u : Bytes) → bind_p W (λ v. lit_p (q ∷ []) (mk_setting g m a q v)) u ≡ ShutP g W (mk_opening m a q) u
    shut m a q u = then_and (W u) _ ∙ and_ext (W u) (λ v w. on_bind q (ret_p (mk_setting g m a q v)) w)

    at : (m a : Bytes) (b : ℕ) (w : Bytes) (z : Bool) → is_quote b ≡ z → on_p is_quote (λ q. bind_p W (λ v. lit_p (q ∷ []) (mk_setting g m a q v))) (b ∷ w) ≡ chained (quote_p m a (b ∷ w)) (ShutP g W)
    at m a b w true h = rw h (shut m a b w)
    at m a b w false h = rw h

    onq : (m a w : Bytes) → on_p is_quote (λ q. bind_p W (λ v. lit_p (q ∷ []) (mk_setting g m a q v))) w ≡ chained (quote_p m a w) (ShutP g W)
    onq m a [] = refl
    onq m a (b ∷ w) = at m a b w (is_quote b) refl

pub behind_standalone_bind : (f : Bytes → Declaration) (t : Bytes) → behind_standalone_p f t ≡ chained (glue_tok t) (λ g u. chained (word_p (text "?>") u) (λ _ v. done (f g) v))
unfolding behind_standalone_p
behind_standalone_bind f t = glue_bind (λ g. lit_p (text "?>") (f g)) t ∙ and_ext (glue_tok t) (λ g u. lit_word (text "?>") (f g) u)

pub standalone_or_end_open : (g : Bytes) (f : Optional → Bytes → Declaration) → standalone_or_end_p g f [] ≡ more
unfolding standalone_or_end_p
standalone_or_end_open g f = refl

pub standalone_or_end_yes : (g : Bytes) (f : Optional → Bytes → Declaration) (b : ℕ) (t : Bytes) → eqb 115 b ≡ true → standalone_or_end_p g f (b ∷ t) ≡ chained (setting_p (text "standalone") yes_no_p g (b ∷ t)) (λ p u. behind_standalone_p (f (present p)) u)
unfolding standalone_or_end_p
standalone_or_end_yes g f b t h = rw h (then_and (setting_p (text "standalone") yes_no_p g (b ∷ t)) (λ p. behind_standalone_p (f (present p))))

pub standalone_or_end_no : (g : Bytes) (f : Optional → Bytes → Declaration) (b : ℕ) (t : Bytes) → eqb 115 b ≡ false → standalone_or_end_p g f (b ∷ t) ≡ chained (word_p (text "?>") (b ∷ t)) (λ _ u. done (f absent g) u)
unfolding standalone_or_end_p
standalone_or_end_no g f b t h = rw h (lit_word (text "?>") (f absent g) (b ∷ t))

pub behind_encoding_bind : (f : Optional → Bytes → Declaration) (t : Bytes) → behind_encoding_p f t ≡ chained (glue_tok t) (λ g u. if_p (non_empty g) (standalone_or_end_p g f) (lit_p (text "?>") (f absent g)) u)
unfolding behind_encoding_p
behind_encoding_bind f t = glue_bind (λ g. if_p (non_empty g) (standalone_or_end_p g f) (lit_p (text "?>") (f absent g))) t

unfoldable pub encoding_or_end_p : Bytes → (Optional → Optional → Bytes → Declaration) → Reader Declaration
encoding_or_end_p g f = choice_p (eqb 101) (bind_p (setting_p (text "encoding") encoding_p g) (λ p. behind_encoding_p (f (present p)))) (standalone_or_end_p g (f absent))

pub behind_version_bind : (f : Optional → Optional → Bytes → Declaration) (t : Bytes) → behind_version_p f t ≡ chained (glue_tok t) (λ g u. if_p (non_empty g) (encoding_or_end_p g f) (lit_p (text "?>") (f absent absent g)) u)
unfolding behind_version_p encoding_or_end_p
behind_version_bind f t = glue_bind (λ g. if_p (non_empty g) (choice_p (eqb 101) (bind_p (setting_p (text "encoding") encoding_p g) (λ p. behind_encoding_p (f (present p)))) (standalone_or_end_p g (f absent))) (lit_p (text "?>") (f absent absent g))) t

pub encoding_or_end_yes : (g : Bytes) (f : Optional → Optional → Bytes → Declaration) (b : ℕ) (t : Bytes) → eqb 101 b ≡ true → encoding_or_end_p g f (b ∷ t) ≡ chained (setting_p (text "encoding") encoding_p g (b ∷ t)) (λ p u. behind_encoding_p (f (present p)) u)
unfolding encoding_or_end_p
encoding_or_end_yes g f b t h = rw h (then_and (setting_p (text "encoding") encoding_p g (b ∷ t)) (λ p. behind_encoding_p (f (present p))))

pub encoding_or_end_no : (g : Bytes) (f : Optional → Optional → Bytes → Declaration) (b : ℕ) (t : Bytes) → eqb 101 b ≡ false → encoding_or_end_p g f (b ∷ t) ≡ standalone_or_end_p g (f absent) (b ∷ t)
unfolding encoding_or_end_p
encoding_or_end_no g f b t h = rw h

-- glue of at least a byte
module _ {A : Type 0} (q : Bytes → Reader A) where
  abbrev Q : Bytes → Reader A
  Q g u = pick (non_empty g) (q g u) (bad u)

  shift : (b : ℕ) → is_glue b ≡ true → (t g : Bytes) → token_p (every is_glue) always Q (b ∷ g) t ≡ token_p (every is_glue) always (λ g. q (b ∷ g)) g t
  shift b h [] g = refl
  shift b h (c ∷ t) g = rw h (go (every is_glue (g ++ c ∷ [])) (shift b h t (g ++ c ∷ [])))
    where
      go : (z : Bool) → token_p (every is_glue) always Q (b ∷ g ++ c ∷ []) t ≡ token_p (every is_glue) always (λ g. q (b ∷ g)) (g ++ c ∷ []) t
          → pick z (token_p (every is_glue) always Q (b ∷ g ++ c ∷ []) t) (q (b ∷ g) (c ∷ t)) ≡ pick z (token_p (every is_glue) always (λ g. q (b ∷ g)) (g ++ c ∷ []) t) (q (b ∷ g) (c ∷ t))
      go true i = i
      go false i = refl

  pub spaced_bind : (t : Bytes) → on_p is_glue (λ b. glue_p (λ g. q (b ∷ g))) t ≡ chained (glue_tok t) (λ g u. pick (non_empty g) (q g u) (bad u))
  spaced_bind t = same t ∙ glue_bind Q t
    where
      at : (b : ℕ) (t : Bytes) (z : Bool) → is_glue b ≡ z → on_p is_glue (λ b. glue_p (λ g. q (b ∷ g))) (b ∷ t) ≡ glue_p Q (b ∷ t)
      at b t true h = rw h (sym (shift b h t []))
      at b t false h = rw h

      same : (t : Bytes) → on_p is_glue (λ b. glue_p (λ g. q (b ∷ g))) t ≡ glue_p Q t
      same [] = refl
      same (b ∷ t) = at b t (is_glue b) refl

unfoldable pub versioned_p : Bytes → Reader Declaration
versioned_p g t = chained (setting_p (text "version") version_p g t) (λ p u. behind_version_p (mk_declaration p) u)

pub declaration_bind : (t : Bytes) → declaration_p t ≡ chained (word_p (text "xml") t) (λ _ u. chained (glue_tok u) (λ g v. pick (non_empty g) (versioned_p g v) (bad v)))
unfolding declaration_p word_p versioned_p
declaration_bind t = then_and (lit_p {A = ℕ} (text "xml") 0 t) _ ∙ and_ext (lit_p {A = ℕ} (text "xml") 0 t) (λ _ u. spaced_bind (λ g. bind_p (setting_p (text "version") version_p g) (λ p. behind_version_p (mk_declaration p))) u
    ∙ and_ext (glue_tok u) (λ g v. ap (λ (o : Out Declaration). pick (non_empty g) o (bad v)) (then_and (setting_p (text "version") version_p g v) (λ p. behind_version_p (mk_declaration p)))))
