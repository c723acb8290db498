-- The reader of the declaration.
use Rattle.std.specs.Prelude.{◌≡◌, List, [], ◌∷◌, Bool, true, ℕ, eqb}
use Prim.Native.Char.{code}
use Rattle.exact.specs.Exact.{Reader}
use Rattle.exact.specs.Chain.{ret_p, bind_p, map_p, if_p}
use Rattle.exact.specs.Byte.{on_p, lit_p, choice_p}
use Rattle.grammar.specs.Bytes.{Bytes, text, non_empty}
use Rattle.grammar.specs.Glue.{is_glue}
use Rattle.grammar.specs.Value.{is_quote}
use Rattle.grammar.specs.Declaration.{Setting, Optional, absent, present, Declaration, spell_declaration, version_bytes, encoding_bytes, GoodDeclaration}
use Rattle.model.specs.Glue.{glue_p}

-- words of a declaration
pub data WordL (W : Bytes → Bool) (w v : Bytes) : Type 0 where
  word : w ≡ v → W v ≡ true → WordL W w v

abbrev pub fits_p : List (ℕ → Bool) → Reader Bytes
fits_p [] = ret_p []
fits_p (t ∷ ts) = on_p t (λ b. map_p (λ v. b ∷ v) (fits_p ts))

unfoldable pub version_p : Reader Bytes
version_p = fits_p version_bytes

unfoldable pub encoding_p : Reader Bytes
encoding_p = fits_p encoding_bytes

unfoldable pub yes_no_p : Reader Bytes
yes_no_p = choice_p (eqb 121) (lit_p (text "yes") (text "yes")) (lit_p (text "no") (text "no"))

abbrev pub mk_setting : (g m a : Bytes) → ℕ → Bytes → Setting
mk_setting g m a q v = record { before = g; mid = m; after = a; quote = q; word = v }

unfoldable pub setting_p : Bytes → Reader Bytes → Bytes → Reader Setting
setting_p name word_p g = bind_p (lit_p {A = ℕ} name 0) (λ u. glue_p (λ m. on_p (eqb 61) (λ b. glue_p (λ a. on_p is_quote (λ q. bind_p word_p (λ v. lit_p (q ∷ []) (mk_setting g m a q v)))))))

unfoldable pub behind_standalone_p : (Bytes → Declaration) → Reader Declaration
behind_standalone_p f = glue_p (λ g. lit_p (text "?>") (f g))

-- behind glue g: standalone, or the end
unfoldable pub standalone_or_end_p : Bytes → (Optional → Bytes → Declaration) → Reader Declaration
standalone_or_end_p g f = choice_p (eqb 115) (bind_p (setting_p (text "standalone") yes_no_p g) (λ p. behind_standalone_p (f (present p)))) (lit_p (text "?>") (f absent g))

-- behind the encoding
unfoldable pub behind_encoding_p : (Optional → Bytes → Declaration) → Reader Declaration
behind_encoding_p f = glue_p (λ g. if_p (non_empty g) (standalone_or_end_p g f) (lit_p (text "?>") (f absent g)))

-- behind the version
unfoldable pub behind_version_p : (Optional → Optional → Bytes → Declaration) → Reader Declaration
behind_version_p f = glue_p (λ g. if_p (non_empty g) (choice_p (eqb 101) (bind_p (setting_p (text "encoding") encoding_p g) (λ p. behind_encoding_p (f (present p)))) (standalone_or_end_p g (f absent))) (lit_p (text "?>") (f absent absent g)))

-- the declaration, behind `<?`
abbrev pub mk_declaration : Setting → Optional → Optional → Bytes → Declaration
mk_declaration p c s g = record { version = p; encoding = c; standalone = s; trail = g }

unfoldable pub declaration_p : Reader Declaration
declaration_p = bind_p (lit_p {A = ℕ} (text "xml") 0) (λ u. on_p is_glue (λ b. glue_p (λ g. bind_p (setting_p (text "version") version_p (b ∷ g)) (λ p. behind_version_p (mk_declaration p)))))

-- behind the first `<` and `?`
pub record IsDeclaration (w : Bytes) (d : Declaration) : Type 0 where
  pub good : GoodDeclaration d
  pub spelt : code "<" ∷ code "?" ∷ w ≡ spell_declaration d
