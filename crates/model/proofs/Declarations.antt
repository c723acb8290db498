-- The reader of the declaration, and that it is exact.
use Rattle.std.specs.Prelude.{◌≡◌, refl, List, [], ◌∷◌, ◌++◌, ◌⊎◌, Bool, true, false, ℕ, eqb}
use Rattle.std.proofs.Common.{sym, ap, subst, ◌∙◌, append_assoc, inl, inr}
use Prim.Native.Char.{code}
use Rattle.exact.specs.Exact.{Lang, Reader, Exact, exact_like}
use Rattle.exact.specs.Chain.{Ret, ret, ret_exact, Seq, seq, bind_exact, Map, mapped, map_exact, clash, If, yes_if, no_if, if_exact}
use Rattle.exact.specs.Byte.{On, on, on_exact, Lit, lit, eqb-true, lit_exact, Alt, left, right, Starts, starts, lit_starts, on_starts, choice_exact, seq_starts, is_byte}
use Rattle.exact.specs.Token.{token}
use Rattle.grammar.specs.Bytes.{Bytes, text, every, non_empty, same, fits}
use Rattle.grammar.specs.Glue.{is_glue}
use Rattle.grammar.specs.Value.{is_quote}
use Rattle.grammar.specs.Declaration.{Setting, Optional, absent, present, Declaration, spell_setting, spell_optional, is_version, is_encoding, is_standalone, GoodSetting, GoodOptional, good_absent, good_present}
use Rattle.model.specs.Tests.{and_left, and_right, and_both, or_cases, same_true, uncons}
use Rattle.model.specs.Glue.{GlueThen}
use Rattle.model.proofs.Glue.{glue_exact, quote_not_glue}
use Rattle.model.specs.Declarations.{WordL, word, fits_p, version_p, encoding_p, yes_no_p, mk_setting, setting_p, behind_standalone_p, standalone_or_end_p, behind_encoding_p, behind_version_p, mk_declaration, declaration_p, IsDeclaration}

data Sats : List (ℕ → Bool) → Type 0 where
  none : Sats []
  one : {t : ℕ → Bool} {ts : List (ℕ → Bool)} (b : ℕ) → t b ≡ true → Sats ts → Sats (t ∷ ts)

fits_exact : {ts : List (ℕ → Bool)} → Sats ts → Exact (WordL (fits ts)) (fits_p ts)
fits_exact none = exact_like to from (ret_exact [])
  where
    to : (w v : Bytes) → Ret [] w v → WordL (fits []) w v
    to w v (ret e q) = word (cc) (rw q)

    from : (w v : Bytes) → WordL (fits []) w v → Ret [] w v
    from w [] (word e h) = ret e refl
    from w (b ∷ v) (word e h) = clash (sym h)
fits_exact (one {t} {ts} b₀ h₀ s) = exact_like to from (on_exact b₀ h₀ (λ b h. map_exact (λ v. b ∷ v) (fits_exact s)))
  where
    to : (w v : Bytes) → On t (λ b. Map (λ v. b ∷ v) (WordL (fits ts))) w v → WordL (fits (t ∷ ts)) w v
    to w v (on b w' e h (mapped x (word i k) q)) = word (cc) (rw (q, h) k)

    from : (w v : Bytes) → WordL (fits (t ∷ ts)) w v → On t (λ b. Map (λ v. b ∷ v) (WordL (fits ts))) w v
    from w [] (word e h) = clash (sym h)
    from w (b ∷ v) (word e h) = on b v e (and_left (t b) (fits ts v) h) (mapped v (word refl (and_right (t b) (fits ts v) h)) refl)

version_exact : Exact (WordL is_version) version_p
unfolding version_p
version_exact = fits_exact (one 49 refl (one 46 refl (one 48 refl none)))

encoding_exact : Exact (WordL is_encoding) encoding_p
unfolding encoding_p
encoding_exact = fits_exact (one 85 refl (one 84 refl (one 70 refl (one 45 refl (one 56 refl none)))))

yes_no_exact : Exact (WordL is_standalone) yes_no_p
unfolding yes_no_p
yes_no_exact = exact_like to from (choice_exact (lit_starts 121 _ refl) (lit_starts 110 _ refl) (lit_exact _ _) (lit_exact _ _))
  where
    to : (w v : Bytes) → Alt (Lit (text "yes") (text "yes")) (Lit (text "no") (text "no")) w v → WordL is_standalone w v
    to w v (left (lit e q)) = word (cc) (rw q)
    to w v (right (lit e q)) = word (cc) (rw q)

    go : (w v : Bytes) → w ≡ v → (same (text "yes") v ≡ true) ⊎ (same (text "no") v ≡ true) → Alt (Lit (text "yes") (text "yes")) (Lit (text "no") (text "no")) w v
    go w v e (inl h) = let q = same_true (text "yes") v h in left (lit (e ∙ q) q)
    go w v e (inr h) = let q = same_true (text "no") v h in right (lit (e ∙ q) q)

    from : (w v : Bytes) → WordL is_standalone w v → Alt (Lit (text "yes") (text "yes")) (Lit (text "no") (text "no")) w v
    from w v (word e h) = go w v e (or_cases _ _ h)

-- name, glue, `=`, glue, a quoted word; behind glue g
data SettingL (name : Bytes) (W : Bytes → Bool) (g w : Bytes) (p : Setting) : Type 0 where
  setting : p.before ≡ g → every is_glue p.mid ≡ true → every is_glue p.after ≡ true → is_quote p.quote ≡ true → W p.word ≡ true → w ≡ spell_setting name p → SettingL name W g w p

setting_exact : (name : Bytes) (W : Bytes → Bool) (word_p : Reader Bytes) → Exact (WordL W) word_p → (g : Bytes) → Exact (SettingL name W g) (setting_p name word_p g)
unfolding setting_p is_glue is_quote
setting_exact name W word_p x g = exact_like to from
    (bind_exact (lit_exact {A = ℕ} name 0) (λ w u l. glue_exact (λ m k v. on_starts (is_byte is_glue 61 refl) k v) (λ m i. on_exact 61 refl (λ b j.
    glue_exact (λ a k v. on_starts quote_not_glue k v) (λ a i'. on_exact 34 refl (λ q j'. bind_exact x (λ w v l. lit_exact (q ∷ []) (mk_setting g m a q v))))))))
  where
    L : Lang Setting
    L = Seq (Lit {A = ℕ} name 0) (λ u. GlueThen (λ m. On (eqb 61) (λ b. GlueThen (λ a. On is_quote (λ q. Seq (WordL W) (λ v. Lit (q ∷ []) (mk_setting g m a q v)))))))

    to : (w : Bytes) (p : Setting) → L w p → SettingL name W g w p
    to w p (seq w₀ u w₁ e₀ (lit i₀ q₀) (token m k₁ e₁ h₁ o₁ (on b k₂ e₂ h₂ (token a k₃ e₃ h₃ o₃ (on q k₄ e₄ h₄ (seq w₅ v w₆ e₅ (word i₅ h₅) (lit i₆ s))))))) =
        rw s (setting refl h₁ h₃ h₄ h₅ (e₀ ∙ rw (i₀, e₁, e₂, eqb-true 61 b h₂, e₃, e₄, e₅, i₅, i₆)))

    from : (w : Bytes) (p : Setting) → SettingL name W g w p → L w p
    from w p (setting z m a q v e) = seq name 0 _ e (lit refl refl) (token p.mid _ refl m refl (on 61 _ refl refl (token p.after _ refl a refl (on p.quote _ refl q (seq p.word p.word _ refl (word refl v) (lit refl (same-p z)))))))
      where
        same-p : p.before ≡ g → p ≡ mk_setting g p.mid p.after p.quote p.word
        same-p z = rw (← z)

setting_starts : {t : ℕ → Bool} {z : Bool} {W : Bytes → Bool} {g : Bytes} (c : ℕ) (cs : Bytes) → t c ≡ z → (w : Bytes) (p : Setting) → SettingL (c ∷ cs) W g w p → Starts t z w
setting_starts c cs h w p (setting b m a q v e) = starts c _ e h

setting_good : {name : Bytes} {W : Bytes → Bool} {g w : Bytes} {p : Setting} → every is_glue g ≡ true → non_empty g ≡ true → SettingL name W g w p → GoodSetting W p × (g ++ w ≡ p.before ++ spell_setting name p)
setting_good h s (setting b m a q v e) = (record { before = rw b h; apart = rw b s; mid = m; after = a; quote = q; word = v }, rw (b, e))

good_setting : {name : Bytes} {W : Bytes → Bool} {p : Setting} → GoodSetting W p → SettingL name W p.before (spell_setting name p) p
good_setting g = setting refl g.mid g.after g.quote g.word refl

-- behind the last of them
data BehindStandaloneL (f : Bytes → Declaration) (w : Bytes) (v : Declaration) : Type 0 where
  behind_standalone : (g : Bytes) → every is_glue g ≡ true → w ≡ g ++ (text "?>") → v ≡ f g → BehindStandaloneL f w v

behind_standalone_exact : (f : Bytes → Declaration) → Exact (BehindStandaloneL f) (behind_standalone_p f)
unfolding behind_standalone_p is_glue
behind_standalone_exact f = exact_like to from (glue_exact (λ g k v. lit_starts 63 (62 ∷ []) refl k v) (λ g h. lit_exact (text "?>") (f g)))
  where
    to : (w : Bytes) (v : Declaration) → GlueThen (λ g. Lit (text "?>") (f g)) w v → BehindStandaloneL f w v
    to w v (token g k e h o (lit i q)) = behind_standalone g h (e ∙ rw i) q

    from : (w : Bytes) (v : Declaration) → BehindStandaloneL f w v → GlueThen (λ g. Lit (text "?>") (f g)) w v
    from w v (behind_standalone g h e q) = token g (text "?>") e h refl (lit refl q)

abbrev StandaloneOrEndL : Bytes → (Optional → Bytes → Declaration) → Lang Declaration
StandaloneOrEndL g f = Alt (Seq (SettingL (text "standalone") is_standalone g) (λ p. BehindStandaloneL (f (present p)))) (Lit (text "?>") (f absent g))

standalone_or_end_exact : (g : Bytes) (f : Optional → Bytes → Declaration) → Exact (StandaloneOrEndL g f) (standalone_or_end_p g f)
unfolding standalone_or_end_p
standalone_or_end_exact g f =
    choice_exact (seq_starts (setting_starts 115 _ refl)) (lit_starts 63 _ refl)
    (bind_exact (setting_exact (text "standalone") is_standalone yes_no_p yes_no_exact g) (λ w p l. behind_standalone_exact (f (present p)))) (lit_exact _ _)

standalone_or_end_starts : (t : ℕ → Bool) → t 115 ≡ false → t 63 ≡ false → (g : Bytes) (f : Optional → Bytes → Declaration) (w : Bytes) (v : Declaration) → StandaloneOrEndL g f w v → Starts t false w
standalone_or_end_starts t h k g f w v (left l) = seq_starts (setting_starts 115 _ h) w v l
standalone_or_end_starts t h k g f w v (right l) = lit_starts 63 _ k w v l

data BehindEncodingL (f : Optional → Bytes → Declaration) (w : Bytes) (v : Declaration) : Type 0 where
  behind_encoding : (s : Optional) (g : Bytes) → GoodOptional is_standalone s → every is_glue g ≡ true → w ≡ spell_optional (text "standalone") s ++ (g ++ (text "?>")) → v ≡ f s g → BehindEncodingL f w v

-- glue g and what stands behind it
of_standalone_or_end : (f : Optional → Bytes → Declaration) (g w u : Bytes) (v : Declaration) → every is_glue g ≡ true → non_empty g ≡ true → u ≡ g ++ w → StandaloneOrEndL g f w v → BehindEncodingL f u v
of_standalone_or_end f g w u v h z e (left (seq w₁ p w₂ i l (behind_standalone g' h' e' s))) =
    let y = setting_good h z l in
    behind_encoding (present p) g' (good_present y.0) h' (e ∙ ap (λ (x : Bytes). g ++ x) i ∙ sym (append_assoc g w₁ w₂) ∙ rw (y.1, e')) s
of_standalone_or_end f g w u v h z e (right (lit i s)) = behind_encoding absent g good_absent h (e ∙ rw i) s

to_standalone_or_end : (f : Optional → Bytes → Declaration) (p : Setting) (g : Bytes) (v : Declaration) → GoodSetting is_standalone p → every is_glue g ≡ true → v ≡ f (present p) g → StandaloneOrEndL p.before f (spell_setting (text "standalone") p ++ (g ++ (text "?>"))) v
to_standalone_or_end f p g v x h q = left (seq (spell_setting (text "standalone") p) p _ refl (good_setting x) (behind_standalone g h refl q))

behind_encoding_exact : (f : Optional → Bytes → Declaration) → Exact (BehindEncodingL f) (behind_encoding_p f)
unfolding behind_encoding_p is_glue
behind_encoding_exact f = exact_like to from (glue_exact st (λ g h. if_exact (non_empty g) (λ z. standalone_or_end_exact g f) (λ z. lit_exact _ _)))
  where
    L : Bytes → Lang Declaration
    L g = If (non_empty g) (StandaloneOrEndL g f) (Lit (text "?>") (f absent g))

    st : (g k : Bytes) (v : Declaration) → L g k v → Starts is_glue false k
    st g k v (yes_if z l) = standalone_or_end_starts is_glue refl refl g f k v l
    st g k v (no_if z l) = lit_starts 63 _ refl k v l

    to : (w : Bytes) (v : Declaration) → GlueThen L w v → BehindEncodingL f w v
    to w v (token g k e h o (yes_if z l)) = of_standalone_or_end f g k w v h z e l
    to w v (token g k e h o (no_if z (lit i s))) = behind_encoding absent g good_absent h (e ∙ rw i) s

    end : (g : Bytes) (v : Declaration) → v ≡ f absent g → (z : Bool) → non_empty g ≡ z → L g (text "?>") v
    end g v q true z = yes_if z (right (lit refl q))
    end g v q false z = no_if z (lit refl q)

    go : (s : Optional) → GoodOptional is_standalone s → (g w : Bytes) (v : Declaration) → every is_glue g ≡ true → w ≡ spell_optional (text "standalone") s ++ (g ++ (text "?>")) → v ≡ f s g → GlueThen L w v
    go absent x g w v h e q = token g (text "?>") e h refl (end g v q _ refl)
    go (present p) (good_present x) g w v h e q = token p.before _ (e ∙ append_assoc p.before (spell_setting (text "standalone") p) (g ++ (text "?>"))) x.before refl (yes_if x.apart (to_standalone_or_end f p g v x h q))

    from : (w : Bytes) (v : Declaration) → BehindEncodingL f w v → GlueThen L w v
    from w v (behind_encoding s g x h e q) = go s x g w v h e q

data BehindVersionL (f : Optional → Optional → Bytes → Declaration) (w : Bytes) (v : Declaration) : Type 0 where
  behind_version : (c s : Optional) (g : Bytes) → GoodOptional is_encoding c → GoodOptional is_standalone s → every is_glue g ≡ true → w ≡ spell_optional (text "encoding") c ++ (spell_optional (text "standalone") s ++ (g ++ (text "?>"))) → v ≡ f c s g → BehindVersionL f w v

behind_version_exact : (f : Optional → Optional → Bytes → Declaration) → Exact (BehindVersionL f) (behind_version_p f)
unfolding behind_version_p is_glue
behind_version_exact f = exact_like to from (glue_exact st (λ g h. if_exact (non_empty g)
    (λ z. choice_exact (seq_starts (setting_starts 101 _ refl)) (standalone_or_end_starts (eqb 101) refl refl g (f absent)) (bind_exact (setting_exact (text "encoding") is_encoding encoding_p encoding_exact g) (λ w p l. behind_encoding_exact (f (present p)))) (standalone_or_end_exact g (f absent)))
    (λ z. lit_exact _ _)))
  where
    L : Bytes → Lang Declaration
    L g = If (non_empty g) (Alt (Seq (SettingL (text "encoding") is_encoding g) (λ p. BehindEncodingL (f (present p)))) (StandaloneOrEndL g (f absent))) (Lit (text "?>") (f absent absent g))

    st : (g k : Bytes) (v : Declaration) → L g k v → Starts is_glue false k
    st g k v (yes_if z (left l)) = seq_starts (setting_starts 101 _ refl) k v l
    st g k v (yes_if z (right l)) = standalone_or_end_starts is_glue refl refl g (f absent) k v l
    st g k v (no_if z l) = lit_starts 63 _ refl k v l

    of_2 : (w : Bytes) (v : Declaration) → BehindEncodingL (f absent) w v → BehindVersionL f w v
    of_2 w v (behind_encoding s g x h e q) = behind_version absent s g good_absent x h e q

    to : (w : Bytes) (v : Declaration) → GlueThen L w v → BehindVersionL f w v
    to w v (token g k e h o (yes_if z (left (seq w₁ p w₂ i l (behind_encoding s g' x h' e' q))))) =
        let y = setting_good h z l in
        behind_version (present p) s g' (good_present y.0) x h' (e ∙ ap (λ (x : Bytes). g ++ x) i ∙ sym (append_assoc g w₁ w₂) ∙ rw (y.1, e')) q
    to w v (token g k e h o (yes_if z (right l))) = of_2 w v (of_standalone_or_end (f absent) g k w v h z e l)
    to w v (token g k e h o (no_if z (lit i s))) = behind_version absent absent g good_absent good_absent h (e ∙ rw i) s

    end : (g : Bytes) (v : Declaration) → v ≡ f absent absent g → (z : Bool) → non_empty g ≡ z → L g (text "?>") v
    end g v q true z = yes_if z (right (right (lit refl q)))
    end g v q false z = no_if z (lit refl q)

    go : (c s : Optional) → GoodOptional is_encoding c → GoodOptional is_standalone s → (g w : Bytes) (v : Declaration) → every is_glue g ≡ true → w ≡ spell_optional (text "encoding") c ++ (spell_optional (text "standalone") s ++ (g ++ (text "?>"))) → v ≡ f c s g → GlueThen L w v
    go absent absent a x g w v h e q = token g (text "?>") e h refl (end g v q _ refl)
    go absent (present p) a (good_present x) g w v h e q = token p.before _ (e ∙ append_assoc p.before (spell_setting (text "standalone") p) (g ++ (text "?>"))) x.before refl (yes_if x.apart (right (to_standalone_or_end (f absent) p g v x h q)))
    go (present c) s (good_present a) x g w v h e q =
        token c.before _ (e ∙ append_assoc c.before (spell_setting (text "encoding") c) (spell_optional (text "standalone") s ++ (g ++ (text "?>")))) a.before refl (yes_if a.apart (left (seq (spell_setting (text "encoding") c) c _ refl (good_setting a) (behind_encoding s g x h refl q))))

    from : (w : Bytes) (v : Declaration) → BehindVersionL f w v → GlueThen L w v
    from w v (behind_version c s g a x h e q) = go c s a x g w v h e q

pub declaration_exact : Exact IsDeclaration declaration_p
unfolding declaration_p is_glue
declaration_exact = exact_like to from (bind_exact (lit_exact {A = ℕ} (text "xml") 0) (λ w u l. on_exact 32 refl (λ b h. glue_exact (λ g k v. seq_starts (setting_starts 118 _ refl) k v)
    (λ g i. bind_exact (setting_exact (text "version") is_version version_p version_exact (b ∷ g)) (λ w p l. behind_version_exact (mk_declaration p))))))
  where
    L : Lang Declaration
    L = Seq (Lit {A = ℕ} (text "xml") 0) (λ u. On is_glue (λ b. GlueThen (λ g. Seq (SettingL (text "version") is_version (b ∷ g)) (λ p. BehindVersionL (mk_declaration p)))))

    to : (w : Bytes) (v : Declaration) → L w v → IsDeclaration w v
    to w v (seq w₀ u w₁ e₀ (lit i₀ q₀) (on b w₂ e₁ h₁ (token g k e₂ h₂ o₂ (seq w₃ p w₄ e₃ l (behind_version c s t x y z e₄ q))))) =
        let r = setting_good (and_both (is_glue b) (every is_glue g) h₁ h₂) refl l in
        let rest = spell_optional (text "encoding") c ++ (spell_optional (text "standalone") s ++ (t ++ (text "?>"))) in
        rw q (record {
          good = record { version = r.0; encoding = x; standalone = y; trail = z };
          spelt = ap (λ (y : Bytes). code "<" ∷ code "?" ∷ y) (e₀ ∙ rw (i₀, e₁, e₂, e₃, e₄) (ap (λ (y : Bytes). (text "xml") ++ y) (sym (append_assoc (b ∷ g) w₃ rest) ∙ ap (λ (x : Bytes). x ++ rest) r.1 ∙ append_assoc p.before (spell_setting (text "version") p) rest)));
        })

    split : (x r : Bytes) (v : Declaration) → every is_glue x ≡ true → non_empty x ≡ true → ((g : Bytes) (b : ℕ) → x ≡ b ∷ g → Seq (SettingL (text "version") is_version (b ∷ g)) (λ p. BehindVersionL (mk_declaration p)) r v)
        → On is_glue (λ b. GlueThen (λ g. Seq (SettingL (text "version") is_version (b ∷ g)) (λ p. BehindVersionL (mk_declaration p)))) (x ++ r) v
    split [] r v h s f = clash (sym s)
    split (b ∷ g) r v h s f = on b (g ++ r) refl (and_left (is_glue b) (every is_glue g) h) (token g r refl (and_right (is_glue b) (every is_glue g) h) refl (f g b refl))

    from : (w : Bytes) (v : Declaration) → IsDeclaration w v → L w v
    from w v l = seq (text "xml") 0 _ (uncons (uncons l.spelt)) (lit refl refl) (split v.version.before _ v l.good.version.before l.good.version.apart
        (λ g b e. seq (spell_setting (text "version") v.version) v.version _ refl (subst (λ (y : Bytes). SettingL (text "version") is_version y (spell_setting (text "version") v.version) v.version) e (good_setting l.good.version))
        (behind_version v.encoding v.standalone v.trail l.good.encoding l.good.standalone l.good.trail refl refl)))
