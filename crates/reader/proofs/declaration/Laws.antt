-- The declaration at places of a list, one law for each return.
use mathlib.Core.Path.{◌≡◌, refl, sym, ap, subst, ◌∙◌}
use mathlib.Core.List.{[], ◌∷◌}
use mathlib.Core.Bool.{true, false}
use Prim.Native.Nat.{ℕ, suc, ◌+◌, ◌-◌, ◌≤◌, ◌<◌}
use native.Mathlib.Omega.{arith}
use native.Mathlib.Numerals.{add-one}
use lib.ListN.{length, take, drop, get_or, drop_of_length-le}
use native.Mathlib.Nat.{add-zero}
use lib.Seq.{drop-cons}
use borrow.Author.Tests.{eq-eqb, ne_eqb}
use Rattle.scan.specs.Pieces.{Got, GotTok, byte_p, word_p, glue_tok, chained, Step, glued_p}
use Rattle.scan.specs.Unfold.{then_and, and_ext}
use Rattle.scan.proofs.Chain.{then_done, then_more, then_bad, tok, pass, last, moved}
use Rattle.model.specs.Declarations.{version_p, encoding_p, yes_no_p, mk_setting, setting_p, behind_standalone_p, standalone_or_end_p, behind_encoding_p, behind_version_p, mk_declaration, declaration_p}
use Rattle.exact.specs.Exact.{Out, done, more, bad, Reader}
use Rattle.exact.specs.Byte.{pick, lit_p}
use Rattle.grammar.specs.Bytes.{Bytes, text, either, non_empty}
use Rattle.grammar.specs.Value.{is_quote}
use Rattle.grammar.specs.Declaration.{Setting, Optional, absent, present, Declaration}
use Rattle.reader.specs.Declaration.{pairs_p, mk_opening, quote_p, open_p, OpenCase, GotOpen, GotSetting, GotBehindStandalone, GotStandaloneOrEnd, GotBehindEncoding, GotBehindVersion}
use Rattle.reader.proofs.declaration.Chains.{lit_word, setting_bind, behind_standalone_bind, standalone_or_end_open, standalone_or_end_yes, standalone_or_end_no, behind_encoding_bind, encoding_or_end_p, behind_version_bind, encoding_or_end_yes, encoding_or_end_no, versioned_p, declaration_bind}
use Rattle.std.specs.Prelude.{Ok, Err}
use Rattle.scan.specs.declared.Stop.{Stop}
use Rattle.scan.specs.declared.Stop.TheVariants.{Open, Bad}

-- k bytes of a folded word are read
pub record Fold (s : Bytes) (at : ℕ) (a c : Bytes) (k : ℕ) : Type 0 where
  pub upto : k ≤ length a
  pub room : at + k ≤ length s
  pub so_far : Bytes → Bytes
  pub same : pairs_p a c (drop at s) ≡ chained (pairs_p (drop k a) (drop k c) (drop (at + k) s)) (λ v u. done (so_far v) u)

and_done : {A : Type 0} (o : Out A) → o ≡ chained o (λ v u. done v u)
unfolding chained
and_done (done v u) = refl
and_done more = refl
and_done (bad r) = refl

and_map : (o : Out Bytes) (f g : Bytes → Bytes) → chained (chained o (λ v u. done (f v) u)) (λ v u. done (g v) u) ≡ chained o (λ v u. done (g (f v)) u)
unfolding chained
and_map (done v u) f g = refl
and_map more f g = refl
and_map (bad r) f g = refl

pub fold_start : (s : Bytes) (at : ℕ) (a c : Bytes) → at ≤ length s → Fold s at a c 0
fold_start s at a c h = record { upto = omega arith; room = omega arith; so_far = λ v. v; same = simp add-zero (and_done (pairs_p a c (drop at s))) }

module _ (s : Bytes) (at : ℕ) (a c : Bytes) (even : length a ≡ length c) (k : ℕ) (w : Fold s at a c k) where
  pub fold_done : length a ≤ k → Got 0 s at (Ok (at + length a)) (pairs_p a c (drop at s))
  unfolding pairs_p chained
  fold_done h = let x = w.upto in
      subst (λ (n : ℕ). Got 0 s at (Ok (at + n)) (pairs_p a c (drop at s))) (omega arith) (record { says = (w.so_far [], omega arith, w.room, w.same ∙ rw (drop_of_length-le a h)) })

  module _ (lt : k < length a) where
    cons : pairs_p (drop k a) (drop k c) ≡ pairs_p (get_or a k 0 ∷ drop (suc k) a) (get_or c k 0 ∷ drop (suc k) c)
    cons = let lt' : k < length c = omega arith in rw (drop-cons a k 0 lt, drop-cons c k 0 lt')

    pub fold_open : length s ≤ at + k → Got 0 s at (Err Open) (pairs_p a c (drop at s))
    unfolding pairs_p chained
    fold_open h =
        let x : pairs_p (drop k a) (drop k c) (drop (at + k) s) ≡ more = ap (λ (p : Reader Bytes). p (drop (at + k) s)) cons ∙ rw (drop_of_length-le s h) in
        record { says = w.same ∙ then_more _ x }

    module _ (h : at + k < length s) where
      pub fold-bad : either (get_or a k 0) (get_or c k 0) (get_or s (at + k) 0) ≡ false → Got 0 s at (Err (Bad (at + k))) (pairs_p a c (drop at s))
      unfolding pairs_p
      fold-bad e =
          let x : pairs_p (drop k a) (drop k c) (drop (at + k) s) ≡ bad (drop (at + k) s) = ap (λ (p : Reader Bytes). p (drop (at + k) s)) cons ∙ rw (drop-cons s (at + k) 0 h, e) in
          record { says = (omega arith, h, w.same ∙ then_bad _ x) }

      pub fold_next : either (get_or a k 0) (get_or c k 0) (get_or s (at + k) 0) ≡ true → Fold s at a c (k + 1)
      unfolding pairs_p
      fold_next e =
          let y : at + (k + 1) ≡ suc (at + k) = omega arith in
          let x : pairs_p (drop k a) (drop k c) (drop (at + k) s) ≡ chained (pairs_p (drop (suc k) a) (drop (suc k) c) (drop (suc (at + k)) s)) (λ v u. done (get_or s (at + k) 0 ∷ v) u) =
          ap (λ (p : Reader Bytes). p (drop (at + k) s)) cons ∙ rw (drop-cons s (at + k) 0 h, e) (then_and (pairs_p (drop (suc k) a) (drop (suc k) c) (drop (suc (at + k)) s)) _) in
          record {
            upto = omega arith;
            room = omega arith;
            so_far = λ v. w.so_far (get_or s (at + k) 0 ∷ v);
            same = rw (y, add-one k) (w.same ∙ ap (λ (o : Out Bytes). chained o (λ v u. done (w.so_far v) u)) x ∙ and_map (pairs_p (drop (suc k) a) (drop (suc k) c) (drop (suc (at + k)) s)) (λ v. get_or s (at + k) 0 ∷ v) w.so_far);
          }

-- yes, no
module _ (s : Bytes) (at : ℕ) where
  pub yes_open : length s ≤ at → Got 0 s at (Err Open) (yes_no_p (drop at s))
  unfolding yes_no_p
  yes_open h = record { says = rw (drop_of_length-le s h) }

  module _ (h : at < length s) where
    pub yes_yes : {r : Step} → get_or s at 0 ≡ 121 → Got 3 s at r (word_p (text "yes") (drop at s)) → Got 0 s at r (yes_no_p (drop at s))
    unfolding yes_no_p
    yes_yes e g =
        let x : yes_no_p (drop at s) ≡ lit_p (text "yes") (text "yes") (drop at s) = rw (drop-cons s at 0 h, eq-eqb 121 (get_or s at 0) (sym e)) in
        last g 0 at (omega arith) (omega arith) (λ _. (text "yes")) (x ∙ lit_word (text "yes") (text "yes") (drop at s))

    pub yes_no : {r : Step} → (get_or s at 0 ≡ 121 → ⊥) → Got 2 s at r (word_p (text "no") (drop at s)) → Got 0 s at r (yes_no_p (drop at s))
    unfolding yes_no_p
    yes_no e g =
        let x : yes_no_p (drop at s) ≡ lit_p (text "no") (text "no") (drop at s) = rw (drop-cons s at 0 h, ne_eqb 121 (get_or s at 0) (λ q. e (sym q))) in
        last g 0 at (omega arith) (omega arith) (λ _. (text "no")) (x ∙ lit_word (text "no") (text "no") (drop at s))

-- a name, `=`, a quote
module _ (name s : Bytes) (at : ℕ) where
  pub opening_name_fails : {k : ℕ} {x : Stop} → Got k s at (Err x) (word_p name (drop at s)) → GotOpen name s at (Err x)
  unfolding open_p
  opening_name_fails g = record { says = (pass g 1 at (omega arith) _ refl).says }

  module _ {k : ℕ} (a : ℕ) (g₁ : Got k s at (Ok a) (word_p name (drop at s))) where
    pub opening_equals_fails : {x : Stop} → Got 1 s a (Err x) (glued_p 61 (drop a s)) → GotOpen name s at (Err x)
    unfolding open_p
    opening_equals_fails g = record { says = (pass g 1 at (omega arith) _ (then_done _ g₁.says.3)).says }

    module _ (m : ℕ) (g₂ : Got 1 s a (Ok m) (glued_p 61 (drop a s))) where
      pub opening-glue-fails : {x : Stop} → GotTok 0 s m (Err x) (glue_tok (drop m s)) → GotOpen name s at (Err x)
      unfolding open_p
      opening-glue-fails g = record { says = (pass (tok g) 1 at (omega arith) _ (then_done _ g₁.says.3 ∙ then_done _ g₂.says.3)).says }

      module _ (e : ℕ) (g₃ : GotTok 0 s m (Ok e) (glue_tok (drop m s))) where
        so : open_p name (drop at s) ≡ quote_p g₂.says.0 (take (e - m) (drop m s)) (drop e s)
        unfolding open_p
        so = then_done _ g₁.says.3 ∙ then_done _ g₂.says.3 ∙ then_done _ g₃.says.2

        pub opening-quoted : either 34 39 (get_or s e 0) ≡ true → GotOpen name s at (Ok (e + 1))
        unfolding quote_p is_quote
        opening-quoted q =
            let z : e + 1 - 1 ≡ e = omega arith in
            let h : e < length s = g₃.says.1 in
            record { says = (mk_opening g₂.says.0 (take (e - m) (drop m s)) (get_or s e 0), rw z, omega arith, omega arith, so ∙ rw (add-one, drop-cons s e 0 h, q)) }

        pub opening-unquoted : either 34 39 (get_or s e 0) ≡ false → GotOpen name s at (Err (Bad e))
        unfolding quote_p is_quote
        opening-unquoted q =
            let h : e < length s = g₃.says.1 in
            record { says = (omega arith, h, so ∙ rw (drop-cons s e 0 h, q)) }

-- a quoted word
pub record IsOpen (name s : Bytes) (at e : ℕ) : Type 0 where
  pub says : OpenCase name s at (Ok e)

pub known_open : {name s : Bytes} {at : ℕ} {r : Step} {e : ℕ} → r ≡ Ok e → GotOpen name s at r → IsOpen name s at e
known_open {name} {s} {at} q g = record { says = subst (λ (r : Step). OpenCase name s at r) q g.says }

module _ (name : Bytes) (W : Reader Bytes) (s : Bytes) (at : ℕ) where
  pub setting_opening_fails : {x : Stop} → GotOpen name s at (Err x) → GotSetting name W s at (Err x)
  setting_opening_fails {x} g =
      let o : Got 1 s at (Err x) (open_p name (drop at s)) = record { says = g.says } in
      record { says = λ b. pass o 1 at (omega arith) _ (setting_bind name W b (drop at s)) }

  module _ (a : ℕ) (g₁ : IsOpen name s at a) where
    pub setting_word_fails : {x : Stop} → Got 0 s a (Err x) (W (drop a s)) → GotSetting name W s at (Err x)
    setting_word_fails g = record { says = λ b. pass g 1 at (omega arith) _ (setting_bind name W b (drop at s) ∙ then_done _ g₁.says.4) }

    pub setting_read : {e : ℕ} {r : Step} → Got 0 s a (Ok e) (W (drop a s)) → Got 1 s e r (byte_p (get_or s (a - 1) 0) (drop e s)) → GotSetting name W s at r
    setting_read {e} {r} g₂ g =
        let o = g₁.says.0 in
        let g' : Got 1 s e r (byte_p o.quote (drop e s)) = rw g₁.says.1 g in
        record { says = λ b. last g' 1 at (omega arith) (omega arith) (λ _. mk_setting b o.mid o.after o.quote g₂.says.0) (setting_bind name W b (drop at s) ∙ then_done _ g₁.says.4 ∙ then_done _ g₂.says.3) }

-- the same word by another name
pub setting_as : {name s : Bytes} {at : ℕ} {r : Step} {U W : Reader Bytes} → ((u : Bytes) → W u ≡ U u) → GotSetting name U s at r → GotSetting name W s at r
setting_as {name} {s} {at} {r} {U} {W} f g = record {
  says = λ b. subst (λ (o : Out Setting). Got 1 s at r o) (sym (setting_bind name W b (drop at s)
      ∙ and_ext (open_p name (drop at s)) (λ o u. ap (λ (x : Out Bytes). chained x (λ v w. chained (byte_p o.quote w) (λ _ y. done (mk_setting b o.mid o.after o.quote v) y))) (f u))
      ∙ sym (setting_bind name U b (drop at s)))) (g.says b);
}

-- glue of some bytes, or none
some_part : (s : Bytes) (at a : ℕ) → at < a → a < length s → non_empty (take (a - at) (drop at s)) ≡ true
some_part s at a h k =
    let z : a - at ≡ suc (a - suc at) = omega arith in
    let l : at < length s = omega arith in
    rw (z, drop-cons s at 0 l)

no_part : (s : Bytes) (at a : ℕ) → a ≡ at → non_empty (take (a - at) (drop at s)) ≡ false
no_part s at a h = let z : a - at ≡ 0 = omega arith in rw z

-- the end of a declaration
module _ (s : Bytes) (at : ℕ) where
  pub behind_standalone_fails : {x : Stop} → GotTok 0 s at (Err x) (glue_tok (drop at s)) → GotBehindStandalone s at (Err x)
  behind_standalone_fails g = record { says = λ x. pass (tok g) 1 at (omega arith) _ (behind_standalone_bind x (drop at s)) }

  pub behind_standalone_ends : {a : ℕ} {r : Step} → GotTok 0 s at (Ok a) (glue_tok (drop at s)) → Got 2 s a r (word_p (text "?>") (drop a s)) → GotBehindStandalone s at r
  behind_standalone_ends {a} g₁ g = record { says = λ x. last g 1 at (omega arith) (omega arith) (λ _. x (take (a - at) (drop at s))) (behind_standalone_bind x (drop at s) ∙ then_done _ g₁.says.2) }

  pub standalone_or_end_stops : length s ≤ at → GotStandaloneOrEnd s at (Err Open)
  standalone_or_end_stops h = record { says = λ b x. record { says = ap (standalone_or_end_p b x) (drop_of_length-le s h) ∙ standalone_or_end_open b x } }

  module _ (h : at < length s) where
    module _ (e : get_or s at 0 ≡ 115) where
      yes : (b : Bytes) (x : Optional → Bytes → Declaration) → standalone_or_end_p b x (drop at s) ≡ chained (setting_p (text "standalone") yes_no_p b (drop at s)) (λ p u. behind_standalone_p (x (present p)) u)
      yes b x = rw (drop-cons s at 0 h) (standalone_or_end_yes b x (get_or s at 0) (drop (suc at) s) (eq-eqb 115 (get_or s at 0) (sym e)))

      pub standalone-or-end-fails : {x : Stop} → GotSetting (text "standalone") yes_no_p s at (Err x) → GotStandaloneOrEnd s at (Err x)
      standalone-or-end-fails g = record { says = λ b x. pass (g.says b) 1 at (omega arith) _ (yes b x) }

      pub standalone-or-end-there : {a : ℕ} {r : Step} → GotSetting (text "standalone") yes_no_p s at (Ok a) → GotBehindStandalone s a r → GotStandaloneOrEnd s at r
      standalone-or-end-there g₁ g = record { says = λ b x. let y = g₁.says b in moved (g.says (x (present y.says.0))) 1 at (omega arith) (omega arith) (yes b x ∙ then_done _ y.says.3) }

    pub standalone_or_end_ends : {r : Step} → (get_or s at 0 ≡ 115 → ⊥) → Got 2 s at r (word_p (text "?>") (drop at s)) → GotStandaloneOrEnd s at r
    standalone_or_end_ends n g = record {
      says = λ b x. last g 1 at (omega arith) (omega arith) (λ _. x absent b)
          (let q : standalone_or_end_p b x (drop at s) ≡ chained (word_p (text "?>") (drop at s)) (λ _ u. done (x absent b) u) = rw (drop-cons s at 0 h) (standalone_or_end_no b x (get_or s at 0) (drop (suc at) s) (ne_eqb 115 (get_or s at 0) (λ q. n (sym q)))) in q);
    }

  pub behind_encoding_fails : {x : Stop} → GotTok 0 s at (Err x) (glue_tok (drop at s)) → GotBehindEncoding s at (Err x)
  behind_encoding_fails g = record { says = λ x. pass (tok g) 1 at (omega arith) _ (behind_encoding_bind x (drop at s)) }

  pub behind_version_fails : {x : Stop} → GotTok 0 s at (Err x) (glue_tok (drop at s)) → GotBehindVersion s at (Err x)
  behind_version_fails g = record { says = λ x. pass (tok g) 1 at (omega arith) _ (behind_version_bind x (drop at s)) }

  module _ (a : ℕ) (g₁ : GotTok 0 s at (Ok a) (glue_tok (drop at s))) where
    abbrev G : Bytes
    G = take (a - at) (drop at s)

    pub behind_encoding_ends : {r : Step} → a ≡ at → Got 2 s a r (word_p (text "?>") (drop a s)) → GotBehindEncoding s at r
    behind_encoding_ends e g =
        let z = no_part s at a e in
        record { says = λ x. last g 1 at (omega arith) (omega arith) (λ _. x absent G) (behind_encoding_bind x (drop at s) ∙ then_done _ g₁.says.2 ∙ rw z (lit_word (text "?>") (x absent G) (drop a s))) }

    pub behind_version_ends : {r : Step} → a ≡ at → Got 2 s a r (word_p (text "?>") (drop a s)) → GotBehindVersion s at r
    behind_version_ends e g =
        let z = no_part s at a e in
        record { says = λ x. last g 1 at (omega arith) (omega arith) (λ _. x absent absent G) (behind_version_bind x (drop at s) ∙ then_done _ g₁.says.2 ∙ rw z (lit_word (text "?>") (x absent absent G) (drop a s))) }

    module _ (ne : a ≡ at → ⊥) where
      has : non_empty G ≡ true
      has = let l = g₁.says.0 in some_part s at a (omega arith) g₁.says.1

      pub behind-encoding-goes-on : {r : Step} → GotStandaloneOrEnd s a r → GotBehindEncoding s at r
      behind-encoding-goes-on g = let z = has in record { says = λ x. moved (g.says G x) 1 at (omega arith) (omega arith) (behind_encoding_bind x (drop at s) ∙ then_done _ g₁.says.2 ∙ rw z) }

      into : (x : Optional → Optional → Bytes → Declaration) → behind_version_p x (drop at s) ≡ encoding_or_end_p G x (drop a s)
      into x = let z = has in behind_version_bind x (drop at s) ∙ then_done _ g₁.says.2 ∙ rw z

      module _ (e : get_or s a 0 ≡ 101) where
        enc : (x : Optional → Optional → Bytes → Declaration) → behind_version_p x (drop at s) ≡ chained (setting_p (text "encoding") encoding_p G (drop a s)) (λ p u. behind_encoding_p (x (present p)) u)
        enc x =
            let h : a < length s = g₁.says.1 in
            let q : encoding_or_end_p G x (drop a s) ≡ chained (setting_p (text "encoding") encoding_p G (drop a s)) (λ p u. behind_encoding_p (x (present p)) u) = rw (drop-cons s a 0 h) (encoding_or_end_yes G x (get_or s a 0) (drop (suc a) s) (eq-eqb 101 (get_or s a 0) (sym e))) in
            into x ∙ q

        pub behind-version-encoding-fails : {x : Stop} → GotSetting (text "encoding") encoding_p s a (Err x) → GotBehindVersion s at (Err x)
        behind-version-encoding-fails g = record { says = λ x. pass (g.says G) 1 at (omega arith) _ (enc x) }

        pub behind-version-encoding-there : {i : ℕ} {r : Step} → GotSetting (text "encoding") encoding_p s a (Ok i) → GotBehindEncoding s i r → GotBehindVersion s at r
        behind-version-encoding-there g₂ g = let y = g₂.says G in record { says = λ x. moved (g.says (x (present y.says.0))) 1 at (omega arith) (omega arith) (enc x ∙ then_done _ y.says.3) }

      pub behind-version-goes-on : {r : Step} → (get_or s a 0 ≡ 101 → ⊥) → GotStandaloneOrEnd s a r → GotBehindVersion s at r
      behind-version-goes-on n g =
          let h : a < length s = g₁.says.1 in
          record {
            says = λ x. moved (g.says G (x absent)) 1 at (omega arith) (omega arith)
                (let q : encoding_or_end_p G x (drop a s) ≡ standalone_or_end_p G (x absent) (drop a s) = rw (drop-cons s a 0 h) (encoding_or_end_no G x (get_or s a 0) (drop (suc a) s) (ne_eqb 101 (get_or s a 0) (λ q. n (sym q)))) in into x ∙ q);
          }

-- an answer that is known
pub known_setting : {name : Bytes} {W : Reader Bytes} {s : Bytes} {at : ℕ} {r : Step} {e : ℕ} → r ≡ Ok e → GotSetting name W s at r → GotSetting name W s at (Ok e)
known_setting {name} {W} {s} {at} q g = subst (λ (r : Step). GotSetting name W s at r) q g

-- the declaration
module _ (s : Bytes) (at : ℕ) where
  pub declaration_name_fails : {x : Stop} → Got 3 s at (Err x) (word_p (text "xml") (drop at s)) → Got 1 s at (Err x) (declaration_p (drop at s))
  declaration_name_fails g = pass g 1 at (omega arith) _ (declaration_bind (drop at s))

  module _ (a : ℕ) (g₁ : Got 3 s at (Ok a) (word_p (text "xml") (drop at s))) where
    pub declaration_glue_fails : {x : Stop} → GotTok 0 s a (Err x) (glue_tok (drop a s)) → Got 1 s at (Err x) (declaration_p (drop at s))
    declaration_glue_fails g = pass (tok g) 1 at (omega arith) _ (declaration_bind (drop at s) ∙ then_done _ g₁.says.3)

    module _ (i : ℕ) (g₂ : GotTok 0 s a (Ok i) (glue_tok (drop a s))) where
      abbrev B : Bytes
      B = take (i - a) (drop a s)

      behind : declaration_p (drop at s) ≡ pick (non_empty B) (versioned_p B (drop i s)) (bad (drop i s))
      behind = declaration_bind (drop at s) ∙ then_done _ g₁.says.3 ∙ then_done _ g₂.says.2

      pub declaration-unspaced : i ≡ a → Got 1 s at (Err (Bad i)) (declaration_p (drop at s))
      declaration-unspaced e = let z = no_part s a i e in record { says = (omega arith, g₂.says.1, behind ∙ rw z) }

      module _ (ne : i ≡ a → ⊥) where
        on : declaration_p (drop at s) ≡ chained (setting_p (text "version") version_p B (drop i s)) (λ p u. behind_version_p (mk_declaration p) u)
        unfolding versioned_p
        on = let l = g₂.says.0 in let z : non_empty B ≡ true = some_part s a i (omega arith) g₂.says.1 in behind ∙ rw z

        pub declaration-version-fails : {x : Stop} → GotSetting (text "version") version_p s i (Err x) → Got 1 s at (Err x) (declaration_p (drop at s))
        declaration-version-fails g = pass (g.says B) 1 at (omega arith) _ on

        pub declaration-read : {e : ℕ} {r : Step} → GotSetting (text "version") version_p s i (Ok e) → GotBehindVersion s e r → Got 1 s at r (declaration_p (drop at s))
        declaration-read g₃ g = let y = g₃.says B in moved (g.says (mk_declaration y.says.0)) 1 at (omega arith) (omega arith) (on ∙ then_done _ y.says.3)
