-- The child of one row, its features, and what closes an element.
use Rattle.std.specs.Prelude.{Some, None}
use mathlib.Core.Path.{◌≡◌, refl, sym, ap, ◌∙◌}
use mathlib.Core.List.{[], ◌∷◌, ◌++◌, append_assoc, append-nil}
use mathlib.Core.Logic.{◌⊎◌, inl, inr}
use mathlib.Core.Bool.{Bool, true, false, ◌&&◌, ◌||◌, cond}
use Prim.Native.Nat.{ℕ, zero, suc, ◌+◌, ◌/◌, ◌%◌, ◌<◌}
use native.Mathlib.Nat.{mod-lt}
use native.Mathlib.Omega.{arith}
use lib.Dec.{eqb, lit<}
use borrow.Author.Tests.{eqb-true}
use Rattle.exact.specs.Chain.{clash}
use Rattle.grammar.specs.Bytes.{Bytes, text, non_empty}
use Rattle.model.specs.Tests.{and_left, and_right}
use Rattle.printing.proofs.PieceLaws.{Made}
use Rattle.table.specs.Table.{Form, words, some_words, whole, guid, version, positive, features}
use Rattle.message.specs.Fields.{a_features}
use Rattle.message.specs.Cells.{is_there, bit, features_by, field_by}
use Rattle.meant.specs.Written.{closed, empty_tag, features_inside, child_of}
use Rattle.meant.proofs.ValueLaws.{is_child as form_child}
use Rattle.rows.specs.Coding.{is_child, form_of, row_of}
use Rattle.rows.specs.declared.data.Form.{Form as CodedForm}
use Rattle.rows.specs.declared.data.Form.TheVariants.{Features, Text, SomeText, Int, Guid, Version, Positive}
use Rattle.rows.specs.declared.data.Row.{Row as Coded}
use Rattle.writes.specs.Rows.{start_tag, end_tag, flagged, features_in, child_bytes}
use Rattle.writes.proofs.WorthLaws.{is_there_lem}
use Rattle.writes.proofs.PutLaws.{child_form}

-- tags
pub start_is : (n : Bytes) → Made (start_tag n) (text "<" ∷ n ∷ [])
start_is n = record { is = ap (λ (y : Bytes). text "<" ++ y) (sym (append-nil n)) }

pub end_is : (n : Bytes) → Made (end_tag n) (text "</" ∷ n ∷ text ">" ∷ [])
end_is n = record { is = refl }

-- one feature
pub flag_none : (x : ℕ) (n : Bytes) → x ≡ 0 → flagged x n ≡ []
unfolding flagged
flag_none x n e = rw e

pub flag_is : (x : ℕ) {n m : Bytes} → (x ≡ 0 → ⊥) → m ≡ n → Made (flagged x n) (start_tag m ∷ text "/>" ∷ [])
unfolding flagged
flag_is x {n} h e = record { is = ap (λ (b : Bool). cond b (empty_tag n) []) (is_there_lem x h) ∙ ap empty_tag (sym e) }

-- the three
pub bit_small : (a : ℕ) → a % 2 < 2
bit_small a = mod-lt a (lit< tt)

abbrev FORECAST : Bytes
FORECAST = text "FeatureBoardForecast"

abbrev QUERY : Bytes
QUERY = text "FeatureQueryBoardInfo"

abbrev SEND : Bytes
SEND = text "FeatureSendBoardInfo"

abbrev listed : ℕ → ℕ → ℕ → Bytes
listed x y z = flagged x FORECAST ++ (flagged y QUERY ++ flagged z SEND)

listed_is : (bits : ℕ) → features_in bits ≡ listed (bits % 2) (bits / 2 % 2) (bits / 4 % 2)
unfolding features_in features_by flagged
listed_is bits = refl

none_listed : (x y z : ℕ) → x + y + z ≡ 0 → listed x y z ≡ []
unfolding flagged
none_listed zero zero zero e = refl
none_listed (suc x) y z e = absurd (omega arith)
none_listed zero (suc y) z e = absurd (omega arith)
none_listed zero zero (suc z) e = absurd (omega arith)

some_flag : (x : ℕ) (n : Bytes) → non_empty (flagged x n) ≡ is_there x
unfolding flagged
some_flag x n = go (is_there x)
  where
    go : (b : Bool) → non_empty (cond b (empty_tag n) []) ≡ b
    go true = refl
    go false = refl

some_both : (x y : Bytes) → non_empty (x ++ y) ≡ non_empty x || non_empty y
some_both [] y = refl
some_both (b ∷ x) y = refl

some_listed : (x y z : ℕ) → (x + y + z ≡ 0 → ⊥) → non_empty (listed x y z) ≡ true
some_listed x y z n =
    some_both (flagged x FORECAST) (flagged y QUERY ++ flagged z SEND)
    ∙ ap (λ (b : Bool). non_empty (flagged x FORECAST) || b) (some_both (flagged y QUERY) (flagged z SEND))
    ∙ ap (λ (b : Bool). b || (non_empty (flagged y QUERY) || non_empty (flagged z SEND))) (some_flag x FORECAST)
    ∙ ap (λ (b : Bool). is_there x || (b || non_empty (flagged z SEND))) (some_flag y QUERY)
    ∙ ap (λ (b : Bool). is_there x || (is_there y || b)) (some_flag z SEND)
    ∙ any x y z n
  where
    any : (x y z : ℕ) → (x + y + z ≡ 0 → ⊥) → is_there x || (is_there y || is_there z) ≡ true
    any zero zero zero n = absurd (n refl)
    any (suc x) y z n = rw (is_there_lem (suc x) (λ e. omega arith)) refl
    any zero (suc y) z n = rw (is_there_lem (suc y) (λ e. omega arith)) refl
    any zero zero (suc z) n = rw (is_there_lem (suc z) (λ e. omega arith)) refl

-- what closes an element
empty : (w : Bytes) → non_empty w ≡ false → w ≡ []
empty [] e = refl
empty (b ∷ w) e = clash e

pub closed_none : (n w : Bytes) → non_empty w ≡ false → closed n w ≡ text "/>"
closed_none n w e = ap (closed n) (empty w e)

closed_filled : (n : Bytes) (w : Bytes) → non_empty w ≡ true → closed n w ≡ text ">" ++ (w ++ end_tag n)
closed_filled n [] e = clash (sym e)
closed_filled n (b ∷ w) e = refl

pub closed_some : (n w : Bytes) → non_empty w ≡ true → Made (closed n w) (text ">" ∷ w ∷ end_tag n ∷ [])
closed_some n w e = record { is = closed_filled n w e ∙ ap (λ (y : Bytes). text ">" ++ (w ++ y)) (sym (append-nil (end_tag n))) }

pub features_none : (n : Bytes) (bits : ℕ) → bits % 2 + bits / 2 % 2 + bits / 4 % 2 ≡ 0 → closed n (features_in bits) ≡ text "/>"
features_none n bits e = ap (closed n) (listed_is bits ∙ none_listed (bits % 2) (bits / 2 % 2) (bits / 4 % 2) e)

pub features_are : (n : Bytes) (bits : ℕ) → (bits % 2 + bits / 2 % 2 + bits / 4 % 2 ≡ 0 → ⊥)
    → Made (closed n (features_in bits)) (text ">" ∷ flagged (bits % 2) FORECAST ∷ flagged (bits / 2 % 2) QUERY ∷ flagged (bits / 4 % 2) SEND ∷ end_tag n ∷ [])
features_are n bits h = record {
  is =
      ap (closed n) (listed_is bits)
      ∙ closed_filled n (listed (bits % 2) (bits / 2 % 2) (bits / 4 % 2)) (some_listed (bits % 2) (bits / 2 % 2) (bits / 4 % 2) h)
      ∙ ap (λ (y : Bytes). text ">" ++ y) (regroup (flagged (bits % 2) FORECAST) (flagged (bits / 2 % 2) QUERY) (flagged (bits / 4 % 2) SEND) (end_tag n));
}
  where
    regroup : (a b c e : Bytes) → (a ++ (b ++ c)) ++ e ≡ a ++ (b ++ (c ++ (e ++ [])))
    regroup a b c e = append_assoc a (b ++ c) e ∙ ap (λ (y : Bytes). a ++ y) (append_assoc b c e ∙ ap (λ (y : Bytes). b ++ (c ++ y)) (sym (append-nil e)))

-- the child of a row
some_child : (F : Form) (n : Bytes) (t a : ℕ) → non_empty (child_of n (field_by F t a 0 [])) ≡ form_child F && is_there t
unfolding child_of field_by features_by
some_child (words k) n t a = refl
some_child (some_words k) n t a = refl
some_child (whole lo hi) n t a = refl
some_child guid n t a = refl
some_child version n t a = refl
some_child positive n t a = refl
some_child features n t a = go (is_there t)
  where
    go : (b : Bool) → non_empty (child_of n (a_features (cond b (Some (record { forecast = bit a; query = bit (a / 2); send = bit (a / 4) })) None))) ≡ b
    go true = refl
    go false = refl

some_row : (c : Coded) (t a : ℕ) {r : Bool} → r ≡ is_child c.form && is_there t → non_empty (child_bytes c t a) ≡ r
unfolding child_bytes
some_row c t a e = some_child (row_of c).form (row_of c).name t a ∙ ap (λ (b : Bool). b && is_there t) (child_form c.form) ∙ sym e

no_child_case : (c : Coded) (t a : ℕ) {r : Bool} → r ≡ is_child c.form && is_there t → r ≡ false → child_bytes c t a ≡ []
no_child_case c t a e f = empty (child_bytes c t a) (some_row c t a e ∙ f)

-- no child, by the form or by the cell
pub no_child_here : (c : Coded) (t a : ℕ) → (is_child c.form ≡ false) ⊎ (t ≡ 0) → child_bytes c t a ≡ []
no_child_here c t a (inl e) = no_child_case c t a {r = is_child c.form && is_there t} refl (rw e refl)
no_child_here c t a (inr e) = no_child_case c t a {r = is_child c.form && is_there t} refl (rw e (not_both (is_child c.form)))
  where
    not_both : (x : Bool) → x && false ≡ false
    not_both true = refl
    not_both false = refl

there_child : (n : Bytes) (t a : ℕ) → is_there t ≡ true → child_of n (a_features (features_by t a)) ≡ start_tag n ++ closed n (features_in a)
unfolding child_of features_by features_in
there_child n t a h = rw h refl

child_by : (F : CodedForm) (n : Bytes) (t a : ℕ) → is_child F ≡ true → is_there t ≡ true → child_of n (field_by (form_of F) t a 0 []) ≡ start_tag n ++ closed n (features_in a)
unfolding field_by
child_by Features n t a b h = there_child n t a h
child_by (Text most) n t a b h = clash (sym b)
child_by (SomeText most) n t a b h = clash (sym b)
child_by (Int low high) n t a b h = clash (sym b)
child_by Guid n t a b h = clash (sym b)
child_by Version n t a b h = clash (sym b)
child_by Positive n t a b h = clash (sym b)

pub child_is : (c : Coded) (t a : ℕ) → is_child c.form ≡ true → (t ≡ 0 → ⊥) → Made (child_bytes c t a) (start_tag c.name.now ∷ closed c.name.now (features_in a) ∷ [])
unfolding child_bytes
child_is c t a b n = record { is = child_by c.form c.name.now t a b (is_there_lem t n) ∙ ap (λ (y : Bytes). start_tag c.name.now ++ y) (sym (append-nil (closed c.name.now (features_in a)))) }

-- whether there is one, here or further on
module _ (c : Coded) (t a : ℕ) (rest : Bytes) where
  pub child_found : is_child c.form ≡ true → (t ≡ 0 → ⊥) → non_empty (child_bytes c t a ++ rest) ≡ true
  child_found e n =
      let p : is_child c.form && is_there t ≡ true = rw (e, is_there_lem t n) refl in
      some_both (child_bytes c t a) rest ∙ ap (λ (b : Bool). b || non_empty rest) (some_row c t a refl ∙ p)

  pub child_later : {r : Bool} → r ≡ is_child c.form → (r ≡ false) ⊎ (t ≡ 0) → non_empty (child_bytes c t a ++ rest) ≡ non_empty rest
  child_later q (inl e) = ap (λ (x : Bytes). non_empty (x ++ rest)) (no_child_here c t a (inl (sym q ∙ e)))
  child_later q (inr e) = ap (λ (x : Bytes). non_empty (x ++ rest)) (no_child_here c t a (inr e))
