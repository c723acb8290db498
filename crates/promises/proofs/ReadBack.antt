-- The BoardId and a text of a message that was read are those of the message that was sent.
use Rattle.std.specs.Prelude.{Option, Some, None}
use mathlib.Core.Path.{◌≡◌, refl, sym, ap, subst, ◌∙◌}
use mathlib.Core.List.{List, [], ◌∷◌}
use mathlib.Core.Bool.{Bool, true, false, ◌&&◌, ◌||◌, not, cond}
use Prim.Native.Nat.{ℕ, zero, suc, ◌+◌}
use Prim.Native.String.{String}
use lib.Dec.{leb}
use native.Mathlib.Omega.{arith}
use lib.ListN.{length, get_or, drop}
use borrow.Author.Tests.{le-leb}
use Rattle.number.proofs.Tests.{cases}
use Rattle.number.specs.Guid.{guid_of}
use Rattle.grammar.specs.Bytes.{Bytes, text, same}
use Rattle.grammar.specs.Tree.{Pair, Tree, tree}
use Rattle.model.specs.Tests.{same_true}
use Rattle.spelling.specs.Decided.{is_text}
use Rattle.value.proofs.Quotes.{text_one}
use Rattle.value.specs.declared.text.Span.{Span}
use Rattle.table.specs.Table.{Row, Form, words, some_words, whole, guid, version, positive, features, Need, rows_of}
use Rattle.table.specs.Theorems.{plain_need, plain_rows, plain_table, plain_flag, by_flag}
use Rattle.table.specs.Says.{Result, absent, present, refused, a_text, an_id, TOO_LONG, when, judged, given, sought, refusal_in, first, without, by_need, tried, values_of}
use Rattle.message.specs.Fields.{Field, none, a_words, a_whole, a_measure, a_guid, a_features, id_in, the_words, placed_by, field_for, field_of, fields_in}
use Rattle.message.specs.Checked.{message_of}
use Rattle.message.specs.Handed.{Has, has_here, has_later, attributes_of, ReadsAt}
use Rattle.message.specs.Messages.{message_from, fields_of, bytes_in, id_among, id_of, called_in, called}
use Rattle.message.specs.declared.cells.Message.{Message}
use Rattle.message.proofs.GuidLaws.{both}
use Rattle.message.proofs.BackLaws.{sort_of, sort_in, sorts_of, sorts_in, sorts_kind, ids_next, handed_back, handed_id}
use Rattle.message.proofs.MessageLaws.{plain_placed}
use Rattle.message.proofs.CalledLaws.{is_short, is_short_lem, short_named, given_has, kept_limit}
use Rattle.meant.specs.Events.{Carried, no_forecast_case, a_forecast, Carries, carries_none, carries_one, carried_in}
use Rattle.meant.specs.Meant.{text_at, id_meant, meant_as, meant_by, meant_of, first_in, refusal_of}
use Rattle.meant.proofs.MessageLaws.{refusal_table}

-- an id that was meant
id_back : (g : Option Bytes) (opt : Bool) (texts : Bytes) (x : Result) → x ≡ meant_as guid (a_guid g) texts opt → refusal_in x ≡ 0 → bytes_in (id_in x) ≡ bytes_in g
id_back None true texts x e z = ap (λ (x : Result). bytes_in (id_in x)) e
id_back None false texts x e z = ap (λ (x : Result). bytes_in (id_in x)) e
id_back (Some v) opt texts x e z = cases (guid_of v) (λ h. let y : x ≡ present (an_id v) = e ∙ rw h refl in ap (λ (x : Result). bytes_in (id_in x)) y) (λ h. absurd (let y : x ≡ refused 6 = e ∙ rw h refl in let w : 6 ≡ 0 = sym (ap refusal_in y) ∙ z in omega arith))

first_zero : (a b : ℕ) → first a b ≡ 0 → (a ≡ 0) × (b ≡ 0)
first_zero zero b e = (refl, e)
first_zero (suc a) b e = absurd (omega arith)

module _ (texts : Bytes) (place : Bytes → Option Span) (t : Tree) where
  -- one row, and the field that it was sent with
  row_back : (F : Form) (d : Need) (x : Field) (v : Result) (w : Option Span) (l k : List Field) → plain_need d ≡ true → sort_of F ≡ sort_in x → v ≡ by_need d (meant_as F x texts) → refusal_in v ≡ 0 → id_among l ≡ id_among k
      → id_among (field_for F w v ∷ l) ≡ id_among (x ∷ k)
  unfolding field_for
  row_back guid d (a_guid g) v w l k p s e z h = let (o, u) = plain_flag d p in id_back g o texts v (e ∙ ap (λ (d : Need). by_need d (meant_as guid (a_guid g) texts)) u ∙ by_flag o (meant_as guid (a_guid g) texts)) z
  row_back guid d none v w l k p s e z h = absurd (omega arith)
  row_back guid d (a_words y) v w l k p s e z h = absurd (omega arith)
  row_back guid d (a_whole y) v w l k p s e z h = absurd (omega arith)
  row_back guid d (a_measure y) v w l k p s e z h = absurd (omega arith)
  row_back guid d (a_features y) v w l k p s e z h = absurd (omega arith)
  row_back (words n) d x v w l k p s e z h = h ∙ sym (ids_next (words n) x k s refl).1
  row_back (some_words n) d x v w l k p s e z h = h ∙ sym (ids_next (some_words n) x k s refl).1
  row_back (whole lo hi) d x v w l k p s e z h = h ∙ sym (ids_next (whole lo hi) x k s refl).1
  row_back version d x v w l k p s e z h = h ∙ sym (ids_next version x k s refl).1
  row_back positive d x v w l k p s e z h = h ∙ sym (ids_next positive x k s refl).1
  row_back features d x v w l k p s e z h = h ∙ sym (ids_next features x k s refl).1

  abbrev head : List Result → Result
  head [] = absent
  head (x ∷ l) = x

  same_among : (rows : List Row) (l : List Field) → plain_rows rows ≡ true → sorts_of rows ≡ sorts_in l → values_of rows t ≡ meant_of rows l texts → first_in (meant_of rows l texts) ≡ 0 → id_among (fields_in rows place t) ≡ id_among l
  unfolding fields_in values_of meant_of meant_by
  same_among [] [] p s e z = refl
  same_among [] (x ∷ l) p s e z = absurd (let n = ap length s in omega arith)
  same_among (r ∷ rows) [] p s e z = absurd (let n = ap length s in omega arith)
  same_among (r ∷ rows) (x ∷ l) p s e z =
      let (a, b) = both (plain_need r.need) (plain_rows rows) p in
      let v : tried r t ≡ by_need r.need (meant_as r.form x texts) = ap head e in
      let (y, w) = first_zero (refusal_in (by_need r.need (meant_as r.form x texts))) (first_in (meant_of rows l texts)) z in
      row_back r.form r.need x (tried r t) (placed_by r.need (place r.name)) (fields_in rows place t) l a (ap (λ (l : List ℕ). get_or l 0 0) s) v (ap refusal_in v ∙ y) (same_among rows l b (ap (drop 1) s) (ap (drop 1) e) w)

  -- a text 80 of a name, as it is read (w) and as it was sent (u)
  pub data Both (n : Bytes) (w u : Option Span) : Type 0 where
    no_row : w ≡ None → u ≡ None → Both n w u
    a_row : (opt : Bool) → w ≡ place n → given (words 80) opt n (attributes_of t) ≡ meant_as (words 80) (a_words u) texts opt → refusal_in (given (words 80) opt n (attributes_of t)) ≡ 0 → Both n w u

  sought_words : (n : Bytes) (s : Tree) (opt : Bool) → sought (words 80) n s opt ≡ given (words 80) opt n (attributes_of s)
  sought_words n (tree m a f) opt = refl

  -- the row of the name
  row_words : (n : Bytes) (F : Form) (d : Need) (x : Field) (v : Result) → plain_need d ≡ true → F ≡ words 80 → sort_of F ≡ sort_in x → v ≡ by_need d (sought F n t) → v ≡ by_need d (meant_as F x texts) → refusal_in v ≡ 0
      → Both n (the_words (field_for F (placed_by d (place n)) v)) (the_words x)
  unfolding field_for
  row_words n F d x v p f s e h z =
      let (o, u) = plain_flag d p in
      let q : v ≡ given (words 80) o n (attributes_of t) = e ∙ ap (λ (F : Form). by_need d (sought F n t)) f ∙ ap (λ (d : Need). by_need d (sought (words 80) n t)) u ∙ by_flag o (sought (words 80) n t) ∙ sought_words n t o in
      let k : v ≡ meant_as (words 80) x texts o = h ∙ ap (λ (F : Form). by_need d (meant_as F x texts)) f ∙ ap (λ (d : Need). by_need d (meant_as (words 80) x texts)) u ∙ by_flag o (meant_as (words 80) x texts) in
      let c : 1 ≡ sort_in x = ap sort_of (sym f) ∙ s in
      of x o c (sym q ∙ k) (ap refusal_in (sym q) ∙ z)
    where
      place_of : the_words (field_for F (placed_by d (place n)) v) ≡ place n
      place_of = ap (λ (F : Form). the_words (field_for F (placed_by d (place n)) v)) f ∙ plain_placed d (place n) p

      of : (x : Field) (o : Bool) → 1 ≡ sort_in x → given (words 80) o n (attributes_of t) ≡ meant_as (words 80) x texts o → refusal_in (given (words 80) o n (attributes_of t)) ≡ 0 → Both n (the_words (field_for F (placed_by d (place n)) v)) (the_words x)
      of none o c g z = absurd (omega arith)
      of (a_words y) o c g z = a_row o place_of g z
      of (a_whole y) o c g z = absurd (omega arith)
      of (a_measure y) o c g z = absurd (omega arith)
      of (a_guid y) o c g z = absurd (omega arith)
      of (a_features y) o c g z = absurd (omega arith)

  pub both_words : (n : Bytes) (rows : List Row) (l : List Field) → plain_rows rows ≡ true → short_named n rows ≡ true → sorts_of rows ≡ sorts_in l → values_of rows t ≡ meant_of rows l texts → first_in (meant_of rows l texts) ≡ 0
      → Both n (the_words (called_in n rows (fields_in rows place t))) (the_words (called_in n rows l))
  unfolding fields_in values_of meant_of meant_by tried
  both_words n [] l p b s e z = no_row refl refl
  both_words n (r ∷ rows) [] p b s e z = absurd (let k = ap length s in omega arith)
  both_words n (r ∷ rows) (x ∷ l) p b s e z =
      let (a, c) = both (plain_need r.need) (plain_rows rows) p in
      let (i, j) = both (not (same n r.name) || is_short r.form) (short_named n rows) b in
      let v : tried r t ≡ by_need r.need (meant_as r.form x texts) = ap head e in
      let (y, w) = first_zero (refusal_in (by_need r.need (meant_as r.form x texts))) (first_in (meant_of rows l texts)) z in
      go (same n r.name) refl a i v (ap refusal_in v ∙ y) (both_words n rows l c j (ap (drop 1) s) (ap (drop 1) e) w)
    where
      go : (k : Bool) → same n r.name ≡ k → plain_need r.need ≡ true → not k || is_short r.form ≡ true → tried r t ≡ by_need r.need (meant_as r.form x texts) → refusal_in (tried r t) ≡ 0
          → Both n (the_words (called_in n rows (fields_in rows place t))) (the_words (called_in n rows l))
          → Both n (the_words (cond k (field_of r (place r.name) (tried r t)) (called_in n rows (fields_in rows place t)))) (the_words (cond k x (called_in n rows l)))
      go true f a i v z o =
          let q : r.name ≡ n = same_true n r.name f in
          subst (λ (m : Bytes). Both n (the_words (field_for r.form (placed_by r.need (place m)) (tried r t))) (the_words x)) (sym q)
          (row_words n r.form r.need x (tried r t) a (is_short_lem r.form i) (ap (λ (l : List ℕ). get_or l 0 0) s) (ap (λ (m : Bytes). by_need r.need (sought r.form m t)) q) v z)
      go false f a i v z o = o

-- of a whole message: what it carries
module _ (m : Message) (texts : Bytes) (place : Bytes → Option Span) (t : Tree) (z : refusal_of m texts ≡ 0) (v : values_of (rows_of m.kind) t ≡ meant_of (rows_of m.kind) (fields_of m) texts) where
  none_refused : first_in (meant_of (rows_of m.kind) (fields_of m) texts) ≡ 0
  none_refused = sym (refusal_table m.kind (fields_of m) texts) ∙ z

  pub both_called : (n : String) → ((k : ℕ) → short_named (text n) (rows_of k) ≡ true) → Both texts place t (text n) (the_words (called n (message_of m.kind place t))) (the_words (called n m))
  unfolding message_from
  both_called n short =
      subst (λ (l : List Field). Both texts place t (text n) (the_words (called_in (text n) (rows_of m.kind) l)) (the_words (called n m))) (sym (handed_back m.kind place t))
      (both_words texts place t (text n) (rows_of m.kind) (fields_of m) (plain_table m.kind) (short m.kind) (sorts_kind m) v none_refused)

-- the bytes that it means
meant_one : (texts v : Bytes) (u : Option Span) (opt : Bool) → present (a_text v) ≡ meant_as (words 80) (a_words u) texts opt → a_forecast v ≡ carried_in texts u
meant_one texts v None true e = absurd (let y : ◌≡◌ {A = ℕ} 0 1 = cc in omega arith)
meant_one texts v None false e = absurd (let y : ◌≡◌ {A = ℕ} 0 1 = cc in omega arith)
meant_one texts v (Some p) opt e = go (leb p.len 80) (leb (p.start + p.len) (length texts)) (is_text (text_at texts p)) e
  where
    go : (a b c : Bool) → present (a_text v) ≡ cond a (when (b && c) (a_text (text_at texts p))) (refused TOO_LONG) → a_forecast v ≡ cond (a && b) (a_forecast (text_at texts p)) no_forecast_case
    go true true true e = let y : v ≡ text_at texts p = cc in ap a_forecast y
    go true true false e = absurd (let y : ◌≡◌ {A = ℕ} 0 1 = cc in omega arith)
    go true false c e = absurd (let y : ◌≡◌ {A = ℕ} 0 1 = cc in omega arith)
    go false b c e = absurd (let y : ◌≡◌ {A = ℕ} 0 1 = cc in omega arith)

meant_none : (texts : Bytes) (u : Option Span) (opt : Bool) → without opt ≡ meant_as (words 80) (a_words u) texts opt → refusal_in (without opt) ≡ 0 → no_forecast_case ≡ carried_in texts u
meant_none texts None opt e z = refl
meant_none texts (Some p) false e z = absurd (omega arith)
meant_none texts (Some p) true e z = go (leb p.len 80) (leb (p.start + p.len) (length texts)) (is_text (text_at texts p)) e
  where
    go : (a b c : Bool) → absent ≡ cond a (when (b && c) (a_text (text_at texts p))) (refused TOO_LONG) → no_forecast_case ≡ cond (a && b) (a_forecast (text_at texts p)) no_forecast_case
    go true true true e = absurd (let y : ◌≡◌ {A = ℕ} 0 1 = cc in omega arith)
    go true true false e = absurd (let y : ◌≡◌ {A = ℕ} 0 1 = cc in omega arith)
    go true false c e = refl
    go false b c e = refl

-- an attribute that is not there
given_none : (F : Form) (opt : Bool) (n : Bytes) (l : List Pair) → ((v : Bytes) → Has n v l → ⊥) → given F opt n l ≡ without opt
given_none F o n [] h = refl
given_none F o n (p ∷ l) h = go (same n p.name) refl (λ k. given_none F o n l k)
  where
    go : (b : Bool) → same n p.name ≡ b → (((v : Bytes) → Has n v l → ⊥) → given F o n l ≡ without o) → cond b (judged F p.value) (given F o n l) ≡ without o
    go true e k = absurd (h p.value (has_here e refl))
    go false e k = k (λ v x. h v (has_later e x))

-- a short text that is not refused
judged_short : (v : Bytes) → refusal_in (judged (words 80) v) ≡ 0 → judged (words 80) v ≡ present (a_text v)
unfolding judged
judged_short v z = ap (λ (b : Bool). cond b (present (a_text v)) (refused TOO_LONG)) (le-leb (length v) 80 (kept_limit v z))

-- what the text of a name carries is what was sent
pub forecast_back : {s texts n : Bytes} {place : Bytes → Option Span} {t : Tree} {w u : Option Span} {f : Carried} → Both texts place t n w u → ((p : Span) → place n ≡ Some p → ReadsAt s n (attributes_of t) p) → (place n ≡ None → (v : Bytes) → Has n v (attributes_of t) → ⊥) → Carries s w f → f ≡ carried_in texts u
forecast_back (no_row e g) there gone (carries_none k q) = q ∙ sym (ap (carried_in _) g)
forecast_back (no_row e g) there gone (carries_one p k v x q) = absurd (let y : None ≡ Some p = sym e ∙ k in let z : ◌≡◌ {A = ℕ} 0 1 = cc in omega arith)
forecast_back {texts = texts} {n} {t = t} {u = u} (a_row o e g z) there gone (carries_none k q) =
    let m = given_none (words 80) o n (attributes_of t) (gone (sym e ∙ k)) in
    q ∙ meant_none texts u o (sym m ∙ g) (ap refusal_in (sym m) ∙ z)
forecast_back {texts = texts} {n} {t = t} {u = u} (a_row o e g z) there gone (carries_one p k v x q) =
    let r = there p (sym e ∙ k) in
    let m = given_has (words 80) o r.has in
    let j = judged_short r.value (ap refusal_in (sym m) ∙ z) in
    q ∙ ap a_forecast (text_one x r.text) ∙ meant_one texts r.value u o (sym j ∙ sym m ∙ g)

-- of a whole message: its BoardId
pub same_id_case : (m : Message) (texts : Bytes) (place : Bytes → Option Span) (t : Tree) → refusal_of m texts ≡ 0 → (k : ℕ) → k ≡ m.kind → values_of (rows_of m.kind) t ≡ meant_of (rows_of m.kind) (fields_of m) texts → id_of (message_of k place t) ≡ id_of m
unfolding id_of
same_id_case m texts place t z k e v =
    ap (λ (k : ℕ). id_of (message_of k place t)) e ∙ handed_id m.kind place t
    ∙ same_among texts place t (rows_of m.kind) (fields_of m) (plain_table m.kind) (sorts_kind m) v (sym (refusal_table m.kind (fields_of m) texts) ∙ z)
