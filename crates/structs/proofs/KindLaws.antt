-- A kind's struct is that of its message's fields, and has them.
use mathlib.Core.Path.{◌≡◌, refl, sym, ap, ◌∙◌}
use mathlib.Core.List.{List, [], ◌∷◌}
use mathlib.Core.Bool.{Bool, true, false, ◌&&◌, cond}
use Prim.Native.Nat.{ℕ, ◌+◌, ◌*◌, ◌/◌}
use lib.Dec.{eqb}
use borrow.Author.Tests.{eqb-true}
use Rattle.grammar.specs.Bytes.{Bytes}
use Rattle.table.specs.Table.{Row, Form, words, some_words, whole, guid, version, positive, features, rows_of}
use Rattle.message.specs.Fields.{Field}
use Rattle.message.specs.Cells.{is_there, bit, field_by, guid_by, features_by, cell_at, fields_from}
use Rattle.message.specs.Messages.{message_from, fields_of}
use Rattle.message.specs.declared.cells.Message.{Message}
use Rattle.message.proofs.BackLaws.{sorts_of, sorts_in, made_back, fits_kind, sorts_kind}
use Rattle.structs.specs.Celled.{zeros}
use Rattle.structs.specs.OfKind.{only, of_kind}

-- made of the cells of a message of the kind k
pub of_rows : {A : Type 0} (from : List Field → A) (k : ℕ) (m : Message) → m.kind ≡ k → from (fields_from (rows_of k) 0 m.cells m.id) ≡ from (fields_of m)
unfolding fields_of
of_rows from k m e = ap (λ (j : ℕ). from (fields_from (rows_of j) 0 m.cells m.id)) (sym e)

-- or of zeros, where a test fails
pub made_if : {A : Type 0} (from : List Field → A) (k : ℕ) (m : Message) {test : Bool} {cells : List ℕ} → ((id : Bytes) → from (fields_from (rows_of k) 0 zeros id) ≡ from []) → cells ≡ cond test m.cells zeros
    → (test ≡ true → from (fields_from (rows_of k) 0 m.cells m.id) ≡ from (fields_of m)) → from (fields_from (rows_of k) 0 cells m.id) ≡ from (only test m)
made_if from k m {test} none e f = ap (λ (c : List ℕ). from (fields_from (rows_of k) 0 c m.id)) e ∙ go test refl
  where
    go : (z : Bool) → test ≡ z → from (fields_from (rows_of k) 0 (cond z m.cells zeros) m.id) ≡ from (only z m)
    go true h = f h
    go false h = none m.id

pub made_of : {A : Type 0} (from : List Field → A) (k : ℕ) (m : Message) {cells : List ℕ} → ((id : Bytes) → from (fields_from (rows_of k) 0 zeros id) ≡ from []) → cells ≡ cond (eqb m.kind k) m.cells zeros
    → from (fields_from (rows_of k) 0 cells m.id) ≡ from (of_kind k m)
made_of from k m none e = made_if from k m none e (λ h. of_rows from k m (eqb-true m.kind k h))

-- a kind k whose struct is made of its fields and has them
pub record Shape {A : Type 0} (k : ℕ) (from : List Field → A) (fields : A → List Field) : Type 0 where
  pub sorts : (v : A) → sorts_of (rows_of k) ≡ sorts_in (fields v)
  pub same : (c : List ℕ) (id : Bytes) → fields (from (fields_from (rows_of k) 0 c id)) ≡ fields_from (rows_of k) 0 c id

module _ {A : Type 0} {k : ℕ} {from : List Field → A} {fields : A → List Field} (s : Shape k from fields) where
  -- the fields of the message that is laid from a struct
  pub laid_fields : (v : A) → fields_of (message_from k (fields v)) ≡ fields v
  laid_fields v = made_back k (fields v) (fits_kind k (fields v) (s.sorts v))

  -- a message made a struct and laid from it again
  pub message_back : (m : Message) {l : List Field} → m.kind ≡ k → l ≡ fields_of m → fields_of (message_from k (fields (from l))) ≡ fields_of m
  unfolding fields_of
  message_back m e f =
      let same : fields (from (fields_of m)) ≡ fields_of m = ap (λ (l : List Field). fields (from l)) own ∙ s.same m.cells m.id ∙ sym own in
      ap (λ (l : List Field). fields_of (message_from k (fields (from l)))) f
      ∙ ap (λ (l : List Field). fields_of (message_from k l)) same
      ∙ ap (λ (j : ℕ). fields_of (message_from j (fields_of m))) (sym e)
      ∙ made_back m.kind (fields_of m) (fits_kind m.kind (fields_of m) (sorts_kind m))
    where
      own : fields_of m ≡ fields_from (rows_of k) 0 m.cells m.id
      own = ap (λ (j : ℕ). fields_from (rows_of j) 0 m.cells m.id) e
