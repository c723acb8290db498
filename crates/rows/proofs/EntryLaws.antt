-- The entries of the code are those of the table.
use Rattle.std.proofs.Common.{◌≡◌, ℕ, zero, suc, ◌+◌, ◌<◌, ◌≤◌, Bool, true, false, ◌&&◌, not, cond, Option, Some, None, List, [], ◌∷◌, length, get_or, refl, sym, ap, subst, ◌∙◌, arith, eqb, leb, ltb, Bor}
use borrow.Author.Tests.{leb-true, ltb-true, ltb-false, lt-ltb, le-ltb, eqb-true, eq-eqb, ne_eqb}
use Rattle.std.specs.Option.{is_some, IfSome, MatchOption}
use Rattle.std.specs.List.{position_or_len, list_all, All}
use Rattle.std.specs.Str.{bytes_eq}
use Rattle.std.proofs.lemmas.List.Elements.{All-nil, All-cons}
use Rattle.exact.specs.Chain.{clash}
use Rattle.rows.proofs.SameLaws.{bytes_same}
use Rattle.grammar.specs.Bytes.{Bytes, same}
use Rattle.table.specs.Table.{Row, Entry, table, is_kind_in, name_in, rows_in, rows_of, kind_in, kind_of, guid_cell_in}
use Rattle.rows.specs.Coding.{MOST, NO_ID, as_rows, CellOf, entries_from, Placed, Told, Enters, NoEntry, EntryOf}
use Rattle.rows.specs.declared.data.Entry.{Entry as Coded}

both : (a b : Bool) → a && b ≡ true → (a ≡ true) × (b ≡ true)
both true b e = (refl, e)
both false b e = clash (sym e)

-- a test of each entry, which antt computes
abbrev pub is_cell : ℕ → Option ℕ → Bool
is_cell x None = eqb x NO_ID
is_cell x (Some n) = eqb x n && leb (n + 3) NO_ID

abbrev pub is_placed : Coded → Bool
is_placed e = leb (length e.rows.now) MOST && is_cell (guid_cell_in NO_ID (as_rows e.rows.now) 0) e.board_id

cell_of : (l : List Row) (o : Option ℕ) → is_cell (guid_cell_in NO_ID l 0) o ≡ true → CellOf l o
cell_of l None h = eqb-true _ _ h
cell_of l (Some n) h = let p = both (eqb (guid_cell_in NO_ID l 0) n) (leb (n + 3) NO_ID) h in (eqb-true _ _ p.0, leb-true _ _ p.1)

placed : (e : Coded) → is_placed e ≡ true → Placed e
placed e h = let p = both (leb (length e.rows.now) MOST) (is_cell (guid_cell_in NO_ID (as_rows e.rows.now) 0) e.board_id) h in record { few = leb-true _ _ p.0; board_id = cell_of (as_rows e.rows.now) e.board_id p.1 }

all_placed : (l : List Coded) → list_all is_placed l ≡ true → All Placed l
all_placed [] h = All-nil Placed
all_placed (e ∷ l) h = let p = both (is_placed e) (list_all is_placed l) h in All-cons Placed e l (placed e p.0) (all_placed l p.1)

-- what is computed of the code's list
pub told : {l : List Coded} → entries_from 1 l ≡ table → list_all is_placed l ≡ true → ltb (length l) 255 ≡ true → Told l
told {l} a b c = record { all = a; placed = all_placed l b; few = ltb-true (length l) 255 c }

-- the entry at a place
record Stands (l : List Entry) (k : ℕ) (e : Coded) : Type 0 where
  kind : is_kind_in l k ≡ true
  name : name_in l k ≡ e.name.now
  rows : rows_in l k ≡ as_rows e.rows.now

stands : (s : ℕ) (l : List Coded) (i : ℕ) (d : Coded) (k : ℕ) → k ≡ s + i → i < length l → Stands (entries_from s l) k (get_or l i d)
stands s [] i d k q n = absurd (omega arith)
stands s (e ∷ l) zero d k q n = let b : eqb s k ≡ true = eq-eqb s k (omega arith) in record { kind = rw b; name = rw b; rows = rw b }
stands s (e ∷ l) (suc i) d k q n =
    let b : eqb s k ≡ false = ne_eqb s k (λ w. omega arith) in
    let r = stands (suc s) l i d k (omega arith) (omega arith) in
    record { kind = rw b r.kind; name = rw b r.name; rows = rw b r.rows }

-- and none outside of them
missing : (s : ℕ) (l : List Coded) (k : ℕ) → s + length l ≤ k → (is_kind_in (entries_from s l) k ≡ false) × (rows_in (entries_from s l) k ≡ [])
missing s [] k n = (refl, refl)
missing s (e ∷ l) k n =
    let b : eqb s k ≡ false = ne_eqb s k (λ w. omega arith) in
    let r = missing (suc s) l k (omega arith) in
    (rw b r.0, rw b r.1)

pub no_kind : (k : ℕ) → k < 1 → NoEntry k
unfolding table
no_kind zero h = record { kind = refl; rows = refl }
no_kind (suc k) h = absurd (omega arith)

module _ {l : List Coded} (t : Told l) where
  beyond : (k : ℕ) → 1 + length l ≤ k → NoEntry k
  beyond k h = let r = missing 1 l k h in record { kind = rw (← t.all) r.0; rows = rw (← t.all) r.1 }

  enters : (k i : ℕ) (e : Coded) → k ≡ 1 + i → i < length l → e ≡ get_or l i e → Enters k e
  enters k i e q n g =
      let s : Stands (entries_from 1 l) k e = subst (λ (x : Coded). Stands (entries_from 1 l) k x) (sym g) (stands 1 l i e k q n) in
      let p : Placed e = subst (λ (x : Coded). Placed x) (sym g) (t.placed i e n) in
      let r : rows_of k ≡ as_rows e.rows.now = rw (← t.all) s.rows in
      record {
        kind = rw (← t.all) s.kind;
        name = rw (← t.all) s.name;
        rows = record { all = r; few = p.few };
        board_id = subst (λ (x : List Row). CellOf x e.board_id) (sym r) p.board_id;
      }

  pub entered : (k i : ℕ) (r : Option (Bor Coded)) → k ≡ 1 + i → is_some r ≡ ltb i (length l) → IfSome r (λ x. x.now ≡ get_or l i x.now) → EntryOf k r
  entered k i None q b e = beyond k (let z = ltb-false i (length l) (sym b) in omega arith)
  entered k i (Some x) q b e = enters k i x.now q (ltb-true i (length l) (sym b)) e

abbrev pub named_by : Bytes → Coded → Bool
named_by n e = bytes_eq e.name.now n

one_more : (p n s : ℕ) → cond (ltb p n) (p + suc s) 0 ≡ cond (ltb (1 + p) (suc n)) (1 + p + s) 0
one_more p n s = go (ltb p n) refl
  where
    go : (b : Bool) → ltb p n ≡ b → cond b (p + suc s) 0 ≡ cond (ltb (1 + p) (suc n)) (1 + p + s) 0
    go true b = rw (lt-ltb (1 + p) (suc n) (let z = ltb-true p n b in omega arith)) (omega arith)
    go false b = rw (le-ltb (1 + p) (suc n) (let z = ltb-false p n b in omega arith))

-- the kind of a name is the number of the first entry that has it
kind_from : (s : ℕ) (l : List Coded) (n : Bytes) → kind_in (entries_from s l) n ≡ cond (ltb (position_or_len (named_by n) l) (length l)) (position_or_len (named_by n) l + s) 0
kind_from s [] n = refl
kind_from s (e ∷ l) n = go (same e.name.now n) (named_by n e) (bytes_same e.name.now n) (kind_from (suc s) l n)
  where
    go : (a b : Bool) → b ≡ a → kind_in (entries_from (suc s) l) n ≡ cond (ltb (position_or_len (named_by n) l) (length l)) (position_or_len (named_by n) l + suc s) 0 → cond a s (kind_in (entries_from (suc s) l) n) ≡ cond (ltb (cond (not b) (1 + position_or_len (named_by n) l) 0) (suc (length l))) (cond (not b) (1 + position_or_len (named_by n) l) 0 + s) 0
    go true true q r = rw (lt-ltb 0 (suc (length l)) (omega arith)) (omega arith)
    go true false q r = clash (sym q)
    go false true q r = clash q
    go false false q r = r ∙ one_more (position_or_len (named_by n) l) (length l) s

abbrev pub found_by : List Coded → Bytes → Option ℕ
found_by l n = cond (ltb (position_or_len (named_by n) l) (length l)) (Some (position_or_len (named_by n) l)) None

-- by the answer of a search
pub named : {l : List Coded} (n : Bytes) {r : Option ℕ} → Told l → r ≡ found_by l n → MatchOption r (0 ≡ kind_of n) (λ i. (i < length l) × (i + 1 ≡ kind_of n))
named {l} n {r} t e = subst (λ (r : Option ℕ). MatchOption r (0 ≡ kind_of n) (λ i. (i < length l) × (i + 1 ≡ kind_of n))) (sym e) (go (ltb p (length l)) refl (kind_from 1 l n))
  where
    p : ℕ
    p = position_or_len (named_by n) l

    go : (b : Bool) → ltb p (length l) ≡ b → kind_in (entries_from 1 l) n ≡ cond b (p + 1) 0 → MatchOption (cond b (Some p) None) (0 ≡ kind_of n) (λ i. (i < length l) × (i + 1 ≡ kind_of n))
    go true b k = (ltb-true p (length l) b, rw (← t.all) (sym k))
    go false b k = rw (← t.all) (sym k)
