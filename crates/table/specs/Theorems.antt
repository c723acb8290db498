-- What the definitions of `Table` and `Says` amount to.
use Rattle.std.specs.Prelude.{◌≡◌, refl, List, [], ◌∷◌, ◌++◌, ◌↔◌, Bool, true, false, ◌&&◌, ◌||◌, cond, ℕ, zero, suc, ◌+◌, ◌≤◌, ◌<◌, length, eqb, leb}
use Rattle.std.proofs.Common.{sym, ap, subst, ◌∙◌, arith, eqb-true, leb-true, le-leb}
use Rattle.std.proofs.lemmas.Bool.{eqb-false}
use Rattle.grammar.specs.Bytes.{Bytes, same, within}
use Rattle.grammar.specs.Tree.{Tree, Forest, no_trees, tree_then}
use Rattle.table.specs.Table.{Need, required, optional, required_with, ignored, Row, Entry, table, is_kind_in, is_kind, rows_in, rows_of, settled_need, settled}
use Rattle.table.specs.Says.{Result, present, Value, name_of, children_of, has_child, notes, featured, by_need, tried, refusal_in, first, refusal_of, has_attribute, rows_for}

-- T2.M1: "the first decides": a refusal is that of a row before which none is refused
pub table_first : (rows : List Row) (t : Tree) (n : ℕ) → refusal_of rows t ≡ suc n
    → (before : List Row) × (r : Row) × (after : List Row) × (rows ≡ before ++ r ∷ after) × (refusal_of before t ≡ 0) × (refusal_in (tried r t) ≡ suc n)
unfolding refusal_of
table_first [] t n h = absurd (omega arith)
table_first (r ∷ l) t n h = go (refusal_in (tried r t)) refl h (λ k. table_first l t n k)
  where
    go : (m : ℕ) → refusal_in (tried r t) ≡ m → first m (refusal_of l t) ≡ suc n
        → (refusal_of l t ≡ suc n → (before : List Row) × (s : Row) × (after : List Row) × (l ≡ before ++ s ∷ after) × (refusal_of before t ≡ 0) × (refusal_in (tried s t) ≡ suc n))
        → (before : List Row) × (s : Row) × (after : List Row) × (r ∷ l ≡ before ++ s ∷ after) × (refusal_of before t ≡ 0) × (refusal_in (tried s t) ≡ suc n)
    go zero e k f = let (b, s, a, i, j, q) = f k in (r ∷ b, s, a, ap (λ (x : List Row). r ∷ x) i, rw e j, q)
    go (suc m) e k f = ([], r, l, refl, refl, e ∙ k)

-- one row and the others
both_zero : (r : Row) (l : List Row) (t : Tree) → refusal_of (r ∷ l) t ≡ 0 → (refusal_in (tried r t) ≡ 0) × (refusal_of l t ≡ 0)
unfolding refusal_of
both_zero r l t h = go (refusal_in (tried r t)) refl h
  where
    go : (m : ℕ) → refusal_in (tried r t) ≡ m → first m (refusal_of l t) ≡ 0 → (refusal_in (tried r t) ≡ 0) × (refusal_of l t ≡ 0)
    go zero e k = (e, k)
    go (suc m) e k = absurd (omega arith)

cons_zero : (r : Row) (l : List Row) (t : Tree) → refusal_in (tried r t) ≡ 0 → refusal_of l t ≡ 0 → refusal_of (r ∷ l) t ≡ 0
unfolding refusal_of
cons_zero r l t e h = rw e h

empty_zero : (t : Tree) → refusal_of [] t ≡ 0
unfolding refusal_of
empty_zero t = refl

-- and none is refused exactly if no row is
pub data NoneRefused (t : Tree) : List Row → Type 0 where
  none_left : NoneRefused t []
  none_refused : {r : Row} {l : List Row} → refusal_in (tried r t) ≡ 0 → NoneRefused t l → NoneRefused t (r ∷ l)

pub accepted_iff : (rows : List Row) (t : Tree) → (refusal_of rows t ≡ 0) ↔ NoneRefused t rows
accepted_iff rows t = (to rows, from)
  where
    to : (rows : List Row) → refusal_of rows t ≡ 0 → NoneRefused t rows
    to [] h = none_left
    to (r ∷ l) h = let (a, b) = both_zero r l t h in none_refused a (to l b)

    from : {rows : List Row} → NoneRefused t rows → refusal_of rows t ≡ 0
    from none_left = empty_zero t
    from (none_refused {r} {l} e n) = cons_zero r l t e (from n)

-- T2.M7: the features are those of the first direct child of the name
pub data FirstNamed (n : Bytes) : Forest → Tree → Type 0 where
  here : {t : Tree} {f : Forest} → same n (name_of t) ≡ true → FirstNamed n (tree_then t f) t
  there : {s t : Tree} {f : Forest} → same n (name_of s) ≡ false → FirstNamed n f t → FirstNamed n (tree_then s f) t

pub features_first : (n : Bytes) (o : Bool) (f : Forest) (v : Value) → featured n o f ≡ present v → (t : Tree) × FirstNamed n f t × (v ≡ notes (children_of t))
features_first n true no_trees v h = absurd (let z : ◌≡◌ {A = ℕ} 0 1 = cc in omega arith)
features_first n false no_trees v h = absurd (let z : ◌≡◌ {A = ℕ} 0 1 = cc in omega arith)
features_first n o (tree_then s f) v h = go (same n (name_of s)) refl h (λ k. features_first n o f v k)
  where
    go : (z : Bool) → same n (name_of s) ≡ z → cond z (present (notes (children_of s))) (featured n o f) ≡ present v
        → (featured n o f ≡ present v → (t : Tree) × FirstNamed n f t × (v ≡ notes (children_of t))) → (t : Tree) × FirstNamed n (tree_then s f) t × (v ≡ notes (children_of t))
    go true e k g = (s, here e, cc)
    go false e k g = let (t, x, q) = g k in (t, there e x, q)

-- noted exactly if a direct child has the name
pub data ChildNamed (n : Bytes) : Forest → Type 0 where
  child_here : {t : Tree} {f : Forest} → same n (name_of t) ≡ true → ChildNamed n (tree_then t f)
  child_there : {t : Tree} {f : Forest} → ChildNamed n f → ChildNamed n (tree_then t f)

pub noted_iff : (n : Bytes) (f : Forest) → (has_child n f ≡ true) ↔ ChildNamed n f
noted_iff n f = (to f, from)
  where
    to : (f : Forest) → has_child n f ≡ true → ChildNamed n f
    to no_trees h = absurd (let z : ◌≡◌ {A = ℕ} 0 1 = cc in omega arith)
    to (tree_then t f) h = go (same n (name_of t)) refl h (λ k. to f k)
      where
        go : (z : Bool) → same n (name_of t) ≡ z → z || has_child n f ≡ true → (has_child n f ≡ true → ChildNamed n f) → ChildNamed n (tree_then t f)
        go true e k g = child_here e
        go false e k g = child_there (g k)

    right : (a b : Bool) → b ≡ true → a || b ≡ true
    right true b h = refl
    right false b h = h

    from : {f : Forest} → ChildNamed n f → has_child n f ≡ true
    from (child_here e) = rw e
    from (child_there {t} {f} c) = right (same n (name_of t)) (has_child n f) (from c)

-- a test of each entry's kind holds of all kinds
abbrev pub on_kinds : (ℕ → Bool) → List Entry → Bool
on_kinds t [] = true
on_kinds t (e ∷ l) = t e.kind && on_kinds t l

both : (a b : Bool) → a && b ≡ true → (a ≡ true) × (b ≡ true)
both true b h = (refl, h)
both false b h = absurd (let z : ◌≡◌ {A = ℕ} 0 1 = cc in omega arith)

pub kinds_in : (t : ℕ → Bool) (l : List Entry) (k : ℕ) → on_kinds t l ≡ true → is_kind_in l k ≡ true → t k ≡ true
kinds_in t [] k h e = absurd (let z : ◌≡◌ {A = ℕ} 0 1 = cc in omega arith)
kinds_in t (x ∷ l) k h e = go (eqb x.kind k) refl e (λ i. kinds_in t l k (both (t x.kind) (on_kinds t l) h).1 i)
  where
    go : (z : Bool) → eqb x.kind k ≡ z → z || is_kind_in l k ≡ true → (is_kind_in l k ≡ true → t k ≡ true) → t k ≡ true
    go true q e f = subst (λ (n : ℕ). t n ≡ true) (eqb-true x.kind k q) (both (t x.kind) (on_kinds t l) h).0
    go false q e f = f e

pub each_kind : (t : ℕ → Bool) (k : ℕ) → on_kinds t table ≡ true → is_kind k ≡ true → t k ≡ true
each_kind t k h e = kinds_in t table k h e

-- entries that have the numbers from j on
abbrev pub counts_from : ℕ → List Entry → Bool
counts_from j [] = true
counts_from j (e ∷ l) = eqb e.kind j && counts_from (suc j) l

counted : (j : ℕ) (l : List Entry) (k : ℕ) → counts_from j l ≡ true → is_kind_in l k ≡ true → (j ≤ k) × (k < j + length l)
counted j [] k h e = absurd (let z : ◌≡◌ {A = ℕ} 0 1 = cc in omega arith)
counted j (x ∷ l) k h e = let (a, b) = both (eqb x.kind j) (counts_from (suc j) l) h in go (eqb x.kind k) refl e (eqb-true x.kind j a) (λ i. counted (suc j) l k b i)
  where
    go : (z : Bool) → eqb x.kind k ≡ z → z || is_kind_in l k ≡ true → x.kind ≡ j → (is_kind_in l k ≡ true → (suc j ≤ k) × (k < suc j + length l)) → (j ≤ k) × (k < j + suc (length l))
    go true q e a f = let b = eqb-true x.kind k q in (omega arith, omega arith)
    go false q e a f = let (b, c) = f e in (omega arith, omega arith)

counting : (j : ℕ) (l : List Entry) (k : ℕ) → counts_from j l ≡ true → j ≤ k → k < j + length l → is_kind_in l k ≡ true
counting j [] k h a b = absurd (omega arith)
counting j (x ∷ l) k h a b = let (c, d) = both (eqb x.kind j) (counts_from (suc j) l) h in go (eqb x.kind k) refl (eqb-true x.kind j c) (λ e. counting (suc j) l k d e (omega arith))
  where
    go : (z : Bool) → eqb x.kind k ≡ z → x.kind ≡ j → (suc j ≤ k → is_kind_in l k ≡ true) → z || is_kind_in l k ≡ true
    go true q e f = refl
    go false q e f = f (let z = eqb-false x.kind k q in omega arith)

agree : (a b : Bool) → (a ≡ true → b ≡ true) → (b ≡ true → a ≡ true) → a ≡ b
agree true b f g = sym (f refl)
agree false true f g = g refl
agree false false f g = refl

-- where they have the numbers from 1 on, the kinds are these
pub kinds_count : (l : List Entry) → counts_from 1 l ≡ true → (k : ℕ) → is_kind_in l k ≡ within 1 (length l) k
unfolding within
kinds_count l h k = agree (is_kind_in l k) (leb 1 k && leb k (length l)) to from
  where
    to : is_kind_in l k ≡ true → leb 1 k && leb k (length l) ≡ true
    to e = let (a, b) = counted 1 l k h e in rw (le-leb 1 k a, le-leb k (length l) (omega arith))

    from : leb 1 k && leb k (length l) ≡ true → is_kind_in l k ≡ true
    from e = let (a, b) = both (leb 1 k) (leb k (length l)) e in let y = leb-true k (length l) b in counting 1 l k h (leb-true 1 k a) (omega arith)

-- so the kinds are the numbers from 1 on, as many as there are entries
pub kinds_are : (k : ℕ) → is_kind k ≡ within 1 (length table) k
unfolding table
kinds_are k = kinds_count table refl k

-- a number that is no kind has no rows
pub no_rows : (l : List Entry) (k : ℕ) → is_kind_in l k ≡ false → rows_in l k ≡ []
no_rows [] k h = refl
no_rows (x ∷ l) k h = go (eqb x.kind k) h (λ e. no_rows l k e)
  where
    go : (z : Bool) → z || is_kind_in l k ≡ false → (is_kind_in l k ≡ false → rows_in l k ≡ []) → cond z x.rows (rows_in l k) ≡ []
    go true e f = absurd (let z : ◌≡◌ {A = ℕ} 0 1 = cc in omega arith)
    go false e f = f e

-- rows of which none is required with another one, or ignored
abbrev pub plain_need : Need → Bool
plain_need required = true
plain_need optional = true
plain_need (required_with n) = false
plain_need ignored = false

abbrev pub plain_rows : List Row → Bool
plain_rows [] = true
plain_rows (r ∷ l) = plain_need r.need && plain_rows l

plain_settled : (has : Bytes → Bool) (n : Need) → plain_need n ≡ true → settled_need has n ≡ n
plain_settled has required h = refl
plain_settled has optional h = refl
plain_settled has (required_with m) h = absurd (let z : ◌≡◌ {A = ℕ} 0 1 = cc in omega arith)
plain_settled has ignored h = absurd (let z : ◌≡◌ {A = ℕ} 0 1 = cc in omega arith)

-- they are the same, whatever is there
pub settled_plain : (has : Bytes → Bool) (rows : List Row) → plain_rows rows ≡ true → settled has rows ≡ rows
settled_plain has [] h = refl
settled_plain has (r ∷ l) h =
    let (a, b) = both (plain_need r.need) (plain_rows l) h in
    rw (plain_settled has r.need a, settled_plain has l b)

-- a test that holds of the rows of each entry, and of none, holds of the rows of every number
abbrev pub on_rows : (List Row → Bool) → List Entry → Bool
on_rows f [] = f []
on_rows f (e ∷ l) = f e.rows && on_rows f l

pub each_rows : (f : List Row → Bool) (l : List Entry) (k : ℕ) → on_rows f l ≡ true → f (rows_in l k) ≡ true
each_rows f [] k h = h
each_rows f (x ∷ l) k h = let (a, b) = both (f x.rows) (on_rows f l) h in go (eqb x.kind k) a (each_rows f l k b)
  where
    go : (c : Bool) → f x.rows ≡ true → f (rows_in l k) ≡ true → f (cond c x.rows (rows_in l k)) ≡ true
    go true a b = a
    go false a b = b

-- and so are all rows of document 01
pub plain_table : (k : ℕ) → plain_rows (rows_of k) ≡ true
unfolding table
plain_table k = each_rows plain_rows table k refl

pub settled_table : (has : Bytes → Bool) (k : ℕ) → settled has (rows_of k) ≡ rows_of k
settled_table has k = settled_plain has (rows_of k) (plain_table k)

-- so an element is asked by the rows of its kind as they stand
pub rows_table : (k : ℕ) (t : Tree) → rows_for table k t ≡ rows_of k
rows_table k t = settled_table (has_attribute t) k

-- a need that is written as a flag, as every plain one can be
pub plain_flag : (n : Need) → plain_need n ≡ true → (opt : Bool) × (n ≡ cond opt optional required)
plain_flag required h = (false, refl)
plain_flag optional h = (true, refl)
plain_flag (required_with m) h = absurd (let z : ◌≡◌ {A = ℕ} 0 1 = cc in omega arith)
plain_flag ignored h = absurd (let z : ◌≡◌ {A = ℕ} 0 1 = cc in omega arith)

pub by_flag : (opt : Bool) (f : Bool → Result) → by_need (cond opt optional required) f ≡ f opt
by_flag true f = refl
by_flag false f = refl

-- needs that ask the same say the same
pub by_same : (n : Need) (f g : Bool → Result) → ((opt : Bool) → f opt ≡ g opt) → by_need n f ≡ by_need n g
by_same required f g h = h false
by_same optional f g h = h true
by_same (required_with m) f g h = refl
by_same ignored f g h = refl
