-- Names that stand in a tag, and a name that is none of the earlier ones.
use Rattle.std.specs.Prelude.{◌≡◌, List, [], ◌∷◌, ◌++◌, ◌⊎◌, Bool, true, false, ℕ, ◌+◌, ◌-◌, ◌*◌, ◌/◌, ◌%◌, ◌≤◌, ◌<◌, length, take, drop, get_or, Ok, Err}
use Rattle.model.specs.Attributes.{State, equals_p, attr_p}
use Rattle.grammar.specs.Bytes.{Bytes, every, among}
use Rattle.grammar.specs.Limits.{NAME}
use Rattle.grammar.specs.Glue.{is_glue}
use Rattle.grammar.specs.Name.{name_start, name_byte, shaped}
use Rattle.grammar.specs.Value.{is_quote}
use Rattle.scan.specs.Pieces.{StopCase, Step}

-- the bytes from `at` up to i begin a name that is not full
pub record Part (s : Bytes) (at i : ℕ) : Type 0 where
  pub name : Bytes
  pub from : at + 1 ≤ i
  pub upto : i ≤ length s
  pub short : i ≤ at + (NAME - 1)
  pub is : name ≡ take (i - at) (drop at s)
  pub size : at + length name ≡ i
  pub shape : shaped name ≡ true
  pub split : drop at s ≡ name ++ drop i s

-- and end there, if there is room
pub record Run (s : Bytes) (at i : ℕ) : Type 0 where
  pub part : Part s at i
  pub stops : i < length s → name_byte (get_or s i 0) ≡ true → i ≡ at + (NAME - 1)

-- n bytes from i on may stand in a name
abbrev pub Named : Bytes → ℕ → ℕ → Type 0
Named s i n = (k : ℕ) → k < n → name_byte (get_or s (i + k) 0) ≡ true

-- none of n bytes from i on is q
abbrev pub Lacks : ℕ → Bytes → ℕ → ℕ → Type 0
Lacks q s i n = (k : ℕ) → k < n → get_or s (i + k) 0 ≡ q → ⊥

-- r is the first place from i on, before `stop`, of a byte that is q; `stop` if there is none
pub record Found (q : ℕ) (s : Bytes) (i stop r : ℕ) : Type 0 where
  pub from : i ≤ r
  pub upto : r ≤ stop
  pub lacks : Lacks q s i (r - i)
  pub is : r < stop → get_or s r 0 ≡ q

-- an attribute stands with its glue from i up to e: where its name starts, its `=` and its quotes
pub record One (s : Bytes) (i e : ℕ) (name : Bytes) : Type 0 where
  pub start : ℕ
  pub equals : ℕ
  pub opens : ℕ
  pub shuts : ℕ
  pub begins : i ≤ start
  pub glued : every is_glue (take (start - i) (drop i s)) ≡ true
  pub bare : is_glue (get_or s start 0) ≡ false
  pub name_is : name ≡ take (length name) (drop start s)
  pub named : Named s start (length name)
  pub name_ends : name_byte (get_or s (start + length name) 0) ≡ false
  pub inside : start + length name ≤ equals
  pub unequal : Lacks 61 s start (equals - start)
  pub equal : get_or s equals 0 ≡ 61
  pub apart : equals < opens
  pub spaced : every is_glue (take (opens - (equals + 1)) (drop (equals + 1) s)) ≡ true
  pub quote : is_quote (get_or s opens 0) ≡ true
  pub order : opens < shuts
  pub unshut : Lacks (get_or s opens 0) s (opens + 1) (shuts - (opens + 1))
  pub shut : get_or s shuts 0 ≡ get_or s opens 0
  pub far : shuts + 1 ≡ e
  pub upto : e ≤ length s

-- attributes stand from `first` up to a place; their names, the last one first
pub data Rows (s : Bytes) (first : ℕ) : ℕ → List Bytes → Type 0 where
  rows_none : {i : ℕ} → i ≡ first → Rows s first i []
  rows_more : {i e : ℕ} {name : Bytes} {l : List Bytes} → Rows s first i l → One s i e name → Rows s first e (name ∷ l)

-- attributes stand from `first` on, glue behind them, and at `at` a name starts
pub record Stood (s : Bytes) (first at : ℕ) : Type 0 where
  pub names : List Bytes
  pub upto : ℕ
  pub rows : Rows s first upto names
  pub from : upto ≤ at
  pub glued : every is_glue (take (at - upto) (drop upto s)) ≡ true
  pub inside : at < length s
  pub starts : name_start (get_or s at 0) ≡ true

-- whether the name from `at` up to `to` is one of theirs
pub record Repeats (s : Bytes) (first at to : ℕ) (r : Bool) : Type 0 where
  pub says : (h : Stood s first at) → r ≡ among h.names (take (to - at) (drop at s))

-- a number below 64 that goes with a name: names with different ones are different
unfoldable pub mark_of : Bytes → ℕ
mark_of n = (length n % 64 + 5 * get_or n (length n - 1) 0 + 3 * get_or n (length n / 2) 0 + 4 * get_or n (length n - 2) 0) % 64

-- the marks of all these names are set
abbrev pub AllMarked : List ℕ → List Bytes → Type 0
AllMarked f [] = Unit {0}
AllMarked f (x ∷ l) = (get_or f (mark_of x) 0 ≡ 0 → ⊥) × AllMarked f l

pub record Marked (f : List ℕ) (names : List Bytes) : Type 0 where
  pub all : AllMarked f names

-- the same, and the earlier names are marked
pub record Ready (s : Bytes) (first : ℕ) (marks : List ℕ) (at : ℕ) : Type 0 where
  pub stood : Stood s first at
  pub marked : Marked marks stood.names
  pub long : length marks ≡ 64

-- whether the name from `at` up to `to` is one of theirs; it is marked afterwards
pub record Meets (s : Bytes) (first at to : ℕ) (marks marks' : List ℕ) (r : Bool) : Type 0 where
  pub says : (h : Ready s first marks at) → r ≡ among h.stood.names (take (to - at) (drop at s))
  pub marked : (h : Ready s first marks at) → Marked marks' (take (to - at) (drop at s) ∷ h.stood.names)
  pub long : length marks' ≡ length marks

-- where a name ends that runs up to i: behind i, if the byte there is its last one
abbrev pub NameTo : Bytes → ℕ → ℕ → Type 0
NameTo s i r = ((r ≡ i) × (name_byte (get_or s i 0) ≡ false)) ⊎ ((r ≡ i + 1) × (name_byte (get_or s i 0) ≡ true))

-- a name that is none of the earlier ones was read up to e, whatever stands before it
pub record FreshTo (s : Bytes) (earlier : List Bytes) (at e : ℕ) : Type 0 where
  pub far : at + 1 ≤ e
  pub upto : e < length s
  pub named : Named s at (e - at)
  pub ends : name_byte (get_or s e 0) ≡ false
  pub reads : (may : Bool) (st : State) (g : Bytes) → st.seen ≡ earlier → attr_p may st g (drop at s) ≡ equals_p may st g (take (e - at) (drop at s)) (drop e s)

abbrev pub FreshCase : Bytes → List Bytes → ℕ → Step → Type 0
FreshCase s earlier at (Ok e) = FreshTo s earlier at e
FreshCase s earlier at (Err x) = (may : Bool) (st : State) (g : Bytes) → st.seen ≡ earlier → StopCase s at x (attr_p may st g (drop at s))

pub record Fresh (s : Bytes) (earlier : List Bytes) (at : ℕ) (r : Step) : Type 0 where
  pub says : FreshCase s earlier at r

-- the answer of `fresh`, and the marks before and after
pub record FreshSays (s : Bytes) (first at : ℕ) (marks marks' : List ℕ) (r : Step) : Type 0 where
  pub says : (h : Ready s first marks at) → Fresh s h.stood.names at r
  pub marked : (h : Ready s first marks at) (e : ℕ) → r ≡ Ok e → Marked marks' (take (e - at) (drop at s) ∷ h.stood.names)
  pub long : length marks' ≡ length marks
