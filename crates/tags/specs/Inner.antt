-- What the answers of the readers of an attribute and of a tag's end say.
use Rattle.std.specs.Prelude.{◌≡◌, List, ◌∷◌, Bool, true, ℕ, ◌+◌, ◌-◌, ◌*◌, ◌≤◌, ◌<◌, length, take, drop, get_or, Result, Ok, Err}
use Prim.Native.Char.{code}
use Rattle.exact.specs.Exact.{done, Reader}
use Rattle.exact.specs.Chain.{ret_p}
use Rattle.exact.specs.Byte.{on_p}
use Rattle.grammar.specs.Bytes.{Bytes, every}
use Rattle.grammar.specs.Glue.{is_glue}
use Rattle.grammar.specs.Value.{Item, spell_value, is_quote}
use Rattle.model.specs.Attributes.{State, mk, fin, end_p, attr_p}
use Rattle.scan.specs.Pieces.{StopCase, Got, byte_p, glue_tok, chained, Step}
use Rattle.scan.specs.declared.Stop.{Stop}
use Rattle.tags.specs.Places.{stored}
use Rattle.tags.specs.Names.{Lacks, One, Marked, Ready}
use Rattle.tags.specs.declared.attributes.Given.{Given}
use Rattle.tags.specs.declared.attributes.Tag.{Tag}

-- behind an attribute's name: glue, `=`, glue and the opening quote
pub record Opening : Type 0 where
  pub mid : Bytes
  pub after : Bytes
  pub quote : ℕ

unfoldable pub open_p : Reader Opening
open_p t =
    chained (glue_tok t) (λ g u. chained (byte_p (code "=") u) (λ _ v. chained (glue_tok v) (λ h w. on_p is_quote (λ q. ret_p (record { mid = g; after = h; quote = q })) w)))

pub record OpenedTo (s : Bytes) (at v : ℕ) : Type 0 where
  pub opening : Opening
  pub far : at + length opening.mid + 1 + length opening.after + 1 ≡ v
  pub upto : v ≤ length s
  pub is_quote_holds : is_quote opening.quote ≡ true
  pub quote : opening.quote ≡ get_or s (v - 1) 0
  pub equals : ℕ
  pub from : at ≤ equals
  pub before : equals + 1 ≤ v - 1
  pub unequal : Lacks 61 s at (equals - at)
  pub equal : get_or s equals 0 ≡ 61
  pub spaced : every is_glue (take (v - 1 - (equals + 1)) (drop (equals + 1) s)) ≡ true
  pub reads : open_p (drop at s) ≡ done opening (drop v s)

pub record Opened (s : Bytes) (at : ℕ) (r : Step) : Type 0 where
  pub says : Got 2 s at r (open_p (drop at s))
  pub at_done : (v : ℕ) → r ≡ Ok v → OpenedTo s at v

-- an attribute was read from its name at `at` up to e, whatever stands before it; the name ends at `past`, and the raw value stands from `from` on
pub record AttributeTo (s : Bytes) (names : List Bytes) (at past from e : ℕ) : Type 0 where
  pub mid : Bytes
  pub after : Bytes
  pub quote : ℕ
  pub value : List Item
  pub name_some : at + 1 ≤ past
  pub value_from_holds : past + length mid + 1 + length after + 1 ≡ from
  pub value_to : from + length (spell_value value) + 1 ≡ e
  pub upto : e ≤ length s
  pub one : (i : ℕ) → i ≤ at → every is_glue (take (at - i) (drop i s)) ≡ true → One s i e (take (past - at) (drop at s))
  pub reads : (may : Bool) (st : State) (g : Bytes) → st.seen ≡ names → attr_p may st g (drop at s) ≡ done (mk st g (take (past - at) (drop at s)) mid after quote value) (drop e s)

abbrev pub AttributeCase : Bytes → List Bytes → ℕ → Result Given Stop → Type 0
AttributeCase s names at (Ok d) = AttributeTo s names at d.past d.value d.end
AttributeCase s names at (Err x) = (may : Bool) (st : State) (g : Bytes) → st.seen ≡ names → StopCase s at x (attr_p may st g (drop at s))

pub record GivenSays (s : Bytes) (names : List Bytes) (at : ℕ) (r : Result Given Stop) : Type 0 where
  pub says : AttributeCase s names at r

-- the answer of `attribute`, and the marks before and after
pub record AttributeSays (s : Bytes) (first at : ℕ) (marks marks' : List ℕ) (r : Result Given Stop) : Type 0 where
  pub says : (h : Ready s first marks at) → GivenSays s h.stood.names at r
  pub marked : (h : Ready s first marks at) (d : Given) → r ≡ Ok d → Marked marks' (take (d.past - at) (drop at s) ∷ h.stood.names)
  pub long : length marks' ≡ length marks

-- four numbers put into the row n of a table, if it reaches so far and they are small enough
pub record PutRow (t t' : List ℕ) (n a b c d : ℕ) : Type 0 where
  pub long : length t' ≡ length t
  pub row : 4 * n + 3 < length t → d < 65_536 → t' ≡ stored t n a b c d

-- the end of a tag, whatever stands before it
pub record EndRead (may : Bool) (s : Bytes) (at : ℕ) (empty : Bool) (e : ℕ) : Type 0 where
  pub far : at + 1 ≤ e
  pub upto : e ≤ length s
  pub reads : (st : State) (g : Bytes) → end_p may st g (drop at s) ≡ done (fin st g empty) (drop e s)

abbrev pub EndCase : Bool → Bytes → ℕ → ℕ → Result Tag Stop → Type 0
EndCase may s at n (Ok t) = (t.count ≡ n) × EndRead may s at t.empty t.end
EndCase may s at n (Err x) = (st : State) (g : Bytes) → StopCase s at x (end_p may st g (drop at s))

pub record EndSays (may : Bool) (s : Bytes) (at n : ℕ) (r : Result Tag Stop) : Type 0 where
  pub says : EndCase may s at n r
