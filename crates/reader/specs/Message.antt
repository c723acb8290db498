-- What the answers of the readers of the root and of messages say of the models.
use Rattle.std.specs.Prelude.{◌≡◌, List, [], ℕ, ◌+◌, ◌-◌, ◌≤◌, length, drop, Result, Ok, Err}
use Rattle.exact.specs.Exact.{Out, done, Reader}
use Rattle.grammar.specs.Bytes.{Bytes}
use Rattle.grammar.specs.Limits.{DEPTH}
use Rattle.grammar.specs.Filler.{in_root, Filler}
use Rattle.grammar.specs.Element.{Element}
use Rattle.grammar.specs.Message.{Root, Layout, declared}
use Rattle.model.specs.Attributes.{Head}
use Rattle.model.specs.Elements.{elem_p, content_p}
use Rattle.model.specs.Declarations.{declaration_p}
use Rattle.model.specs.Messages.{mk_root, root_p}
use Rattle.scan.specs.Pieces.{StopCase, chained, end_tag_p}
use Rattle.scan.specs.declared.Stop.{Stop}
use Rattle.fillers.specs.Fills.{fill_tok}
use Rattle.tags.specs.Heads.{Noted}
use Rattle.grammar.specs.Places.{inner_of, tag_in, lead, Outlines}
use Rattle.reader.specs.declared.answer.Child.{Child}

-- of what was read, the root's child and what stands before the child's name
abbrev pub itself : Element → Element
itself x = x

abbrev pub none : {A : Type 0} → A → Bytes
none x = []

-- where an element stands, and what a table holds that is lent for its attributes
pub record Drawn (s : Bytes) (at : ℕ) (x : Element) (from to count inside : ℕ) (old new : List ℕ) : Type 0 where
  pub lines : Outlines at x from to count inside
  pub table : Noted s to old new (tag_in x).attributes

-- o is an outcome whose value's child stands there
pub record InnerRead {A : Type 0} (child : A → Element) (before : A → Bytes) (s : Bytes) (at : ℕ) (old new : List ℕ) (r : Child) (o : Out A) : Type 0 where
  pub value : A
  pub far : at + 1 ≤ r.next
  pub upto : r.next ≤ length s
  pub reads : o ≡ done value (drop r.next s)
  pub drawn : Drawn s (at + length (before value)) (child value) r.outline.from r.outline.to r.outline.count r.outline.inside old new

abbrev pub InnerCase : {A : Type 0} → (A → Element) → (A → Bytes) → Bytes → ℕ → List ℕ → List ℕ → Result Child Stop → Out A → Type 0
InnerCase child before s at old new (Ok r) o = InnerRead child before s at old new r o
InnerCase child before s at old new (Err x) o = StopCase s at x o

-- what the answer says of the outcome o; and of what was read where its child stands and what the table holds
pub record GotInner {A : Type 0} (child : A → Element) (before : A → Bytes) (s : Bytes) (at : ℕ) (old new : List ℕ) (r : Result Child Stop) (o : Out A) : Type 0 where
  pub says : InnerCase child before s at old new r o

-- the root's child, filler and the end tag, whatever was read before
unfoldable pub inside_p : Bytes → Head → Filler → Reader Root
inside_p n h f t = chained (elem_p (content_p (DEPTH - 2)) t) (λ e x. chained (fill_tok in_root x) (λ f' y. chained (end_tag_p n y) (λ g z. done (mk_root h f e f' g) z)))

pub record GotInside (n s : Bytes) (at : ℕ) (old new : List ℕ) (r : Result Child Stop) : Type 0 where
  pub says : (h : Head) (f : Filler) → GotInner inner_of none s at old new r (inside_p n h f (drop at s))

-- a message with a declaration, behind `<?`
unfoldable pub declared_p : Reader Layout
declared_p t = chained (declaration_p t) (λ d u. chained (fill_tok in_root u) (λ f v. chained (root_p v) (λ r w. done (declared d f r) w)))

abbrev pub declared_lead : Layout → Bytes
declared_lead l = drop 2 (lead l)
