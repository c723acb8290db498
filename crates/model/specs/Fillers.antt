-- The reader of what stands between elements, and of the `<` behind it. A `<` with `!` behind it begins a
-- comment, so the byte behind `<` is looked at before filler has ended.
use Rattle.std.specs.Prelude.{◌≡◌, Bool, not, ℕ, eqb}
use mathlib.Core.List.{List, [], ◌∷◌, ◌++◌}
use Prim.Native.Char.{code}
use Rattle.exact.specs.Exact.{Lang, Reader}
use Rattle.exact.specs.Chain.{ret_p, map_p}
use Rattle.exact.specs.Byte.{on_p, choice_p}
use Rattle.exact.specs.Ahead.{Ahead, ahead_p}
use Rattle.exact.specs.Loop.{Turn, again, stop, loop_p}
use Rattle.grammar.specs.Bytes.{Bytes}
use Rattle.grammar.specs.Glue.{is_glue}
use Rattle.grammar.specs.Value.{Item, raw, spell_item}
use Rattle.grammar.specs.Comment.{Mark}
use Rattle.grammar.specs.Filler.{Site, in_root, below_root, Bit, in_text, comment, Filler, spell_filler, brackets, stopper, GoodBit, GoodFiller}
use Rattle.model.specs.Values.{item_p}
use Rattle.model.specs.Comments.{comment_p}

-- text: a byte of glue in the root, an item below it, behind n `]` in a row
unfoldable pub text_p : Site → ℕ → Reader Item
text_p in_root n = map_p raw (on_p is_glue (λ b. ret_p b))
text_p below_root n = item_p (stopper n)

pub record IsText (s : Site) (n : ℕ) (w : Bytes) (i : Item) : Type 0 where
  pub good : GoodBit s n (in_text i)
  pub spelt : w ≡ spell_item i

-- the byte behind `<` begins no comment
abbrev pub no_bang : ℕ → Bool
no_bang b = not (eqb (code "!") b)

-- bits: how many `]` stand in a row, and what is built so far
pub record FillAcc : Type 0 where
  pub row : ℕ
  pub build : Filler → Filler

abbrev pub FillTurn : Type 0
FillTurn = Turn FillAcc (Ahead Filler)

-- one bit more
abbrev pub added : FillAcc → Bit → FillAcc
added a b = record { row = brackets a.row b; build = λ f. a.build (b ∷ f) }

abbrev pub ended : FillAcc → ℕ → Ahead Filler
ended a b = record { value = a.build []; first = b }

abbrev pub text_turn : FillAcc → Item → FillTurn
text_turn a i = again (added a (in_text i))

abbrev pub comment_turn : FillAcc → List Mark → FillTurn
comment_turn a l = again (added a (comment l))

-- behind `<`: the rest of a comment, or another byte
unfoldable pub markup_p : FillAcc → Reader FillTurn
markup_p a = choice_p (eqb (code "!")) (on_p (eqb (code "!")) (λ b. map_p (comment_turn a) comment_p)) (on_p no_bang (λ b. ret_p (stop (ended a b))))

unfoldable pub bit_p : Site → FillAcc → Reader FillTurn
bit_p s a = choice_p (eqb (code "<")) (on_p (eqb (code "<")) (λ b. markup_p a)) (map_p (text_turn a) (text_p s a.row))

abbrev pub start_acc : FillAcc
start_acc = record { row = 0; build = λ f. f }

-- filler, `<`, and the byte behind it
unfoldable pub peek_p : Site → Reader (Ahead Filler)
peek_p s = loop_p (bit_p s) start_acc

-- filler and `<`
pub record FillLt (s : Site) (w : Bytes) (f : Filler) : Type 0 where
  pub good : GoodFiller s f
  pub spelt : w ≡ spell_filler f ++ code "<" ∷ []

-- filler, `<`, and what follows
pub data FillThen {A : Type 0} (s : Site) (K : Filler → Lang A) (w : Bytes) (v : A) : Type 0 where
  filled : (f : Filler) (k : Bytes) → w ≡ spell_filler f ++ code "<" ∷ k → GoodFiller s f → K f k v → FillThen s K w v

unfoldable pub fill_p : {A : Type 0} → Site → (Filler → Reader A) → Reader A
fill_p s q = ahead_p (peek_p s) q
