-- The reader of comments.
use Rattle.std.specs.Prelude.{◌≡◌, List, [], ◌∷◌, ◌++◌, Bool, ℕ, eqb}
use Prim.Native.Char.{code}
use Rattle.exact.specs.Exact.{Reader}
use Rattle.exact.specs.Chain.{bind_p, map_p}
use Rattle.exact.specs.Byte.{on_p, lit_p, choice_p}
use Rattle.exact.specs.Loop.{Turn, again, stop, loop_p}
use Rattle.grammar.specs.Bytes.{Bytes, text}
use Rattle.grammar.specs.Comment.{Mark, mark, dash_mark, spell_marks, GoodMarks}
use Rattle.model.specs.Characters.{char_p}

-- `-`
abbrev pub is_dash : ℕ → Bool
is_dash b = eqb (code "-") b

-- a character that is no `-`
unfoldable pub no_dash_p : Reader ℕ
no_dash_p = char_p is_dash

-- the marks of a comment, and the `-->` behind them: k builds what was read so far
abbrev pub MarkAcc : Type 0
MarkAcc = List Mark → List Mark

abbrev pub MarkTurn : Type 0
MarkTurn = Turn MarkAcc (List Mark)

abbrev pub mark_turn : MarkAcc → ℕ → MarkTurn
mark_turn k c = again (λ l. k (mark c ∷ l))

abbrev pub dash_turn : MarkAcc → ℕ → MarkTurn
dash_turn k c = again (λ l. k (dash_mark c ∷ l))

-- behind a `-`: another one and `>`, or a character
unfoldable pub dash_p : MarkAcc → Reader MarkTurn
dash_p k = choice_p is_dash (on_p is_dash (λ b. lit_p (text ">") (stop (k [])))) (map_p (dash_turn k) no_dash_p)

unfoldable pub mark_p : MarkAcc → Reader MarkTurn
mark_p k = choice_p is_dash (on_p is_dash (λ b. dash_p k)) (map_p (mark_turn k) no_dash_p)

unfoldable pub marks_p : Reader (List Mark)
marks_p = loop_p mark_p (λ l. l)

-- what stands behind `<!--`
pub record IsMarks (w : Bytes) (l : List Mark) : Type 0 where
  pub good : GoodMarks l
  pub spelt : w ≡ spell_marks l ++ text "-->"

-- a comment, behind its `<!`
unfoldable pub comment_p : Reader (List Mark)
comment_p = bind_p (lit_p {A = ℕ} (text "--") 0) (λ u. marks_p)

pub record IsComment (w : Bytes) (l : List Mark) : Type 0 where
  pub good : GoodMarks l
  pub spelt : w ≡ text "--" ++ (spell_marks l ++ text "-->")
