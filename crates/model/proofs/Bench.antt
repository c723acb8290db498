-- The bench cases P1 to P8 of document 01: one table, whose test computes, and what it says of the definitions.
use Rattle.std.specs.Prelude.{◌≡◌, refl, List, [], ◌∷◌}
use Rattle.std.proofs.Common.{subst}
use Rattle.exact.specs.Loop.{loop_p}
use Rattle.grammar.specs.Bytes.{within, digit}
use Rattle.grammar.specs.Glue.{is_glue}
use Rattle.grammar.specs.Name.{letter, name_start, name_byte}
use Rattle.grammar.specs.Character.{is_char}
use Rattle.grammar.specs.Reference.{hex_digit, worth}
use Rattle.grammar.specs.Value.{is_quote, banned}
use Rattle.grammar.specs.Answer.{Answer, Answers}
use Rattle.model.specs.Characters.{second3, third3, second4, plain_byte, char_p}
use Rattle.model.specs.References.{alive, begun, okay, number_p, named_p, ref_p}
use Rattle.model.specs.Values.{item_p, value_p, turn_p as VturnP}
use Rattle.model.specs.Names.{live, new}
use Rattle.model.specs.Attributes.{end_p, quoted_p, equals_p, attr_p, head_p, turn_p as AturnP}
use Rattle.model.specs.Comments.{no_dash_p, dash_p, mark_p, marks_p, comment_p}
use Rattle.model.specs.Fillers.{text_p, markup_p, bit_p, peek_p, fill_p}
use Rattle.model.specs.Elements.{close_p, elem_p, leaf_tag_p, node_tag_p, content_turn_p, content_p}
use Rattle.model.specs.Declarations.{version_p, encoding_p, yes_no_p, setting_p, behind_standalone_p, standalone_or_end_p, behind_encoding_p, behind_version_p, declaration_p}
use Rattle.model.specs.Messages.{root_p, layout_p, message_p}
use Rattle.model.specs.Answers.{leading, following, answer_at, answer_of}
use Rattle.model.proofs.Answers.{answered}
use Rattle.model.specs.Bench.{Case, cases, found, stated, Holds}

computed : found cases ≡ stated cases
unfolding loop_p within digit is_char is_glue letter name_start name_byte hex_digit worth is_quote banned leading following answer_at answer_of second3 third3 second4 plain_byte char_p version_p encoding_p yes_no_p setting_p behind_standalone_p standalone_or_end_p behind_encoding_p behind_version_p declaration_p close_p elem_p leaf_tag_p node_tag_p content_turn_p content_p no_dash_p dash_p mark_p marks_p comment_p text_p markup_p bit_p peek_p fill_p root_p layout_p message_p live new alive named_p ref_p item_p VturnP value_p end_p quoted_p equals_p attr_p AturnP head_p begun okay number_p
computed = refl

pub hold : (l : List Case) → found l ≡ stated l → Holds l
hold [] e = tt
hold (c ∷ l) e =
    let h : answer_of c.input ≡ c.answer = cc in
    let t : found l ≡ stated l = cc in
    (subst (λ (a : Answer). Answers c.input a) h (answered c.input), hold l t)

pub bench : Holds cases
bench = hold cases computed
