-- Where text and comments may stand, and the byte at which each thing that is none dies: a table whose test computes, as in `Bench`.
use Rattle.std.specs.Prelude.{◌≡◌, refl}
use Rattle.exact.specs.Loop.{loop_p}
use Rattle.grammar.specs.Bytes.{within, digit}
use Rattle.grammar.specs.Glue.{is_glue}
use Rattle.grammar.specs.Name.{letter, name_start, name_byte}
use Rattle.grammar.specs.Character.{is_char}
use Rattle.grammar.specs.Reference.{hex_digit, worth}
use Rattle.grammar.specs.Value.{is_quote, banned}
use Rattle.model.specs.Characters.{second3, third3, second4, plain_byte, char_p}
use Rattle.model.specs.References.{alive, begun, okay, number_p, named_p, ref_p}
use Rattle.model.specs.Values.{item_p, value_p, turn_p as VturnP}
use Rattle.model.specs.Names.{live, new}
use Rattle.model.specs.Attributes.{end_p, quoted_p, equals_p, attr_p, head_p, turn_p as AturnP}
use Rattle.model.specs.Comments.{no_dash_p, dash_p, mark_p, marks_p, comment_p}
use Rattle.model.specs.Fillers.{text_p, markup_p, bit_p, peek_p, fill_p}
use Rattle.model.specs.Elements.{close_p, elem_p, leaf_tag_p, node_tag_p, content_turn_p, content_p}
use Rattle.model.specs.Declarations.{version_p, encoding_p, yes_no_p, setting_p, behind_standalone_p, standalone_or_end_p, behind_encoding_p, behind_version_p, declaration_p}
use Rattle.model.specs.Messages.{root_p, layout_p, message_p}
use Rattle.model.specs.Answers.{leading, following, answer_at, answer_of}
use Rattle.model.specs.Bench.{found, stated, Holds}
use Rattle.model.proofs.Bench.{hold}
use Rattle.model.specs.Remarks.{remarks}

computed : found remarks ≡ stated remarks
unfolding loop_p within digit is_char is_glue letter name_start name_byte hex_digit worth is_quote banned leading following answer_at answer_of second3 third3 second4 plain_byte char_p version_p encoding_p yes_no_p setting_p behind_standalone_p standalone_or_end_p behind_encoding_p behind_version_p declaration_p close_p elem_p leaf_tag_p node_tag_p content_turn_p content_p no_dash_p dash_p mark_p marks_p comment_p text_p markup_p bit_p peek_p fill_p root_p layout_p message_p live new alive named_p ref_p item_p VturnP value_p end_p quoted_p equals_p attr_p AturnP head_p begun okay number_p
computed = refl

pub remarks_hold : Holds remarks
remarks_hold = hold remarks computed
