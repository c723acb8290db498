-- "Proved, together as one table (P)": the bench cases P1 to P12, over the definitions.
use Rattle.value.specs.declared.text.Span.{Span}
use Rattle.std.specs.Prelude.{◌≡◌, refl, List, [], ◌∷◌, false, ℕ, length, Option}
use Prim.Native.String.{String}
use Rattle.exact.specs.Exact.{Out, done, more, bad}
use Rattle.exact.specs.Loop.{loop_p}
use Rattle.grammar.specs.Bytes.{Bytes, text, within, digit}
use Rattle.grammar.specs.Glue.{is_glue}
use Rattle.grammar.specs.Name.{letter, name_start, name_byte}
use Rattle.grammar.specs.Character.{is_char, utf8}
use Rattle.grammar.specs.Reference.{hex_digit, worth}
use Rattle.grammar.specs.Value.{is_quote, banned, read_item, read_value}
use Rattle.grammar.specs.Tree.{Tree, tree, no_trees}
use Rattle.grammar.specs.Answer.{Answer, more_from, malformed_at}
use Rattle.model.specs.Characters.{second3, third3, second4, plain_byte, char_p}
use Rattle.model.specs.References.{alive, begun, okay, number_p, named_p, ref_p}
use Rattle.model.specs.Values.{item_p, value_p, turn_p as VturnP}
use Rattle.model.specs.Names.{live, new}
use Rattle.model.specs.Attributes.{end_p, quoted_p, equals_p, attr_p, head_p, turn_p as AturnP}
use Rattle.model.specs.Comments.{no_dash_p, dash_p, mark_p, marks_p, comment_p}
use Rattle.model.specs.Fillers.{text_p, markup_p, bit_p, peek_p, fill_p}
use Rattle.model.specs.Elements.{close_p, elem_p, leaf_tag_p, node_tag_p, content_turn_p, content_p}
use Rattle.model.specs.Declarations.{version_p, encoding_p, yes_no_p, setting_p, behind_standalone_p, standalone_or_end_p, behind_encoding_p, behind_version_p, declaration_p}
use Rattle.model.specs.Messages.{root_p, layout_p, message_p}
use Rattle.model.specs.Answers.{leading, following, answer_at, answer_of}
use Rattle.number.specs.Bytes.{hex, trim, drop_back, drop_front, keep_before, blank, non_empty as some_byte, all, digit as is_digit, value_from, before, behind}
use Rattle.number.specs.Guid.{guid_of, filled, may}
use Rattle.number.specs.Whole.{Whole, no_int, int, int_of, signed, sized}
use Rattle.number.specs.Positive.{Number, no_number, number, number_of, written, short, above, millionths, decimal, parted, unsigned}
use Rattle.lane.specs.Names.{U, NotConnected, Ready, Transporting, Unknown, CheckAlive, Cancel, StopNow, Accepted, ProtocolError}
use Rattle.lane.specs.Chart.{next, by_rows, chart}
use Rattle.lane.specs.Record.{no_id, same_id, received, no_forecast, righted}
use Rattle.lane.specs.declared.Lane.{Lane}
use Rattle.lane.specs.declared.Moved.{Moved}
use Rattle.table.specs.Table.{table}
use Rattle.table.specs.Says.{judged, tried, refusal_of, child_of, said_of}
use Rattle.message.specs.Fields.{field_for, fields_in}
use Rattle.message.specs.Checked.{message_of}
use Rattle.message.specs.Cells.{cells_of, fields_from, field_by, guid_by}
use Rattle.message.specs.Messages.{message_from, id_of, fields_of, with_zeros}
use Rattle.meant.specs.Events.{Carried, event_of}

pub data Case : Type 0 where
  reads : String → Answer → Case
  -- a message that ends at a byte, and its kind
  says : String → (end kind : ℕ) → Case
  whole : String → Whole → Case
  positive : String → Number → Case
  -- a message is received in a lane
  receives : Lane → String → Moved → Case

-- the reading of a message
abbrev pub reading_in : Out Tree → Tree
reading_in (done t rest) = t
reading_in more = tree [] [] no_trees
reading_in (bad rest) = tree [] [] no_trees

abbrev pub reading_of : String → Tree
reading_of s = reading_in (message_p (text s))

-- what a reading does to a lane: of texts only the places are told, and they do not matter, nor does a ForecastId
abbrev pub Moves : Lane → Tree → Moved → Type 0
Moves l t v = (place : Bytes → Option Span) (f : Carried) → received l (event_of (message_of (said_of t).kind place (child_of t)) f) ≡ v

abbrev pub Holds : Case → Type 0
Holds (reads s a) = answer_of (text s) ≡ a
Holds (says s end kind) =
    (message_p (text s) ≡ done (reading_of s) []) × (length (text s) ≡ end) × ((said_of (reading_of s)).kind ≡ kind) × ((said_of (reading_of s)).refusal ≡ 0)
Holds (whole s x) = int_of (text s) ≡ x
Holds (positive s x) = number_of (text s) ≡ x
Holds (receives l s v) = (message_p (text s) ≡ done (reading_of s) []) × ((said_of (reading_of s)).refusal ≡ 0) × Moves l (reading_of s) v

-- an id
abbrev a : Bytes
a = text "aaaaaaaa-aaaa-aaaa-aaaa-aaaaaaaaaaaa"

abbrev lane : ℕ → Bytes → Lane
lane state running = record { side = U; state = state; offered = no_id; running = running; forecast = no_forecast }

abbrev pub bench : List Case
bench =
    -- "P1 empty input: 1."
    reads "" (more_from 0)
    -- "P2 `<Hermes><CheckAlive/></Hermes>`: kind 10, end 30."
    ∷ says "<Hermes><CheckAlive/></Hermes>" 30 CheckAlive
    -- "P3 `<Hermes></Hermes>`: 2 at 9."
    ∷ reads "<Hermes></Hermes>" (malformed_at 0 9)
    -- "P4 `<Hermes><X a="1" a="2"/></Hermes>`: 2 at 18."
    ∷ reads "<Hermes><X a=\"1\" a=\"2\"/></Hermes>" (malformed_at 0 18)
    -- "P5 `<Hermes><X><Hermes></Hermes></X></Hermes>`: kind 0, end 41."
    ∷ says "<Hermes><X><Hermes></Hermes></X></Hermes>" 41 Unknown
    -- "P6 `<hermes`: 2 at 1."
    ∷ reads "<hermes" (malformed_at 0 1)
    -- "P7 `<Hermes><X a="1`: 1."
    ∷ reads "<Hermes><X a=\"1" (more_from 0)
    -- "P8 `<Hermes><X a="&#x110000`: 2 at 22."
    ∷ reads "<Hermes><X a=\"&#x110000" (malformed_at 0 22)
    -- "P9 ints `-0` is 0, ` +01 ` is 1, `1.0` is bad."
    ∷ whole "-0" (int false 0)
    ∷ whole " +01 " (int false 1)
    ∷ whole "1.0" no_int
    -- "P10 numbers `160.50` is 160500000, `.5` is 500000, `0.0000010` is 1, `0.0000001` and `0` are bad."
    ∷ positive "160.50" (number 160500000)
    ∷ positive ".5" (number 500000)
    ∷ positive "0.0000010" (number 1)
    ∷ positive "0.0000001" no_number
    ∷ positive "0" no_number
    -- "P11 StartTransport received in Ready: Transporting, order 2."
    ∷ receives (lane Ready no_id) "<Hermes><StartTransport BoardId=\"aaaaaaaa-aaaa-aaaa-aaaa-aaaaaaaaaaaa\"/></Hermes>"
    (record { refusal = Accepted; lane = lane Transporting a; order = Cancel })
    -- "P12 StopTransport for another id in Transporting: 9, order 3."
    ∷ receives (lane Transporting a) "<Hermes><StopTransport TransferState=\"1\" BoardId=\"bbbbbbbb-bbbb-bbbb-bbbb-bbbbbbbbbbbb\"/></Hermes>"
    (record { refusal = ProtocolError; lane = lane NotConnected no_id; order = StopNow })
    ∷ []

abbrev pub All : List Case → Type 0
All [] = Unit {0}
All (c ∷ l) = Holds c × All l

pub bench_holds : All bench
unfolding read_value read_item utf8 loop_p within digit is_char is_glue letter name_start name_byte hex_digit worth is_quote banned leading following answer_at answer_of second3 third3 second4 plain_byte char_p version_p encoding_p yes_no_p setting_p behind_standalone_p standalone_or_end_p behind_encoding_p behind_version_p declaration_p close_p elem_p leaf_tag_p node_tag_p content_turn_p content_p no_dash_p dash_p mark_p marks_p comment_p text_p markup_p bit_p peek_p fill_p root_p layout_p message_p live new alive named_p ref_p item_p VturnP value_p end_p quoted_p equals_p attr_p AturnP head_p begun okay number_p table tried refusal_of int_of signed sized trim drop_back drop_front keep_before blank some_byte all is_digit value_from judged guid_of filled may hex id_of message_from fields_of with_zeros cells_of fields_from field_by guid_by fields_in field_for number_of parted unsigned decimal written short above millionths before behind received same_id righted next by_rows chart
bench_holds = (refl, ((refl, refl, refl, refl), (refl, (refl, ((refl, refl, refl, refl), (refl, (refl, (refl, (refl, (refl, (refl, (refl, (refl, (refl, (refl, (refl, ((refl, refl, λ place f. refl), ((refl, refl, λ place f. refl), tt))))))))))))))))))
