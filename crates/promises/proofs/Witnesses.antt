-- Witnesses: what the theorems on replies and on 7 assume is met, by whole inputs and by a message.
use Rattle.std.specs.Prelude.{Option}
use Rattle.value.specs.declared.text.Span.{Span}
use mathlib.Core.Path.{◌≡◌, refl, ap, ◌∙◌}
use mathlib.Core.List.{[], ◌++◌}
use mathlib.Core.Bool.{true}
use Prim.Native.Nat.{ℕ, ◌≤◌}
use Prim.Native.String.{String}
use native.Mathlib.Omega.{arith}
use lib.ListN.{length}
use Rattle.exact.specs.Exact.{done}
use Rattle.exact.specs.Loop.{loop_p}
use Rattle.grammar.specs.Bytes.{Bytes, text, within, digit}
use Rattle.grammar.specs.Glue.{is_glue}
use Rattle.grammar.specs.Name.{letter, name_start, name_byte}
use Rattle.grammar.specs.Character.{is_char, utf8}
use Rattle.grammar.specs.Value.{is_quote, banned, read_item, read_value}
use Rattle.model.specs.Characters.{plain_byte, char_p}
use Rattle.model.specs.Values.{item_p, value_p, turn_p as VturnP}
use Rattle.model.specs.Names.{live, new}
use Rattle.model.specs.Attributes.{end_p, quoted_p, equals_p, attr_p, head_p, turn_p as AturnP}
use Rattle.model.specs.Comments.{no_dash_p, dash_p, mark_p, marks_p, comment_p}
use Rattle.model.specs.Fillers.{text_p, markup_p, bit_p, peek_p, fill_p}
use Rattle.model.specs.Elements.{close_p, elem_p, leaf_tag_p, node_tag_p, content_turn_p, content_p}
use Rattle.model.specs.Messages.{root_p, layout_p, message_p}
use Rattle.number.specs.Bytes.{trim, drop_back, drop_front, keep_before, blank, non_empty as some_byte, all as every, digit as is_digit, value_from}
use Rattle.number.specs.Whole.{int_of, signed, sized}
use Rattle.lane.specs.Names.{D, CheckAlive}
use Rattle.lane.specs.Chart.{chart, by_rows, next}
use Rattle.lane.specs.Record.{fresh, sent, righted}
use Rattle.lane.proofs.Free.{check_alive_received}
use Rattle.lane.specs.declared.Lane.{Lane}
use Rattle.table.specs.Table.{table}
use Rattle.table.specs.Says.{judged, tried, refusal_of, child_of, said_of}
use Rattle.message.specs.Fields.{field_for, fields_in}
use Rattle.message.specs.Checked.{message_of}
use Rattle.message.specs.Cells.{cells_of, fields_from, field_by, words_by, whole_by}
use Rattle.message.specs.Messages.{message_from, fields_of, with_zeros}
use Rattle.message.specs.declared.checking.Checked.{Checked}
use Rattle.message.specs.declared.cells.Message.{Message}
use Rattle.meant.specs.Notices.{notice}
use Rattle.meant.proofs.Theorems.{notice_lengths}
use Rattle.meant.specs.Events.{event_of}
use Rattle.promises.specs.Receiving.{asks_reply, moved_by, Owes, nothing_yet, a_notice, a_reply, no_reply, Receives}
use Rattle.promises.specs.Sending.{Sends}
use Rattle.promises.specs.Bench.{reading_of}
use Rattle.promises.specs.declared.Received.{Received}
use Rattle.promises.specs.declared.Sent.{Sent}
use Rattle.promises.proofs.BenchCalls.{whole_message, in_lane, bench_carried}
use Rattle.promises.proofs.SentReceived.{Finds, finds}
use Rattle.promises.proofs.Theorems as all
use Rattle.promises.proofs.WholeHandover.{texts, service, service_good}

-- a CheckAlive of Type 1
abbrev ping : String
ping = "<Hermes><CheckAlive Type=\"1\" Id=\"a\"/></Hermes>"

ping_reads : (message_p (text ping) ≡ done (reading_of ping) []) × ((said_of (reading_of ping)).kind ≡ CheckAlive) × ((said_of (reading_of ping)).refusal ≡ 0)
    × ((place : Bytes → Option Span) → asks_reply (message_of (said_of (reading_of ping)).kind place (child_of (reading_of ping))) ≡ true)
unfolding read_value read_item utf8 loop_p within digit is_char is_glue letter name_start name_byte is_quote banned plain_byte char_p close_p elem_p leaf_tag_p node_tag_p content_turn_p content_p no_dash_p dash_p mark_p marks_p comment_p text_p markup_p bit_p peek_p fill_p root_p layout_p message_p live new item_p VturnP value_p end_p quoted_p equals_p attr_p AturnP head_p table tried refusal_of int_of signed sized trim drop_back drop_front keep_before blank some_byte every is_digit value_from judged message_from fields_in field_for asks_reply fields_of with_zeros cells_of fields_from field_by words_by whole_by
ping_reads = (refl, refl, refl, λ place. refl)

-- in every lane it is accepted and asks for a reply: `receive-reply` says which
pub ping_asks : {l : Lane} {old new : Bytes} {r : Received} (rest : Bytes) → Receives l (text ping ++ rest) old new r → 525 ≤ length old → (r.refusal ≡ 0) × (asks_reply r.message ≡ true)
ping_asks {l} rest p room =
    let (e, k, z, a) = ping_reads in
    let f : Finds (text ping) (reading_of ping) p.checked = finds rest (whole_message (text ping) e) (omega arith) p.checks z in
    let v = check_alive_received l (all.event p) (f.kind ∙ k) in
    let n = (in_lane p room _ (f.refusal ∙ z) v).0 in
    (n, ap asks_reply ((all.accepts p n).message ∙ f.message) ∙ a f.place)

-- a Notification that does not fit: 7
owes_notice : {s b : Bytes} {m : Message} {n : ℕ} → Owes s m n b → n ≡ 2 → b ≡ notice 2
owes_notice (nothing_yet e f) h = absurd (omega arith)
owes_notice (a_notice y z f) h = f ∙ ap notice h
owes_notice (a_reply z a r) h = absurd (omega arith)
owes_notice (no_reply z a f) h = absurd (omega arith)

pub seven_received : {l : Lane} {new : Bytes} {r : Received} → Receives l (text "<Hermes></Hermes>") [] new r → r.refusal ≡ 7
unfolding moved_by
seven_received {l} p =
    let e = bench_carried.1.1.0.1 p.checked p.checks in
    let v = ap (λ (c : Checked). (moved_by l c.refusal (event_of c.message p.forecast)).refusal) e in
    let n = ap length (owes_notice p.owes v) ∙ notice_lengths.0 in
    (all.receive_seven_iff p).1 (omega arith)

-- a message that does not fit: 7
pub seven_sent : {new : Bytes} {r : Sent} → Sends (fresh D) service texts [] new r → r.refusal ≡ 7
unfolding message_from sent righted next by_rows chart
seven_sent p = (all.send_seven_iff p).1 (service_good, refl, omega arith)
