-- A whole handover: whatever meets the promises of `send` and `receive`, with room, goes line by line as document 01 says; and such calls exist.
use Rattle.std.specs.Prelude.{Some, None}
use mathlib.Core.Path.{◌≡◌, refl, sym, ap, subst, ◌∙◌}
use mathlib.Core.List.{List, [], ◌∷◌, ◌++◌}
use mathlib.Core.Bool.{Bool, true, false}
use mathlib.Core.Logic.{◌⊎◌, inl, inr}
use Prim.Native.Nat.{ℕ}
use native.Mathlib.Omega.{arith}
use lib.ListN.{take, replicate, length-replicate}
use Rattle.grammar.specs.Bytes.{Bytes, text, within}
use Rattle.grammar.specs.Character.{is_char}
use Rattle.model.specs.Characters.{plain_byte, char_p}
use Rattle.number.specs.Bytes.{hex, digit, all as every, before, behind, pointed}
use Rattle.number.specs.Guid.{guid_of, filled, may}
use Rattle.number.specs.Version.{one_to_three, version_of}
use Rattle.spelling.specs.Decided.{is_text, text_from}
use Rattle.lane.specs.Names.{U, D, NotConnected, Idle, Ready, Both, Unknown, ServiceDescription, BoardAvailable, MachineReady, StartTransport, StopTransport, TransportFinished, BoardForecast, NoOrder, Run}
use Rattle.lane.specs.Chart.{pick, chart, by_rows, next}
use Rattle.lane.specs.Ids.{id_of as forecast_bytes}
use Rattle.lane.proofs.IdLaws.{righted_again, same_ids}
use Rattle.lane.specs.Record.{no_id, no_forecast, righted, same_forecast, fresh, other, received, sent}
use Rattle.lane.proofs.Laws.{same_refl}
use Rattle.lane.proofs.Laws.{same_picked, received_by_lem, sent_by}
use Rattle.lane.specs.Belt.{started}
use Rattle.lane.proofs.Belt.{start_run, start_sent}
use Rattle.lane.specs.declared.Event.{Event}
use Rattle.lane.specs.declared.Lane.{Lane}
use Rattle.lane.specs.declared.Moved.{Moved}
use Rattle.lane.specs.declared.ids.Forecast.{Forecast}
use Rattle.table.specs.Table.{table}
use Rattle.message.specs.Fields.{Field, a_words, a_whole, a_measure, a_guid, a_features}
use Rattle.message.specs.Cells.{cells_of, fields_from, field_by, words_by, whole_by, measure_by, guid_by, features_by}
use Rattle.message.specs.Messages.{message_from, fields_of, id_of, with_zeros}
use Rattle.message.specs.declared.cells.Message.{Message}
use Rattle.meant.specs.Meant.{meant_by, meant_of, refusal_of}
use Rattle.meant.specs.Written.{written_of}
use Rattle.meant.specs.Events.{no_forecast_case, a_forecast, forecast_of, forecast_id, carried_by}
use Rattle.promises.specs.Mirror.{Mirrored}
use Rattle.promises.specs.Sending.{moved_by}
use Rattle.promises.specs.Exchange.{Passing, Passes, Line, Said, from_u, from_d, line_of, lane_at, Says, Exchanges, Goes, AllGo, handover, changeover}
use Rattle.promises.specs.declared.Sent.{Sent}
use Rattle.promises.proofs.OneHandover.{one_handover}
use Rattle.promises.proofs.Theorems as all
use Rattle.promises.proofs.Totals.{receive_total, send_total}

-- the chart leads the sender's lane and the receiver's from one line to the next
record Leads (side : ℕ) (x y : Line) : Type 0 where
  sends : sent (lane_at side x) y.event ≡ record { refusal = 0; lane = lane_at side y; order = y.order }
  takes : (received (lane_at (other side) x) y.event).lane ≡ lane_at (other side) y

-- one line
module _ (side : ℕ) (our : (side ≡ U) ⊎ (side ≡ D)) (x y : Line) (p : Passing) (m : Says y p.message p.texts) (w : Passes (lane_at side x) (lane_at (other side) x) p) (e : Leads side x y) where
  moved_is : moved_by (lane_at side x) p.message p.texts ≡ record { refusal = 0; lane = lane_at side y; order = y.order }
  moved_is = ap (sent (lane_at side x)) m ∙ e.sends

  mirrored : Mirrored (lane_at side x) (lane_at (other side) x)
  mirrored = record { ours = our; theirs = refl; state = refl; offered = refl; running = refl }

  accepted : (p.sent.refusal ≡ 0) × (p.sent.order ≡ y.order) × (p.sent.lane ≡ lane_at side y)
  accepted = go (all.decides w.sends)
    where
      go : all.Decides (lane_at side x) p.message p.texts p.out p.filled p.sent → (p.sent.refusal ≡ 0) × (p.sent.order ≡ y.order) × (p.sent.lane ≡ lane_at side y)
      go (all.refused_by_case n q f) = absurd (n w.good)
      go (all.may_not_case a n q f) = absurd (n (ap (λ (v : Moved). v.refusal) moved_is))
      go (all.lacks_room a b h q f) = absurd (let z = w.fits in omega arith)
      go (all.goes a b h q f) = (ap (λ (r : Sent). r.refusal) q, ap (λ (r : Sent). r.order) q ∙ ap (λ (v : Moved). v.order) moved_is, ap (λ (r : Sent). r.lane) q ∙ ap (λ (v : Moved). v.lane) moved_is)

  line_goes : Goes side y p
  line_goes =
      let (z, o, l) = accepted in
      let (g, n, q, u, t) = one_handover p.rest mirrored w.sends z w.receives w.wide in
      record { sent = z; got = g; sent_order = o; got_order = q ∙ o; sent_lane = l; got_lane = t ∙ ap (λ (i : Event). (received (lane_at (other side) x) i).lane) m ∙ e.takes; used = u }

-- line by line
abbrev AllLead : Line → List Said → Type 0
AllLead x [] = Unit {0}
AllLead x (from_u y ∷ ys) = Leads U x y × AllLead y ys
AllLead x (from_d y ∷ ys) = Leads D x y × AllLead y ys

all_go : (x : Line) (ys : List Said) (ps : List Passing) → AllLead x ys → Exchanges (lane_at U x) (lane_at D x) ys ps → AllGo ys ps
all_go x [] [] h e = tt
all_go x [] (p ∷ ps) h e = absurd e
all_go x (y ∷ ys) [] h e = absurd e
all_go x (from_u y ∷ ys) (p ∷ ps) (h, hs) (m, w, e) =
    let g = line_goes U (inl refl) x y p m w h in
    (g, all_go y ys ps hs (subst (λ (l : Lane). Exchanges (lane_at U y) l ys ps) g.got_lane (subst (λ (l : Lane). Exchanges l p.got.lane ys ps) g.sent_lane e)))
all_go x (from_d y ∷ ys) (p ∷ ps) (h, hs) (m, w, e) =
    let g = line_goes D (inr refl) x y p m w h in
    (g, all_go y ys ps hs (subst (λ (l : Lane). Exchanges (lane_at U y) l ys ps) g.sent_lane (subst (λ (l : Lane). Exchanges l p.sent.lane ys ps) g.got_lane e)))

-- before the first line
abbrev new : Line
new = record { event = record { kind = Unknown; id = no_id; forecast = None }; state = NotConnected; offered = no_id; running = no_id; forecast = no_forecast_case; order = NoOrder }

-- the start, on both sides
both : ℕ → Bytes → Lane
both side id = record { side = side; state = Both; offered = id; running = no_id; forecast = no_forecast }

start : Bytes → Event
start id = record { kind = StartTransport; id = id; forecast = None }

start_sends : (id : Bytes) → sent (both D id) (start id) ≡ started (both D id) id Run
unfolding both start
start_sends id = start_sent (both D id) (start id) refl refl refl refl

start_takes : (id : Bytes) → received (both U id) (start id) ≡ started (both U id) id Run
unfolding both start
start_takes id = start_run (both U id) (start id) refl refl refl refl

handover_leads : (id : Bytes) → AllLead new (handover id)
unfolding sent received next by_rows chart righted both start
handover_leads id =
    let e = same_refl id in
    (record { sends = refl; takes = refl }, (record { sends = refl; takes = refl }, (record { sends = refl; takes = refl }, (record { sends = refl; takes = refl }, (record { sends = start_sends id; takes = ap (λ (v : Moved). v.lane) (start_takes id) }, (record { sends = rw e refl; takes = rw e refl }, (record { sends = rw e refl; takes = rw e refl }, tt)))))))

-- from two new lanes each of the seven messages is accepted by both sides; the belt runs on both sides at StartTransport, and only there; both lanes end in Idle without an id
pub whole_handover : (id : Bytes) (ps : List Passing) → Exchanges (fresh U) (fresh D) (handover id) ps → AllGo (handover id) ps
unfolding righted
whole_handover id ps e = all_go new (handover id) ps (handover_leads id) e

-- readiness for a forecast, on both sides: downstream it clears the ForecastId that is kept, upstream there is none
module _ (id : Bytes) where
  told : Forecast
  told = forecast_of (a_forecast id)

  idle : ℕ → Forecast → Lane
  idle side forecast = record { side = side; state = Idle; offered = no_id; running = no_id; forecast = forecast }

  asked : ℕ → Forecast → Lane
  asked side forecast = record { side = side; state = Ready; offered = no_id; running = no_id; forecast = forecast }

  ready : Event
  ready = record { kind = MachineReady; id = no_id; forecast = Some told }

  same_told : same_forecast (righted (righted told)) (righted told) ≡ true
  same_told = ap (λ (f : Forecast). same_forecast f (righted told)) (righted_again told) ∙ same_ids told told ∙ same_refl (forecast_bytes told)

  ready_sends : sent (idle D (righted told)) ready ≡ record { refusal = 0; lane = asked D no_forecast; order = NoOrder }
  unfolding told idle asked ready next by_rows chart
  ready_sends =
      sent_by (idle D (righted told)) ready (Some Ready) refl
      ∙ ap (λ (b : Bool). record { refusal = 0; lane = asked D (pick b no_forecast (righted (righted told))); order = NoOrder }) same_told

  ready_takes : (received (idle U no_forecast) ready).lane ≡ asked U no_forecast
  unfolding told idle asked ready next by_rows chart righted
  ready_takes =
      ap (λ (v : Moved). v.lane) (received_by_lem (idle U no_forecast) ready (Some Ready) refl)
      ∙ ap (asked U) (same_picked (same_forecast no_forecast (righted told)) no_forecast)

changeover_leads : (id announced forecast : Bytes) → AllLead new (changeover id announced forecast)
unfolding sent received next by_rows chart righted both start told idle asked ready
changeover_leads id announced forecast =
    let e = same_refl id in
    (record { sends = refl; takes = refl }, (record { sends = refl; takes = refl }, (record { sends = refl; takes = refl }, (record { sends = ready_sends forecast; takes = ready_takes forecast }, (record { sends = refl; takes = refl }, (record { sends = start_sends id; takes = ap (λ (v : Moved). v.lane) (start_takes id) }, (record { sends = rw e refl; takes = rw e refl }, (record { sends = rw e refl; takes = rw e refl }, tt))))))))

-- and with a changeover before it: the forecast changes neither state nor BoardIds nor the belt; the downstream lane keeps its id, and MachineReady with that id clears it
pub whole_changeover : (id announced forecast : Bytes) (ps : List Passing) → Exchanges (fresh U) (fresh D) (changeover id announced forecast) ps → AllGo (changeover id announced forecast) ps
unfolding righted
whole_changeover id announced forecast ps e = all_go new (changeover id announced forecast) ps (changeover_leads id announced forecast) e

-- messages of the lines, with the texts "1.6"
abbrev pub texts : Bytes
texts = text "1.6"

abbrev words : Field
words = a_words (Some (record { start = 0; len = 3 }))

abbrev board : Bytes
board = text "aaaaaaaa-aaaa-aaaa-aaaa-aaaaaaaaaaaa"

abbrev id : Field
id = a_guid (Some board)

abbrev none : Field
none = a_measure None

abbrev pub service : Message
service = message_from ServiceDescription (words ∷ a_whole (Some 1) ∷ words ∷ a_features (Some (record { forecast = false; query = false; send = false })) ∷ [])

abbrev offer : Message
offer = message_from BoardAvailable (id ∷ words ∷ a_whole (Some 1) ∷ a_words None ∷ a_whole (Some 0) ∷ a_words None ∷ a_words None ∷ none ∷ none ∷ none ∷ none ∷ none ∷ none ∷ none ∷ a_words None ∷ [])

abbrev transported : List Message
transported =
    message_from StartTransport (id ∷ none ∷ [])
    ∷ message_from TransportFinished (a_whole (Some 3) ∷ id ∷ [])
    ∷ message_from StopTransport (a_whole (Some 3) ∷ id ∷ [])
    ∷ []

abbrev samples : List Message
samples = service ∷ service ∷ offer ∷ message_from MachineReady (a_whole (Some 1) ∷ a_words None ∷ []) ∷ transported

abbrev forecast : Message
forecast = message_from BoardForecast (words ∷ none ∷ id ∷ a_words None ∷ a_whole (Some 1) ∷ a_words None ∷ a_whole (Some 0) ∷ a_words None ∷ a_words None ∷ none ∷ none ∷ none ∷ none ∷ none ∷ none ∷ none ∷ a_words None ∷ [])

abbrev changing : List Message
changing = service ∷ service ∷ forecast ∷ message_from MachineReady (a_whole (Some 1) ∷ words ∷ []) ∷ offer ∷ transported

abbrev Fine : List Said → List Message → Type 0
Fine [] [] = Unit {0}
Fine [] (m ∷ ms) = ⊥
Fine (x ∷ xs) [] = ⊥
Fine (x ∷ xs) (m ∷ ms) = Says (line_of x) m texts × (refusal_of m texts ≡ 0) × Fine xs ms

samples_fine : Fine (handover board) samples
unfolding message_from id_of forecast_id carried_by fields_of table meant_of meant_by within is_text text_from char_p plain_byte is_char guid_of filled may hex digit version_of one_to_three every before behind pointed with_zeros cells_of fields_from field_by words_by whole_by measure_by guid_by features_by
samples_fine = (refl, refl, (refl, refl, (refl, refl, (refl, refl, (refl, refl, (refl, refl, (refl, refl, tt)))))))

changing_fine : Fine (changeover board board texts) changing
unfolding message_from id_of forecast_id carried_by fields_of table meant_of meant_by within is_text text_from char_p plain_byte is_char guid_of filled may hex digit version_of one_to_three every before behind pointed with_zeros cells_of fields_from field_by words_by whole_by measure_by guid_by features_by
changing_fine = (refl, refl, (refl, refl, (refl, refl, (refl, refl, (refl, refl, (refl, refl, (refl, refl, (refl, refl, tt))))))))

pub service_good : refusal_of service texts ≡ 0
service_good = samples_fine.1

-- calls that pass a message, into buffers with room
passing : (l l' : Lane) (m : Message) → refusal_of m texts ≡ 0 → (p : Passing) × (p.message ≡ m) × (p.texts ≡ texts) × Passes l l' p
passing l l' m z =
    let (filled, r, s) = send_total l m texts (written_of m texts) in
    let (replied, g, q) = receive_total l' (take r.written filled ++ []) (replicate 525 0) in
    (record { message = m; texts = texts; out = written_of m texts; filled = filled; sent = r; rest = []; back = replicate 525 0; replied = replied; got = g }, refl, refl, record { sends = s; receives = q; good = z; fits = omega arith; wide = let n = length-replicate {A = ℕ} 525 0 in omega arith })

exchange : (u d : Lane) (xs : List Said) (ms : List Message) → Fine xs ms → (ps : List Passing) × Exchanges u d xs ps
exchange u d [] [] h = ([], tt)
exchange u d [] (m ∷ ms) h = absurd h
exchange u d (x ∷ xs) [] h = absurd h
exchange u d (from_u x ∷ xs) (m ∷ ms) (s, z, h) =
    let (p, q, i, w) = passing u d m z in
    let (ps, e) = exchange p.sent.lane p.got.lane xs ms h in
    (p ∷ ps, (subst (λ (y : Bytes). Says x p.message y) (sym i) (subst (λ (m : Message). Says x m texts) (sym q) s), w, e))
exchange u d (from_d x ∷ xs) (m ∷ ms) (s, z, h) =
    let (p, q, i, w) = passing d u m z in
    let (ps, e) = exchange p.got.lane p.sent.lane xs ms h in
    (p ∷ ps, (subst (λ (y : Bytes). Says x p.message y) (sym i) (subst (λ (m : Message). Says x m texts) (sym q) s), w, e))

-- what `whole_handover` asks for can be met
pub handover_met : (ps : List Passing) × Exchanges (fresh U) (fresh D) (handover board) ps
handover_met = exchange (fresh U) (fresh D) (handover board) samples samples_fine

pub changeover_met : (ps : List Passing) × Exchanges (fresh U) (fresh D) (changeover board board texts) ps
changeover_met = exchange (fresh U) (fresh D) (changeover board board texts) changing changing_fine
