-- What the promises of the calls determine, and that nothing is lost between a message and its struct.
use mathlib.Core.Path.{◌≡◌, refl, sym, ap, ◌∙◌}
use mathlib.Core.List.{List}
use mathlib.Core.Bool.{◌||◌}
use Prim.Native.Nat.{ℕ}
use lib.Dec.{eqb}
use Rattle.lane.specs.Names.{ServiceDescription, Notification, BoardAvailable, MachineReady, StartTransport, StopTransport, TransportFinished, CheckAlive, BoardForecast}
use Rattle.table.specs.Table.{table}
use Rattle.message.specs.Fields.{Field}
use Rattle.message.specs.Cells.{field_by, fields_from}
use Rattle.message.specs.Messages.{message_from, fields_of}
use Rattle.message.specs.declared.cells.Message.{Message}
use Rattle.structs.specs.OfKind.{only}
use Rattle.structs.specs.BoardPart.{part_from, part_fields}
use Rattle.structs.specs.Services.{service_from, service_in, service_fields}
use Rattle.structs.specs.Notices.{notice_from, notice_in, notice_fields}
use Rattle.structs.specs.Boards.{board_from, board_in, board_fields}
use Rattle.structs.specs.Forecasts.{forecast_from, forecast_in, forecast_fields}
use Rattle.structs.specs.Ready.{ready_from, ready_in, ready_fields}
use Rattle.structs.specs.Starts.{start_from, start_in, start_fields}
use Rattle.structs.specs.Transfers.{transfer_from, transfer_in, transfer_fields}
use Rattle.structs.specs.Alive.{alive_from, alive_in, alive_fields}
use Rattle.structs.specs.declared.services.ServiceDescription.{ServiceDescription as Service}
use Rattle.structs.specs.declared.notices.Notification.{Notification as Notice}
use Rattle.structs.specs.declared.boards.BoardAvailable.{BoardAvailable as Available}
use Rattle.structs.specs.declared.forecasts.BoardForecast.{BoardForecast as Forecast}
use Rattle.structs.specs.declared.ready.MachineReady.{MachineReady as Ready}
use Rattle.structs.specs.declared.starts.StartTransport.{StartTransport as Start}
use Rattle.structs.specs.declared.transfers.Transfer.{Transfer}
use Rattle.structs.specs.declared.alive.CheckAlive.{CheckAlive as Alive}
use Rattle.structs.proofs.KindLaws.{Shape, laid_fields, message_back}

-- each promise is an equation: no second result meets it
pub made_only : {A : Type 0} {x r r' : A} → r ≡ x → r' ≡ x → r ≡ r'
made_only p q = p ∙ sym q

-- `kept`: the struct of the message that is laid from a struct is that struct.
-- `back`: the message that is laid from the struct of a message has the same fields.

service : Shape ServiceDescription service_from service_fields
unfolding table fields_from field_by service_from service_fields
service = record { sorts = λ v. refl; same = λ c id. refl }

pub service_kept : (s : Service) → service_in (message_from ServiceDescription (service_fields s)) ≡ s
unfolding message_from service_from service_fields
service_kept s = ap service_from (laid_fields service s)

pub service_back : (m : Message) → m.kind ≡ ServiceDescription → fields_of (message_from ServiceDescription (service_fields (service_in m))) ≡ fields_of m
service_back m e = message_back service m e (ap (λ (k : ℕ). only (eqb k ServiceDescription) m) e)

notice : Shape Notification notice_from notice_fields
unfolding table fields_from field_by notice_from notice_fields
notice = record { sorts = λ v. refl; same = λ c id. refl }

pub notice_kept : (n : Notice) → notice_in (message_from Notification (notice_fields n)) ≡ n
unfolding message_from notice_from notice_fields
notice_kept n = ap notice_from (laid_fields notice n)

pub notice_back : (m : Message) → m.kind ≡ Notification → fields_of (message_from Notification (notice_fields (notice_in m))) ≡ fields_of m
notice_back m e = message_back notice m e (ap (λ (k : ℕ). only (eqb k Notification) m) e)

board : Shape BoardAvailable board_from board_fields
unfolding table fields_from field_by board_from board_fields part_from part_fields
board = record { sorts = λ v. refl; same = λ c id. refl }

pub board_kept : (b : Available) → board_in (message_from BoardAvailable (board_fields b)) ≡ b
unfolding message_from board_from board_fields part_from part_fields
board_kept b = ap board_from (laid_fields board b)

pub board_back : (m : Message) → m.kind ≡ BoardAvailable → fields_of (message_from BoardAvailable (board_fields (board_in m))) ≡ fields_of m
board_back m e = message_back board m e (ap (λ (k : ℕ). only (eqb k BoardAvailable) m) e)

ready : Shape MachineReady ready_from ready_fields
unfolding table fields_from field_by ready_from ready_fields
ready = record { sorts = λ v. refl; same = λ c id. refl }

pub ready_kept : (r : Ready) → ready_in (message_from MachineReady (ready_fields r)) ≡ r
unfolding message_from ready_from ready_fields
ready_kept r = ap ready_from (laid_fields ready r)

pub ready_back : (m : Message) → m.kind ≡ MachineReady → fields_of (message_from MachineReady (ready_fields (ready_in m))) ≡ fields_of m
ready_back m e = message_back ready m e (ap (λ (k : ℕ). only (eqb k MachineReady) m) e)

start : Shape StartTransport start_from start_fields
unfolding table fields_from field_by start_from start_fields
start = record { sorts = λ v. refl; same = λ c id. refl }

pub start_kept : (s : Start) → start_in (message_from StartTransport (start_fields s)) ≡ s
unfolding message_from start_from start_fields
start_kept s = ap start_from (laid_fields start s)

pub start_back : (m : Message) → m.kind ≡ StartTransport → fields_of (message_from StartTransport (start_fields (start_in m))) ≡ fields_of m
start_back m e = message_back start m e (ap (λ (k : ℕ). only (eqb k StartTransport) m) e)

stop : Shape StopTransport transfer_from transfer_fields
unfolding table fields_from field_by transfer_from transfer_fields
stop = record { sorts = λ v. refl; same = λ c id. refl }

pub stop_kept : (t : Transfer) → transfer_in (message_from StopTransport (transfer_fields t)) ≡ t
unfolding message_from transfer_from transfer_fields
stop_kept t = ap transfer_from (laid_fields stop t)

pub stop_back : (m : Message) → m.kind ≡ StopTransport → fields_of (message_from StopTransport (transfer_fields (transfer_in m))) ≡ fields_of m
stop_back m e = message_back stop m e (ap (λ (k : ℕ). only (eqb k StopTransport || eqb k TransportFinished) m) e)

finished : Shape TransportFinished transfer_from transfer_fields
unfolding table fields_from field_by transfer_from transfer_fields
finished = record { sorts = λ v. refl; same = λ c id. refl }

pub finished_kept : (t : Transfer) → transfer_in (message_from TransportFinished (transfer_fields t)) ≡ t
unfolding message_from transfer_from transfer_fields
finished_kept t = ap transfer_from (laid_fields finished t)

pub finished_back : (m : Message) → m.kind ≡ TransportFinished → fields_of (message_from TransportFinished (transfer_fields (transfer_in m))) ≡ fields_of m
finished_back m e = message_back finished m e (ap (λ (k : ℕ). only (eqb k StopTransport || eqb k TransportFinished) m) e)

alive : Shape CheckAlive alive_from alive_fields
unfolding table fields_from field_by alive_from alive_fields
alive = record { sorts = λ v. refl; same = λ c id. refl }

pub alive_kept : (a : Alive) → alive_in (message_from CheckAlive (alive_fields a)) ≡ a
unfolding message_from alive_from alive_fields
alive_kept a = ap alive_from (laid_fields alive a)

pub alive_back : (m : Message) → m.kind ≡ CheckAlive → fields_of (message_from CheckAlive (alive_fields (alive_in m))) ≡ fields_of m
alive_back m e = message_back alive m e (ap (λ (k : ℕ). only (eqb k CheckAlive) m) e)

forecast : Shape BoardForecast forecast_from forecast_fields
unfolding table fields_from field_by forecast_from forecast_fields part_from part_fields
forecast = record { sorts = λ v. refl; same = λ c id. refl }

pub forecast_kept : (b : Forecast) → forecast_in (message_from BoardForecast (forecast_fields b)) ≡ b
unfolding message_from forecast_from forecast_fields part_from part_fields
forecast_kept b = ap forecast_from (laid_fields forecast b)

pub forecast_back : (m : Message) → m.kind ≡ BoardForecast → fields_of (message_from BoardForecast (forecast_fields (forecast_in m))) ≡ fields_of m
forecast_back m e = message_back forecast m e (ap (λ (k : ℕ). only (eqb k BoardForecast) m) e)
