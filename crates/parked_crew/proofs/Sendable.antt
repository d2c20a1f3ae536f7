-- The worker's side of a round may cross threads.
use denote.RattleType.{RattleType}
use denote.Param.Send.{IsSend, AllSend, sendable, recorded_send, struct_send}
use denote.Struct.Declared.{shape, fields}
use Rattle.std.proofs.Crossing.{crosses}
use Rattle.atomic_table.proofs.shared.Seat.TheSendSync as Seat
use Rattle.atomic_table.proofs.owned.Table.TheSendSync as Table
use Rattle.parked_crew.specs.declared.share.Share.{Ghosts}
use Rattle.parked_crew.specs.contracts.round.Ticket as Ticket
use Rattle.crossbeam_channel.proofs.channel.Receiver.TheSendSync as Receiver
use Rattle.crossbeam_channel.proofs.channel.Sender.TheSendSync as Sender
use Rattle.parked_crew.specs.contracts.worker.ThreadSide as ThreadSide

pub ruleset tables = (Seat.the_send, Table.the_send, Table.the_sync)

pub ticket_send : (C : RattleType) (g : Ghosts C.Denot) → IsSend C → IsSend (Ticket.the_row C g)
ticket_send C g s =
    let T = Ticket.the_type C g in
    let all : AllSend (fields T) = (search (sendable, crosses, tables) depth 80, (search (sendable, crosses, tables) depth 40, (search (sendable, crosses), tt))) in
    recorded_send _ _ _ T.to_one (struct_send (shape T) all)

pub ruleset ends = (Receiver.the_send, Sender.the_send)

pub thread_side_send : (C : RattleType) (g : Ghosts C.Denot) → IsSend C → IsSend (ThreadSide.the_row C g)
thread_side_send C g s =
    let T = ThreadSide.the_type C g in
    let all : AllSend (fields T) = (search (sendable, crosses, ends, ticket_send) depth 80, (search (sendable, crosses, ends) depth 40, tt)) in
    recorded_send _ _ _ T.to_one (struct_send (shape T) all)
