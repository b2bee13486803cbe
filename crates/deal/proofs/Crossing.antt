-- Threads may share a tally.
use denote.RattleType.{RattleType}
use denote.Param.Send.{IsSend, IsSync, sendable, whole-keyless}
use Rattle.std.proofs.Crossing.{crosses}
use Rattle.atomic_table.proofs.owned.Table.TheSendSync.{the_field_sync}
use Rattle.atomic_table.proofs.shared.Seat.TheSendSync.{the_send}
use Rattle.atomic_table.specs.contracts.shared.Seat as seat
use Rattle.deal.specs.contracts.tally.Tally.{the_row}

-- a seat that lies in a value is only looked at
seat_sync : (S V : RattleType) → IsSend S → IsSync (seat.the_row S V)
seat_sync S V s = record { shared = λ d b o κ q. whole-keyless _ _ (the_send S V s).owned q d b o }

pub tally_sync : IsSync the_row
tally_sync = search (sendable, crosses, the_field_sync, seat_sync) depth 60 fits 100000
