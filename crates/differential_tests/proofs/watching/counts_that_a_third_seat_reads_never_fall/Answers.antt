use denote.Param.Send.{sendable}
use Rattle.std.proofs.Crossing.{crosses}
use Rattle.deal.proofs.tally.TallySeat.TheSendSync.{the_send}
use Rattle.deal.proofs.Crossing.{tally_sync}
use Rattle.differential_tests.proofs.watching.counts_that_a_third_seat_reads_never_fall.Goals as goal

pub campaign-finished-requires-sync-G : goal.campaign-finished-requires-sync-G
campaign-finished-requires-sync-G g c κs = search (sendable, crosses, tally_sync, the_send) depth 60 fits 100000
