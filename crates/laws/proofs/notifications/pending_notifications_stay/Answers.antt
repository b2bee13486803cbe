use Rattle.laws.proofs.Notifying.{still_pending, still_pending_after}
use Rattle.laws.proofs.notifications.pending_notifications_stay.Goals as goal

pub returns-clause-step : goal.returns-clause-step
returns-clause-step c = still_pending

pub returns-clause-run : goal.returns-clause-run
returns-clause-run c = still_pending_after
