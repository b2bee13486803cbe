use Rattle.objects.proofs.Counting.{stands_received, stands_sent}
use Rattle.objects.proofs.laws.wakes_count.Goals as goal

pub returns : goal.returns
returns c = record { receivers = stands_received; senders = stands_sent }
