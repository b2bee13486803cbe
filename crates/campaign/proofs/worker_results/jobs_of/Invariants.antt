use Rattle.std.proofs.Common.{◌≡◌, ◌+◌, ℕ, vec_len}
use Rattle.deal.specs.Sharing.{Game}
use Rattle.deal.specs.Tallies.{Sheet, added_in}
use Rattle.campaign.specs.Working.{AreIdle, AreJobs, AreReady, seats_of}
use Rattle.campaign.proofs.worker_results.jobs_of.Given as goal

abbrev pub invariant-loop-lane : goal.invariant-loop-lane
invariant-loop-lane l = record {
  pairs : vec_len l.lanes ≡ vec_len l.seats;
  count : vec_len l.jobs + vec_len l.lanes ≡ vec_len l.fn.lanes;
  added : (kind : ℕ) → added_in kind (seats_of l.jobs.items) + added_in kind l.seats.items ≡ added_in kind l.fn.seats.items;
  jobs : (deal : Game) (tally : Sheet) (count : ℕ) → AreIdle deal l.fn.lanes.items → AreReady tally count l.fn.seats.items
      → AreIdle deal l.lanes.items × AreReady tally count l.seats.items × AreJobs deal tally count l.jobs.items;
}

abbrev pub decreases-loop-lane : goal.decreases-loop-lane
decreases-loop-lane l = vec_len l.lanes
