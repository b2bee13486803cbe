use Rattle.std.proofs.Common.{refl}
use Rattle.jobs.proofs.run_job.serve_campaign.Goals as goal

pub returns : goal.returns
returns g c = (c.in_ok-totals.totals, refl, c.in_ok-totals.ensures)
