use Rattle.std.proofs.Common.{◌≡◌, Err, refl, rules}
use Rattle.jobs.proofs.run_job.act_on.Goals as goal

pub returns-in-Ok : goal.returns-in-Ok
returns-in-Ok g c =
    let same : c.as_slice.result.now ≡ c.in-Ok.bytes.items = search rules in (
      c.serve_job-outcome.result,
      rw (c.in-Ok.is, ← same) c.serve_job-outcome.ensures,
      c.conclude.ensures.message,
      c.conclude.ensures.status,
    )

pub returns-in-Err : goal.returns-in-Err
returns-in-Err g c = (
  Err c.in-Err.fault,
  rw c.in-Err.is (refl, refl, c.requires.writes),
  c.conclude-in-Err.ensures.message,
  c.conclude-in-Err.ensures.status,
)
