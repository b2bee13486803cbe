use Rattle.jobs.proofs.Serving.{acts_over_file}
use Rattle.jobs.proofs.run_job.act_over_file.Goals as goal

pub returns-clause-does : goal.returns-clause-does
returns-clause-does g c =
    let done = c.act_on.ensures in (
      done.0,
      acts_over_file c.args.job.now c.bytes_for-read.result _ _ _ _ _ done.0 c.bytes_for-read.ensures.read
          c.bytes_for-read.ensures.few done.1,
      done.2,
      done.3,
    )
