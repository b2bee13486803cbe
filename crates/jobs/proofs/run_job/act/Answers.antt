use Rattle.jobs.proofs.Serving.{acts_over_all}
use Rattle.jobs.proofs.run_job.act.Goals as goal

pub returns-clause-does : goal.returns-clause-does
returns-clause-does g c =
    let done = c.act_on.ensures in (
      done.0,
      acts_over_all c.args.job.now c.all_for-read.result _ _ _ _ _ done.0 c.all_for-read.ensures.read
          c.all_for-read.ensures.any_size done.1,
      done.2,
      done.3,
    )
