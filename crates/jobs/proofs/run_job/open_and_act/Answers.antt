use Rattle.std.proofs.Common.{Err, inl}
use Rattle.jobs.specs.declared.run_job.JobFault.TheVariants.{Serve}
use Rattle.jobs.proofs.Serving.{lacks_file, opens}
use Rattle.jobs.proofs.run_job.open_and_act.Goals as goal

pub returns-in-Ok : goal.returns-in-Ok
returns-in-Ok g c =
    let done = c.act_over_file.ensures.does in
    (done.0, opens c.args.job.now _ done.0 done.1, done.2, done.3)

pub returns-in-Err : goal.returns-in-Err
returns-in-Err g c = (
  Err (Serve c.fault_of.result),
  inl (lacks_file _ _ c.fault_of.result c.fault_of.ensures.either c.requires.writes),
  c.conclude.ensures.message,
  c.conclude.ensures.status,
)
