use Rattle.std.proofs.Common.{inl, inr}
use Rattle.clap.specs.Words.{kind_of}
use Rattle.jobs.proofs.command_line.obey_meant.Goals as goal

pub returns-in-Ok : goal.returns-in-Ok
returns-in-Ok g c =
    let done = c.open_and_act.ensures in
    inl record {
      job = c.in-Ok.job;
      named = c.in-Ok.ensures.job;
      taken = c.in-Ok.ensures.kinds;
      outcome = done.0;
      does = done.1;
      tells = done.2;
      ends = done.3;
    }

pub returns-in-Err : goal.returns-in-Err
returns-in-Err g c = inr record {
  kind = kind_of c.in-Err.error;
  due = c.in-Err.ensures.kinds;
  concludes = c.conclude_error.ensures;
}
