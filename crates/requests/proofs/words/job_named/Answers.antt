use Rattle.std.proofs.Common.{◌∙◌, ap}
use Rattle.clap.specs.Words.{subcommand_rows_of}
use Rattle.requests.specs.Words.{value_faults}
use Rattle.requests.proofs.Matches.{fails_as, found_as, job_as, memory_alone, no_faults, value_as}
use Rattle.requests.proofs.words.job_named.Goals as goal

pub returns-in-Some-clause-job : goal.returns-in-Some-clause-job
returns-in-Some-clause-job g c =
    job_as _ _ c.in-Ok.matches c.in-Some.job c.in_ok-command.ensures.reads c.in-Ok.ensures.matches c.in-Some.ensures.job

pub returns-in-Some-clause-kinds : goal.returns-in-Some-clause-kinds
returns-in-Some-clause-kinds g c =
    no_faults _ _ c.in-Some.job c.in_ok-command.ensures.reads (returns-in-Some-clause-job g c) c.in-Ok.ensures.kinds

pub returns-in-Ok-clause-memory : goal.returns-in-Ok-clause-memory
returns-in-Ok-clause-memory g c took none =
    memory_alone (value_faults (subcommand_rows_of c.in-Ok.matches)) c.refusal.result c.refusal.ensures
    (ap value_faults (found_as _ _ c.in-Ok.matches c.in_ok-command.ensures.reads c.in-Ok.ensures.matches) ∙ none)

pub returns-in-Ok-clause-kinds : goal.returns-in-Ok-clause-kinds
returns-in-Ok-clause-kinds g c =
    value_as _ _ c.in-Ok.matches c.refusal.result c.in_ok-command.ensures.reads
    c.in-Ok.ensures.matches c.in-Ok.ensures.kinds c.refusal.ensures

pub returns-clause-kinds : goal.returns-clause-kinds
returns-clause-kinds g c = fails_as _ _ c.in-Err.error c.in_ok-command.ensures.reads c.in-Err.ensures.kinds
