use Rattle.requests.proofs.Commands.{with_command}
use Rattle.requests.proofs.arguments.program_with_run.Goals as goal

pub returns : goal.returns
returns c = with_command _ _ _ _ _ c.program.ensures.reads c.in_ok-run.ensures c.subcommand.ensures
