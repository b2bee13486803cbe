use Rattle.requests.proofs.Commands.{with_command}
use Rattle.requests.proofs.arguments.program_with_runs.Goals as goal

pub returns : goal.returns
returns c = with_command _ _ _ _ _ c.in_ok-program.ensures c.in_ok-campaign.ensures c.subcommand.ensures
