use Rattle.requests.specs.Words.{rtosim_app}
use Rattle.requests.proofs.Commands.{with_command}
use Rattle.requests.proofs.arguments.command.Goals as goal

pub returns : goal.returns
unfolding rtosim_app
returns c = with_command _ _ _ _ _ c.in_ok-program.ensures c.in_ok-explore.ensures c.subcommand.ensures
