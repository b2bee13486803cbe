use Rattle.std.proofs.Common.{List, [], ◌∷◌}
use Rattle.clap.specs.Words.{Rule}
use Rattle.requests.specs.Words.{file_rule, at_rule, handler_rule, point_rule, state_rule}
use Rattle.requests.proofs.Commands.{AreArgsOf, with_arguments}
use Rattle.requests.proofs.arguments.run_command.Goals as goal

pub returns : goal.returns
returns c =
    let arguments : List Rule = file_rule ∷ at_rule ∷ handler_rule ∷ point_rule ∷ state_rule ∷ [] in
    let are : AreArgsOf arguments c.in_ok-arguments.arguments.items =
    rw c.in_ok-arguments.ensures.items (
      c.file_argument.ensures,
      (c.at_argument.ensures, (c.handler_argument.ensures, (c.point_argument.ensures, (c.state_argument.ensures, tt)))),
    ) in
    with_arguments _ _ arguments _ _ c.described_command.ensures.reads are c.args-2.ensures
