use Rattle.std.proofs.Common.{List, [], ◌∷◌}
use Rattle.clap.specs.Words.{Rule}
use Rattle.requests.specs.Words.{file_rule, handlers_rule, injections_rule}
use Rattle.requests.proofs.Commands.{AreArgsOf, with_arguments}
use Rattle.requests.proofs.arguments.explore_command.Goals as goal

pub returns : goal.returns
returns c =
    let arguments : List Rule = file_rule ∷ injections_rule ∷ handlers_rule ∷ [] in
    let are : AreArgsOf arguments c.in_ok-arguments.arguments.items =
    rw c.in_ok-arguments.ensures.items
    (c.file_argument.ensures, (c.injections_argument.ensures, (c.handlers_argument.ensures, tt))) in
    with_arguments _ _ arguments _ _ c.described_command.ensures.reads are c.args-2.ensures
