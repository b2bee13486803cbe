use Rattle.std.proofs.Common.{List, [], ◌∷◌}
use Rattle.clap.specs.Words.{Rule}
use Rattle.requests.specs.Words.{file_rule, only_rule, heads_rule, shard_rule, workers_rule, stride_rule, block_rule, quiet_rule}
use Rattle.requests.proofs.Commands.{AreArgsOf, with_arguments}
use Rattle.requests.proofs.arguments.campaign_command.Goals as goal

pub returns : goal.returns
returns c =
    let arguments : List Rule =
    file_rule ∷ only_rule ∷ heads_rule ∷ shard_rule ∷ workers_rule ∷ stride_rule ∷ block_rule ∷ quiet_rule ∷ [] in
    let are : AreArgsOf arguments c.in_ok-arguments.arguments.items =
    rw c.in_ok-arguments.ensures.items (
      c.file_argument.ensures,
      (
        c.only_argument.ensures,
        (
          c.heads_argument.ensures,
          (
            c.shard_argument.ensures,
            (c.workers_argument.ensures, (c.stride_argument.ensures, (c.block_argument.ensures, (c.quiet_argument.ensures, tt)))),
          ),
        ),
      ),
    ) in
    with_arguments _ _ arguments _ _ c.described_command.ensures.reads are c.args-2.ensures
