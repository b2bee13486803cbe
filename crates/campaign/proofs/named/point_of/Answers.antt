use Rattle.campaign.proofs.Naming.{not_refused}
use Rattle.campaign.proofs.named.point_of.Goals as goal

pub unreachable-requires : goal.unreachable-requires
unreachable-requires c =
    absurd (not_refused _ c.args.injections.now c.new.result c.in-Err.is c.requires c.new.ensures.empty c.new.ensures.many
    c.new.ensures.falling)
