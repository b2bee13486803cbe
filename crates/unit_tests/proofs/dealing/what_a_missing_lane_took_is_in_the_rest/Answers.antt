use Rattle.deal.specs.Sharing.{Game}
use Rattle.unit_tests.proofs.dealing.what_a_missing_lane_took_is_in_the_rest.Goals as goal

pub close-closed-requires : goal.close-closed-requires
close-closed-requires g c =
    let deal : Game = c.in_ok-deal.deal in
    c.lose_last.ensures deal (c.is_answered-2.ensures deal (c.is_answered.ensures deal c.in_ok-deal.ensures.of))
