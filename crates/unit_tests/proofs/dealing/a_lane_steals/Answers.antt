use Rattle.unit_tests.proofs.dealing.a_lane_steals.Goals as goal

pub loop-number-preserved : goal.loop-number-preserved
loop-number-preserved g c = c.is_answered.ensures c.in_ok-deal.deal c.loop-number.invariant

pub close-closed-requires : goal.close-closed-requires
close-closed-requires g c =
    c.is_answered-3.ensures c.in_ok-deal.deal (c.is_answered-2.ensures c.in_ok-deal.deal c.loop-number.invariant)
