use Rattle.std.proofs.Common.{◌≤◌, ◌^◌, ◌∙◌, length, ap, arith}
use Rattle.std.proofs.lemmas.List.{length-replicate}
use Rattle.campaign.proofs.Counters.{ready_seats}
use Rattle.differential_tests.proofs.working.campaign_in.Goals as goal

pub campaign-finished-requires-clause-seats : goal.campaign-finished-requires-clause-seats
campaign-finished-requires-clause-seats g c κs within =
    let few : length c.args.points.items ≤ 2 ^ 40 = (let most = c.requires.few in omega arith) in
    let many = ap length c.in-Ok.ensures.seats ∙ length-replicate _ _ in (
      omega (arith, many, c.in-Ok.seats.ok),
      ready_seats c.in-Ok.tally (length c.args.points.items) _ c.in-Ok.seats.items few c.in-Ok.ensures.seats,
    )
