use Rattle.std.proofs.Common.{◌≡◌, ◌∙◌, ap, sym, refl, arith, length, sum, List}
use Rattle.std.specs.Prelude.{vec_len}
use Rattle.std.specs.List.{list_any}
use Rattle.deal.specs.Sharing.{Game, fresh_lanes}
use Rattle.deal.proofs.Members.{all_of_each}
use Rattle.campaign.specs.declared.worker.Done.{Done}
use Rattle.campaign.specs.declared.worker_results.Apart.{Apart}
use Rattle.campaign.specs.Made.{IsBrought}
use Rattle.campaign.specs.Setup.{work_of}
use Rattle.campaign.proofs.Whole.{all_apart, all_brought, idle_lanes}
use Rattle.campaign.proofs.all_rows.work_off.Goals as goal

pub run_all-requires-clause-points : goal.run_all-requires-clause-points
run_all-requires-clause-points g c κs within k d l =
    let deal = c.requires.lanes.0 in
    let are =
    c.in_ok-jobs.ensures.jobs deal c.args.setup.now.tally.now (length c.args.setup.now.points.now)
    (idle_lanes deal _ c.requires.lanes.1) c.requires.seats.ready in
    let job = all_of_each _ c.in_ok-jobs.jobs.items are k d l in
    ap (λ (game : Game). sum game.lengths) job.lane ∙ c.requires.lanes.2

pub run_all-requires-clause-jobs : goal.run_all-requires-clause-jobs
run_all-requires-clause-jobs g c κs within k d l =
    let deal = c.requires.lanes.0 in
    let are =
    c.in_ok-jobs.ensures.jobs deal c.args.setup.now.tally.now (length c.args.setup.now.points.now)
    (idle_lanes deal _ c.requires.lanes.1) c.requires.seats.ready in
    let job = all_of_each _ c.in_ok-jobs.jobs.items are k d l in
    record { lane = refl; fresh = job.fresh; seat = job.seat; room = job.room; none = job.none }

pub returns : goal.returns
returns g c =
    let setup = c.args.setup.now in
    let none =
    ap (λ (dones : List Done). list_any (λ (d : Done). d.refused) dones) (sym c.deref.ensures.value)
    ∙ sym c.is_refused.ensures ∙ c.if-is_refused.false in
    let workers = length c.args.seats.items in
    let many : length c.in_ok-jobs.jobs.items ≡ workers =
    omega (arith, c.in_ok-jobs.ensures.count, c.requires.many, c.in_ok-jobs.jobs.ok, c.args.seats.ok) in
    all_apart c.take_apart.result (λ (apart : Apart). (deal : Game) → c.args.lanes.items ≡ fresh_lanes deal
    → deal.lanes ≡ vec_len c.args.seats
    → IsBrought (work_of setup deal.lengths) deal setup.tally.now
    c.args.seats.items apart.lanes.items apart.seats.items apart.parts.items)
    c.in_ok-dones.dones.items c.take_apart.ensures.lanes c.take_apart.ensures.seats c.take_apart.ensures.parts
    (λ apart is_lanes is_seats is_parts deal fresh lane_many.
    let are =
    c.in_ok-jobs.ensures.jobs deal setup.tally.now (length setup.points.now) (idle_lanes deal _ fresh) c.requires.seats.ready in
    all_brought (work_of setup deal.lengths) deal setup.tally.now (length setup.points.now) workers c.args.seats.items
    c.in_ok-jobs.jobs.items c.in_ok-dones.dones.items apart.lanes.items apart.seats.items apart.parts.items
    is_lanes is_seats is_parts are (c.in_ok-dones.ensures deal are) none
    many (omega (arith, lane_many, c.args.seats.ok)) c.requires.seats.some refl c.in_ok-jobs.ensures.added)
