use Rattle.std.proofs.Common.{◌≡◌, length, subst}
use Rattle.model.specs.Run.{Run}
use Rattle.rows.specs.declared.link.Link.TheVariants as links
use Rattle.campaign.specs.Working.{store_in}
use Rattle.campaign.proofs.GoingOn.{ended_rest}
use Rattle.campaign.proofs.meeting.runner.Runner.no_rest.Goals as goal

pub returns : goal.returns
returns c =
    let setup = c.args.setup.now in
    let shelf = setup.shelf.now in
    let way = c.requires.way in
    let at_end = subst (λ (b : Run). c.end_of_base.result ≡ links.Base (length b.events)) c.base.ensures c.end_of_base.ensures in
    ended_rest setup.app.now shelf.limits setup.view.now shelf.base c.args.point.now c.args.self.now.simulation.kernel
    way (store_in c.args.self.now) _ _ _ c.args.end c.requires.end at_end c.steps.ensures (c.ticks.ensures _ way.stands)
