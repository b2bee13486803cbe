use Rattle.std.specs.Prelude.{if◌then◌else◌}
use Rattle.std.proofs.Common.{◌≡◌, ◌∙◌, length, subst, sym}
use Rattle.model.specs.Run.{Run}
use Rattle.report.specs.Views.{shows_events}
use Rattle.rows.specs.declared.link.Link.TheVariants as links
use Rattle.campaign.specs.Working.{store_in}
use Rattle.campaign.proofs.Keeping.{missed_row}
use Rattle.campaign.proofs.meeting.runner.Runner.missed.Goals as goal

pub returns : goal.returns
returns c =
    let shelf = c.args.setup.now.shelf.now in
    let same = c.base.view_is ∙ c.base-base.ensures in
    let shared =
    subst (λ (r : Run). c.shared_by.result ≡ (if shows_events c.args.setup.now.view.now r.end then length r.events else 0))
    (sym c.base.view_is) c.shared_by.ensures in
    let at_end = subst (λ (r : Run). c.end_of_base.result ≡ links.Base (length r.events)) (sym c.base.view_is)
    c.end_of_base.ensures in
    missed_row c.args.setup.now.app.now shelf.limits c.args.setup.now.view.now shelf.base c.requires.setup.is_base
    c.args.point.now (store_in c.args.self.now) c.requires.legs _ _ _ same c.requires.missed
    shared at_end
