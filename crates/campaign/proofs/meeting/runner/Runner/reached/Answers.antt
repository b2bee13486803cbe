use Rattle.std.proofs.Common.{◌≡◌, ◌∙◌, [], length, ap, append-nil, refl, subst, sym}
use Rattle.machine.specs.Logged.{all_of}
use Rattle.model.specs.Run.{Run}
use Rattle.rows.specs.declared.link.Link.TheVariants as links
use Rattle.campaign.specs.declared.meeting.visited_states.VisitedStates.{VisitedStates}
use Rattle.rows.specs.Links.{Grows, Store}
use Rattle.campaign.specs.Visited.{AreVisited}
use Rattle.campaign.specs.Working.{store_in, IsRestOf}
use Rattle.campaign.proofs.GoingOn.{all_bare, all_closed, still_visited}
use Rattle.campaign.proofs.Keeping.{bare_row, its_legs, reached_row}
use Rattle.rows.proofs.Linked.{same_legs}
use Rattle.campaign.proofs.meeting.runner.Runner.reached.Goals as goal

pub rest-requires-clause-visited : goal.rest-requires-clause-visited
rest-requires-clause-visited c =
    let shelf = c.args.setup.now.shelf.now in
    let begun = c.in_ok-begun.ensures.begun in
    let old = store_in c.args.self.now in
    let mid : Store = record { trail = all_of c.begin_row_after.new.simulation.trail; legs = c.args.self.now.legs.items } in
    let grown : Grows old mid = record { own = begun.own; trail = begun.kept; more = []; legs = sym (append-nil old.legs) } in
    still_visited c.args.setup.now.app.now shelf.limits c.args.setup.now.view.now shelf.base old mid
    c.requires.legs grown c.args.self.now.table.visited.items c.requires.visited

pub rest-requires-clause-legs : goal.rest-requires-clause-legs
rest-requires-clause-legs c =
    let begun = c.in_ok-begun.ensures.begun in
    let old = store_in c.args.self.now in
    let mid : Store = record { trail = all_of c.begin_row_after.new.simulation.trail; legs = c.args.self.now.legs.items } in
    let grown : Grows old mid = record { own = begun.own; trail = begun.kept; more = []; legs = sym (append-nil old.legs) } in
    same_legs c.args.setup.now.shelf.now.base.events old c.requires.legs mid grown refl

pub returns-clause-row : goal.returns-clause-row
returns-clause-row c =
    let shelf = c.args.setup.now.shelf.now in
    let begun = c.in_ok-begun.ensures in
    let rest = c.in_ok-rest.ensures in
    let closed = c.in_ok-link.ensures in
    let mid : Store = record { trail = all_of c.begin_row_after.new.simulation.trail; legs = c.args.self.now.legs.items } in
    let over = store_in c.rest.new.self in
    let goes : IsRestOf c.args.setup.now.app.now shelf.limits c.args.setup.now.view.now shelf.base
    mid over c.args.point.now c.begin_row_after.new.simulation.kernel c.in_ok-rest.rest =
    rest.rest in
    reached_row c.args.setup.now.app.now shelf.limits c.args.setup.now.view.now shelf.base c.requires.setup.is_base
    c.args.point.now (store_in c.args.self.now) mid over c.begin_row_after.new.simulation.kernel c.in_ok-begun.begun
    c.requires.legs begun.begun refl c.in_ok-rest.rest goes (ap (λ v. v.items) rest.legs)
    (store_in c.close.new.self) begun.before c.requires.beyond c.requires.reached
    (sym c.shows_events.ensures ∙ c.if-not-shows_events.false)
    (ap all_of closed.trail) closed.legs _ c.len-from.ensures _ closed.link

pub returns-clause-visited : goal.returns-clause-visited
returns-clause-visited c =
    let app = c.args.setup.now.app.now in
    let view = c.args.setup.now.view.now in
    let shelf = c.args.setup.now.shelf.now in
    let begun = c.in_ok-begun.ensures in
    let rest = c.in_ok-rest.ensures in
    let closed = c.in_ok-link.ensures in
    let mid : Store = record { trail = all_of c.begin_row_after.new.simulation.trail; legs = c.args.self.now.legs.items } in
    let over = store_in c.rest.new.self in
    let new = store_in c.close.new.self in
    let goes : IsRestOf app shelf.limits view shelf.base mid over c.args.point.now
    c.begin_row_after.new.simulation.kernel c.in_ok-rest.rest =
    rest.rest in
    let legs =
    its_legs app shelf.limits view shelf.base c.requires.setup.is_base c.args.point.now
    (store_in c.args.self.now) mid over c.begin_row_after.new.simulation.kernel c.in_ok-begun.begun
    c.requires.legs begun.begun refl c.in_ok-rest.rest goes (ap (λ v. v.items) rest.legs) in
    let still =
    still_visited app shelf.limits view shelf.base (store_in c.args.self.now) new c.requires.legs
    (returns-clause-row c).grows c.args.self.now.table.visited.items c.requires.visited in
    let before = subst (λ (t : VisitedStates). AreVisited app shelf.limits view shelf.base new t.visited.items)
    (sym rest.table) still in
    closed.visited app shelf.limits view shelf.base new before
    (all_closed app shelf.limits view shelf.base over new c.in_ok-rest.rest legs
    (ap all_of closed.trail) closed.legs c.rest.new.self.passed.items rest.passed)

pub returns-then-not-shows_events-clause-row : goal.returns-then-not-shows_events-clause-row
returns-then-not-shows_events-clause-row c =
    let shelf = c.args.setup.now.shelf.now in
    let begun = c.in_ok-begun.ensures in
    let rest = c.in_ok-rest.ensures in
    let closed = c.close_without_events.ensures in
    let mid : Store = record { trail = all_of c.begin_row_after.new.simulation.trail; legs = c.args.self.now.legs.items } in
    let over = store_in c.rest.new.self in
    let goes : IsRestOf c.args.setup.now.app.now shelf.limits c.args.setup.now.view.now shelf.base
    mid over c.args.point.now c.begin_row_after.new.simulation.kernel c.in_ok-rest.rest =
    rest.rest in
    let at_end = subst (λ (b : Run). c.end_of_base.result ≡ links.Base (length b.events)) c.base-base.ensures
    c.end_of_base.ensures in
    bare_row c.args.setup.now.app.now shelf.limits c.args.setup.now.view.now shelf.base c.requires.setup.is_base
    c.args.point.now (store_in c.args.self.now) mid over c.begin_row_after.new.simulation.kernel c.in_ok-begun.begun
    c.requires.legs begun.begun refl c.in_ok-rest.rest goes (ap (λ v. v.items) rest.legs)
    (store_in c.close_without_events.new.self) c.requires.reached
    (sym c.shows_events.ensures ∙ c.if-not-shows_events.true) _
    c.len-from.ensures closed.trail (ap (λ v. v.items) closed.legs) _ at_end

pub returns-then-not-shows_events-clause-visited : goal.returns-then-not-shows_events-clause-visited
returns-then-not-shows_events-clause-visited c =
    let app = c.args.setup.now.app.now in
    let view = c.args.setup.now.view.now in
    let shelf = c.args.setup.now.shelf.now in
    let rest = c.in_ok-rest.ensures in
    let closed = c.close_without_events.ensures in
    let over = store_in c.rest.new.self in
    let new = store_in c.close_without_events.new.self in
    let still =
    still_visited app shelf.limits view shelf.base (store_in c.args.self.now) new c.requires.legs
    (returns-then-not-shows_events-clause-row c).grows c.args.self.now.table.visited.items c.requires.visited in
    let before = subst (λ (t : VisitedStates). AreVisited app shelf.limits view shelf.base new t.visited.items)
    (sym rest.table) still in
    closed.visited app shelf.limits view shelf.base new before
    (all_bare app shelf.limits view shelf.base over new _ c.in_ok-rest.rest
    (sym c.shows_events.ensures ∙ c.if-not-shows_events.true) c.rest.new.self.passed.items rest.passed)
