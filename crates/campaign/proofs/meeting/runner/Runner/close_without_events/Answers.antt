use Rattle.std.proofs.Common.{◌≡◌, ℕ, length, rules, subst, sym}
use Rattle.std.specs.List.{AllByRecursion}
use Rattle.campaign.specs.declared.meeting.visited_state.Passed.{Passed}
use Rattle.campaign.specs.Visited.{rest_from}
use Rattle.campaign.specs.Working.{IsRestIn}
use Rattle.campaign.proofs.meeting.runner.Runner.close_without_events.Goals as goal

pub returns-clause-visited : goal.returns-clause-visited
returns-clause-visited c = λ app limits view base store are all.
    let number : c.len-number.result ≡ length c.args.self.now.legs.items = search rules in
    c.put_visited.ensures.visited app limits view base store are
    (subst (λ (n : ℕ).
    AllByRecursion (λ (p : Passed). IsRestIn app limits view base store p.kernel.value (rest_from n c.args.rest.now p))
    c.args.self.now.passed.items)
    (sym number) all)
