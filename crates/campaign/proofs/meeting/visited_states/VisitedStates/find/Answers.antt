use Rattle.std.proofs.Common.{◌≡◌, ◌<◌, List, get_or, length, subst}
use Rattle.model.specs.State.{State}
use Rattle.machine.specs.declared.machine.Machine.{Machine}
use Rattle.machine.specs.StandsFor.{Stands}
use Rattle.campaign.specs.declared.meeting.visited_state.VisitedState.{VisitedState}
use Rattle.campaign.proofs.GoingOn.{rest_found}
use Rattle.campaign.proofs.meeting.visited_states.VisitedStates.find.Goals as goal

pub returns-then-is_at : goal.returns-then-is_at
returns-then-is_at c =
    let state = c.in_ok-state.state.now in
    let visited = c.args.self.now.visited.items in
    let number = c.in_ok-slot.slot.now in
    let lookup = c.in_ok-state.ensures.lookup in
    let below : number < length visited =
    subst (λ (vs : List VisitedState). number < length vs) c.deref-in-loop-probe.ensures.value lookup.3.0 in
    let found : state ≡ get_or visited number state =
    subst (λ (vs : List VisitedState). state ≡ get_or vs number state) c.deref-in-loop-probe.ensures.value lookup.1 in
    rest_found visited number state c.args.kernel.now below found
    (subst (λ (k : Machine). c.args.kernel.now.steps ≡ k.steps) c.deref-then-state-hint.ensures
    (c.is_at.ensures.steps c.if-is_at.true))
    (subst (λ (k : Machine). (s : State) → Stands c.args.kernel.now s → Stands k s) c.deref-then-state-hint.ensures
    (c.is_at.ensures.stands c.if-is_at.true))
