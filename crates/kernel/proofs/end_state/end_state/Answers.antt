use Rattle.std.proofs.Common.{ℕ, List, length, ◌∙◌, ap, ap₂, sym}
use Rattle.model.specs.declared.end_state.HeldMutex.{HeldMutex}
use Rattle.model.specs.declared.end_state.Situation.{Situation}
use Rattle.model.specs.EndStates.{EndState, held_from, situations_of}
use Rattle.kernel.proofs.end_state.end_state.Goals as goal

pub returns : goal.returns
returns c = λ s reached h.
    let settled = c.settle_lists.ensures s reached h in
    let t = settled.state in
    let rest = settled.stands.rest in
    let held = c.held_mutexes-held.ensures t rest.objects (settled.objects ∙ ap length (sym c.objects.ensures)) in
    let opened = c.take_awake-awake.ensures t rest.objects rest.awake in
    let told =
    c.situations-situations.ensures t
    (record { sched = settled.stands.sched; clock = rest.clock; groups = rest.groups; objects = opened; progress = rest.progress })
    (settled.tasks ∙ ap length (sym c.tasks.ensures)) in
    let values = c.to_array-variables.ensures ∙ rest.variables in
    let all : List Situation → List HeldMutex → List ℕ → EndState = λ xs ys zs.
    record { situations = xs; held = ys; variables = zs } in
    ap₂ (λ xs ys. all xs ys c.to_array-variables.result.items) told held
    ∙ ap (all (situations_of t) (held_from 0 t.objects)) values
    ∙ settled.same
