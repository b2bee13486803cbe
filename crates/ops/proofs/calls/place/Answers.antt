use Rattle.std.proofs.Common.{ℕ, Option, Some, ap, sym, subst, ◌∙◌}
use Rattle.std.proofs.lemmas.Option.{same_Some}
use Rattle.model.specs.declared.call.WaitList.{WaitList}
use Rattle.model.specs.State.{Progress}
use Rattle.sched.specs.Schedule.{Schedule, priority_in}
use Rattle.clock.specs.StandsFor as clock
use Rattle.objects.specs.Objects as objects
use Rattle.objects.proofs.Free.{still_free}
use Rattle.machine.specs.StandsFor.{StandsBefore, decider}
use Rattle.machine.proofs.Either.{either}
use Rattle.ops.proofs.Deciding.{placed_at}
use Rattle.ops.proofs.calls.place.Goals as goal

pub place-requires-clause-free : goal.place-requires-clause-free
place-requires-clause-free c =
    still_free c.args.machine.now.objects c.requires.state
    (decider c.args.task c.requires.list c.requires.state) c.requires.stands.objects

pub returns-clause-does : goal.returns-clause-does
returns-clause-does c = λ log s h.
    let k = c.args.machine.now in
    let i : ℕ = c.args.task in
    let runs = c.requires.stands.sched.current ∙ c.requires.stands.current in
    either k log s h
    (λ p.
    absurd (p.stands.rest.placed i (ap (λ (x : Progress). x.call.phase) (c.requires.stands.progress i) ∙ c.requires.stands.phase)))
    (λ j list b.
    let own : StandsBefore i list k s =
    subst (λ (m : ℕ). StandsBefore m list k s) (same_Some j i (sym b.current ∙ sym b.sched.current ∙ runs)) b in
    let view = c.behind-machine.view_is ∙ c.progress.ensures ∙ own.progress i in
    let until = ap (λ (x : Progress). x.call.deadline) view in
    let priority =
    c.priority-priority.ensures.priority
    ∙ ap (λ (v : Schedule). priority_in v.priorities i) c.block.ensures.schedule ∙ own.sched.priorities i in
    placed_at k log s i list own h.log c.block.new.self c.place.new.self c.place_sleeper.new.clock _ c.set_phase.new.self
    (c.block.ensures.placed s own.sched)
    (c.place.ensures.stands s (subst
    (λ (w : WaitList). objects.StandsFor k.objects (Some (record { task = i; list = w; priority = c.priority-priority.result })) s)
    (sym own.wait_list)
    (subst (λ (n : ℕ). objects.StandsFor k.objects (Some (record { task = i; list = list; priority = n })) s)
    (sym priority) own.objects)))
    (c.place_sleeper.ensures s (subst (λ (d : Option ℕ). clock.StandsBefore i d k.clock s) (sym until) own.clock))
    c.set_phase.ensures)
