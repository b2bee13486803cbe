use Rattle.std.proofs.Common.{ℕ, Option, Some, refl, ap, sym, subst, ◌∙◌}
use Rattle.std.proofs.lemmas.Option.{same_Some}
use Rattle.model.specs.declared.call.WaitList.{WaitList}
use Rattle.model.specs.State.{Progress, State}
use Rattle.sched.specs.Schedule.{Schedule, priority_in}
use Rattle.clock.specs.StandsFor as clock
use Rattle.objects.specs.Objects as objects
use Rattle.objects.proofs.Free.{still_free}
use Rattle.machine.specs.StandsFor.{Stands, StandsBefore, StandsFor, decider}
use Rattle.machine.specs.StandsFor.Stands.{Placed, Placing}
use Rattle.ops.proofs.Deciding.{placed_at}
use Rattle.model.specs.declared.call.Phase.TheVariants.{Unlock}
use Rattle.model.specs.State.{go_on}
use Rattle.kernel.proofs.end_state.place.Goals as goal

pub place-requires-clause-free : goal.place-requires-clause-free
place-requires-clause-free c =
    still_free c.args.machine.now.objects c.requires.state
    (decider c.args.task c.requires.list c.requires.state) c.requires.stands.objects

pub returns : goal.returns
returns c = λ s h.
    let k = c.args.machine.now in
    let i : ℕ = c.args.task in
    let runs = c.requires.stands.sched.current ∙ c.requires.stands.current in
    by_stands s h where
      by_stands : (s : State) → Stands c.args.machine.now s → StandsFor c.set_phase.new.self (go_on c.args.task Unlock s)
      by_stands s (Placed p) =
          absurd (p.rest.placed c.args.task
          (ap (λ (x : Progress). x.call.phase) (c.requires.stands.progress c.args.task) ∙ c.requires.stands.phase))
      by_stands s (Placing j list b) =
          let k = c.args.machine.now in
          let i : ℕ = c.args.task in
          let runs = c.requires.stands.sched.current ∙ c.requires.stands.current in
          let own : StandsBefore i list k s =
          subst (λ (m : ℕ). StandsBefore m list k s) (same_Some j i (sym b.current ∙ sym b.sched.current ∙ runs)) b in
          let view = c.behind-machine.view_is ∙ c.progress.ensures ∙ own.progress i in
          let until = ap (λ (x : Progress). x.call.deadline) view in
          let priority =
          c.priority-priority.ensures.priority
          ∙ ap (λ (v : Schedule). priority_in v.priorities i) c.block.ensures.schedule ∙ own.sched.priorities i in
          (placed_at k s.log s i list own refl c.block.new.self c.place.new.self c.place_sleeper.new.clock k.wait_list
          c.set_phase.new.self
          (c.block.ensures.placed s own.sched)
          (c.place.ensures.stands s (subst
          (λ (w : WaitList).
          objects.StandsFor k.objects (Some (record { task = i; list = w; priority = c.priority-priority.result })) s)
          (sym own.wait_list)
          (subst (λ (n : ℕ). objects.StandsFor k.objects (Some (record { task = i; list = list; priority = n })) s)
          (sym priority) own.objects)))
          (c.place_sleeper.ensures s (subst (λ (d : Option ℕ). clock.StandsBefore i d k.clock s) (sym until) own.clock))
          c.set_phase.ensures).stands
