use Rattle.std.proofs.Common.{◌≡◌, ◌∙◌, ◌+◌, ℕ, List, ◌++◌, ap, arith, refl, subst, sym}
use Rattle.std.proofs.lemmas.List.Sums.{fold-append}
use Rattle.model.specs.Application.{Application, interrupts_at}
use Rattle.model.specs.State.{State, for_each}
use Rattle.model.specs.Handlers.{come, interrupt, none_raised_now, raised_now}
use Rattle.machine.specs.StandsFor.{At, AtAny}
use Rattle.machine.specs.StandsFor.Stands.{Placed}
use Rattle.machine.specs.Can.{Leaves}
use Rattle.machine.proofs.Renewed.{stood_after}
use Rattle.ops.specs.Can.{HasObjects}
use Rattle.ops.proofs.Calling.{leaves_both}
use Rattle.kernel.proofs.Handling.{room_after}
use Rattle.kernel.proofs.handlers.interrupt_with_raised.Goals as goal

pub come_if_due-requires-clause-stands : goal.come_if_due-requires-clause-stands
come_if_due-requires-clause-stands g c =
    let s : State = c.requires.stands.0 in
    (none_raised_now s, (c.take_raised.ensures.any s.log s (record { stands = c.requires.stands.1; log = refl })).stands)

pub come_if_due-requires-clause-objects : goal.come_if_due-requires-clause-objects
come_if_due-requires-clause-objects g c =
    subst (HasObjects c.args.app.now) (sym c.take_raised.ensures.rest) (λ o a fit. c.requires.objects o a fit)

pub come_raised-requires-clause-stands : goal.come_raised-requires-clause-stands
come_raised-requires-clause-stands g c =
    let s : State = c.requires.stands.0 in
    stood_after _ _ c.come_if_due.new.machine _ _ _
    (none_raised_now s, (c.take_raised.ensures.any s.log s (record { stands = c.requires.stands.1; log = refl })).stands)
    c.come_if_due.ensures.any

pub come_raised-requires-clause-objects : goal.come_raised-requires-clause-objects
come_raised-requires-clause-objects g c =
    room_after c.args.app.now c.take_raised.new.self c.come_if_due.new.machine
    (subst (HasObjects c.args.app.now) (sym c.take_raised.ensures.rest) (λ o a fit. c.requires.objects o a fit))
    c.come_if_due.ensures.leaves

-- The base interrupts come, and then those that were raised before them.
in_turn : (app : Application) (s : State) (raised : List ℕ) → raised_now s ≡ raised
    → for_each (come app) raised (for_each (come app) (interrupts_at app s.elapsed) (none_raised_now s)) ≡ interrupt app s
unfolding interrupt
in_turn app s raised is =
    sym (fold-append (λ t one. come app one t) (none_raised_now s) (interrupts_at app s.elapsed) raised)
    ∙ ap (λ (handlers : List ℕ). for_each (come app) (interrupts_at app s.elapsed ++ handlers) (none_raised_now s)) (sym is)

pub returns-clause-does : goal.returns-clause-does
returns-clause-does g c = record {
  at = λ s h.
      subst (At c.come_raised.new.machine (g.L.Log.logged c.come_raised.new.log).told)
      (in_turn c.args.app.now s _ (c.take_raised.ensures.were s (Placed h.stands)))
      (c.come_raised.ensures.does.at _ (c.come_if_due.ensures.does.at _ (c.take_raised.ensures.does _ s h)));
  few = let a = c.come_if_due.ensures.does.few in let b = c.come_raised.ensures.does.few in omega arith;
  before = c.come_raised.ensures.does.before ∙ c.come_if_due.ensures.does.before;
}

pub returns-clause-any : goal.returns-clause-any
returns-clause-any g c = record {
  at = λ s h.
      subst (AtAny c.come_raised.new.machine (g.L.Log.logged c.come_raised.new.log).told)
      (in_turn c.args.app.now s _ (c.take_raised.ensures.were s h.stands))
      (c.come_raised.ensures.any.at _ (c.come_if_due.ensures.any.at _ (c.take_raised.ensures.any _ s h)));
  few = let a = c.come_if_due.ensures.any.few in let b = c.come_raised.ensures.any.few in omega arith;
  before = c.come_raised.ensures.any.before ∙ c.come_if_due.ensures.any.before;
}

pub returns-clause-leaves : goal.returns-clause-leaves
returns-clause-leaves g c =
    let taken : Leaves c.args.machine.now c.take_raised.new.self =
    subst (Leaves c.args.machine.now) (sym c.take_raised.ensures.rest) (record { depth = refl; objects = λ o a h. h }) in
    leaves_both c.args.machine.now c.take_raised.new.self c.come_raised.new.machine taken
    (leaves_both c.take_raised.new.self c.come_if_due.new.machine c.come_raised.new.machine c.come_if_due.ensures.leaves
    c.come_raised.ensures.leaves)
