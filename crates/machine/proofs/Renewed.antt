-- Steps and events are another's: what that makes of the states that the kernel represents.
use Rattle.std.proofs.Common.{◌≡◌, ℕ, List, [], ◌∷◌, ◌++◌, Option, Some, refl, ap, subst, ◌∙◌}
use Rattle.std.specs.Option.{option_or}
use Rattle.model.specs.declared.event.End.{End}
use Rattle.model.specs.declared.event.Event.{Event}
use Rattle.model.specs.State.{State, printed}
use Rattle.model.specs.Ops.{fail}
use Rattle.model.specs.Switching.{write}
use Rattle.model.specs.declared.call.WaitList.{WaitList}
use Rattle.model.specs.Step.{step}
use Rattle.machine.specs.declared.machine.Machine.{Machine}
use Rattle.machine.specs.StandsFor.{StandsBefore, Stands, AtAny, DoesAny}
use Rattle.machine.specs.Logged.{Logged}
use Rattle.machine.specs.Can.{StandsForSome}
use Rattle.machine.specs.StandsFor.Stands.{Placed, Placing}
use Rattle.machine.proofs.Parts.{stands-unseen}
use Rattle.machine.proofs.Beside.{before_with}
use Rattle.machine.proofs.Either.{steps_are, now_is}

begun_before : (k : Machine) (s : State) (task : ℕ) (list : WaitList) → StandsBefore task list k s
    → (log : List Event) (steps n : ℕ) (stopped end : Option End) → n ≡ steps → end ≡ stopped
    → StandsBefore task list (record k { steps = n; stopped = end }) (record s { log = log; steps = steps; stopped = stopped })
begun_before k s task list b log steps n stopped end e same_end =
    subst (λ (values : List ℕ). StandsBefore task list (record k { steps = n; stopped = end })
    (record s { variables = values; log = log; steps = steps; stopped = stopped }))
    b.variables (before_with k s task list b log steps n stopped end e same_end k.sources s.sources b.sources k.variables
    k.notifications s.notifications b.notifications)

-- steps and events are another's
pub renewed : (k : Machine) (s : State) → Stands k s → (log : List Event) (steps : ℕ) (n : ℕ)
    → n ≡ steps → Stands (record k { steps = n }) (record s { log = log; steps = steps })
renewed k s (Placed h) log steps n e = Placed (stands-unseen k s h log steps n s.stopped k.stopped e h.rest.stopped)
renewed k s (Placing task list b) log steps n e =
    Placing task list (begun_before k s task list b log steps n s.stopped k.stopped e b.stopped)

-- a check fails in the step
pub failed_any : (k : Machine) (s : State) → Stands k s → (check : End)
    → Stands (record k { stopped = option_or k.stopped (Some check) }) (fail check s)
failed_any k s (Placed h) check =
    Placed (stands-unseen k s h s.log s.steps k.steps (option_or s.stopped (Some check)) (option_or k.stopped (Some check))
    h.rest.steps (ap (λ (o : Option End). option_or o (Some check)) h.rest.stopped))
failed_any k s (Placing task list b) check =
    Placing task list (begun_before k s task list b s.log s.steps k.steps (option_or s.stopped (Some check))
    (option_or k.stopped (Some check)) b.steps (ap (λ (o : Option End). option_or o (Some check)) b.stopped))

-- an event is reported
pub any_written : (k : Machine) (log new_log : List Event) (s : State) (e : Event) → AtAny k log s
    → new_log ≡ log ++ e ∷ [] → e.step ≡ k.steps → e.tick ≡ printed k.clock.now → AtAny k new_log (write e.what s)
any_written k log new_log s e h told step tick = record {
  stands = renewed k s h.stands (write e.what s).log s.steps k.steps (steps_are k s h.stands);
  log =
      told
      ∙ rw h.log (ap (λ (x : Event). s.log ++ x ∷ [])
      (event_same e s.steps (printed s.time) (step ∙ steps_are k s h.stands) (tick ∙ ap printed (now_is k s h.stands))));
} where
  event_same : (e : Event) (n m : ℕ) → e.step ≡ n → e.tick ≡ m → e ≡ record { step = n; tick = m; what = e.what }
  event_same e n m a b = ap (λ (x : ℕ). record e { step = x }) a ∙ ap (λ (x : ℕ). record e { step = n; tick = x }) b

-- It represents some state after a deed, as before it.
pub stood_after : (count : ℕ) (old new : Machine) (old_log new_log : Logged) (deed : State → State)
    → StandsForSome old → DoesAny count old old_log new new_log deed → StandsForSome new
stood_after count old new old_log new_log deed h d =
    let s : State = record (h.0) { log = old_log.told } in (
      deed s,
      (d.at s
          (record { stands = renewed old h.0 h.1 old_log.told (h.0).steps old.steps (steps_are old h.0 h.1); log = refl })).stands,
    )
