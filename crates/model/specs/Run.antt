-- A run of the kernel, from reset to its end, with handlers injected by a plan.
use Rattle.std.specs.Prelude.{◌≡◌, ℕ, zero, suc, ◌<◌, ◌==◌, ◌&&◌, ◌||◌, Bool, true, false, not, List, [], ◌++◌, map, filter}
use Rattle.std.specs.Prelude.{Option, Some, None, is_some, is_none, nat_lt, nat_le, if◌then◌else◌}
use Rattle.std.specs.List.{list_any, list_all}
use Rattle.std.specs.Option.{option_or}
use Rattle.model.specs.declared.event.Event.{Event}
use Rattle.model.specs.declared.event.End.{End}
use Rattle.model.specs.declared.event.End.TheVariants.{Pass, Ticks, Steps, Stuck}
use Rattle.model.specs.declared.plan.Injection.{Injection}
use Rattle.model.specs.Points.{first_step, first_handler}
use Rattle.model.specs.Application.{Application, Interrupt, Limits, without_endless, is_any_awaited}
use Rattle.model.specs.State.{State, Source, Task, wake_time_of}
use Rattle.model.specs.Handlers.{can_come}
use Rattle.model.specs.Step.{is_ended, step, reset}

-- Every task but the endless ones has reached the end of its script, and there is one.
abbrev pub are_all_ended : Application → State → Bool
are_all_ended app s = is_any_awaited app && list_all (λ (t : Task). is_ended t.status) (without_endless app.tasks s.tasks)

-- Some task will wake by itself.
abbrev pub will_wake : State → Bool
will_wake s = list_any (λ (t : Task). is_some (wake_time_of t.status)) s.tasks

-- Some base interrupt hasn't come yet, or some handler is raised.
abbrev pub is_interrupt_to_come : Application → State → Bool
is_interrupt_to_come app s =
    list_any (λ (i : Interrupt). nat_lt s.elapsed i.tick) app.interrupts
    || list_any (λ (x : Source). is_some x.raised) s.sources

-- Idle runs, no task will wake by itself, and no interrupt is to come.
abbrev pub is_stuck : Application → State → Bool
is_stuck app s = is_none s.current && not (will_wake s) && not (is_interrupt_to_come app s)

-- the end of a run before the next step: the first of these that holds (profile)
abbrev pub end_of : Application → Limits → State → Option End
end_of app limits s = option_or s.stopped (
    if are_all_ended app s then Some Pass
    else if nat_le limits.ticks s.elapsed then Some Ticks
    else if nat_le limits.steps s.steps then Some Steps
    else if is_stuck app s then Some Stuck
    else None)

-- the handlers that a plan injects before the step of this number, in its order
abbrev pub injected : List Injection → ℕ → List ℕ
injected plan n = map (λ (i : Injection). i.handler) (filter (λ (i : Injection). i.step == n) plan)

-- the state after this many steps
abbrev pub state_after : Application → Limits → List Injection → ℕ → State
state_after app limits plan zero = reset app
state_after app limits plan (suc n) = step app limits (injected plan n) (state_after app limits plan n)

-- the events of the first steps
abbrev pub events_after : Application → Limits → List Injection → ℕ → List Event
events_after app limits plan zero = []
events_after app limits plan (suc n) = events_after app limits plan n ++ (state_after app limits plan (suc n)).log

-- the result of a run: its events, steps and elapsed ticks, and its end
pub record Run : Type 0 where
  pub events : List Event
  pub steps : ℕ
  pub ticks : ℕ
  pub end : End

-- The run of the application with this plan, under these limits, is this one.
pub record IsRun (app : Application) (plan : List Injection) (limits : Limits) (run : Run) : Type 0 where
  pub goes_on : (n : ℕ) → n < run.steps → end_of app limits (state_after app limits plan n) ≡ None
  pub ends : end_of app limits (state_after app limits plan run.steps) ≡ Some run.end
  pub trace : run.events ≡ events_after app limits plan run.steps
  pub elapsed : run.ticks ≡ (state_after app limits plan run.steps).elapsed

-- A point is reached if the base run, into which nothing is injected and which has this many steps, gets beyond the step of its
-- first injection, and that can come there.
abbrev pub is_reached : Application → Limits → (point : List Injection) → (steps : ℕ) → Bool
is_reached app limits point steps =
    nat_lt (first_step point) steps && can_come (state_after app limits [] (first_step point)) (first_handler point)

-- The row of a point. If the point is reached, it is the run with all its injections; those at or past its end, and those that
-- can't come, do nothing. Otherwise it is the base run.
abbrev pub IsRow : Application → Limits → (point : List Injection) → (reached : Bool) → (row : Run) → Type 0
IsRow app limits point true row =
    (base : Run) × IsRun app [] limits base × (is_reached app limits point base.steps ≡ true) × IsRun app point limits row
IsRow app limits point false row = IsRun app [] limits row × (is_reached app limits point row.steps ≡ false)
