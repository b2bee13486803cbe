-- How the kernel goes on along the runs that come to it. The code doesn't know which of them it goes along, so
-- it does the same for each.
use Rattle.std.specs.Prelude.{◌≡◌, ◌<◌, ◌≤◌, ℕ, false, List, [], ◌++◌, None}
use Rattle.model.specs.declared.event.Event.{Event}
use Rattle.model.specs.declared.plan.Injection.{Injection}
use Rattle.model.specs.Application.{Application, Limits}
use Rattle.model.specs.Run.{end_of, injected, state_after}
use Rattle.machine.specs.declared.machine.Machine.{Machine}
use Rattle.machine.specs.Can.{IsUnderWay, NonePends}
use Rattle.kernel.specs.Over.{is_over}
use Rattle.kernel.specs.Rows.{events_from}

-- The run with this plan is under way at the kernel. Before this step the plan has no more injections, nothing is pending, and
-- the run ends only where it is over.
pub record IsFree (app : Application) (limits : Limits) (until : ℕ) (k : Machine) (plan : List Injection) : Type 0 where
  pub way : IsUnderWay app plan limits k
  pub alone : (n : ℕ) → k.steps ≤ n → n < until → injected plan n ≡ []
  pub none : k.steps < until → NonePends k
  pub free : (n : ℕ) → k.steps ≤ n → n < until → is_over app limits (state_after app limits plan n) ≡ false
      → end_of app limits (state_after app limits plan n) ≡ None

-- The kernel has gone on, no further than to this step, along each run that was so at the old one.
pub record GoesTo (app : Application) (limits : Limits) (until : ℕ) (old new : Machine) : Type 0 where
  pub way : (plan : List Injection) → IsFree app limits until old plan → IsUnderWay app plan limits new
  pub on : old.steps ≤ new.steps
  pub far : old.steps ≤ until → new.steps ≤ until

-- What each of them reported on the way came behind the events that were kept before.
pub record GoesOn (app : Application) (limits : Limits) (until : ℕ) (old new : Machine) (before after : List Event) : Type 0 where
  pub to : GoesTo app limits until old new
  pub events : (plan : List Injection) → IsFree app limits until old plan
      → after ≡ before ++ events_from app limits plan old.steps new.steps

-- None of them is over where the kernel has come to.
abbrev pub NoneIsOver : Application → Limits → ℕ → Machine → Machine → Type 0
NoneIsOver app limits until old new =
    (plan : List Injection) → IsFree app limits until old plan → is_over app limits (state_after app limits plan new.steps) ≡ false

-- Such a run, which isn't over where the kernel is.
pub record IsGoing (app : Application) (limits : Limits) (until : ℕ) (k : Machine) (plan : List Injection) : Type 0 where
  pub free : IsFree app limits until k plan
  pub going : is_over app limits (state_after app limits plan k.steps) ≡ false

-- The kernel has gone on, no further than to this step, along each run that was so at the old one. What each of them reported on
-- the way came behind the events that were kept before.
pub record GoesFurther (app : Application) (limits : Limits) (until : ℕ)
    (old new : Machine) (before after : List Event) : Type 0 where
  pub way : (plan : List Injection) → IsGoing app limits until old plan → IsUnderWay app plan limits new
  pub on : old.steps ≤ new.steps
  pub far : old.steps ≤ until → new.steps ≤ until
  pub events : (plan : List Injection) → IsGoing app limits until old plan
      → after ≡ before ++ events_from app limits plan old.steps new.steps
