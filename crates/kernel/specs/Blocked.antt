-- Who is neither Ready, nor sleeps, nor is Ended.
use Rattle.std.specs.Prelude.{◌≡◌, ◌||◌, Bool, None, is_some, true}
use Rattle.std.specs.List.{list_any}
use Rattle.model.specs.State.{State, Task}
use Rattle.model.specs.Invariant.{wait_of}
use Rattle.model.specs.Suspension.{can_resume}
use Rattle.groups.specs.StandsFor as groups
use Rattle.groups.specs.StandsFor.{event_wait}
use Rattle.objects.specs.Objects as objects
use Rattle.sched.specs.StandsFor as sched
use Rattle.machine.specs.declared.machine.Machine.{Machine}

-- The task waits at an object, or was woken and isn't Ready yet, or waits for bits, or is suspended.
abbrev pub is_blocked : Task → Bool
is_blocked t = is_some (wait_of t.status) || is_some (event_wait t.status) || can_resume t.status

-- Some task is, in each state that the objects, the groups and the scheduler represent.
abbrev pub IsSomebodyBlocked : Machine → Type 0
IsSomebodyBlocked k = (s : State) → objects.StandsFor k.objects None s → groups.StandsFor k.groups s → sched.StandsFor k.sched s
    → list_any is_blocked s.tasks ≡ true
