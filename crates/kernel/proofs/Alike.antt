-- Kernels that keep nothing behind their application's tasks, and kernels that represent the same states.
use Rattle.std.proofs.Common.{◌≡◌, ◌++◌, ℕ, List, length, subst, sym, arith}
use Rattle.model.specs.declared.plan.Injection.{Injection}
use Rattle.model.specs.Application.{Application, Limits}
use Rattle.model.specs.Scripts.{IsWellFormed}
use Rattle.model.specs.State.{State}
use Rattle.model.specs.Run.{Run, IsRun, events_after, state_after}
use Rattle.soundness.proofs.Reached.{reached_after}
use Rattle.machine.specs.declared.machine.Machine.{Machine}
use Rattle.machine.specs.StandsFor.{AreBlankFrom, Stands}
use Rattle.machine.specs.StandsFor.Stands.{Placed, Placing}
use Rattle.machine.specs.Can.{IsUnderWay}
use Rattle.machine.proofs.Alike.{blank_behind}
use Rattle.kernel.specs.Rests.{IsRest}

-- A kernel that represents a state has room for 32 tasks.
pub full_of : (k : Machine) (s : State) → Stands k s → length k.progress ≡ 32
full_of k s (Placed h) = h.rest.full
full_of k s (Placing task list b) = b.full

-- Where a run is under way nobody behind the application's tasks has done anything.
pub blank_on_the_way : (app : Application) → IsWellFormed app → (limits : Limits) (plan : List Injection) (k : Machine)
    → IsUnderWay app plan limits k → AreBlankFrom (length app.tasks) k.progress
blank_on_the_way app formed limits plan k way =
    let reached = reached_after app formed limits plan k.steps in
    let as_many = reached.sound.tasks in
    blank_behind k (state_after app limits plan k.steps) (length app.tasks) way.stands (omega (arith, as_many))

-- A run that is under way at a kernel is so at one that represents the same states before the same step.
pub way_alike : (app : Application) (limits : Limits) (plan : List Injection) (k j : Machine) → k.steps ≡ j.steps
    → ((s : State) → Stands k s → Stands j s) → IsUnderWay app plan limits k → IsUnderWay app plan limits j
way_alike app limits plan k j steps alike way = record {
  stands = subst (λ (n : ℕ). Stands j (state_after app limits plan n)) steps (alike _ way.stands);
  goes_on = λ n below. way.goes_on n (omega (arith, steps, below));
}

-- So the rest of each run is that of the other one.
pub rest_alike : (app : Application) (limits : Limits) (k j : Machine) (rest : Run) → k.steps ≡ j.steps
    → ((s : State) → Stands k s → Stands j s) → IsRest app limits j rest → IsRest app limits k rest
rest_alike app limits k j rest steps alike there = record {
  of_each = λ plan way past.
      subst (λ (n : ℕ). IsRun app plan limits (record {
        events = events_after app limits plan n ++ rest.events;
        steps = rest.steps;
        ticks = rest.ticks;
        end = rest.end;
      })) (sym steps)
      (there.of_each plan (way_alike app limits plan k j steps alike way) (λ n from. past n (omega (arith, steps, from))));
}
