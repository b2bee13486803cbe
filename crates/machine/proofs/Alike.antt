-- Kernels that are alike represent the same states.
use Rattle.std.proofs.Common.{◌≡◌, ◌≤◌, ◌∙◌, ℕ, ap, length, subst, arith}
use Rattle.std.proofs.Math.ListN.{get_or-eq_default}
use Rattle.model.specs.State.{State, Task, no_task}
use Rattle.groups.specs.StandsFor as groups
use Rattle.machine.specs.declared.machine.Machine.{Machine}
use Rattle.machine.specs.StandsFor.{AreBlankFrom, AreSources, Stands, released_ticks}
use Rattle.machine.specs.StandsFor.Stands.{Placed, Placing}
use Rattle.machine.proofs.Either.{progress_is}

-- After the tasks of a state that it represents a kernel keeps nothing.
pub blank_behind : (k : Machine) (s : State) (tasks : ℕ) → Stands k s → length s.tasks ≤ tasks → AreBlankFrom tasks k.progress
blank_behind k s tasks h few task behind =
    progress_is k s h task ∙ ap (λ (t : Task). t.progress) (get_or-eq_default s.tasks no_task (omega (arith, few, behind)))

-- It represents the state too with other groups and other sources that do so.
pub with_others : (k j : Machine) (s : State) → k ≡ record j { groups = k.groups; sources = k.sources }
    → (groups.StandsFor k.groups s → groups.StandsFor j.groups s)
    → (AreSources (released_ticks s) k.sources s.sources → AreSources (released_ticks s) j.sources s.sources)
    → Stands k s → Stands j s
with_others k j s alike other these h = regrouped (subst (λ (m : Machine). Stands m s) alike h) where
  regrouped : Stands (record j { groups = k.groups; sources = k.sources }) s → Stands j s
  regrouped (Placed p) = Placed (record {
    sched = p.sched;
    rest = record {
      progress = p.rest.progress;
      full = p.rest.full;
      clock = p.rest.clock;
      objects = p.rest.objects;
      groups = other p.rest.groups;
      awake = p.rest.awake;
      notifications = p.rest.notifications;
      variables = p.rest.variables;
      sources = these p.rest.sources;
      sections = p.rest.sections;
      steps = p.rest.steps;
      stopped = p.rest.stopped;
      placed = p.rest.placed;
    };
  })
  regrouped (Placing task list b) = Placing task list (record {
    sched = b.sched;
    clock = b.clock;
    objects = b.objects;
    groups = other b.groups;
    awake = b.awake;
    progress = b.progress;
    full = b.full;
    notifications = b.notifications;
    variables = b.variables;
    sources = these b.sources;
    sections = b.sections;
    steps = b.steps;
    stopped = b.stopped;
    current = b.current;
    held = b.held;
    phase = b.phase;
    wait_list = b.wait_list;
    placed = b.placed;
  })
