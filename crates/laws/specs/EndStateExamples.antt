-- Worked examples of the end state: applications, injections, and the state after this many steps.
use Rattle.model.specs.declared.value.Arithmetic.TheVariants.{Add}
use Rattle.model.specs.declared.value.Value.TheVariants.{Number, Answer}
use Rattle.std.specs.Prelude.{◌≡◌, ℕ, List, [], ◌∷◌, Some, None, codes}
use Rattle.model.specs.declared.object.ObjectKind.TheVariants.{Queue, Mutex}
use Rattle.model.specs.declared.op.Access.TheVariants.{Receive}
use Rattle.model.specs.declared.op.Op.TheVariants.{Work, Delay, Suspend, Time}
use Rattle.model.specs.declared.op.IsrOp.TheVariants as isr_op
use Rattle.model.specs.declared.plan.Injection.{Injection}
use Rattle.model.specs.Application.{Application}
use Rattle.model.specs.Run.{state_after}
use Rattle.model.specs.declared.end_state.Situation.TheVariants.{Runs, Ready, Awake, Waits, Sleeps, Suspended, Ended}
use Rattle.model.specs.EndStates.{EndState, end_state_of, held_by}
use Rattle.laws.specs.Examples.{a_task, a_task_of, on_queue, a, b, c, with_objects}
use Rattle.laws.specs.HandlerExamples.{a_handler, point_at, sends, with_handler}
use Rattle.laws.specs.ValueExamples.{compute, isr_store, load, store, task_alone, with_variables, x, y}
use Rattle.laws.specs.MutexExamples.{lock, lock_forever, m, n}
use Rattle.laws.specs.DaemonExamples.{deferred}
use Rattle.laws.specs.NotificationExamples.{alone_with, wait_clearing}

-- ---- words

-- an application, its injections, and the state after this many steps
pub record Stopped : Type 0 where
  pub app : Application
  pub plan : List Injection
  pub steps : ℕ
  pub stands : EndState

-- The state after the steps is the given one.
abbrev pub StandsSo : Stopped → Type 0
StandsSo e = end_state_of (state_after e.app e.app.limits e.plan e.steps) ≡ e.stands

-- ---- in a call

-- a receive that waits until tick 9, and a handler that sends
abbrev pub one_wait : Application
one_wait = with_handler (Queue 1 ∷ []) (sends 0 7 ∷ []) (a_task (codes "a") (on_queue Receive 9 ∷ []) ∷ [])

-- The task has tried, and is still running.
abbrev pub tried : Stopped
tried = record { app = one_wait; plan = []; steps = 1; stands = record { situations = Runs 0 ∷ []; held = []; variables = [] } }

-- It has decided to wait, and isn't in its list yet.
abbrev pub decided : Stopped
decided = record {
  app = one_wait;
  plan = [];
  steps = 2;
  stands = record { situations = Waits 0 (Some 9) ∷ []; held = []; variables = [] };
}

-- It is in its list, and the queue is locked.
abbrev pub placed : Stopped
placed = record {
  app = one_wait;
  plan = [];
  steps = 3;
  stands = record { situations = Waits 0 (Some 9) ∷ []; held = []; variables = [] };
}

-- The handler sent an item before the task was put into its list.
abbrev pub woken : Stopped
woken = record {
  app = one_wait;
  plan = point_at 2;
  steps = 3;
  stands = record { situations = Awake 0 ∷ []; held = []; variables = [] };
}

-- The queue is unlocked, and the call still holds the scheduler.
abbrev pub unlocked : Stopped
unlocked = record {
  app = one_wait;
  plan = point_at 2;
  steps = 4;
  stands = record { situations = Runs 0 ∷ []; held = []; variables = [] };
}

-- ---- mutexes

-- Two tasks lock two mutexes in opposite order.
abbrev pub opposite_locks : Application
opposite_locks = with_objects (Mutex ∷ Mutex ∷ []) (
    a_task_of 2 (codes "a") (Delay 1 ∷ lock_forever n ∷ lock_forever m ∷ [])
    ∷ a_task_of 1 (codes "b") (lock m 0 ∷ Work 2 ∷ lock_forever n ∷ []) ∷ [])

abbrev pub stuck : Stopped
stuck = record {
  app = opposite_locks;
  plan = [];
  steps = 15;
  stands = record { situations = Waits 2 None ∷ Waits 2 None ∷ []; held = held_by m b ∷ held_by n a ∷ []; variables = [] };
}

-- the same, with a task that suspends itself, one that only reads the time, and one that computes; the handler resumes the first
-- of these
abbrev pub five_tasks : Application
five_tasks =
    let app = with_objects (Mutex ∷ Mutex ∷ []) (
    a_task_of 2 (codes "a") (Delay 1 ∷ lock_forever n ∷ lock_forever m ∷ [])
    ∷ a_task_of 1 (codes "b") (lock m 0 ∷ Work 2 ∷ lock n 5 ∷ [])
    ∷ a_task_of 3 (codes "c") (Suspend c ∷ Delay 7 ∷ []) ∷ a_task_of 1 (codes "e") (Time ∷ [])
    ∷ a_task_of 0 (codes "f") (Work 50 ∷ []) ∷ []) in
    record app { handlers = a_handler (codes "h") (isr_op.Resume c ∷ []) ∷ [] }

-- A task is suspended, and another sleeps, while two are Ready.
abbrev pub begun : Stopped
begun = record {
  app = five_tasks;
  plan = [];
  steps = 3;
  stands = record {
    situations = Sleeps 1 1 ∷ Runs 1 ∷ Suspended 1 ∷ Ready 0 ∷ Ready 0 ∷ [];
    held = held_by m b ∷ [];
    variables = [];
  };
}

abbrev pub waiting : Stopped
waiting = record {
  app = five_tasks;
  plan = [];
  steps = 19;
  stands =
      record {
        situations = Waits 2 None ∷ Waits 2 (Some 7) ∷ Suspended 1 ∷ Ended ∷ Runs 0 ∷ [];
        held = held_by m b ∷ held_by n a ∷ [];
        variables = [];
      };
}

abbrev pub resumed : Stopped
resumed = record {
  app = five_tasks;
  plan = point_at 3;
  steps = 20;
  stands = record {
    situations = Waits 2 None ∷ Waits 2 (Some 7) ∷ Ended ∷ Ended ∷ Runs 0 ∷ [];
    held = held_by m b ∷ held_by n a ∷ [];
    variables = [];
  };
}

-- ---- bits

-- The daemon waits for a command, and the task for bits.
abbrev pub nobody_sets : Stopped
nobody_sets = record {
  app = deferred;
  plan = [];
  steps = 7;
  stands = record { situations = Waits 0 None ∷ Waits 0 None ∷ []; held = []; variables = [] };
}

-- ---- notifications

-- The task has begun to wait for one, until tick 9.
abbrev pub nobody_notifies : Stopped
nobody_notifies = record {
  app = alone_with (wait_clearing 0 0 9 ∷ []);
  plan = [];
  steps = 1;
  stands = record { situations = Waits 0 (Some 9) ∷ []; held = []; variables = [] };
}

-- ---- variables

-- A task locks a mutex, loads a variable, adds 4 and stores the sum to another variable. A handler stores to the first.
abbrev pub stores : Application
stores =
    with_variables (3 ∷ 0 ∷ []) (with_handler (Mutex ∷ []) (isr_store x (Number 1) ∷ []) (
    a_task (codes "a") (lock m 0 ∷ load x ∷ compute Add (Number 4) ∷ store y Answer ∷ []) ∷ []))

-- The handler stored its value before the load.
abbrev pub both_stored : Stopped
both_stored = record {
  app = stores;
  plan = point_at 1;
  steps = 4;
  stands = record { situations = Ended ∷ []; held = held_by m a ∷ []; variables = 1 ∷ 5 ∷ [] };
}

-- The task stores the last answer, which is `none`.
abbrev pub nothing_stored : Stopped
nothing_stored = record {
  app = task_alone (3 ∷ []) (store x Answer ∷ []);
  plan = [];
  steps = 1;
  stands = record { situations = Runs 0 ∷ []; held = []; variables = 3 ∷ [] };
}

-- ---- the table

abbrev pub end_states : List Stopped
end_states =
    tried ∷ decided ∷ placed ∷ woken ∷ unlocked ∷ stuck ∷ begun ∷ waiting ∷ resumed ∷ nobody_sets
    ∷ nobody_notifies ∷ both_stored ∷ nothing_stored ∷ []
