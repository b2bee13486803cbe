-- Worked examples with semaphores and mutexes: applications, and the runs that result.
use Rattle.model.specs.declared.value.Value.TheVariants.{Number}
use Rattle.std.specs.Prelude.{ℕ, List, [], ◌∷◌, Some, None, codes}
use Rattle.model.specs.declared.object.ObjectKind.TheVariants.{Semaphore, Mutex}
use Rattle.model.specs.declared.op.Access.TheVariants.{Take, Give, Lock}
use Rattle.model.specs.declared.op.Op.{Op}
use Rattle.model.specs.declared.op.Op.TheVariants.{Work, Delay, Mark, Await, Do, GiveMutex}
use Rattle.model.specs.declared.event.What.TheVariants as what
use Rattle.model.specs.declared.event.Misuse.TheVariants.{NotHolder}
use Rattle.model.specs.declared.event.End.TheVariants.{Pass, Misuse}
use Rattle.laws.specs.Examples.{Example, a_task, a_task_of, with_objects, a, b, c, event_at, call, runs, idles}

-- ---- words

-- the fourth task
abbrev pub d : ℕ
d = 3

-- the first mutex of an example
abbrev pub m : ℕ
m = 0

-- the second mutex
abbrev pub n : ℕ
n = 1

-- the one semaphore of an example
abbrev pub s : ℕ
s = 0

-- The task locks a mutex, and waits for it for this many ticks, or forever.
abbrev pub lock : ℕ → ℕ → Op
lock mutex ticks = Await mutex Lock (Some ticks)

abbrev pub lock_forever : ℕ → Op
lock_forever mutex = Await mutex Lock None

-- The task gives a mutex back.
abbrev pub unlock : ℕ → Op
unlock mutex = GiveMutex mutex

-- The task takes a semaphore if its count is above 0, and doesn't wait for it.
abbrev pub take : ℕ → Op
take semaphore = Await semaphore Take (Some 0)

-- The task gives a semaphore.
abbrev pub give : ℕ → Op
give semaphore = Do semaphore Give

-- ---- priority inheritance

-- A low task holds the mutex that a high one waits for. It computes with the high priority while a task of medium priority stays
-- Ready. It returns to its own priority when it gives the mutex back.
abbrev pub inversion_cured : Example
inversion_cured = record {
  app = with_objects (Mutex ∷ []) (
      a_task_of 1 (codes "a") (lock m 0 ∷ Work 2 ∷ unlock m ∷ Mark (Number 1) ∷ [])
      ∷ a_task_of 2 (codes "b") (Delay 1 ∷ Work 1 ∷ Mark (Number 2) ∷ [])
      ∷ a_task_of 3 (codes "c") (Delay 1 ∷ lock_forever m ∷ unlock m ∷ []) ∷ []);
  run = record {
    events =
        event_at 0 0 (call c 0 0) ∷ event_at 0 0 (runs b) ∷ event_at 1 0 (call b 0 0) ∷ event_at 1 0 (runs a)
        ∷ event_at 2 0 (call a 0 1) ∷ event_at 3 1 (runs c) ∷ event_at 8 1 (runs a) ∷ event_at 10 2 (call a 2 1)
        ∷ event_at 10 2 (runs c) ∷ event_at 11 2 (call c 1 1) ∷ event_at 12 2 (call c 2 1) ∷ event_at 12 2 (runs b)
        ∷ event_at 14 3 (what.Mark b 2) ∷ event_at 14 3 (runs a) ∷ event_at 15 3 (what.Mark a 1) ∷ event_at 15 3 idles ∷ [];
    steps = 16;
    ticks = 3;
    end = Pass;
  };
}

-- The best waiter times out: the holder falls to the priority of the next waiter, not to its own, and shares its ticks with a
-- task of that priority.
abbrev pub falls_to_the_next : Example
falls_to_the_next = record {
  app = with_objects (Mutex ∷ []) (
      a_task_of 1 (codes "a") (lock m 0 ∷ Work 6 ∷ unlock m ∷ []) ∷ a_task_of 2 (codes "b") (Delay 1 ∷ lock m 20 ∷ [])
      ∷ a_task_of 3 (codes "c") (Delay 2 ∷ lock m 2 ∷ []) ∷ a_task_of 2 (codes "d") (Delay 4 ∷ Work 2 ∷ Mark (Number 7) ∷ []) ∷ []);
  run = record {
    events =
        event_at 0 0 (call c 0 0) ∷ event_at 0 0 (runs b) ∷ event_at 1 0 (call b 0 0) ∷ event_at 1 0 (runs d)
        ∷ event_at 2 0 (call d 0 0) ∷ event_at 2 0 (runs a) ∷ event_at 3 0 (call a 0 1) ∷ event_at 4 1 (runs b)
        ∷ event_at 9 1 (runs a) ∷ event_at 10 2 (runs c) ∷ event_at 15 2 (runs a) ∷ event_at 17 4 (runs c)
        ∷ event_at 18 4 (call c 1 0) ∷ event_at 18 4 (runs d) ∷ event_at 19 5 (runs a) ∷ event_at 20 6 (runs d)
        ∷ event_at 21 7 (runs a) ∷ event_at 22 8 (runs d) ∷ event_at 23 8 (what.Mark d 7) ∷ event_at 23 8 (runs a)
        ∷ event_at 24 8 (call a 2 1) ∷ event_at 24 8 (runs b) ∷ event_at 25 8 (call b 1 1) ∷ event_at 25 8 idles ∷ [];
    steps = 26;
    ticks = 8;
    end = Pass;
  };
}

-- The same, but the holder has a second mutex: it doesn't fall, and computes before that task.
abbrev pub keeps_it_for_another : Example
keeps_it_for_another = record {
  app = with_objects (Mutex ∷ Mutex ∷ []) (
      a_task_of 1 (codes "a") (lock m 0 ∷ lock n 0 ∷ Work 6 ∷ unlock m ∷ unlock n ∷ [])
      ∷ a_task_of 2 (codes "b") (Delay 1 ∷ lock m 20 ∷ []) ∷ a_task_of 3 (codes "c") (Delay 2 ∷ lock m 2 ∷ [])
      ∷ a_task_of 2 (codes "d") (Delay 4 ∷ Work 2 ∷ Mark (Number 7) ∷ []) ∷ []);
  run = record {
    events =
        event_at 0 0 (call c 0 0) ∷ event_at 0 0 (runs b) ∷ event_at 1 0 (call b 0 0) ∷ event_at 1 0 (runs d)
        ∷ event_at 2 0 (call d 0 0) ∷ event_at 2 0 (runs a) ∷ event_at 3 0 (call a 0 1) ∷ event_at 4 0 (call a 1 1)
        ∷ event_at 5 1 (runs b) ∷ event_at 10 1 (runs a) ∷ event_at 11 2 (runs c) ∷ event_at 16 2 (runs a)
        ∷ event_at 18 4 (runs c) ∷ event_at 19 4 (call c 1 0) ∷ event_at 19 4 (runs a) ∷ event_at 22 6 (call a 3 1)
        ∷ event_at 23 6 (call a 4 1) ∷ event_at 23 6 (runs d) ∷ event_at 24 7 (runs b) ∷ event_at 25 7 (call b 1 1)
        ∷ event_at 25 7 (runs d) ∷ event_at 27 8 (what.Mark d 7) ∷ event_at 27 8 idles ∷ [];
    steps = 28;
    ticks = 8;
    end = Pass;
  };
}

-- A task gives back one of two mutexes, which wakes the task that waits for it. The holder keeps the priority that it inherited
-- from that task, and continues to run until it has given back the other mutex.
abbrev pub one_of_two_given : Example
one_of_two_given = record {
  app = with_objects (Mutex ∷ Mutex ∷ []) (
      a_task_of 1 (codes "a") (lock m 0 ∷ lock n 0 ∷ Work 1 ∷ unlock m ∷ Mark (Number 1) ∷ unlock n ∷ Mark (Number 2) ∷ [])
      ∷ a_task_of 3 (codes "b") (Delay 1 ∷ lock_forever m ∷ []) ∷ []);
  run = record {
    events =
        event_at 0 0 (call b 0 0) ∷ event_at 0 0 (runs a) ∷ event_at 1 0 (call a 0 1) ∷ event_at 2 0 (call a 1 1)
        ∷ event_at 3 1 (runs b) ∷ event_at 8 1 (runs a) ∷ event_at 9 1 (call a 3 1) ∷ event_at 10 1 (what.Mark a 1)
        ∷ event_at 11 1 (call a 5 1) ∷ event_at 11 1 (runs b) ∷ event_at 12 1 (call b 1 1) ∷ event_at 12 1 (runs a)
        ∷ event_at 13 1 (what.Mark a 2) ∷ event_at 13 1 idles ∷ [];
    steps = 14;
    ticks = 1;
    end = Pass;
  };
}

-- A task waits for a mutex that it holds itself, until its timeout, and inherits from no task there. It keeps the priority that
-- it inherited through another mutex, and so computes before a task of medium priority.
abbrev pub locks_its_own : Example
locks_its_own = record {
  app = with_objects (Mutex ∷ Mutex ∷ []) (
      a_task_of 1 (codes "a") (lock m 0 ∷ lock n 0 ∷ Work 1 ∷ unlock n ∷ lock m 1 ∷ Work 1 ∷ Mark (Number 1) ∷ [])
      ∷ a_task_of 2 (codes "b") (Delay 1 ∷ Work 2 ∷ Mark (Number 2) ∷ [])
      ∷ a_task_of 3 (codes "c") (Delay 1 ∷ lock_forever n ∷ []) ∷ []);
  run = record {
    events =
        event_at 0 0 (call c 0 0) ∷ event_at 0 0 (runs b) ∷ event_at 1 0 (call b 0 0) ∷ event_at 1 0 (runs a)
        ∷ event_at 2 0 (call a 0 1) ∷ event_at 3 0 (call a 1 1) ∷ event_at 4 1 (runs c) ∷ event_at 9 1 (runs a)
        ∷ event_at 10 1 (call a 3 1) ∷ event_at 15 1 (runs c) ∷ event_at 16 1 (call c 1 1) ∷ event_at 16 1 (runs b)
        ∷ event_at 17 2 (runs a) ∷ event_at 18 2 (call a 4 0) ∷ event_at 20 3 (what.Mark a 1) ∷ event_at 20 3 (runs b)
        ∷ event_at 22 4 (what.Mark b 2) ∷ event_at 22 4 idles ∷ [];
    steps = 23;
    ticks = 4;
    end = Pass;
  };
}

-- ---- misuse, and semaphores

-- A task gives back a mutex that another holds: this ends the run, and has no other effect.
abbrev pub not_the_holder : Example
not_the_holder = record {
  app = with_objects (Mutex ∷ []) (a_task_of 2 (codes "a") (lock m 0 ∷ []) ∷ a_task_of 1 (codes "b") (unlock m ∷ []) ∷ []);
  run = record {
    events = event_at 0 0 (call a 0 1) ∷ event_at 0 0 (runs b) ∷ [];
    steps = 2;
    ticks = 0;
    end = Misuse b 0 NotHolder;
  };
}

-- A semaphore at its maximum isn't given, and one at 0 isn't taken.
abbrev pub given_above_the_maximum : Example
given_above_the_maximum = record {
  app = with_objects (Semaphore 1 1 ∷ []) (a_task (codes "a") (give s ∷ take s ∷ take s ∷ give s ∷ []) ∷ []);
  run = record {
    events =
        event_at 0 0 (call a 0 0) ∷ event_at 1 0 (call a 1 1) ∷ event_at 2 0 (call a 2 0) ∷ event_at 3 0 (call a 3 1)
        ∷ event_at 3 0 idles ∷ [];
    steps = 4;
    ticks = 0;
    end = Pass;
  };
}

-- all of them
abbrev pub mutex_examples : List Example
mutex_examples =
    inversion_cured ∷ falls_to_the_next ∷ keeps_it_for_another ∷ one_of_two_given ∷ locks_its_own ∷ not_the_holder
    ∷ given_above_the_maximum ∷ []
