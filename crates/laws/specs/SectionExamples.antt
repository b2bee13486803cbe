-- Worked examples with critical sections: applications, injections, and the runs that result.
use Rattle.model.specs.declared.value.Value.TheVariants.{Number}
use Rattle.std.specs.Prelude.{ℕ, List, [], ◌∷◌, codes}
use Rattle.model.specs.declared.object.ObjectKind.TheVariants.{Queue, Mutex}
use Rattle.model.specs.declared.op.Access.TheVariants.{Receive}
use Rattle.model.specs.declared.op.Op.{Op}
use Rattle.model.specs.declared.op.Op.TheVariants.{Work, Delay, Yield, Time, Mark, GiveMutex, SuspendAll, ResumeAll}
use Rattle.model.specs.declared.op.Op.TheVariants.{EnterCritical, ExitCritical}
use Rattle.model.specs.declared.op.IsrOp.TheVariants as isr_op
use Rattle.model.specs.declared.event.Misuse.{Misuse}
use Rattle.model.specs.declared.event.Misuse.TheVariants as misuse
use Rattle.model.specs.declared.event.End.TheVariants as end
use Rattle.model.specs.declared.event.What.{What}
use Rattle.model.specs.declared.event.What.TheVariants as what
use Rattle.model.specs.Application.{Application}
use Rattle.laws.specs.Examples.{a_task, a_task_of, the_application, with_objects, on_queue_forever, a, b, event_at, call, runs}
use Rattle.laws.specs.Examples.{idles}
use Rattle.laws.specs.HandlerExamples.{Injected, a_handler, with_handler, sends, h, at, point_at, isr}

-- ---- words

-- an application of only this task, and of two handlers that each mark that they come
abbrev pub with_two_handlers : List Op → Application
with_two_handlers script =
    record (the_application 0 (a_task (codes "a") script ∷ [])) {
      handlers =
          a_handler (codes "h") (isr_op.Mark (Number 1) ∷ [])
          ∷ a_handler (codes "second") (isr_op.Mark (Number 2) ∷ []) ∷ [];
    }

-- the second of these handlers
abbrev pub second : ℕ
second = 1

-- The task, or the handler, marks with this number.
abbrev pub mark : ℕ → ℕ → What
mark task number = what.Mark task number

abbrev pub isr_mark : ℕ → ℕ → What
isr_mark handler number = what.IsrMark handler number

-- A run of a single task a: it ends at the op of this index of its script with this misuse. No line is written.
abbrev pub misuses : List Op → (op_index steps : ℕ) → Misuse → Injected
misuses script op_index steps m = record {
  app = the_application 0 (a_task (codes "a") script ∷ []);
  plan = [];
  run = record { events = []; steps = steps; ticks = 0; end = end.Misuse a op_index m };
}

-- the same, but the first op is `suspend_all`, which has its line
abbrev pub misuses_while_suspended : List Op → (op_index steps : ℕ) → Misuse → Injected
misuses_while_suspended script op_index steps m = record {
  app = the_application 0 (a_task (codes "a") (SuspendAll ∷ script) ∷ []);
  plan = [];
  run = record { events = event_at 0 0 (call a 0 0) ∷ []; steps = steps; ticks = 0; end = end.Misuse a op_index m };
}

-- ---- when a handler comes that is injected inside a section

-- It comes after the outer of two exits, not after the inner one. It wakes a higher task, which runs at once.
abbrev pub after_the_outer_exit : Injected
after_the_outer_exit = record {
  app = with_handler (Queue 1 ∷ []) (sends 0 4 ∷ []) (
      a_task (codes "a") (
      EnterCritical ∷ EnterCritical ∷ Mark (Number 1) ∷ ExitCritical ∷ Mark (Number 2) ∷ ExitCritical ∷ Mark (Number 3) ∷ [])
      ∷ a_task_of 2 (codes "b") (on_queue_forever Receive ∷ []) ∷ []);
  plan = point_at 8;
  run = record {
    events =
        event_at 4 0 (runs a) ∷ event_at 7 0 (mark a 1) ∷ event_at 9 0 (mark a 2) ∷ event_at 11 0 (isr 0 1) ∷ event_at 11 0 (runs b)
        ∷ event_at 11 0 (call b 0 4) ∷ event_at 11 0 (runs a) ∷ event_at 12 0 (mark a 3) ∷ event_at 12 0 idles ∷ [];
    steps = 13;
    ticks = 0;
    end = end.Pass;
  };
}

-- If the scheduler is suspended too, the handler comes after the exit. The task that it wakes runs when the scheduler is resumed.
abbrev pub inside_a_suspension : Injected
inside_a_suspension = record {
  app = with_handler (Queue 1 ∷ []) (sends 0 4 ∷ []) (
      a_task (codes "a") (SuspendAll ∷ EnterCritical ∷ ExitCritical ∷ Time ∷ ResumeAll ∷ [])
      ∷ a_task_of 2 (codes "b") (on_queue_forever Receive ∷ []) ∷ []);
  plan = point_at 7;
  run = record {
    events =
        event_at 4 0 (runs a) ∷ event_at 5 0 (call a 0 0) ∷ event_at 8 0 (isr 0 1) ∷ event_at 8 0 (call a 3 0)
        ∷ event_at 9 0 (call a 4 0) ∷ event_at 9 0 (runs b) ∷ event_at 10 0 (call b 0 4) ∷ event_at 10 0 idles ∷ [];
    steps = 11;
    ticks = 0;
    end = end.Pass;
  };
}

-- If the exit is the last op of all running tasks, the handler comes before the step of idle.
abbrev pub before_idle : Injected
before_idle = record {
  app = with_handler [] (isr_op.Mark (Number 1) ∷ []) (
      a_task_of 2 (codes "a") (EnterCritical ∷ ExitCritical ∷ []) ∷ a_task_of 3 (codes "b") (Delay 1 ∷ Mark (Number 2) ∷ []) ∷ []);
  plan = point_at 2;
  run = record {
    events =
        event_at 0 0 (call b 0 0) ∷ event_at 0 0 (runs a) ∷ event_at 2 0 idles ∷ event_at 3 0 (isr_mark h 1) ∷ event_at 3 1 (runs b)
        ∷ event_at 4 1 (mark b 2) ∷ event_at 4 1 idles ∷ [];
    steps = 5;
    ticks = 1;
    end = end.Pass;
  };
}

-- If the run ends with the exit, the handler never comes.
abbrev pub after_the_end : Injected
after_the_end = record {
  app = with_handler [] (isr_op.Mark (Number 1) ∷ []) (a_task (codes "a") (EnterCritical ∷ ExitCritical ∷ []) ∷ []);
  plan = point_at 1;
  run = record { events = event_at 1 0 idles ∷ []; steps = 2; ticks = 0; end = end.Pass };
}

-- Pending handlers come in the order of the file, before a handler that is injected at the step after the exit.
abbrev pub in_the_order_of_the_file : Injected
in_the_order_of_the_file = record {
  app = with_two_handlers (EnterCritical ∷ Mark (Number 7) ∷ ExitCritical ∷ Mark (Number 8) ∷ []);
  plan = record { step = 1; handler = second } ∷ at 2 ∷ record { step = 3; handler = second } ∷ [];
  run = record {
    events =
        event_at 1 0 (mark a 7) ∷ event_at 3 0 (isr_mark h 1) ∷ event_at 3 0 (isr_mark second 2) ∷ event_at 3 0 (isr_mark second 2)
        ∷ event_at 3 0 (mark a 8) ∷ event_at 3 0 idles ∷ [];
    steps = 4;
    ticks = 0;
    end = end.Pass;
  };
}

-- A handler that is injected before the section comes at once. One that is injected twice inside comes once.
abbrev pub twice_and_once : Injected
twice_and_once = record {
  app = with_two_handlers (EnterCritical ∷ Mark (Number 7) ∷ ExitCritical ∷ Mark (Number 8) ∷ []);
  plan = at 0 ∷ at 1 ∷ at 2 ∷ [];
  run = record {
    events =
        event_at 0 0 (isr_mark h 1) ∷ event_at 1 0 (mark a 7) ∷ event_at 3 0 (isr_mark h 1) ∷ event_at 3 0 (mark a 8)
        ∷ event_at 3 0 idles ∷ [];
    steps = 4;
    ticks = 0;
    end = end.Pass;
  };
}

-- ---- misuses

-- Letting time pass inside a section is a misuse.
abbrev pub works_inside : Injected
works_inside = misuses (EnterCritical ∷ Work 1 ∷ []) 1 2 misuse.WhileCritical

-- Resuming the scheduler inside a section is a misuse.
abbrev pub resumes_inside : Injected
resumes_inside = misuses_while_suspended (EnterCritical ∷ ResumeAll ∷ []) 2 3 misuse.WhileCritical

-- An exit while no section is open is a misuse.
abbrev pub one_exit_too_many : Injected
one_exit_too_many = misuses (EnterCritical ∷ ExitCritical ∷ ExitCritical ∷ []) 2 3 misuse.NotCritical

-- A task reaches the end of its script inside a section.
abbrev pub ends_inside : Injected
ends_inside = misuses (EnterCritical ∷ EnterCritical ∷ ExitCritical ∷ []) 2 3 misuse.EndedCritical

-- If two misuses apply, the run ends with the one that isn't about sections.
abbrev pub yields_inside_both : Injected
yields_inside_both = misuses_while_suspended (EnterCritical ∷ Yield ∷ []) 2 3 misuse.WhileSuspended

abbrev pub resumes_what_runs : Injected
resumes_what_runs = misuses (EnterCritical ∷ ResumeAll ∷ []) 1 2 misuse.NotSuspended

abbrev pub unlocks_what_is_free : Injected
unlocks_what_is_free = record {
  app = with_objects (Mutex ∷ []) (a_task (codes "a") (EnterCritical ∷ GiveMutex 0 ∷ []) ∷ []);
  plan = [];
  run = record { events = []; steps = 2; ticks = 0; end = end.Misuse a 1 misuse.NotHolder };
}

abbrev pub ends_inside_both : Injected
ends_inside_both = misuses_while_suspended (EnterCritical ∷ []) 1 2 misuse.EndedSuspended

-- all of them
abbrev pub section_examples : List Injected
section_examples =
    after_the_outer_exit ∷ inside_a_suspension ∷ before_idle ∷ after_the_end ∷ in_the_order_of_the_file ∷ twice_and_once
    ∷ works_inside ∷ resumes_inside ∷ one_exit_too_many ∷ ends_inside ∷ yields_inside_both ∷ resumes_what_runs
    ∷ unlocks_what_is_free ∷ ends_inside_both ∷ []
