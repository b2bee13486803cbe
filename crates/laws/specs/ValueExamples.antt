-- Worked examples with variables and values: applications, injections, and the runs that result.
use Rattle.std.specs.Prelude.{ℕ, List, [], ◌∷◌, Some, None, codes}
use Rattle.model.specs.declared.value.Arithmetic.{Arithmetic}
use Rattle.model.specs.declared.value.Arithmetic.TheVariants.{Add, Sub, Mul, Div, Mod, And, Or, Xor}
use Rattle.model.specs.declared.value.Value as value
use Rattle.model.specs.declared.value.Value.TheVariants.{Number, Answer, Variable}
use Rattle.model.specs.declared.value.ValueOp.TheVariants as value_op
use Rattle.model.specs.declared.answer.AnswerCondition.TheVariants.{Is, IsNot, Below, Above}
use Rattle.model.specs.declared.object.ObjectKind.TheVariants.{Queue}
use Rattle.model.specs.declared.op.Access.TheVariants.{Send, SendFront, Overwrite, Receive}
use Rattle.model.specs.declared.op.Op.{Op}
use Rattle.model.specs.declared.op.Op.TheVariants.{Time, Mark, Expect, Repeat, End as EndLoop, If, EndIf, Break, Await, Do}
use Rattle.model.specs.declared.op.Op.TheVariants.{EnterCritical, ExitCritical, Value}
use Rattle.model.specs.declared.op.IsrOp.{IsrOp}
use Rattle.model.specs.declared.op.IsrOp.TheVariants as isr_op
use Rattle.model.specs.declared.event.Misuse.TheVariants as misuse
use Rattle.model.specs.declared.event.End.TheVariants as end
use Rattle.model.specs.declared.event.End.TheVariants.{Pass, Check, HandlerCheck}
use Rattle.model.specs.declared.event.What.TheVariants as what
use Rattle.model.specs.Application.{Application}
use Rattle.laws.specs.Examples.{a_task, a_task_of, with_objects, a, event_at, call, idles}
use Rattle.laws.specs.HandlerExamples.{Injected, a_handler, with_handler, h, at, point_at, isr}
use Rattle.laws.specs.SectionExamples.{mark, isr_mark, second}

-- ---- words

-- the first variable, and the second
abbrev pub x : ℕ
x = 0

abbrev pub y : ℕ
y = 1

-- the first queue, and the second
abbrev pub q : ℕ
q = 0

abbrev pub p : ℕ
p = 1

-- The application has variables with these initial values.
abbrev pub with_variables : List ℕ → Application → Application
with_variables initial app = record app { variables = initial }

-- the value of this variable
abbrev pub variable : ℕ → value.Value
variable number = Variable (record { number = number })

-- A task or a handler loads a variable, stores one, or calculates with the last answer and a value.
abbrev pub load : ℕ → Op
load number = Value (value_op.Load (record { number = number }))

abbrev pub store : ℕ → value.Value → Op
store number new = Value (value_op.Store (record { number = number }) new)

abbrev pub compute : Arithmetic → value.Value → Op
compute kind other = Value (value_op.Compute kind other)

abbrev pub isr_load : ℕ → IsrOp
isr_load number = isr_op.Value (value_op.Load (record { number = number }))

abbrev pub isr_store : ℕ → value.Value → IsrOp
isr_store number new = isr_op.Value (value_op.Store (record { number = number }) new)

abbrev pub isr_compute : Arithmetic → value.Value → IsrOp
isr_compute kind other = isr_op.Value (value_op.Compute kind other)

-- an application of one task, and of variables with these initial values
abbrev pub task_alone : List ℕ → List Op → Application
task_alone initial script = with_variables initial (with_objects [] (a_task (codes "a") script ∷ []))

-- ---- a counter

-- a task of this script, and a handler that adds 1 to the first variable
abbrev pub counter : List Op → Application
counter script =
    with_variables (0 ∷ []) (with_handler [] (isr_load x ∷ isr_compute Add (Number 1) ∷ isr_store x Answer ∷ []) (
    a_task (codes "a") script ∷ []))

-- The task adds 1 to it, and then expects it to be 2.
abbrev pub bare : Application
bare =
    counter (load x ∷ compute Add (Number 1) ∷ store x Answer ∷ load x ∷ Expect (Is (Some (Number 2))) ∷ [])

-- the same, but the task adds in a critical section
abbrev pub guarded : Application
guarded =
    counter (
    EnterCritical ∷ load x ∷ compute Add (Number 1) ∷ store x Answer ∷ ExitCritical ∷ load x
    ∷ Expect (Is (Some (Number 2))) ∷ [])

-- The handler comes before the task begins: the counter is 2.
abbrev pub counts_both : Injected
counts_both = record {
  app = bare;
  plan = point_at 0;
  run = record {
    events =
        event_at 0 0 (isr 0 0) ∷ event_at 0 0 (isr 1 1) ∷ event_at 0 0 (isr 2 1) ∷ event_at 0 0 (call a 0 1)
        ∷ event_at 1 0 (call a 1 2) ∷ event_at 2 0 (call a 2 2) ∷ event_at 3 0 (call a 3 2) ∷ event_at 4 0 idles ∷ [];
    steps = 5;
    ticks = 0;
    end = Pass;
  };
}

-- The handler comes after the task's load: its update is lost, the counter is 1, and the task's check fails.
abbrev pub lost_after_the_load : Injected
lost_after_the_load = record {
  app = bare;
  plan = point_at 1;
  run = record {
    events =
        event_at 0 0 (call a 0 0) ∷ event_at 1 0 (isr 0 0) ∷ event_at 1 0 (isr 1 1) ∷ event_at 1 0 (isr 2 1)
        ∷ event_at 1 0 (call a 1 1) ∷ event_at 2 0 (call a 2 1) ∷ event_at 3 0 (call a 3 1) ∷ [];
    steps = 5;
    ticks = 0;
    end = Check a 4;
  };
}

-- The same if it comes before the task's store.
abbrev pub lost_before_the_store : Injected
lost_before_the_store = record {
  app = bare;
  plan = point_at 2;
  run = record {
    events =
        event_at 0 0 (call a 0 0) ∷ event_at 1 0 (call a 1 1) ∷ event_at 2 0 (isr 0 0) ∷ event_at 2 0 (isr 1 1)
        ∷ event_at 2 0 (isr 2 1) ∷ event_at 2 0 (call a 2 1) ∷ event_at 3 0 (call a 3 1) ∷ [];
    steps = 5;
    ticks = 0;
    end = Check a 4;
  };
}

-- With a critical section the handler comes after the exit, and no update is lost.
abbrev pub none_lost_inside : Injected
none_lost_inside = record {
  app = guarded;
  plan = point_at 3;
  run = record {
    events =
        event_at 1 0 (call a 1 0) ∷ event_at 2 0 (call a 2 1) ∷ event_at 3 0 (call a 3 1) ∷ event_at 5 0 (isr 0 1)
        ∷ event_at 5 0 (isr 1 2) ∷ event_at 5 0 (isr 2 2) ∷ event_at 5 0 (call a 5 2) ∷ event_at 6 0 idles ∷ [];
    steps = 7;
    ticks = 0;
    end = Pass;
  };
}

-- ---- arithmetic

-- Each operation, modulo 2^32: a sum past the end, and a difference below 0.
abbrev pub wraps : Injected
wraps = record {
  app =
      task_alone (4294967295 ∷ []) (load x ∷ compute Add (Number 2) ∷ compute Sub (Number 3) ∷ compute Mul (Number 2)
      ∷ compute Div (Number 7) ∷ compute Mod (Number 1000) ∷ compute And (Number 6) ∷ compute Or (Number 9)
      ∷ compute Xor (variable x) ∷ []);
  plan = [];
  run = record {
    events =
        event_at 0 0 (call a 0 4294967295) ∷ event_at 1 0 (call a 1 1) ∷ event_at 2 0 (call a 2 4294967294)
        ∷ event_at 3 0 (call a 3 4294967292) ∷ event_at 4 0 (call a 4 613566756) ∷ event_at 5 0 (call a 5 756)
        ∷ event_at 6 0 (call a 6 4) ∷ event_at 7 0 (call a 7 13) ∷ event_at 8 0 (call a 8 4294967282) ∷ event_at 8 0 idles
        ∷ [];
    steps = 9;
    ticks = 0;
    end = Pass;
  };
}

-- A quotient is rounded down, and the remainder is what is left.
abbrev pub rounds_down : Injected
rounds_down = record {
  app =
      task_alone (17 ∷ 5 ∷ []) (load x ∷ compute Div (variable y) ∷ compute Mul (variable y) ∷ store y Answer ∷ load x
      ∷ compute Sub (variable y) ∷ load x ∷ compute Mod (Number 5) ∷ []);
  plan = [];
  run = record {
    events =
        event_at 0 0 (call a 0 17) ∷ event_at 1 0 (call a 1 3) ∷ event_at 2 0 (call a 2 15) ∷ event_at 3 0 (call a 3 15)
        ∷ event_at 4 0 (call a 4 17) ∷ event_at 5 0 (call a 5 2) ∷ event_at 6 0 (call a 6 17) ∷ event_at 7 0 (call a 7 2)
        ∷ event_at 7 0 idles ∷ [];
    steps = 8;
    ticks = 0;
    end = Pass;
  };
}

-- A product past 2^32 loses its high bits.
abbrev pub loses_high_bits : Injected
loses_high_bits = record {
  app =
      task_alone (65537 ∷ []) (load x ∷ compute Mul (variable x) ∷ compute Add (variable x) ∷ compute Mod (variable x)
      ∷ []);
  plan = [];
  run = record {
    events =
        event_at 0 0 (call a 0 65537) ∷ event_at 1 0 (call a 1 131073) ∷ event_at 2 0 (call a 2 196610)
        ∷ event_at 3 0 (call a 3 65536) ∷ event_at 3 0 idles ∷ [];
    steps = 4;
    ticks = 0;
    end = Pass;
  };
}

-- Dividing by a variable that is 0 is a failed check.
abbrev pub divides_by_nothing : Injected
divides_by_nothing = record {
  app = task_alone (0 ∷ []) (load x ∷ compute Add (Number 8) ∷ compute Div (variable x) ∷ []);
  plan = [];
  run = record {
    events = event_at 0 0 (call a 0 0) ∷ event_at 1 0 (call a 1 8) ∷ [];
    steps = 3;
    ticks = 0;
    end = Check a 2;
  };
}

-- So is the remainder of a division by a variable that is 0.
abbrev pub no_remainder : Injected
no_remainder = record {
  app = task_alone (0 ∷ []) (load x ∷ compute Add (Number 8) ∷ compute Mod (variable x) ∷ []);
  plan = [];
  run = record {
    events = event_at 0 0 (call a 0 0) ∷ event_at 1 0 (call a 1 8) ∷ [];
    steps = 3;
    ticks = 0;
    end = Check a 2;
  };
}

-- ---- ops without a value

-- The last answer is `none`: nothing is stored, and there is no line.
abbrev pub stores_nothing : Injected
stores_nothing = record {
  app = task_alone (3 ∷ []) (store x Answer ∷ []);
  plan = [];
  run = record {
    events = [];
    steps = 1;
    ticks = 0;
    end = Check a 0;
  };
}

-- A receive returns `none`, and nothing can be added to that.
abbrev pub adds_to_nothing : Injected
adds_to_nothing = record {
  app =
      with_variables [] (with_objects (Queue 1 ∷ []) (
      a_task (codes "a") (Await q Receive (Some 0) ∷ compute Add (Number 1) ∷ []) ∷ []));
  plan = [];
  run = record {
    events = event_at 0 0 (what.CallNone a 0) ∷ [];
    steps = 2;
    ticks = 0;
    end = Check a 1;
  };
}

-- A mark of the last answer has no value before the first answer.
abbrev pub marks_nothing : Injected
marks_nothing = record {
  app = task_alone [] (Mark Answer ∷ []);
  plan = [];
  run = record {
    events = [];
    steps = 1;
    ticks = 0;
    end = Check a 0;
  };
}

-- A send of the last answer has no item after a receive that found none, although it could wait.
abbrev pub sends_nothing : Injected
sends_nothing = record {
  app =
      with_variables [] (with_objects (Queue 1 ∷ Queue 1 ∷ []) (
      a_task (codes "a") (Await q (Send (Number 1)) (Some 0) ∷ Await q (Send Answer) (Some 0) ∷ Await p Receive (Some 0)
      ∷ Await q (Send Answer) (Some 5) ∷ []) ∷ []));
  plan = [];
  run = record {
    events = event_at 0 0 (call a 0 1) ∷ event_at 1 0 (call a 1 0) ∷ event_at 2 0 (what.CallNone a 2) ∷ [];
    steps = 4;
    ticks = 0;
    end = Check a 3;
  };
}

-- A handler's op without a value ends the handler. The step of the task still follows, and is the last one.
abbrev pub ends_the_handler : Injected
ends_the_handler = record {
  app =
      with_variables (0 ∷ []) (with_handler [] (isr_op.Mark (Number 1) ∷ isr_store x Answer ∷ isr_op.Mark (Number 2) ∷ []) (
      a_task (codes "a") (Time ∷ Expect (Is (Some (Number 5))) ∷ []) ∷ []));
  plan = point_at 0;
  run = record {
    events = event_at 0 0 (isr_mark h 1) ∷ event_at 0 0 (call a 0 0) ∷ [];
    steps = 1;
    ticks = 0;
    end = HandlerCheck h 1;
  };
}

-- It ends only that handler: another comes after it.
abbrev pub ends_one_handler : Injected
ends_one_handler = record {
  app =
      record (with_variables (6 ∷ []) (with_objects [] (a_task (codes "a") (Time ∷ Mark (Number 7) ∷ [])
      ∷ []))) {
        handlers = a_handler (codes "h") (isr_compute Add (Number 1) ∷ isr_op.Mark (Number 1) ∷ [])
            ∷ a_handler (codes "second") (isr_load x ∷ isr_op.Mark Answer ∷ []) ∷ [];
      };
  plan = at 0 ∷ record { step = 0; handler = second } ∷ [];
  run = record {
    events = event_at 0 0 (what.Isr second 0 6) ∷ event_at 0 0 (isr_mark second 6) ∷ event_at 0 0 (call a 0 0) ∷ [];
    steps = 1;
    ticks = 0;
    end = HandlerCheck h 0;
  };
}

-- If the task's op of the same step has no value either, the handler's check counts.
abbrev pub first_of_two : Injected
first_of_two = record {
  app =
      with_variables (0 ∷ []) (with_handler [] (isr_store x Answer ∷ []) (
      a_task (codes "a") (compute Add (Number 1) ∷ []) ∷ []));
  plan = point_at 0;
  run = record {
    events = [];
    steps = 1;
    ticks = 0;
    end = HandlerCheck h 0;
  };
}

-- A misuse counts only as a misuse: in a critical section a send isn't allowed, whatever its item.
abbrev pub misuse_alone : Injected
misuse_alone = record {
  app =
      with_variables [] (with_objects (Queue 1 ∷ []) (
      a_task (codes "a") (Await q Receive (Some 0) ∷ EnterCritical ∷ Await q (Send Answer) (Some 0) ∷ []) ∷ []));
  plan = [];
  run = record {
    events = event_at 0 0 (what.CallNone a 0) ∷ [];
    steps = 3;
    ticks = 0;
    end = end.Misuse a 2 misuse.WhileCritical;
  };
}

-- ---- values that are passed on

-- A handler passes on what it receives, and the task does the same.
abbrev pub passed_on : Injected
passed_on = record {
  app =
      with_variables [] (with_handler (Queue 1 ∷ Queue 1 ∷ []) (isr_op.Do q Receive ∷ isr_op.Do p (Send Answer)
      ∷ isr_op.Mark Answer ∷ []) (
      a_task (codes "a") (Await q (Send (Number 7)) (Some 0) ∷ Await p Receive (Some 1)
      ∷ Await q (SendFront Answer) (Some 0) ∷ Await q Receive (Some 0) ∷ Do p (Overwrite Answer) ∷ Mark Answer ∷ []) ∷ []));
  plan = point_at 1;
  run = record {
    events =
        event_at 0 0 (call a 0 1) ∷ event_at 1 0 (isr 0 7) ∷ event_at 1 0 (isr 1 1) ∷ event_at 1 0 (isr_mark h 1)
        ∷ event_at 1 0 (call a 1 7) ∷ event_at 2 0 (call a 2 1) ∷ event_at 3 0 (call a 3 7) ∷ event_at 4 0 (call a 4 1)
        ∷ event_at 5 0 (mark a 1) ∷ event_at 5 0 idles ∷ [];
    steps = 6;
    ticks = 0;
    end = Pass;
  };
}

-- A send that waits sends the last answer from its start, even if the variable that it was loaded from changes in the meantime.
abbrev pub sent_as_it_was : Injected
sent_as_it_was = record {
  app =
      with_variables (5 ∷ []) (with_handler (Queue 1 ∷ []) (isr_store x (Number 8) ∷ isr_op.Do q Receive ∷ []) (
      a_task_of 2 (codes "a") (Await q (Send (Number 1)) (Some 0) ∷ load x ∷ Await q (Send Answer) (Some 9)
      ∷ Await q Receive (Some 0) ∷ []) ∷ []));
  plan = point_at 6;
  run = record {
    events =
        event_at 0 0 (call a 0 1) ∷ event_at 1 0 (call a 1 5) ∷ event_at 6 0 (isr 0 8) ∷ event_at 6 0 (isr 1 1)
        ∷ event_at 7 0 (call a 2 1) ∷ event_at 8 0 (call a 3 5) ∷ event_at 8 0 idles ∷ [];
    steps = 9;
    ticks = 0;
    end = Pass;
  };
}

-- ---- conditions that name a variable

-- A loop counts up to a variable.
abbrev pub counts_to_a_limit : Injected
counts_to_a_limit = record {
  app =
      task_alone (2 ∷ 0 ∷ []) (Repeat None ∷ load y ∷ If (Is (Some (variable x))) ∷ Break ∷ EndIf
      ∷ Expect (Below (variable x)) ∷ compute Add (Number 1) ∷ store y Answer ∷ EndLoop ∷ Expect (Is (Some (variable x)))
      ∷ Mark (Number 9) ∷ []);
  plan = [];
  run = record {
    events =
        event_at 1 0 (call a 1 0) ∷ event_at 4 0 (call a 6 1) ∷ event_at 5 0 (call a 7 1) ∷ event_at 7 0 (call a 1 1)
        ∷ event_at 10 0 (call a 6 2) ∷ event_at 11 0 (call a 7 2) ∷ event_at 13 0 (call a 1 2) ∷ event_at 17 0 (mark a 9)
        ∷ event_at 17 0 idles ∷ [];
    steps = 18;
    ticks = 0;
    end = Pass;
  };
}

-- A condition uses the current value of the variable.
abbrev pub expects_another : Injected
expects_another = record {
  app =
      task_alone (3 ∷ 4 ∷ []) (load x ∷ Expect (Below (variable y)) ∷ store y (Number 2) ∷ Expect (Is (Some (variable y)))
      ∷ Expect (IsNot (Some (variable x))) ∷ load x ∷ Expect (Above (variable y)) ∷ []);
  plan = [];
  run = record {
    events = event_at 0 0 (call a 0 3) ∷ event_at 2 0 (call a 2 2) ∷ event_at 5 0 (call a 5 3) ∷ event_at 6 0 idles ∷ [];
    steps = 7;
    ticks = 0;
    end = Pass;
  };
}

-- A handler compares what it receives with a variable, which the task has stored.
abbrev pub looks_at_a_variable : Injected
looks_at_a_variable = record {
  app =
      with_variables (9 ∷ []) (with_handler (Queue 1 ∷ []) (isr_op.Do q Receive ∷ isr_op.If (Below (variable x))
      ∷ isr_op.Mark (Number 1) ∷ isr_op.Else ∷ isr_op.If (Is (Some (variable x))) ∷ isr_op.Mark (Number 2) ∷ isr_op.EndIf
      ∷ isr_op.EndIf ∷ isr_op.Expect (Is (Some (variable x))) ∷ isr_op.Mark (Number 3) ∷ []) (
      a_task (codes "a") (store x (Number 5) ∷ Await q (Send (Number 5)) (Some 0) ∷ Time ∷ []) ∷ []));
  plan = point_at 2;
  run = record {
    events =
        event_at 0 0 (call a 0 5) ∷ event_at 1 0 (call a 1 1) ∷ event_at 2 0 (isr 0 5) ∷ event_at 2 0 (isr_mark h 2)
        ∷ event_at 2 0 (isr_mark h 3) ∷ event_at 2 0 (call a 2 0) ∷ event_at 2 0 idles ∷ [];
    steps = 3;
    ticks = 0;
    end = Pass;
  };
}

-- all of them
abbrev pub value_examples : List Injected
value_examples =
    counts_both ∷ lost_after_the_load ∷ lost_before_the_store ∷ none_lost_inside ∷ wraps ∷ rounds_down ∷ loses_high_bits
    ∷ divides_by_nothing ∷ no_remainder ∷ stores_nothing ∷ adds_to_nothing ∷ marks_nothing ∷ sends_nothing
    ∷ ends_the_handler ∷ ends_one_handler ∷ first_of_two ∷ misuse_alone ∷ passed_on ∷ sent_as_it_was ∷ counts_to_a_limit
    ∷ expects_another ∷ looks_at_a_variable ∷ []
