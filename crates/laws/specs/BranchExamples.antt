-- Worked examples with branches, endless loops and `break`: applications, injections, and the runs that result.
use Rattle.model.specs.declared.value.Value.TheVariants.{Number}
use Rattle.std.specs.Prelude.{List, [], ◌∷◌, Some, None, codes}
use Rattle.model.specs.declared.answer.AnswerCondition.TheVariants.{Is, IsNot, Below, Above}
use Rattle.model.specs.declared.object.ObjectKind.TheVariants.{Queue}
use Rattle.model.specs.declared.op.Access.TheVariants.{Receive}
use Rattle.model.specs.declared.op.Op.{Op}
use Rattle.model.specs.declared.op.Op.TheVariants.{Time, Mark, Expect, Repeat, End as EndLoop, If, Else, EndIf, Break, SuspendAll}
use Rattle.model.specs.declared.op.Op.TheVariants.{ResumeAll}
use Rattle.model.specs.declared.event.Misuse.TheVariants.{EndedSuspended}
use Rattle.model.specs.declared.event.End.TheVariants.{Pass, Check, Misuse}
use Rattle.model.specs.declared.event.What.TheVariants as what
use Rattle.model.specs.Application.{Application}
use Rattle.laws.specs.Examples.{a_task, the_application, on_queue, a, event_at, call, runs, idles}
use Rattle.laws.specs.HandlerExamples.{Injected, with_handler, interrupted_at, point_at, sends, isr}

-- ---- words

-- the start of a loop that only a `break` ends
abbrev pub forever : Op
forever = Repeat None

-- ---- conditions

-- Each condition, on the answer `none` and on a number: `none` is neither below nor above a number. The last one ends the run.
abbrev pub each_condition : Injected
each_condition = record {
  app = the_application 0 (
      a_task (codes "a") (
      If (Is None) ∷ Mark (Number 1) ∷ EndIf ∷ If (IsNot (Some (Number 0))) ∷ Mark (Number 2) ∷ EndIf
      ∷ If (Below (Number 5)) ∷ Mark (Number 3) ∷ Else ∷ Mark (Number 4) ∷ EndIf
      ∷ If (Above (Number 0)) ∷ Mark (Number 5) ∷ EndIf ∷ Time ∷ If (Below (Number 1)) ∷ Mark (Number 6) ∷ EndIf
      ∷ If (Above (Number 0)) ∷ Mark (Number 7) ∷ Else ∷ Mark (Number 8) ∷ EndIf
      ∷ If (IsNot None) ∷ Mark (Number 9) ∷ EndIf ∷ Expect (Below (Number 1)) ∷ Expect (IsNot (Some (Number 4294967295)))
      ∷ Expect (Above (Number 4294967295))
      ∷ []) ∷ []);
  plan = [];
  run = record {
    events =
        event_at 1 0 (what.Mark a 1) ∷ event_at 4 0 (what.Mark a 2) ∷ event_at 7 0 (what.Mark a 4) ∷ event_at 10 0 (call a 14 0)
        ∷ event_at 12 0 (what.Mark a 6) ∷ event_at 15 0 (what.Mark a 8) ∷ event_at 18 0 (what.Mark a 9) ∷ [];
    steps = 23;
    ticks = 0;
    end = Check a 28;
  };
}

-- ---- branches and loops

-- A task tries three times to receive an item, and leaves the loop when it has one.
abbrev pub three_tries : Application
three_tries =
    with_handler (Queue 1 ∷ []) (sends 0 7 ∷ []) (
    a_task (codes "a") (
    Repeat (Some 3) ∷ on_queue Receive 1 ∷ If (Is None) ∷ Mark (Number 1) ∷ Else ∷ Expect (Is (Some (Number 7))) ∷ Break
    ∷ EndIf ∷ EndLoop
    ∷ Mark (Number 2) ∷ []) ∷ [])

-- The item comes after the first receive has timed out: the task then takes the other branch and leaves the loop.
abbrev pub on_the_second_try : Injected
on_the_second_try = record {
  app = three_tries;
  plan = point_at 8;
  run = record {
    events =
        event_at 5 0 idles ∷ event_at 6 1 (runs a) ∷ event_at 7 1 (what.CallNone a 1) ∷ event_at 8 1 (isr 0 1)
        ∷ event_at 9 1 (what.Mark a 1) ∷ event_at 12 1 (call a 1 7) ∷ event_at 16 1 (what.Mark a 2) ∷ event_at 16 1 idles ∷ [];
    steps = 17;
    ticks = 1;
    end = Pass;
  };
}

-- It comes after the loop has ended.
abbrev pub too_late : Injected
too_late = record {
  app = three_tries;
  plan = point_at 34;
  run = record {
    events =
        event_at 5 0 idles ∷ event_at 6 1 (runs a) ∷ event_at 7 1 (what.CallNone a 1) ∷ event_at 9 1 (what.Mark a 1)
        ∷ event_at 16 1 idles ∷ event_at 17 2 (runs a) ∷ event_at 18 2 (what.CallNone a 1) ∷ event_at 20 2 (what.Mark a 1)
        ∷ event_at 27 2 idles ∷ event_at 28 3 (runs a) ∷ event_at 29 3 (what.CallNone a 1) ∷ event_at 31 3 (what.Mark a 1)
        ∷ event_at 34 3 (isr 0 1) ∷ event_at 34 3 (what.Mark a 2) ∷ event_at 34 3 idles ∷ [];
    steps = 35;
    ticks = 3;
    end = Pass;
  };
}

-- No item comes.
abbrev pub nothing_comes : Injected
nothing_comes = record {
  app = three_tries;
  plan = [];
  run = record {
    events =
        event_at 5 0 idles ∷ event_at 6 1 (runs a) ∷ event_at 7 1 (what.CallNone a 1) ∷ event_at 9 1 (what.Mark a 1)
        ∷ event_at 16 1 idles ∷ event_at 17 2 (runs a) ∷ event_at 18 2 (what.CallNone a 1) ∷ event_at 20 2 (what.Mark a 1)
        ∷ event_at 27 2 idles ∷ event_at 28 3 (runs a) ∷ event_at 29 3 (what.CallNone a 1) ∷ event_at 31 3 (what.Mark a 1)
        ∷ event_at 34 3 (what.Mark a 2) ∷ event_at 34 3 idles ∷ [];
    steps = 35;
    ticks = 3;
    end = Pass;
  };
}

-- A `break` inside two branches leaves the inner loop, which is endless, and the outer loop continues.
abbrev pub leaves_the_inner_loop : Injected
leaves_the_inner_loop = record {
  app = the_application 0 (
      a_task (codes "a") (
      Repeat (Some 2) ∷ forever ∷ If (Is None) ∷ If (IsNot (Some (Number 5))) ∷ Break ∷ EndIf ∷ Mark (Number 1) ∷ EndIf
      ∷ EndLoop ∷ Mark (Number 3)
      ∷ EndLoop ∷ Mark (Number 4) ∷ []) ∷ []);
  plan = [];
  run = record {
    events =
        event_at 5 0 (what.Mark a 3) ∷ event_at 11 0 (what.Mark a 3) ∷ event_at 13 0 (what.Mark a 4) ∷ event_at 13 0 idles ∷ [];
    steps = 14;
    ticks = 0;
    end = Pass;
  };
}

-- An endless loop is left when an item comes.
abbrev pub until_an_item_comes : Injected
until_an_item_comes = record {
  app = interrupted_at 3 (with_handler (Queue 1 ∷ []) (sends 0 7 ∷ []) (
      a_task (codes "a") (
      forever ∷ on_queue Receive 1 ∷ If (IsNot None) ∷ Break ∷ EndIf ∷ EndLoop ∷ Mark (Number 6) ∷ []) ∷ []));
  plan = [];
  run = record {
    events =
        event_at 5 0 idles ∷ event_at 6 1 (runs a) ∷ event_at 7 1 (what.CallNone a 1) ∷ event_at 14 1 idles
        ∷ event_at 15 2 (runs a) ∷ event_at 16 2 (what.CallNone a 1) ∷ event_at 23 2 idles ∷ event_at 24 3 (isr 0 1)
        ∷ event_at 24 3 (runs a) ∷ event_at 25 3 (call a 1 7) ∷ event_at 28 3 (what.Mark a 6) ∷ event_at 28 3 idles ∷ [];
    steps = 29;
    ticks = 3;
    end = Pass;
  };
}

-- ---- the end of a script

-- An `if` that skips the last branch ends the script.
abbrev pub ends_by_an_if : Injected
ends_by_an_if = record {
  app = the_application 0 (a_task (codes "a") (If (Is (Some (Number 1))) ∷ Mark (Number 1) ∷ EndIf ∷ []) ∷ []);
  plan = [];
  run = record {
    events = event_at 0 0 idles ∷ [];
    steps = 1;
    ticks = 0;
    end = Pass;
  };
}

-- An `else` that skips the last branch does too.
abbrev pub ends_by_an_else : Injected
ends_by_an_else = record {
  app = the_application 0 (a_task (codes "a") (If (Is None) ∷ Mark (Number 1) ∷ Else ∷ Mark (Number 2) ∷ EndIf ∷ []) ∷ []);
  plan = [];
  run = record {
    events = event_at 1 0 (what.Mark a 1) ∷ event_at 2 0 idles ∷ [];
    steps = 3;
    ticks = 0;
    end = Pass;
  };
}

-- A `break` out of the last loop does too.
abbrev pub ends_by_a_break : Injected
ends_by_a_break = record {
  app = the_application 0 (a_task (codes "a") (forever ∷ If (Is None) ∷ Break ∷ EndIf ∷ EndLoop ∷ []) ∷ []);
  plan = [];
  run = record {
    events = event_at 2 0 idles ∷ [];
    steps = 3;
    ticks = 0;
    end = Pass;
  };
}

-- Eight blocks are open at once.
abbrev pub eight_blocks : Injected
eight_blocks = record {
  app = the_application 0 (
      a_task (codes "a") (
      If (Is (Some (Number 1))) ∷ If (Is (Some (Number 1))) ∷ If (Is (Some (Number 1))) ∷ If (Is (Some (Number 1)))
      ∷ If (Is (Some (Number 1))) ∷ If (Is (Some (Number 1)))
      ∷ If (Is (Some (Number 1))) ∷ If (Is (Some (Number 1))) ∷ EndIf ∷ EndIf ∷ EndIf ∷ EndIf ∷ EndIf ∷ EndIf ∷ EndIf
      ∷ EndIf ∷ []) ∷ []);
  plan = [];
  run = record {
    events = event_at 0 0 idles ∷ [];
    steps = 1;
    ticks = 0;
    end = Pass;
  };
}

-- ---- the scheduler held

-- Branches are allowed while the scheduler is held, and one of them may release it.
abbrev pub branches_while_held : Injected
branches_while_held = record {
  app =
      the_application 0 (a_task (codes "a") (SuspendAll ∷ If (Is (Some (Number 0))) ∷ ResumeAll ∷ Else ∷ Mark (Number 1)
      ∷ EndIf ∷ []) ∷ []);
  plan = [];
  run = record {
    events = event_at 0 0 (call a 0 0) ∷ event_at 2 0 (call a 2 0) ∷ event_at 3 0 idles ∷ [];
    steps = 4;
    ticks = 0;
    end = Pass;
  };
}

-- An `if` that ends the script while the scheduler is held is a misuse.
abbrev pub ends_and_holds_by_an_if : Injected
ends_and_holds_by_an_if = record {
  app = the_application 0 (a_task (codes "a") (SuspendAll ∷ If (Is (Some (Number 1))) ∷ Mark (Number 1) ∷ EndIf ∷ []) ∷ []);
  plan = [];
  run = record {
    events = event_at 0 0 (call a 0 0) ∷ [];
    steps = 2;
    ticks = 0;
    end = Misuse a 1 EndedSuspended;
  };
}

-- all of them
abbrev pub branch_examples : List Injected
branch_examples =
    each_condition ∷ on_the_second_try ∷ too_late ∷ nothing_comes ∷ leaves_the_inner_loop ∷ until_an_item_comes
    ∷ ends_by_an_if ∷ ends_by_an_else ∷ ends_by_a_break ∷ eight_blocks ∷ branches_while_held ∷ ends_and_holds_by_an_if ∷ []
