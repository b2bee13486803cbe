-- Worked examples of handlers that check their last answer: applications, injections, and the runs that result.
use Rattle.model.specs.declared.value.Value.TheVariants.{Number}
use Rattle.std.specs.Prelude.{ℕ, List, [], ◌∷◌, Some, None, codes}
use Rattle.model.specs.declared.answer.AnswerCondition.TheVariants.{Is, IsNot}
use Rattle.model.specs.declared.object.ObjectKind.TheVariants.{Queue}
use Rattle.model.specs.declared.op.Access.TheVariants.{Receive}
use Rattle.model.specs.declared.op.Op.TheVariants.{Work, Delay, Mark, Expect, MessagesWaiting, ResumeAll}
use Rattle.model.specs.declared.op.IsrOp.TheVariants as isr_op
use Rattle.model.specs.declared.event.Misuse.TheVariants.{NotSuspended}
use Rattle.model.specs.declared.event.End.TheVariants.{Pass, HandlerCheck, Misuse}
use Rattle.model.specs.declared.event.What.TheVariants as what
use Rattle.model.specs.Application.{Application}
use Rattle.laws.specs.Examples.{a_task, on_queue, a, event_at, call, runs, idles}
use Rattle.laws.specs.HandlerExamples.{Injected, with_handler, interrupted_at, point_at, at, sends, receives, isr, h}

-- ---- a handler that expects room

-- A task receives twice, and sleeps in between. The handler sends an item and expects that there was room. It comes at tick 1,
-- and at every step at which the plan injects it.
abbrev pub expects_room : Application
expects_room =
    interrupted_at 1 (with_handler (Queue 1 ∷ []) (sends 0 7 ∷ isr_op.Expect (Is (Some (Number 1))) ∷ []) (
    a_task (codes "a") (on_queue Receive 2 ∷ Delay 1 ∷ on_queue Receive 0 ∷ []) ∷ []))

-- It comes only at its tick: the second receive finds nothing.
abbrev pub comes_at_its_tick : Injected
comes_at_its_tick = record {
  app = expects_room;
  plan = [];
  run = record {
    events =
        event_at 4 0 idles ∷ event_at 5 1 (isr 0 1) ∷ event_at 5 1 (runs a) ∷ event_at 6 1 (call a 0 7)
        ∷ event_at 7 1 (call a 1 0) ∷ event_at 7 1 idles ∷ event_at 8 2 (runs a) ∷ event_at 9 2 (what.CallNone a 2)
        ∷ event_at 9 2 idles ∷ [];
    steps = 10;
    ticks = 2;
    end = Pass;
  };
}

-- It comes before the first receive begins.
abbrev pub comes_at_the_start : Injected
comes_at_the_start = record {
  app = expects_room;
  plan = point_at 0;
  run = record {
    events =
        event_at 0 0 (isr 0 1) ∷ event_at 0 0 (call a 0 7) ∷ event_at 1 0 (call a 1 0) ∷ event_at 1 0 idles
        ∷ event_at 2 1 (isr 0 1) ∷ event_at 2 1 (runs a) ∷ event_at 3 1 (call a 2 7) ∷ event_at 3 1 idles ∷ [];
    steps = 4;
    ticks = 1;
    end = Pass;
  };
}

-- It comes before the receive has decided to wait.
abbrev pub comes_before_a_wait : Injected
comes_before_a_wait = record {
  app = expects_room;
  plan = point_at 1;
  run = record {
    events =
        event_at 1 0 (isr 0 1) ∷ event_at 4 0 (call a 0 7) ∷ event_at 5 0 (call a 1 0) ∷ event_at 5 0 idles
        ∷ event_at 6 1 (isr 0 1) ∷ event_at 6 1 (runs a) ∷ event_at 7 1 (call a 2 7) ∷ event_at 7 1 idles ∷ [];
    steps = 8;
    ticks = 1;
    end = Pass;
  };
}

-- It comes during the receive's wait, before this step.
abbrev pub comes_in_a_wait : ℕ → Injected
comes_in_a_wait step = record {
  app = expects_room;
  plan = point_at step;
  run = record {
    events =
        event_at step 0 (isr 0 1) ∷ event_at 5 0 (call a 0 7) ∷ event_at 6 0 (call a 1 0) ∷ event_at 6 0 idles
        ∷ event_at 7 1 (isr 0 1) ∷ event_at 7 1 (runs a) ∷ event_at 8 1 (call a 2 7) ∷ event_at 8 1 idles ∷ [];
    steps = 9;
    ticks = 1;
    end = Pass;
  };
}

-- It comes while idle runs.
abbrev pub comes_beside_idle : Injected
comes_beside_idle = record {
  app = expects_room;
  plan = point_at 5;
  run = record {
    events =
        event_at 4 0 idles ∷ event_at 5 0 (isr 0 1) ∷ event_at 5 0 (runs a) ∷ event_at 5 0 (call a 0 7)
        ∷ event_at 6 0 (call a 1 0) ∷ event_at 6 0 idles ∷ event_at 7 1 (isr 0 1) ∷ event_at 7 1 (runs a)
        ∷ event_at 8 1 (call a 2 7) ∷ event_at 8 1 idles ∷ [];
    steps = 9;
    ticks = 1;
    end = Pass;
  };
}

-- It comes while the item of its tick is still in the queue: there is no room, and the run ends after the step.
abbrev pub finds_no_room : Injected
finds_no_room = record {
  app = expects_room;
  plan = point_at 6;
  run = record {
    events =
        event_at 4 0 idles ∷ event_at 5 1 (isr 0 1) ∷ event_at 5 1 (runs a) ∷ event_at 6 1 (isr 0 0) ∷ event_at 6 1 (call a 0 7)
        ∷ [];
    steps = 7;
    ticks = 1;
    end = HandlerCheck h 1;
  };
}

-- It comes before the task sleeps.
abbrev pub comes_before_a_sleep : Injected
comes_before_a_sleep = record {
  app = expects_room;
  plan = point_at 7;
  run = record {
    events =
        event_at 4 0 idles ∷ event_at 5 1 (isr 0 1) ∷ event_at 5 1 (runs a) ∷ event_at 6 1 (call a 0 7) ∷ event_at 7 1 (isr 0 1)
        ∷ event_at 7 1 (call a 1 0) ∷ event_at 7 1 idles ∷ event_at 8 2 (runs a) ∷ event_at 9 2 (call a 2 7) ∷ event_at 9 2 idles
        ∷ [];
    steps = 10;
    ticks = 2;
    end = Pass;
  };
}

-- It comes while the task sleeps.
abbrev pub comes_in_a_sleep : Injected
comes_in_a_sleep = record {
  app = expects_room;
  plan = point_at 8;
  run = record {
    events =
        event_at 4 0 idles ∷ event_at 5 1 (isr 0 1) ∷ event_at 5 1 (runs a) ∷ event_at 6 1 (call a 0 7)
        ∷ event_at 7 1 (call a 1 0) ∷ event_at 7 1 idles ∷ event_at 8 1 (isr 0 1) ∷ event_at 8 2 (runs a)
        ∷ event_at 9 2 (call a 2 7) ∷ event_at 9 2 idles ∷ [];
    steps = 10;
    ticks = 2;
    end = Pass;
  };
}

-- It comes before the last receive.
abbrev pub comes_at_the_end : Injected
comes_at_the_end = record {
  app = expects_room;
  plan = point_at 9;
  run = record {
    events =
        event_at 4 0 idles ∷ event_at 5 1 (isr 0 1) ∷ event_at 5 1 (runs a) ∷ event_at 6 1 (call a 0 7)
        ∷ event_at 7 1 (call a 1 0) ∷ event_at 7 1 idles ∷ event_at 8 2 (runs a) ∷ event_at 9 2 (isr 0 1)
        ∷ event_at 9 2 (call a 2 7) ∷ event_at 9 2 idles ∷ [];
    steps = 10;
    ticks = 2;
    end = Pass;
  };
}

-- ---- what a failed check leaves undone

-- A handler's last answer is `none` at first, and a mark leaves it unchanged. Ops after the failed check aren't executed. A
-- task's check fails in the same step, but the first failed check decides the run's end.
abbrev pub answers_none_at_first : Injected
answers_none_at_first = record {
  app = with_handler [] (
      isr_op.Expect (Is None) ∷ isr_op.Mark (Number 3) ∷ isr_op.Expect (Is None) ∷ isr_op.Expect (Is (Some (Number 0)))
      ∷ isr_op.Mark (Number 4) ∷ []) (
      a_task (codes "a") (Expect (Is (Some (Number 5))) ∷ []) ∷ []);
  plan = point_at 0;
  run = record {
    events = event_at 0 0 (what.IsrMark h 3) ∷ [];
    steps = 1;
    ticks = 0;
    end = HandlerCheck h 3;
  };
}

-- The handler comes twice before a step. Its first check fails. The second time the answer differs and another check fails, which
-- doesn't count.
abbrev pub fails_twice : Injected
fails_twice = record {
  app = with_handler (Queue 1 ∷ []) (
      sends 0 7 ∷ isr_op.If (Is (Some (Number 1))) ∷ isr_op.Expect (Is (Some (Number 2))) ∷ isr_op.EndIf
      ∷ isr_op.Expect (Is (Some (Number 3))) ∷ []) (
      a_task (codes "a") (Mark (Number 1) ∷ []) ∷ []);
  plan = at 0 ∷ at 0 ∷ [];
  run = record {
    events =
        event_at 0 0 (isr 0 1) ∷ event_at 0 0 (isr 0 0) ∷ event_at 0 0 (what.Mark a 1) ∷ event_at 0 0 idles ∷ [];
    steps = 1;
    ticks = 0;
    end = HandlerCheck h 2;
  };
}

-- The handler's check fails before a step in which the task commits a misuse. The run ends with the misuse.
abbrev pub fails_before_a_misuse : Injected
fails_before_a_misuse = record {
  app = with_handler [] (isr_op.Expect (Is (Some (Number 0))) ∷ []) (a_task (codes "a") (ResumeAll ∷ []) ∷ []);
  plan = point_at 0;
  run = record {
    events = [];
    steps = 1;
    ticks = 0;
    end = Misuse a 0 NotSuspended;
  };
}

-- ---- branches

-- The handler sends an item. If there is no room, it receives the old one; otherwise it writes a mark. It also comes at tick 2.
abbrev pub makes_room : Application
makes_room =
    interrupted_at 2 (with_handler (Queue 1 ∷ []) (
    sends 0 7 ∷ isr_op.If (Is (Some (Number 0))) ∷ receives 0 ∷ isr_op.Mark (Number 9) ∷ isr_op.Else
    ∷ isr_op.Mark (Number 1) ∷ isr_op.EndIf ∷ isr_op.Mark (Number 2)
    ∷ isr_op.Expect (IsNot (Some (Number 0))) ∷ []) (
    a_task (codes "a") (Work 2 ∷ MessagesWaiting 0 ∷ []) ∷ []))

-- It comes only at its tick, and finds room.
abbrev pub finds_room : Injected
finds_room = record {
  app = makes_room;
  plan = [];
  run = record {
    events =
        event_at 1 2 (isr 0 1) ∷ event_at 1 2 (what.IsrMark h 1) ∷ event_at 1 2 (what.IsrMark h 2) ∷ event_at 2 2 (call a 1 1)
        ∷ event_at 2 2 idles ∷ [];
    steps = 3;
    ticks = 2;
    end = Pass;
  };
}

-- It also comes before the first step: at its tick the item is still there.
abbrev pub makes_room_at_its_tick : Injected
makes_room_at_its_tick = record {
  app = makes_room;
  plan = point_at 0;
  run = record {
    events =
        event_at 0 0 (isr 0 1) ∷ event_at 0 0 (what.IsrMark h 1) ∷ event_at 0 0 (what.IsrMark h 2) ∷ event_at 1 2 (isr 0 0)
        ∷ event_at 1 2 (isr 2 7) ∷ event_at 1 2 (what.IsrMark h 9) ∷ event_at 1 2 (what.IsrMark h 2) ∷ event_at 2 2 (call a 1 0)
        ∷ event_at 2 2 idles ∷ [];
    steps = 3;
    ticks = 2;
    end = Pass;
  };
}

-- It also comes one tick before its own.
abbrev pub makes_room_a_tick_later : Injected
makes_room_a_tick_later = record {
  app = makes_room;
  plan = point_at 1;
  run = record {
    events =
        event_at 1 1 (isr 0 1) ∷ event_at 1 1 (what.IsrMark h 1) ∷ event_at 1 1 (what.IsrMark h 2) ∷ event_at 1 2 (isr 0 0)
        ∷ event_at 1 2 (isr 2 7) ∷ event_at 1 2 (what.IsrMark h 9) ∷ event_at 1 2 (what.IsrMark h 2) ∷ event_at 2 2 (call a 1 0)
        ∷ event_at 2 2 idles ∷ [];
    steps = 3;
    ticks = 2;
    end = Pass;
  };
}

-- It also comes before the step after its tick.
abbrev pub makes_room_before_a_step : Injected
makes_room_before_a_step = record {
  app = makes_room;
  plan = point_at 2;
  run = record {
    events =
        event_at 1 2 (isr 0 1) ∷ event_at 1 2 (what.IsrMark h 1) ∷ event_at 1 2 (what.IsrMark h 2) ∷ event_at 2 2 (isr 0 0)
        ∷ event_at 2 2 (isr 2 7) ∷ event_at 2 2 (what.IsrMark h 9) ∷ event_at 2 2 (what.IsrMark h 2) ∷ event_at 2 2 (call a 1 0)
        ∷ event_at 2 2 idles ∷ [];
    steps = 3;
    ticks = 2;
    end = Pass;
  };
}

-- Nested branches: those that aren't taken are skipped as a whole.
abbrev pub branches_in_branches : Injected
branches_in_branches = record {
  app = with_handler [] (
      isr_op.If (Is None) ∷ isr_op.Mark (Number 1) ∷ isr_op.If (Is (Some (Number 5)))
      ∷ isr_op.Mark (Number 2) ∷ isr_op.If (Is None) ∷ isr_op.Else ∷ isr_op.EndIf
      ∷ isr_op.Else ∷ isr_op.Mark (Number 3) ∷ isr_op.EndIf ∷ isr_op.Else ∷ isr_op.If (Is None) ∷ isr_op.Mark (Number 4)
      ∷ isr_op.EndIf ∷ isr_op.EndIf
      ∷ isr_op.Mark (Number 5) ∷ []) (a_task (codes "a") (Mark (Number 1) ∷ []) ∷ []);
  plan = point_at 0;
  run = record {
    events =
        event_at 0 0 (what.IsrMark h 1) ∷ event_at 0 0 (what.IsrMark h 3) ∷ event_at 0 0 (what.IsrMark h 5)
        ∷ event_at 0 0 (what.Mark a 1) ∷ event_at 0 0 idles ∷ [];
    steps = 1;
    ticks = 0;
    end = Pass;
  };
}

-- all of them
abbrev pub looking_examples : List Injected
looking_examples =
    comes_at_its_tick ∷ comes_at_the_start ∷ comes_before_a_wait ∷ comes_in_a_wait 2 ∷ comes_in_a_wait 3 ∷ comes_in_a_wait 4
    ∷ comes_beside_idle ∷ finds_no_room ∷ comes_before_a_sleep ∷ comes_in_a_sleep ∷ comes_at_the_end ∷ answers_none_at_first
    ∷ fails_twice ∷ fails_before_a_misuse ∷ finds_room ∷ makes_room_at_its_tick ∷ makes_room_a_tick_later
    ∷ makes_room_before_a_step ∷ branches_in_branches ∷ []
