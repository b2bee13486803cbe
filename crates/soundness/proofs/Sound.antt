-- What every deed keeps.
use Rattle.std.proofs.Common.{◌≡◌, ◌≢◌, ◌<◌, ◌≤◌, ◌+◌, ◌-◌, ℕ, suc, true, false, eqb, leb, ltb, ltb-false, ◌||◌, List, ◌∷◌, []}
use Rattle.std.proofs.Common.{length, get_or, set, drop, Option, Some, None, refl, ap, sym, subst, ◌∙◌, arith, get_or-set_same}
use Rattle.std.proofs.Common.{min}
use Rattle.std.specs.List.{AllByRecursion}
use Rattle.std.specs.Prelude.{Bool}
use Rattle.std.specs.Option.{IfSome, is_some}
use Rattle.std.proofs.Math.ListN.{length-set}
use Rattle.model.specs.declared.op.Op.{Op}
use Rattle.model.specs.declared.op.Op.TheVariants.{Work, Delay, DelayUntil, Expect, Repeat, End, If, Else, Break, Stamp, Since}
use Rattle.model.specs.declared.answer.AnswerCondition.{AnswerCondition}
use Rattle.model.specs.declared.loops.Loop.{Loop}
use Rattle.model.specs.declared.event.Event.{Event}
use Rattle.model.specs.declared.event.End as ending
use Rattle.model.specs.declared.notification.Notification.{Notification}
use Rattle.model.specs.Application.{Application, script_of, op_at, op_count}
use Rattle.model.specs.Answers.{holds}
use Rattle.model.specs.Blocks.{edge_of, jump_from}
use Rattle.model.specs.Scripts.{IsWellFormed}
use Rattle.model.specs.State.{State, Task, Source, Progress, Status, Ready, Asleep}
use Rattle.model.specs.State.{Ended, ticket_of, wake_time_of, no_call, task_at}
use Rattle.model.specs.State.{progress_at, status_at, with_task, take_ticket, for_one, for_each, no_task, source_at, with_source}
use Rattle.model.specs.Order.{tasks_of}
use Rattle.model.specs.Switching.{make_ready, to_back, dispatch, choose, choice, is_same, is_ready, yield_now, is_outranked}
use Rattle.model.specs.Switching.{is_sharing, preempt, slice, settle, is_off, write}
use Rattle.model.specs.Time.{wake_due, due, delayed_list, delayed_key, sleep, set_previous_wake}
use Rattle.model.specs.Ops.{go_to, moved_to, complete, called, answer, use_up, delay, delay_until, expect, open_loop, next_turn}
use Rattle.model.specs.Ops.{turn, close_turn, branch, skip_branch, leave_loop, stamp, since, do_to_source}
use Rattle.model.specs.declared.source.SourceOp.{SourceOp}
use Rattle.model.specs.declared.source.SourceOp.TheVariants.{Arm, Disarm, Raise, Cancel}
use Rattle.model.specs.Invariant.{HasTicketBelow, IsUsedBy, AreOpenAt, LoopsNest, IsReckoned, HasPriority, IsAt, Hold}
use Rattle.model.specs.Invariant.{IsCall, IsSound, wait_of}
use Rattle.model.proofs.Sorting.{by_test}
use Rattle.model.proofs.Lists.{eqb-refl}
use Rattle.model.proofs.Tables.{ticket_at, table-set, table-taken, each-set}
use Rattle.model.proofs.Chosen.{choice_within, list_within}
use Rattle.model.proofs.Statuses.{ready_awake, ready_free}
use Rattle.soundness.proofs.InScripts.{script_formed, nesting_past, nests_past, no_end, one_less, without_first, open_at_first}
use Rattle.soundness.proofs.InScripts.{used_none}
use Rattle.soundness.proofs.Jumping.{after_if, after_else, after_break}
use Rattle.soundness.proofs.Keeping.{keeps-answer}
use Rattle.soundness.proofs.Reckoned.{later_reckoned, ready_reckoned, reckoned_now, reckoned_ended, ready_alone, CanBeReady}
use Rattle.soundness.proofs.Reckoned.{still_can, due_can, call_free, call_none, call_later}

-- ---- what each deed keeps

module _ (app : Application) (formed : IsWellFormed app) (hold : Hold) where
  -- the events don't matter, nor the steps done, nor an end that a step has brought about, nor what the state says of a hold
  pub framed : (s : State) (log : List Event) (steps : ℕ) (stopped : Option ending.End) (locked : Option ℕ) (held : Bool)
      → IsSound app hold s
      → IsSound app hold (record s { log = log; steps = steps; stopped = stopped; locked = locked; call_hold = held })
  framed s log steps stopped locked held h = record {
    table = record { tickets = h.table.tickets; few = h.table.few; current = h.table.current; holders = h.table.holders };
    tasks = h.tasks;
    objects = h.objects;
    progress = h.progress;
    calls = h.calls;
    contents = h.contents;
    sources = h.sources;
    priorities = h.priorities;
    time = h.time;
  }

  pub logged : (s : State) (log : List Event) (steps : ℕ) (stopped : Option ending.End)
      → IsSound app hold s → IsSound app hold (record s { log = log; steps = steps; stopped = stopped })
  logged s log steps stopped h = framed s log steps stopped s.locked s.call_hold h

  -- what is true of the task of this number
  abbrev pub IsKept : ℕ → ℕ → Task → Type 0
  IsKept now i t =
      IsAt now (script_of app i) t.progress t.status × IsCall hold now (op_at app i t.progress.op_index) t × HasPriority t

  pub kept_at : (s : State) (i : ℕ) → IsSound app hold s → IsKept s.time i (task_at s i)
  kept_at s i h = (h.progress i, h.calls i, h.priorities i)

  kept-set : (s : State) (i : ℕ) (t : Task) → IsSound app hold s → IsKept s.time i t
      → (j : ℕ) → IsKept s.time j (get_or (set s.tasks i t) j no_task)
  kept-set s i t h k = each-set no_task (IsKept s.time) s.tasks i t k (λ j. kept_at s j h)

  pub changed : (s : State) (i : ℕ) (t : Task) → IsSound app hold s
      → HasTicketBelow s.next_ticket t.status → IsKept s.time i t → IsSound app hold (with_task i t s)
  changed s i t h b k = record {
    table = table-set s i t h.table b;
    tasks = rw length-set h.tasks;
    objects = h.objects;
    progress = λ j. (kept-set s i t h k j).0;
    calls = λ j. (kept-set s i t h k j).1;
    contents = h.contents;
    sources = h.sources;
    priorities = λ j. (kept-set s i t h k j).2;
    time = h.time;
  }

  pub taken : (s : State) (i : ℕ) (f : ℕ → Status) → IsSound app hold s → HasTicketBelow (s.next_ticket + 1) (f s.next_ticket)
      → IsKept s.time i (record (task_at s i) { status = f s.next_ticket }) → IsSound app hold (take_ticket i f s)
  taken s i f h b k = record {
    table = table-taken s i f h.table b;
    tasks = rw length-set h.tasks;
    objects = h.objects;
    progress = λ j. (kept-set s i (record (task_at s i) { status = f s.next_ticket }) h k j).0;
    calls = λ j. (kept-set s i (record (task_at s i) { status = f s.next_ticket }) h k j).1;
    contents = h.contents;
    sources = h.sources;
    priorities = λ j. (kept-set s i (record (task_at s i) { status = f s.next_ticket }) h k j).2;
    time = h.time;
  }

  -- a task in its place gets a status in which it doesn't wait
  pub kept_free : (s : State) (i : ℕ) (u : Status) → IsSound app hold s → wait_of u ≡ None
      → IsReckoned s.time (progress_at s i).previous_wake u → IsKept s.time i (record (task_at s i) { status = u })
  kept_free s i u h free r =
      let a = h.progress i in (
        record { nests = a.nests; loops = a.loops; used = a.used; reckoned = r; stamped = a.stamped },
        call_free hold s.time (op_at app i (progress_at s i).op_index) (task_at s i) u free (h.calls i),
        ((h.priorities i).0, (h.priorities i).1, subst (λ o. IfSome o (λ w. w.priority < 32)) (sym free) tt),
      )

  pub made_ready : (s : State) (i : ℕ) → IsSound app hold s → CanBeReady s i → IsSound app hold (make_ready i s)
  made_ready s i h c = taken s i Ready h (omega arith) (kept_free s i (Ready s.next_ticket) h refl c.1)

  pub all_made_ready : (s : State) (is : List ℕ) → IsSound app hold s
      → AllByRecursion (CanBeReady s) is → IsSound app hold (for_each make_ready is s)
  all_made_ready s [] h a = h
  all_made_ready s (i ∷ is) h a = all_made_ready (make_ready i s) is (made_ready s i h a.0) (still_can s i is a.0 a.1)

  pub ready_can : (s : State) (i : ℕ) → IsSound app hold s → i < length s.tasks → is_ready s i ≡ true → CanBeReady s i
  ready_can s i h l t = (l, ready_reckoned s.time (progress_at s i).previous_wake (status_at s i) (h.progress i).reckoned t)

  pub runs : (s : State) (c : Option ℕ) → IsSound app hold s
      → IfSome c (λ i. i < length s.tasks) → IsSound app hold (record s { current = c })
  runs s c h l = record {
    table = record { tickets = h.table.tickets; few = h.table.few; current = l; holders = h.table.holders };
    tasks = h.tasks;
    objects = h.objects;
    progress = h.progress;
    calls = h.calls;
    contents = h.contents;
    sources = h.sources;
    priorities = h.priorities;
    time = h.time;
  }

  pub chosen : (s : State) → IsSound app hold s → IsSound app hold (choose s)
  unfolding choose dispatch
  chosen s h = by_test (is_same (choice s) s.current)
      (λ t. rw t h)
      (λ t. rw t (logged (record s { current = choice s }) _ s.steps s.stopped (runs s (choice s) h (choice_within s))))

  pub went_back : (s : State) (r : Option ℕ) → IsSound app hold s
      → IfSome r (λ i. i < length s.tasks) → IsSound app hold (for_one to_back r s)
  unfolding to_back
  went_back s None h l = h
  went_back s (Some i) h l = by_test (is_ready s i) (λ t. rw t (made_ready s i h (ready_can s i h l t))) (λ t. rw t h)

  pub yielded : (s : State) → IsSound app hold s → IsSound app hold (yield_now s)
  unfolding yield_now
  yielded s h = chosen (for_one to_back s.current s) (went_back s s.current h h.table.current)

  pub sliced : (s : State) → IsSound app hold s → IsSound app hold (slice s)
  unfolding slice
  sliced s h = by_test (is_outranked s || is_sharing s) (λ t. rw t (yielded s h)) (λ t. rw t h)

  pub preempted : (s : State) → IsSound app hold s → IsSound app hold (preempt s)
  unfolding preempt
  preempted s h = by_test (is_outranked s) (λ t. rw t (yielded s h)) (λ t. rw t h)

  pub settled : (s : State) → IsSound app hold s → IsSound app hold (settle s)
  unfolding settle
  settled s h = by_test (is_off s s.current) (λ t. rw t (chosen s h)) (λ t. rw t h)

  pub woken : (s : State) → IsSound app hold s → IsSound app hold (wake_due s)
  unfolding wake_due
  woken s h =
      all_made_ready s (tasks_of (due s)) h
      (due_can s (λ i. (h.progress i).reckoned) (delayed_list s) (list_within delayed_key s.tasks))

  pub later : (n : ℕ) (s : State) → IsSound app hold s → IsSound app hold (record s { time = s.time + n; elapsed = s.elapsed + n })
  later n s h = let b = h.time.0 in let e = h.time.1 in record {
    table = record { tickets = h.table.tickets; few = h.table.few; current = h.table.current; holders = h.table.holders };
    tasks = h.tasks;
    objects = h.objects;
    progress = λ i.
        let a = h.progress i in
        record {
          nests = a.nests;
          loops = a.loops;
          used = a.used;
          reckoned = later_reckoned n s.time (progress_at s i).previous_wake (status_at s i) a.reckoned;
          stamped = let le = a.stamped in omega arith;
        };
    calls = λ i. call_later n hold s.time (op_at app i (progress_at s i).op_index) (task_at s i) (h.calls i);
    contents = h.contents;
    sources = h.sources;
    priorities = h.priorities;
    time = (omega arith, omega arith);
  }

  -- a tick that is held
  pub held_up : (s : State) → IsSound app hold s
      → IsSound app hold (record s { elapsed = s.elapsed + 1; held_ticks = s.held_ticks + 1 })
  held_up s h = let b = h.time.0 in let e = h.time.1 in record {
    table = record { tickets = h.table.tickets; few = h.table.few; current = h.table.current; holders = h.table.holders };
    tasks = h.tasks;
    objects = h.objects;
    progress = h.progress;
    calls = h.calls;
    contents = h.contents;
    sources = h.sources;
    priorities = h.priorities;
    time = (b, omega arith);
  }

  -- a tick that was held comes now
  pub held_no_more : (s : State) → IsSound app hold s → 0 < s.held_ticks
      → IsSound app hold (record s { time = s.time + 1; held_ticks = s.held_ticks - 1 })
  held_no_more s h some = let b = h.time.0 in let e = h.time.1 in record {
    table = record { tickets = h.table.tickets; few = h.table.few; current = h.table.current; holders = h.table.holders };
    tasks = h.tasks;
    objects = h.objects;
    progress = λ i.
        let a = h.progress i in
        record {
          nests = a.nests;
          loops = a.loops;
          used = a.used;
          reckoned = later_reckoned 1 s.time (progress_at s i).previous_wake (status_at s i) a.reckoned;
          stamped = let le = a.stamped in omega arith;
        };
    calls = λ i. call_later 1 hold s.time (op_at app i (progress_at s i).op_index) (task_at s i) (h.calls i);
    contents = h.contents;
    sources = h.sources;
    priorities = h.priorities;
    time = (omega arith, omega arith);
  }

  -- the event groups, and how many `suspend_all` are in force
  pub otherwise : (s : State) (bits : ℕ → ℕ) (suspensions sections : ℕ) → IsSound app hold s
      → IsSound app hold (record s { group_bits = bits; suspensions = suspensions; sections = sections })
  otherwise s bits suspensions sections h = record {
    table = record { tickets = h.table.tickets; few = h.table.few; current = h.table.current; holders = h.table.holders };
    tasks = h.tasks;
    objects = h.objects;
    progress = h.progress;
    calls = h.calls;
    contents = h.contents;
    sources = h.sources;
    priorities = h.priorities;
    time = h.time;
  }

  -- the variables, of which nothing else depends
  pub revalued : (s : State) (variables : List ℕ) → IsSound app hold s → IsSound app hold (record s { variables = variables })
  revalued s variables h = record {
    table =
        record { tickets = h.table.tickets; few = h.table.few; current = h.table.current; holders = h.table.holders };
    tasks = h.tasks;
    objects = h.objects;
    sources = h.sources;
    progress = h.progress;
    calls = h.calls;
    contents = h.contents;
    priorities = h.priorities;
    time = h.time;
  }

  -- the notifications, of which nothing else depends
  pub renotified : (s : State) (notifications : ℕ → Notification) → IsSound app hold s
      → IsSound app hold (record s { notifications = notifications })
  renotified s notifications h = record {
    table = record { tickets = h.table.tickets; few = h.table.few; current = h.table.current; holders = h.table.holders };
    tasks = h.tasks;
    objects = h.objects;
    progress = h.progress;
    calls = h.calls;
    contents = h.contents;
    sources = h.sources;
    priorities = h.priorities;
    time = h.time;
  }

  -- what is kept of the interrupt sources, of which there are as many
  pub resourced : (s : State) (sources : List Source) → length sources ≡ length app.handlers + 1
      → IsSound app hold s → IsSound app hold (record s { sources = sources })
  resourced s sources many h = record {
    table = record { tickets = h.table.tickets; few = h.table.few; current = h.table.current; holders = h.table.holders };
    tasks = h.tasks;
    objects = h.objects;
    progress = h.progress;
    calls = h.calls;
    contents = h.contents;
    sources = many;
    priorities = h.priorities;
    time = h.time;
  }

  -- one of them
  pub with_source_sound : (source : ℕ) (x : Source) (s : State) → IsSound app hold s → IsSound app hold (with_source source x s)
  with_source_sound source x s h = resourced s (set s.sources source x) (length-set s.sources source x ∙ h.sources) h

  pub done_to_source : (handler : ℕ) (op : SourceOp) (s : State) → IsSound app hold s → IsSound app hold (do_to_source handler op s)
  done_to_source handler Arm s h = with_source_sound handler (record (source_at s handler) { armed = true }) s h
  done_to_source handler Disarm s h = with_source_sound handler (record (source_at s handler) { armed = false }) s h
  done_to_source handler (Raise ticks) s h =
      with_source_sound handler (record (source_at s handler) { raised = Some (s.elapsed + ticks) }) s h
  done_to_source handler Cancel s h = with_source_sound handler (record (source_at s handler) { raised = None }) s h

  -- The task of the state, which doesn't wait, is at an op, which does something and goes on.
  module _ (s : State) (i : ℕ) (h : IsSound app hold s) (free : wait_of (status_at s i) ≡ None) where
    ticket_kept : HasTicketBelow s.next_ticket (status_at s i)
    ticket_kept = ticket_at s.next_ticket i s.tasks h.table.tickets

    gone : (op_index : ℕ) (p : Progress) → p.previous_wake ≡ (progress_at s i).previous_wake
        → p.stamp ≤ s.time → AreOpenAt (script_of app i) op_index (length p.loops)
        → LoopsNest (script_of app i) p.loops → IsSound app hold (go_to app i op_index p s)
    unfolding go_to
    gone op_index p before stamped n ls =
        let q : Progress = record p { op_index = op_index; used = 0; call = no_call } in
        let a : (u : Status) → IsReckoned s.time p.previous_wake u → IsAt s.time (script_of app i) q u = λ u r.
        record {
          nests = n;
          loops = ls;
          used = used_none op_index (script_of app i) (script_formed app formed i).ranges;
          reckoned = r;
          stamped = stamped;
        } in
        let c : (u : Status) → wait_of u ≡ None
        → IsCall hold s.time (op_at app i op_index) (record (task_at s i) { progress = q; status = u }) = λ u f.
        call_none hold s.time (op_at app i op_index) (record (task_at s i) { progress = q; status = u }) refl f in
        let kept : IsReckoned s.time p.previous_wake (status_at s i) = rw before (h.progress i).reckoned in
        by_test (eqb op_index (op_count app i))
        (λ e.
        rw e (changed s i (record (task_at s i) { progress = q; status = Ended }) h tt
        (a Ended tt, c Ended refl, ((h.priorities i).0, (h.priorities i).1, tt))))
        (λ e.
        rw e (changed s i (record (task_at s i) { progress = q }) h ticket_kept
        (a (status_at s i) kept, c (status_at s i) free, h.priorities i)))

    module _ (op : Op) (is : op_at app i (progress_at s i).op_index ≡ Some op) where
      past_it : AreOpenAt (script_of app i) ((progress_at s i).op_index + 1) (nesting_past (length (progress_at s i).loops) op)
      past_it = nests_past (length (progress_at s i).loops) (progress_at s i).op_index (script_of app i) op (h.progress i).nests is

      -- an op that opens or closes no loop, whatever the answer
      pub plain : (a : Option ℕ) → nesting_past (length (progress_at s i).loops) op ≡ length (progress_at s i).loops
          → IsSound app hold (complete app i (record (progress_at s i) { answer = a }) s)
      plain a e =
          gone ((progress_at s i).op_index + 1) (record (progress_at s i) { answer = a })
          refl (h.progress i).stamped (rw e at past_it) (h.progress i).loops

    -- back to the first op, where no loop is open
    pub restarted : (a : Option ℕ) → (progress_at s i).loops ≡ []
        → IsSound app hold (go_to app i 0 (record (progress_at s i) { answer = a }) s)
    restarted a none =
        gone 0 (record (progress_at s i) { answer = a }) refl (h.progress i).stamped
        (rw none (open_at_first app formed i)) (rw none tt)

  module _ (s : State) (i : ℕ) (op : Op) (h : IsSound app hold s) (free : wait_of (status_at s i) ≡ None)
      (is : op_at app i (progress_at s i).op_index ≡ Some op) where
    pub answered : (a : Option ℕ) → nesting_past (length (progress_at s i).loops) op ≡ length (progress_at s i).loops
        → IsSound app hold (answer app i a s)
    unfolding answer
    answered a e = plain (write (called i (progress_at s i).op_index a) s) i (logged s _ s.steps s.stopped h) free op is a e

    pub used_up : (n : ℕ) → op ≡ Work n → IsSound app hold (use_up app i n s)
    unfolding use_up
    used_up n e = by_test (eqb ((progress_at s i).used + 1) n)
        (λ t. rw t (plain s i h free op is (progress_at s i).answer (rw e refl)))
        (λ t.
        let a = h.progress i in
        let c = h.calls i in
        let u : IsUsedBy (progress_at s i).used (op_at app i (progress_at s i).op_index) = a.used in
        let W : Option Op → Type 0 = λ o. IsUsedBy (progress_at s i).used o in
        let less : (progress_at s i).used < n = subst W (is ∙ ap Some e) u in
        let apart : (progress_at s i).used + 1 ≢ n =
        (λ q. let v : eqb ((progress_at s i).used + 1) n ≡ true = rw q (eqb-refl n) in absurd (cc)) in
        let more : (progress_at s i).used + 1 < n = omega arith in
        let V : Option Op → Type 0 = λ o. IsUsedBy ((progress_at s i).used + 1) o in
        rw t (changed s i (record (task_at s i) { progress = record (progress_at s i) { used = (progress_at s i).used + 1 } })
        h (ticket_kept s i h free) (
          record {
            nests = a.nests;
            loops = a.loops;
            used = subst V (sym (is ∙ ap Some e)) more;
            reckoned = a.reckoned;
            stamped = a.stamped;
          },
          record { phase = c.phase; wait = c.wait; awake = c.awake; near = c.near },
          h.priorities i,
        )))

    pub expected : (condition : AnswerCondition) → op ≡ Expect condition → IsSound app hold (expect app i condition s)
    unfolding expect
    expected condition e = by_test (holds s.variables condition (progress_at s i).answer)
        (λ t. rw t (plain s i h free op is (progress_at s i).answer (rw e refl)))
        (λ t. rw t (logged s s.log s.steps _ h))

    pub opened : (turns : Option ℕ) → op ≡ Repeat turns → IsSound app hold (open_loop app i turns s)
    unfolding open_loop
    opened turns e =
        let p : Progress = progress_at s i in
        let Open : ℕ → Type 0 = AreOpenAt (script_of app i) (p.op_index + 1) in
        let inner : Open (length p.loops + 1) = rw e at (past_it s i h free op is) in
        let deep : Open (suc (length p.loops)) = let n : length p.loops + 1 ≡ suc (length p.loops) = omega arith in rw n at inner in
        gone s i h free (p.op_index + 1) (record p { loops = record { start = p.op_index + 1; left = turns } ∷ p.loops })
        refl (h.progress i).stamped deep (deep, (h.progress i).loops)

    -- a turn of a loop that is open with these around it
    next_by : (x : Loop) (xs : List Loop) (left : Option ℕ) → LoopsNest (script_of app i) (x ∷ xs)
        → (progress_at s i).loops ≡ x ∷ xs → AreOpenAt (script_of app i) ((progress_at s i).op_index + 1) (length xs)
        → IsSound app hold (next_turn app i (progress_at s i) x xs left s)
    next_by x xs None all same rest =
        let p : Progress = progress_at s i in
        gone s i h free x.start p refl (h.progress i).stamped (rw same all.0) (rw same all)
    next_by x xs (Some left) all same rest =
        let p : Progress = progress_at s i in
        by_test (leb left 1)
        (λ q. rw q (gone s i h free (p.op_index + 1) (record p { loops = xs }) refl (h.progress i).stamped rest all.1))
        (λ q.
        rw q (gone s i h free x.start (record p { loops = record x { left = Some (left - 1) } ∷ xs })
        refl (h.progress i).stamped all.0 (all.0, all.1)))

    closed_by : op ≡ End → (ls : List Loop) → (progress_at s i).loops ≡ ls → IsSound app hold (turn app i (progress_at s i) ls s)
    closed_by e [] same =
        let none : AreOpenAt (script_of app i) (progress_at s i).op_index 0 = rw same at (h.progress i).nests in
        let end : op_at app i (progress_at s i).op_index ≡ Some End = rw e at is in
        absurd (no_end (progress_at s i).op_index (script_of app i) none end)
    closed_by e (x ∷ xs) same =
        let p : Progress = progress_at s i in
        let all : LoopsNest (script_of app i) (x ∷ xs) = rw same at (h.progress i).loops in
        let P : List Loop → Type 0 = λ us. AreOpenAt (script_of app i) (p.op_index + 1) (nesting_past (length us) op) in
        let outer : AreOpenAt (script_of app i) (p.op_index + 1) (length (x ∷ xs) - 1) =
        rw e at (subst P same (past_it s i h free op is)) in
        let rest : AreOpenAt (script_of app i) (p.op_index + 1) (length xs) =
        let n : length (x ∷ xs) - 1 ≡ length xs = omega arith in
        rw n at outer in
        next_by x xs x.left all same rest

    pub closed : op ≡ End → IsSound app hold (close_turn app i s)
    unfolding close_turn
    closed e = closed_by e (progress_at s i).loops refl

    pub branched : (condition : AnswerCondition) → op ≡ If condition → IsSound app hold (branch app i condition s)
    unfolding branch
    branched condition e =
        let p : Progress = progress_at s i in
        by_test (holds s.variables condition p.answer)
        (λ t. rw t (plain s i h free op is p.answer (rw e refl)))
        (λ t. rw t (gone s i h free (jump_from (script_of app i) p.op_index) p refl (h.progress i).stamped
        (after_if (length p.loops) p.op_index (script_of app i) op (h.progress i).nests is (ap edge_of e)) (h.progress i).loops))

    pub skipped : op ≡ Else → IsSound app hold (skip_branch app i s)
    unfolding skip_branch
    skipped e =
        let p : Progress = progress_at s i in
        gone s i h free (jump_from (script_of app i) p.op_index) p refl (h.progress i).stamped
        (after_else (length p.loops) p.op_index (script_of app i) op (h.progress i).nests is (ap edge_of e)) (h.progress i).loops

    pub stamped : op ≡ Stamp → IsSound app hold (stamp app i s)
    unfolding stamp
    stamped e =
        let p : Progress = progress_at s i in
        gone s i h free (p.op_index + 1) (record p { stamp = s.time }) refl
        (omega arith) (rw e at (past_it s i h free op is)) (h.progress i).loops

    pub since_stamped : op ≡ Since → IsSound app hold (since app i s)
    unfolding since
    since_stamped e = answered (Some (min (s.time - (progress_at s i).stamp) 4294967295)) (rw e refl)

    pub loop_left : op ≡ Break → IsSound app hold (leave_loop app i s)
    unfolding leave_loop
    loop_left e =
        let p : Progress = progress_at s i in
        let at = after_break (length p.loops) p.op_index (script_of app i) op (h.progress i).nests is (ap edge_of e) in
        gone s i h free (jump_from (script_of app i) p.op_index) (record p { loops = drop 1 p.loops }) refl (h.progress i).stamped
        (subst (AreOpenAt (script_of app i) (jump_from (script_of app i) p.op_index)) (one_less p.loops at.0) at.1)
        (without_first (script_of app i) p.loops (h.progress i).loops)

  pub slept : (s : State) (i wake_time : ℕ) → IsSound app hold s
      → (is_ready s i ≡ true → (progress_at s i).previous_wake ≤ wake_time) → IsSound app hold (sleep i wake_time s)
  unfolding sleep
  slept s i wake_time h le = by_test (is_ready s i)
      (λ u. rw u (taken s i (Asleep wake_time) h (omega arith) (kept_free s i (Asleep wake_time s.next_ticket) h refl (le u))))
      (λ u. rw u h)

  counted : (s : State) (i time : ℕ) → IsSound app hold s
      → IsReckoned s.time time (status_at s i) → IsSound app hold (set_previous_wake i time s)
  unfolding set_previous_wake
  counted s i time h r =
      let a = h.progress i in
      let c = h.calls i in
      changed s i (record (task_at s i) { progress = record (progress_at s i) { previous_wake = time } })
      h (ticket_at s.next_ticket i s.tasks h.table.tickets) (
        record { nests = a.nests; loops = a.loops; used = a.used; reckoned = r; stamped = a.stamped },
        record { phase = c.phase; wait = c.wait; awake = c.awake; near = c.near },
        h.priorities i,
      )

  -- One who has begun to sleep until a time may count from it.
  reckoned_asleep : (s : State) (i wake_time : ℕ) → i < length s.tasks → is_some (ticket_of (status_at s i)) ≡ is_ready s i
      → IsReckoned (sleep i wake_time s).time wake_time (status_at (sleep i wake_time s) i)
  unfolding sleep
  reckoned_asleep s i wake_time l same =
      let t : Task = record (task_at s i) { status = Asleep wake_time s.next_ticket } in
      by_test (is_ready s i)
      (λ u. rw (u, get_or-set_same s.tasks i t no_task l, status_at) (omega arith))
      (λ u. rw u (reckoned_ended s.time wake_time (status_at s i) u same))

  still_task : (s : State) (i : ℕ) (a : Option ℕ) → i < length s.tasks → i < length (answer app i a s).tasks
  still_task s i a l = rw (keeps-answer app i a s).tasks l

  -- The answering task was Ready, so it is so still, or Ended.
  module _ (s : State) (i : ℕ) (a : Option ℕ) (l : i < length s.tasks) where
    answering : Task
    answering = moved_to (op_count app i) ((progress_at s i).op_index + 1) (record (progress_at s i) { answer = a }) (task_at s i)

    at_answer : task_at (answer app i a s) i ≡ answering
    unfolding answer go_to answering
    at_answer = get_or-set_same s.tasks i answering no_task l

    awake_answer : is_ready s i ≡ true → wake_time_of (status_at (answer app i a s) i) ≡ None
    unfolding answering
    awake_answer t =
        rw (at_answer, status_at) (by_test (eqb ((progress_at s i).op_index + 1) (op_count app i))
        (λ u. rw u refl) (λ u. rw u (ready_awake (status_at s i) t)))

    alone_answer : is_ready s i ≡ true → is_some (ticket_of (status_at (answer app i a s) i)) ≡ is_ready (answer app i a s) i
    unfolding answering
    alone_answer t =
        rw (at_answer, status_at) (by_test (eqb ((progress_at s i).op_index + 1) (op_count app i))
        (λ u. rw u refl) (λ u. rw u (ready_alone (status_at s i) t)))

    previous_answer : (progress_at (answer app i a s) i).previous_wake ≡ (progress_at s i).previous_wake
    unfolding answering
    previous_answer = rw (at_answer, progress_at) refl

  -- who sleeps from now on
  pub delayed : (s : State) (i n : ℕ) → IsSound app hold s → i < length s.tasks → is_ready s i ≡ true
      → op_at app i (progress_at s i).op_index ≡ Some (Delay n) → IsSound app hold (delay app i n s)
  unfolding delay
  delayed s i n h l ready is =
      let t : State = answer app i (Some 0) s in
      let k : IsSound app hold t = answered s i (Delay n) h (ready_free (status_at s i) ready) is (Some 0) refl in
      let now : t.time ≡ s.time = (keeps-answer app i (Some 0) s).time in
      by_test (eqb n 0)
      (λ q. rw q (yielded t k))
      (λ q. rw q (slept t i (s.time + n) k
      (λ r. let le = (ready_can t i k (still_task s i (Some 0) l) r).1 in omega arith)))

  pub delayed_until : (s : State) (i n : ℕ) → IsSound app hold s → i < length s.tasks
      → is_ready s i ≡ true → op_at app i (progress_at s i).op_index ≡ Some (DelayUntil n)
      → IsSound app hold (delay_until app i ((progress_at s i).previous_wake + n) s)
  unfolding delay_until
  delayed_until s i n h l ready is =
      let time : ℕ = (progress_at s i).previous_wake + n in
      let free : wait_of (status_at s i) ≡ None = ready_free (status_at s i) ready in
      by_test (ltb s.time time)
      (λ t.
      let one : State = answer app i (Some 1) s in
      let there : i < length one.tasks = still_task s i (Some 1) l in
      let before : (progress_at one i).previous_wake ≡ (progress_at s i).previous_wake = previous_answer s i (Some 1) l in
      let asleep : IsSound app hold (sleep i time one) =
      slept one i time (answered s i (DelayUntil n) h free is (Some 1) refl) (λ _. omega arith) in
      rw t (counted (sleep i time one) i time asleep (reckoned_asleep one i time there (alone_answer s i (Some 1) l ready))))
      (λ t.
      let le : time ≤ (answer app i (Some 0) s).time = rw (keeps-answer app i (Some 0) s).time (ltb-false s.time time t) in
      rw t (counted _ i time (answered s i (DelayUntil n) h free is (Some 0) refl)
      (reckoned_now _ time _ le (awake_answer s i (Some 0) l ready))))
