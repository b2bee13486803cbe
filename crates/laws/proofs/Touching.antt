-- What a step does to the interrupt sources: by which changes, and so what every step keeps of them.
use Rattle.model.specs.declared.op.Op.TheVariants.{Value, Work, Delay, DelayUntil, Yield, Time, Mark, Expect, Repeat, End, If}
use Rattle.model.specs.declared.op.Op.TheVariants.{Else, EndIf, Break, Stamp, Since, Await, Do, GiveMutex, MessagesWaiting}
use Rattle.model.specs.declared.op.Op.TheVariants.{SpacesAvailable, SetBits, ClearBits, GetBits, WaitBits, Suspend, Resume}
use Rattle.model.specs.declared.op.Op.TheVariants.{SuspendAll, ResumeAll, EnterCritical, ExitCritical, NextCommand, Obey}
use Rattle.model.specs.declared.op.Op.TheVariants.{Notify, AwaitNotification, ClearNotification}
use Rattle.model.specs.declared.op.Op.TheVariants as op
use Rattle.model.specs.declared.source.SourceOp.{SourceOp}
use Rattle.model.specs.Ops.{calculate, store, answer, use_up, open_loop, close_turn, skip_branch, with_sections}
use Rattle.model.specs.Ops.{control, do_to_source}
use Rattle.model.specs.Step.{act_by_value, call_with_number, notify_by_number, act, misuse, act_unless, act_if}
use Rattle.model.specs.Step.{act_current, before_step, step, nobody_ready, ready_at_reset, reset, with_ops}
use Rattle.model.specs.Values.{answer_of, number_of, with_number}
use Rattle.std.specs.List.{AllByRecursion, filter, range_with_len}
use Rattle.std.proofs.Common.{length}
use Rattle.soundness.proofs.Passing.{by_value}
use Rattle.soundness.proofs.Ticking.{either_way, jumped}
use Rattle.std.proofs.Common.{[], ◌-◌, ◌≡◌, ◌<◌, ◌≤◌, ◌+◌, ◌++◌, ℕ, zero, suc, true, false, eqb, List, ◌∷◌, Option}
use Rattle.std.proofs.Common.{Some, None, map, refl, sym, subst, ap₂, ◌∙◌, arith}
use Rattle.std.specs.Prelude.{Bool, if◌then◌else◌}
use Rattle.std.specs.Option.{IfSome}
use Rattle.model.specs.declared.op.Op.{Op}
use Rattle.model.specs.Notifications.{notify_with_number, notify, call_notify}
use Rattle.model.specs.State.{State, Source, progress_at}
use Rattle.model.specs.State.{call_at, bits_at, for_each, printed, source_at, with_bits, with_source}
use Rattle.model.specs.declared.op.Access.TheVariants.{Send}
use Rattle.model.specs.declared.event.What.TheVariants as what
use Rattle.model.specs.declared.event.Misuse.{Misuse}
use Rattle.model.specs.Blocks.{jump_from}
use Rattle.model.specs.Application.{Application, Limits, commands_of, op_at, ops_of, interrupts_at, script_of}
use Rattle.model.specs.Order.{tasks_of}
use Rattle.model.specs.Switching.{make_ready, preempt, slice, settle, unless_held, write, is_held, is_critical}
use Rattle.model.specs.Switching.{holds_ticks}
use Rattle.model.specs.Time.{due, wake_due, advance, increment_tick, jump}
use Rattle.model.specs.declared.plan.Injection.{Injection}
use Rattle.model.specs.declared.op.IsrOp.{IsrOp}
use Rattle.model.specs.declared.op.IsrOp.TheVariants as isr_op
use Rattle.model.specs.Handlers.{isr, isr_answer, isr_jump, is_failed, isr_each, handle, serve, inject, interrupt, can_come, come}
use Rattle.model.specs.Handlers.{note_coming, is_raised_for, none_raised_now, raised_now}
use Rattle.model.specs.Handlers.{is_tick, pend, pending_of, none_pending, serve_pending, tick_interrupt, idle, ticks_ahead}
use Rattle.model.specs.Groups.{bits_without, clear}
use Rattle.model.specs.Suspension.{suspend, resume, call_suspend, call_resume, suspend_all, resume_scheduler}
use Rattle.model.specs.Suspension.{resume_all}
use Rattle.model.specs.Daemon.{item_of, command_at}
use Rattle.model.specs.Run.{injected, state_after}
use Rattle.model.proofs.Sorting.{by_test}
use Rattle.soundness.proofs.Judging.{by_judgement}
use Rattle.soundness.proofs.Settled.{when_held, when_free}
use Rattle.laws.proofs.Staying.{AreLeft, IsUntouched, Stops}
use Rattle.laws.proofs.Sleeping.{NoneBetween, NoneRaisedBetween, none_raised_ahead}
use Rattle.laws.proofs.Deeds.{Keeping, kept-answer, kept-applied, kept-attempt, kept-await, kept-await_notification}
use Rattle.laws.proofs.Deeds.{kept-branch, kept-clear_notification, kept-delay, kept-delay_until, kept-do_now, kept-expect}
use Rattle.laws.proofs.Deeds.{kept-give_mutex, kept-go_to, kept-leave_loop, kept-next_command, kept-notify}
use Rattle.laws.proofs.Deeds.{kept-obey, kept-preempt, kept-replied, kept-resume, kept-set_bits, kept-settle, kept-since}
use Rattle.laws.proofs.Deeds.{kept-slice, kept-stamp, kept-suspend, kept-turn, kept-use_up, kept-wait_bits, kept-with_bits}
use Rattle.laws.proofs.Deeds.{kept-yield_now}
use Rattle.laws.proofs.Changes.{anyone}
use Rattle.laws.proofs.Sources.{changed, done_is, lowered, noted, one_changed}
use Rattle.std.proofs.Common.{get_or, ◌&&◌}
use Rattle.std.proofs.Math.ListN.{get_or-map}
use Rattle.model.specs.State.{no_source}
use Rattle.model.specs.Scripts.{IsWellFormed, has_handler, is_in_range, is_near, knows_isr}
use Rattle.soundness.proofs.InScripts.{Known, isr_known, known_at, range_at, script_formed}

-- ---- what no deed but those on sources changes

sources-all_ready : (is : List ℕ) (s : State)
    → ((for_each make_ready is s).sources ≡ s.sources) × ((for_each make_ready is s).elapsed ≡ s.elapsed)
sources-all_ready [] s = (refl, refl)
sources-all_ready (i ∷ is) s = sources-all_ready is (make_ready i s)

-- The sources are these, and so many ticks have elapsed.
abbrev Has : List Source → ℕ → State → Type 0
Has xs now s = (s.sources ≡ xs) × (s.elapsed ≡ now)

module _ (xs : List Source) (now : ℕ) where
  has-framed : (s t : State) → t.tasks ≡ s.tasks → t.next_ticket ≡ s.next_ticket
      → t.time ≡ s.time → Stops s.stopped t.stopped → AreLeft 0 true 0 true false s t → Has xs now s → Has xs now t
  has-framed s t e n m stops left h = let same : IsUntouched s t = left.2 refl in (same.0 ∙ h.0, same.1 ∙ h.1)

  has-passed : (n : ℕ) (s : State) → NoneBetween n s → Has xs now s → Has xs now (wake_due (record s { time = s.time + n }))
  unfolding wake_due
  has-passed n s none h =
      let t : State = record s { time = s.time + n } in
      let same = sources-all_ready (tasks_of (due t)) t in
      (same.0 ∙ h.0, same.1 ∙ h.1)

  has-kept : Keeping (Has xs now) anyone anyone 0 true 0 true false
  has-kept = record {
    framed = has-framed;
    moved = λ s i t u remains k. k;
    taken = λ s i status is later k. k;
    passed = has-passed;
  }

-- Nothing is changed of the sources, and no tick elapses.
abbrev pub Spares : State → State → Type 0
Spares s t = Has s.sources s.elapsed t

module _ (s : State) where
  abbrev them : Keeping (Spares s) anyone anyone 0 true 0 true false
  them = has-kept s.sources s.elapsed

  spares-unless_held : (deed : State → State) → ((t : State) → Spares s t → Spares s (deed t)) → (t : State) → Spares s t
      → Spares s (unless_held deed t)
  spares-unless_held deed k t h = by_test (is_held t)
      (λ q. subst (Spares s) (sym (when_held deed t q)) h)
      (λ q. subst (Spares s) (sym (when_free deed t q)) (k t h))

  spares-resume_scheduler : Spares s (resume_scheduler s)
  unfolding resume_scheduler
  spares-resume_scheduler =
      let t : State = record s { suspensions = s.suspensions - 1 } in
      by_test (eqb s.suspensions 1)
      (λ q. rw q (kept-applied them s.held_ticks t (refl, refl)))
      (λ q. rw q (refl, refl))

  pub spares-preempt : (t : State) → Spares s t → Spares s (unless_held preempt t)
  spares-preempt t h = spares-unless_held preempt (kept-preempt them) t h

  pub spares-slice : (t : State) → Spares s t → Spares s (unless_held slice t)
  spares-slice t h = spares-unless_held slice (kept-slice them) t h

  spares-settle : (t : State) → Spares s t → Spares s (unless_held settle t)
  spares-settle t h = spares-unless_held settle (kept-settle them) t h

-- one tick elapses, or several
pub elapses : (s : State) → ((increment_tick s).sources ≡ s.sources) × ((increment_tick s).elapsed ≡ s.elapsed + 1)
unfolding increment_tick advance wake_due
elapses s =
    let next : State = record s { time = s.time + 1; elapsed = s.elapsed + 1 } in
    by_test (holds_ticks s) (λ t. rw t (refl, refl)) (λ t. rw t (sources-all_ready (tasks_of (due next)) next))

elapse : (n : ℕ) (s : State) → ((jump n s).sources ≡ s.sources) × ((jump n s).elapsed ≡ s.elapsed + n)
unfolding jump wake_due
elapse n s =
    let next : State = record s { time = s.time + n; elapsed = s.elapsed + n } in sources-all_ready (tasks_of (due next)) next

-- ---- what every step keeps, if these changes keep it

-- an op of a handler, and its coming
pub record Coming (app : Application) (P : State → Type 0)
    -- which ops on sources may be done
    (may : ℕ → SourceOp → Bool) : Type 0 where
  pub spared : (s t : State) → t.sources ≡ s.sources → t.elapsed ≡ s.elapsed → P s → P t
  pub done : (handler : ℕ) (op : SourceOp) (s : State) → may handler op ≡ true → P s → P (do_to_source handler op s)
  pub noted : (handler : ℕ) (s : State) → P s → P (note_coming app handler s)

pub record Touching (app : Application) (P : State → Type 0) (may : ℕ → SourceOp → Bool) : Type 0 where
  pub coming : Coming app P may
  -- A handler becomes pending, and none is so any more.
  pub marked : (handler : ℕ) (s : State) → P s → P (with_source handler (record (source_at s handler) { pending = true }) s)
  pub unmarked : (s : State) → P s → P (none_pending s)
  -- Ticks elapse, past none for which a handler is raised, and no handler is raised for the last any more.
  pub elapsed : (n : ℕ) (s : State) → NoneRaisedBetween n s → P s → P (none_raised_now (record s { elapsed = s.elapsed + n }))

-- The op may be done, if it is one on sources: a task's, and a handler's.
abbrev pub is_allowed : (ℕ → SourceOp → Bool) → Op → Bool
is_allowed may (op.Source handler what) = may handler what
is_allowed may _ = true

abbrev pub is_isr_allowed : (ℕ → SourceOp → Bool) → IsrOp → Bool
is_isr_allowed may (isr_op.Source handler what) = may handler what
is_isr_allowed may _ = true

-- All of the file may be done.
pub record AreAllowed (app : Application) (may : ℕ → SourceOp → Bool) : Type 0 where
  pub tasks : (task op_index : ℕ) → IfSome (op_at app task op_index) (λ op. is_allowed may op ≡ true)
  pub handlers : (handler : ℕ) → AllByRecursion (λ op. is_isr_allowed may op ≡ true) (ops_of app handler)

module _ (app : Application) {P : State → Type 0} {may : ℕ → SourceOp → Bool} (kept : Coming app P may) where
  pub spared_by : (s t : State) → Spares s t → P s → P t
  spared_by s t k h = kept.spared s t k.0 k.1 h

  -- ---- handlers

  touched-isr : (handler op_index : ℕ) (op : IsrOp) (last : Option ℕ) (s : State) → is_isr_allowed may op ≡ true → P s
      → P (isr app handler op_index op last s)
  touched-isr handler op_index (isr_op.Do o a) last s allowed h =
      spared_by s _ (kept-attempt (them s) None o (with_number s.variables last a) s (refl, refl)) h
  touched-isr handler op_index (isr_op.Command c) last s allowed h =
      spared_by s _ (kept-attempt (them s) None (commands_of app) (Send (item_of c)) s (refl, refl)) h
  touched-isr handler op_index (isr_op.Resume i) last s allowed h = spared_by s _ (kept-resume (them s) i s (refl, refl)) h
  touched-isr handler op_index (isr_op.GetBits group) last s allowed h = spared_by s _ (refl, refl) h
  touched-isr handler op_index (isr_op.Notify i action) last s allowed h =
      spared_by s _ (kept-notify (them s) i (notify_with_number s.variables last action) s (refl, refl)) h
  touched-isr handler op_index (isr_op.Value op) last s allowed h = spared_by s _ (refl, refl) h
  touched-isr handler op_index (isr_op.Source other what) last s allowed h = kept.done other what s allowed h
  touched-isr handler op_index (isr_op.Mark value) last s allowed h = spared_by s _ (refl, refl) h
  touched-isr handler op_index (isr_op.Expect condition) last s allowed h = h
  touched-isr handler op_index (isr_op.If condition) last s allowed h = h
  touched-isr handler op_index isr_op.Else last s allowed h = h
  touched-isr handler op_index isr_op.EndIf last s allowed h = h

  pub touched-isr_each : (handler op_index over : ℕ) (answer : Option ℕ) (ops : List IsrOp) (s : State)
      → AllByRecursion (λ op. is_isr_allowed may op ≡ true) ops → P s → P (isr_each app handler op_index over answer ops s)
  touched-isr_each handler op_index over answer [] s allowed h = h
  touched-isr_each handler op_index (suc over) answer (op ∷ ops) s allowed h =
      touched-isr_each handler (op_index + 1) over answer ops s allowed.1 h
  touched-isr_each handler op_index zero answer (op ∷ ops) s allowed h =
      let t : State = isr app handler op_index op answer s in
      by_test (is_failed s op answer)
      (λ f. rw f (spared_by s _ (refl, refl) h))
      (λ f.
      rw f (touched-isr_each handler (op_index + 1) (isr_jump s op answer ops) (isr_answer app s op answer) ops t allowed.1
      (touched-isr handler op_index op answer s allowed.0 h)))

  pub touched-come : (handler : ℕ) (s : State) → AllByRecursion (λ op. is_isr_allowed may op ≡ true) (ops_of app handler) → P s
      → P (come app handler s)
  unfolding come handle
  touched-come handler s allowed h =
      touched-isr_each handler 0 0 None (ops_of app handler) (note_coming app handler s) allowed (kept.noted handler s h)

-- ---- and in general

pub record Stepping (app : Application) (P : State → Type 0)
    -- which sources may come, if they are injected
    (comes : ℕ → Bool)
    -- which ops on sources tasks may do
    (may : ℕ → SourceOp → Bool) : Type 0 where
  pub spared : (s t : State) → t.sources ≡ s.sources → t.elapsed ≡ s.elapsed → P s → P t
  pub done : (handler : ℕ) (op : SourceOp) (s : State) → may handler op ≡ true → P s → P (do_to_source handler op s)
  -- A handler comes, or becomes pending, and none is pending any more. What is pending may come.
  pub handled : (handler : ℕ) (s : State) → comes handler ≡ true → P s → P (come app handler s)
  pub marked : (handler : ℕ) (s : State) → comes handler ≡ true → P s
      → P (note_coming app handler (with_source handler (record (source_at s handler) { pending = true }) s))
  pub unmarked : (s : State) → P s → P (none_pending s)
  pub expected : (handler : ℕ) (s : State) → (source_at s handler).pending ≡ true → P s → comes handler ≡ true
  -- Ticks elapse, past none for which a handler is raised, and interrupts come with the last.
  pub interrupted : (n : ℕ) (s t : State) → NoneRaisedBetween n s → t.sources ≡ s.sources → t.elapsed ≡ s.elapsed + n → P s
      → P (interrupt app t)

-- The running task may do its op, if a task runs.
abbrev pub RunsAllowed : Application → (ℕ → SourceOp → Bool) → Option ℕ → State → Type 0
RunsAllowed app may running s =
    (task : ℕ) → running ≡ Some task → IfSome (op_at app task (progress_at s task).op_index) (λ op. is_allowed may op ≡ true)

-- What is pending is what passes this test.
listed_so : {A : ℕ → Type 0} (test : ℕ → Bool) → ((source : ℕ) → test source ≡ true → A source) → (sources : List ℕ)
    → AllByRecursion A (filter test sources)
listed_so test k [] = tt
listed_so test k (source ∷ sources) = by_test (test source)
    (λ t. rw t (k source t, listed_so test k sources))
    (λ t. rw t (listed_so test k sources))

module _ (app : Application) {P : State → Type 0} {comes : ℕ → Bool} {may : ℕ → SourceOp → Bool}
    (stepping : Stepping app P comes may) where
  -- These may come.
  abbrev MayCome : List ℕ → Type 0
  MayCome sources = AllByRecursion (λ source. comes source ≡ true) sources

  left : (s t : State) → Spares s t → P s → P t
  left s t k h = stepping.spared s t k.0 k.1 h

  stepped-each : (deed : ℕ → State → State) (k : (source : ℕ) (s : State) → comes source ≡ true → P s → P (deed source s))
      (sources : List ℕ) (s : State) → MayCome sources → P s → P (for_each deed sources s)
  stepped-each deed k [] s may_come h = h
  stepped-each deed k (source ∷ sources) s may_come h =
      stepped-each deed k sources (deed source s) may_come.1 (k source s may_come.0 h)

  interrupts_later : (n : ℕ) (s t : State) → NoneRaisedBetween n s → t.sources ≡ s.sources → t.elapsed ≡ s.elapsed + n → P s
      → P (unless_held slice (interrupt app t))
  interrupts_later n s t none same later h =
      left (interrupt app t) _ (spares-slice (interrupt app t) (interrupt app t) (refl, refl))
      (stepping.interrupted n s t none same later h)

  pub stepped-tick : (s : State) → P s → P (tick_interrupt app s)
  unfolding tick_interrupt
  stepped-tick s h =
      let e = elapses s in interrupts_later 1 s (increment_tick s) (none_raised_in_one s) e.0 e.1 h where
        none_raised_in_one : (s : State) → NoneRaisedBetween 1 s
        none_raised_in_one s handler = by_tick (source_at s handler).raised where
          by_tick : (o : Option ℕ) → IfSome o (λ r. s.elapsed < r → s.elapsed + 1 ≤ r)
          by_tick None = tt
          by_tick (Some r) = λ l. omega arith

  stepped-serve : (source : ℕ) (s : State) → comes source ≡ true → P s → P (serve app source s)
  unfolding serve
  stepped-serve source s may_come h = by_test (is_tick app source)
      (λ t. rw t (stepped-tick s h))
      (λ t.
      let u : State = come app source s in
      rw t (left u _ (spares-preempt u u (refl, refl)) (stepping.handled source s may_come h)))

  pub stepped-inject : (source : ℕ) (s : State) → comes source ≡ true → P s → P (inject app source s)
  unfolding inject
  stepped-inject source s may_come h =
      by_test (can_come s source) (λ t. rw t (stepped-serve source s may_come h)) (λ t. rw t h)

  pub stepped-pend : (source : ℕ) (s : State) → comes source ≡ true → P s → P (pend app source s)
  stepped-pend source s may_come h =
      by_test (can_come s source) (λ t. rw t (stepping.marked source s may_come h)) (λ t. rw t h)

  pub stepped-injects : (sources : List ℕ) (s : State) → MayCome sources → P s → P (for_each (inject app) sources s)
  stepped-injects sources s may_come h = stepped-each (inject app) stepped-inject sources s may_come h

  pub stepped-pends : (sources : List ℕ) (s : State) → MayCome sources → P s → P (for_each (pend app) sources s)
  stepped-pends sources s may_come h = stepped-each (pend app) stepped-pend sources s may_come h

  pub stepped-serve_pending : (s : State) → P s → P (serve_pending app s)
  unfolding serve_pending
  stepped-serve_pending s h =
      stepped-each (serve app) stepped-serve (pending_of s) (none_pending s)
      (listed_so (λ source. (source_at s source).pending) (λ source t. stepping.expected source s t h)
      (range_with_len 0 (length s.sources)))
      (stepping.unmarked s h)

  stepped-before_step : (sources : List ℕ) (s : State) → MayCome sources → P s → P (before_step app sources s)
  unfolding before_step
  stepped-before_step sources s may_come h =
      let t : State = record s { log = [] } in
      let begun : P t = left s t (refl, refl) h in
      by_test (is_critical t)
      (λ q. rw q (stepped-pends sources t may_come begun))
      (λ q. rw q (stepped-injects sources (serve_pending app t) may_come (stepped-serve_pending t begun)))

  stepped-idle : (limits : Limits) (s : State) → P s → P (idle app limits s)
  unfolding idle
  stepped-idle limits s h =
      let n : ℕ = ticks_ahead app limits s in
      let e = elapse n s in
      either_way P app.tickless (jumped app n s) (tick_interrupt app s)
      (interrupts_later n s (jump n s) (none_raised_ahead app limits s) e.0 e.1 h) (stepped-tick s h)

  -- ---- ops

  stepped-act : (i : ℕ) (op : Op) (s : State) → is_allowed may op ≡ true → P s → P (act app i op s)
  unfolding open_loop close_turn skip_branch clear call_suspend call_resume suspend_all resume_all calculate call_notify control
      with_sections
  stepped-act i (Work n) s t h =
      stepped-tick (use_up app i n s) (left s _ (kept-use_up (them s) app i n s (refl, refl)) h)
  stepped-act i (Delay n) s t h = left s _ (kept-delay (them s) app i refl n s (refl, refl)) h
  stepped-act i (DelayUntil n) s t h = left s _ (kept-delay_until (them s) app i refl _ s (refl, refl)) h
  stepped-act i Yield s t h =
      left s _ (kept-yield_now (them s) (answer app i (Some 0) s) (kept-answer (them s) app i refl (Some 0) s (refl, refl))) h
  stepped-act i Time s t h = left s _ (kept-answer (them s) app i refl (Some (printed s.time)) s (refl, refl)) h
  stepped-act i (Value values) s t h =
      let a : Option ℕ = answer_of s.variables (progress_at s i).answer values in
      left s _ (kept-answer (them s) app i refl a (store values a s) (refl, refl)) h
  stepped-act i (Mark value) s t h =
      let u : State = write (what.Mark i (number_of s.variables (progress_at s i).answer value)) s in
      left s _ (kept-go_to (them s) app i ((progress_at s i).op_index + 1) (progress_at s i) u (λ _. refl, λ _. refl)
      (refl, refl)) h
  stepped-act i (Expect condition) s t h = left s _ (kept-expect (them s) app i condition s (refl, refl)) h
  stepped-act i (Repeat n) s t h =
      left s _ (kept-go_to (them s) app i ((progress_at s i).op_index + 1) _ s (λ _. refl, λ _. refl) (refl, refl)) h
  stepped-act i End s t h =
      left s _ (kept-turn (them s) app i (progress_at s i) (progress_at s i).loops s (λ _. refl, λ _. refl) (refl, refl)) h
  stepped-act i (If condition) s t h = left s _ (kept-branch (them s) app i condition s (refl, refl)) h
  stepped-act i Else s t h =
      left s _ (kept-go_to (them s) app i (jump_from (script_of app i) (progress_at s i).op_index) (progress_at s i) s
      (λ _. refl, λ _. refl) (refl, refl)) h
  stepped-act i EndIf s t h =
      left s _ (kept-go_to (them s) app i ((progress_at s i).op_index + 1) (progress_at s i) s (λ _. refl, λ _. refl)
      (refl, refl)) h
  stepped-act i Break s t h = left s _ (kept-leave_loop (them s) app i s (refl, refl)) h
  stepped-act i Stamp s t h = left s _ (kept-stamp (them s) app i s refl (refl, refl)) h
  stepped-act i Since s t h = left s _ (kept-since (them s) app i refl s (refl, refl)) h
  stepped-act i (Await o a ticks) s t h =
      left s _ (kept-await (them s) app i refl o (call_with_number s i a) ticks (call_at s i).phase s (refl, refl)) h
  stepped-act i (Do o a) s t h = left s _ (kept-do_now (them s) app i refl o (call_with_number s i a) s (refl, refl)) h
  stepped-act i (GiveMutex o) s t h = left s _ (kept-give_mutex (them s) app i refl o s (refl, refl)) h
  stepped-act i (MessagesWaiting o) s t h = left s _ (kept-answer (them s) app i refl _ s (refl, refl)) h
  stepped-act i (SpacesAvailable o) s t h = left s _ (kept-answer (them s) app i refl _ s (refl, refl)) h
  stepped-act i (SetBits g m) s t h = left s _ (kept-set_bits (them s) app i refl g m (call_at s i).phase s (refl, refl)) h
  stepped-act i (ClearBits g m) s t h =
      let bits : ℕ = bits_without (bits_at s g) m in
      left s _ (kept-answer (them s) app i refl (Some (bits_at s g)) (with_bits g bits s)
      (kept-with_bits (them s) g bits s (refl, refl))) h
  stepped-act i (GetBits g) s t h = left s _ (kept-answer (them s) app i refl _ s (refl, refl)) h
  stepped-act i (WaitBits g c ticks) s t h =
      left s _ (kept-wait_bits (them s) app i refl g c ticks (call_at s i).phase s (refl, refl)) h
  stepped-act i (Notify j action) s t h =
      left s _ (kept-replied (them s) app i refl _ (notify j (notify_by_number s i action) s)
      (kept-notify (them s) j (notify_by_number s i action) s (refl, refl))) h
  stepped-act i (AwaitNotification wait ticks) s t h =
      left s _ (kept-await_notification (them s) app i refl wait ticks (call_at s i).phase s (λ no. absurd (cc)) (refl, refl)) h
  stepped-act i (ClearNotification what) s t h =
      left s _ (kept-clear_notification (them s) app i refl what s (λ no. absurd (cc)) (refl, refl)) h
  stepped-act i (Suspend j) s t h =
      left s _ (kept-replied (them s) app i refl _ (suspend j s) (kept-suspend (them s) j s (refl, refl))) h
  stepped-act i (Resume j) s t h =
      left s _ (kept-replied (them s) app i refl _ (resume j s) (kept-resume (them s) j s (refl, refl))) h
  stepped-act i (NextCommand o) s t h = left s _ (kept-next_command (them s) app i refl o (call_at s i).phase s (refl, refl)) h
  stepped-act i Obey s t h = left s _ (kept-obey (them s) app i refl (command_at s i) (call_at s i).phase s (refl, refl)) h
  stepped-act i SuspendAll s t h =
      left s _ (kept-answer (them s) app i refl (Some 0) (record s { suspensions = s.suspensions + 1 }) (refl, refl)) h
  stepped-act i ResumeAll s t h =
      let u : State = answer app i (Some 0) (resume_scheduler s) in
      left s _ (spares-preempt s u (kept-answer (them s) app i refl (Some 0) (resume_scheduler s) (spares-resume_scheduler s))) h
  stepped-act i (op.Source handler what) s t h =
      let u : State = do_to_source handler what s in
      left u _ (kept-go_to (them u) app i ((progress_at s i).op_index + 1) (progress_at s i) u
      (λ no. absurd (cc), λ no. absurd (cc)) (refl, refl)) (stepping.done handler what s t h)
  stepped-act i EnterCritical s t h =
      left s _ (kept-go_to (them s) app i ((progress_at s i).op_index + 1) (progress_at s i)
      (record s { sections = s.sections + 1 }) (λ _. refl, λ _. refl) (refl, refl)) h
  stepped-act i ExitCritical s t h =
      left s _ (kept-go_to (them s) app i ((progress_at s i).op_index + 1) (progress_at s i)
      (record s { sections = s.sections - 1 }) (λ _. refl, λ _. refl) (refl, refl)) h

  stepped-act_unless : (i : ℕ) (kind : Option Misuse) (op : Op) (s : State) → is_allowed may op ≡ true → P s
      → P (act_unless app i kind op s)
  stepped-act_unless i None op s t h =
      let u : State = act_by_value app i op s in
      let acted : P u = by_value P app i op s (left s _ (refl, refl) h) (stepped-act i op s t h) in
      by_judgement P i (progress_at s i).op_index u acted (λ kind. left u _ (refl, refl) acted)
  stepped-act_unless i (Some kind) op s t h = left s _ (refl, refl) h

  stepped-act_if : (i : ℕ) (o : Option Op) (s : State) → IfSome o (λ op. is_allowed may op ≡ true) → P s → P (act_if app i o s)
  stepped-act_if i None s t h = h
  stepped-act_if i (Some op) s t h = stepped-act_unless i (misuse s i op) op s t h

  stepped-act_current : (limits : Limits) (r : Option ℕ) (s : State) → RunsAllowed app may r s → P s
      → P (act_current app limits r s)
  stepped-act_current limits None s runs h = stepped-idle limits s h
  stepped-act_current limits (Some i) s runs h = stepped-act_if i (op_at app i (progress_at s i).op_index) s (runs i refl) h

  -- after its beginning
  pub stepped-body : (limits : Limits) (sources : List ℕ) (s : State)
      → RunsAllowed app may (before_step app sources s).current (before_step app sources s) → P (before_step app sources s)
      → P (step app limits sources s)
  unfolding step
  stepped-body limits sources s runs h =
      let begun : State = before_step app sources s in
      let acted : State = act_current app limits begun.current begun in
      left acted _ (spares-settle acted acted (refl, refl)) (stepped-act_current limits begun.current begun runs h)

  pub stepped-step : (limits : Limits) (sources : List ℕ) (s : State) → MayCome sources
      → RunsAllowed app may (before_step app sources s).current (before_step app sources s) → P s → P (step app limits sources s)
  stepped-step limits sources s may_come runs h =
      stepped-body limits sources s runs (stepped-before_step sources s may_come h)

  pub stepped-reset : P (nobody_ready app) → P (reset app)
  unfolding reset ready_at_reset
  stepped-reset h =
      let s : State = nobody_ready app in
      left s _ (sources-all_ready (with_ops 0 app.tasks) s) h

  -- In a step of a run only what may come is injected, and the running task may do its op.
  abbrev pub IsStepOf : Limits → List Injection → ℕ → Type 0
  IsStepOf limits plan n =
      let begun = before_step app (injected plan n) (state_after app limits plan n) in
      MayCome (injected plan n) × RunsAllowed app may begun.current begun

  -- over such steps
  pub stepped_on : (limits : Limits) (plan : List Injection) (m n : ℕ) → ((k : ℕ) → m ≤ k → k < m + n → IsStepOf limits plan k)
      → P (state_after app limits plan m) → P (state_after app limits plan (m + n))
  stepped_on limits plan m zero steps h =
      subst (λ k. P (state_after app limits plan k)) (let e : m ≡ m + 0 = omega arith in e) h
  stepped_on limits plan m (suc n) steps h =
      let last = steps (m + n) (omega arith) (omega arith) in
      subst (λ k. P (state_after app limits plan k)) (let e : suc (m + n) ≡ m + suc n = omega arith in e)
      (stepped-step limits (injected plan (m + n)) (state_after app limits plan (m + n)) last.0 last.1
      (stepped_on limits plan m n (λ k least most. steps k least (omega arith)) h))

-- ---- what any handler may do

module _ (app : Application) {P : State → Type 0} {may : ℕ → SourceOp → Bool} (touching : Touching app P may)
    (allowed : AreAllowed app may) where
  touched-each : (handlers : List ℕ) (s : State) → P s → P (for_each (come app) handlers s)
  touched-each [] s h = h
  touched-each (handler ∷ handlers) s h =
      touched-each handlers (come app handler s) (touched-come app touching.coming handler s (allowed.handlers handler) h)

  interrupts : (s : State) → P (none_raised_now s) → P (interrupt app s)
  unfolding interrupt
  interrupts s h = touched-each (interrupts_at app s.elapsed ++ raised_now s) (none_raised_now s) h

  any_steps : Stepping app P (λ source. true) may
  any_steps = record {
    spared = touching.coming.spared;
    done = touching.coming.done;
    handled = λ handler s t h. touched-come app touching.coming handler s (allowed.handlers handler) h;
    marked = λ handler s t h. touching.coming.noted handler _ (touching.marked handler s h);
    unmarked = touching.unmarked;
    expected = λ handler s t h. refl;
    interrupted = λ n s t none same later h.
        interrupts t (touching.coming.spared (none_raised_now (record s { elapsed = s.elapsed + n })) (none_raised_now t)
        (ap₂ (λ (now : ℕ) (xs : List Source).
        map (λ (x : Source). if is_raised_for now x then record x { raised = None } else x) xs)
        later same)
        later (touching.elapsed n s none h));
  }

  all_may_come : (sources : List ℕ) → AllByRecursion (λ source. true ≡ true) sources
  all_may_come [] = tt
  all_may_come (source ∷ sources) = (refl, all_may_come sources)

  any_runs : (s : State) → RunsAllowed app may s.current s
  any_runs s task runs = allowed.tasks task (progress_at s task).op_index

  pub touched-inject : (source : ℕ) (s : State) → P s → P (inject app source s)
  touched-inject source s h = stepped-inject app any_steps source s refl h

  pub touched-pend : (source : ℕ) (s : State) → P s → P (pend app source s)
  touched-pend source s h = stepped-pend app any_steps source s refl h

  pub touched-injects : (sources : List ℕ) (s : State) → P s → P (for_each (inject app) sources s)
  touched-injects sources s h = stepped-injects app any_steps sources s (all_may_come sources) h

  pub touched-pends : (sources : List ℕ) (s : State) → P s → P (for_each (pend app) sources s)
  touched-pends sources s h = stepped-pends app any_steps sources s (all_may_come sources) h

  pub touched-serve_pending : (s : State) → P s → P (serve_pending app s)
  touched-serve_pending s h = stepped-serve_pending app any_steps s h

  pub touched-body : (limits : Limits) (sources : List ℕ) (s : State) → P (before_step app sources s)
      → P (step app limits sources s)
  touched-body limits sources s h = stepped-body app any_steps limits sources s (any_runs (before_step app sources s)) h

  pub touched-step : (limits : Limits) (sources : List ℕ) (s : State) → P s → P (step app limits sources s)
  touched-step limits sources s h =
      stepped-step app any_steps limits sources s (all_may_come sources) (any_runs (before_step app sources s)) h

  pub touched_after : P (nobody_ready app) → (limits : Limits) (plan : List Injection) (n : ℕ) → P (state_after app limits plan n)
  touched_after h limits plan zero = stepped-reset app any_steps h
  touched_after h limits plan (suc n) =
      touched-step limits (injected plan n) (state_after app limits plan n) (touched_after h limits plan n)

  pub touched_on : (limits : Limits) (plan : List Injection) (m n : ℕ) → P (state_after app limits plan m)
      → P (state_after app limits plan (m + n))
  touched_on limits plan m n h =
      stepped_on app any_steps limits plan m n (λ k least most.
      (all_may_come (injected plan k), any_runs (before_step app (injected plan k) (state_after app limits plan k)))) h

-- ---- what is true of one source, with the elapsed ticks

module _ (app : Application) (handler : ℕ) (Q : ℕ → Source → Type 0) (may : ℕ → SourceOp → Bool)
    (by_op : (op : SourceOp) (now : ℕ) (x : Source) → may handler op ≡ true → Q now x → Q now (changed op now x))
    (by_coming : (now : ℕ) (x : Source) → Q now x → Q now (noted app handler now x)) where
  abbrev OfOne : State → Type 0
  OfOne s = Q s.elapsed (source_at s handler)

  pub coming_of_one : Coming app OfOne may
  coming_of_one = record {
    spared = λ s t same still h.
        subst (λ (now : ℕ). Q now (source_at t handler)) (sym still)
        (subst (λ (xs : List Source). Q s.elapsed (get_or xs handler no_source)) (sym same) h);
    done = λ other op s allowed h.
        subst OfOne (sym (done_is other op s))
        (one_changed (Q s.elapsed) (changed op s.elapsed) s.sources other handler
        (λ e k. by_op op s.elapsed (source_at s handler) (subst (λ (i : ℕ). may i op ≡ true) (sym e) allowed) k) h);
    noted = λ other s h.
        one_changed (Q s.elapsed) (noted app other s.elapsed) s.sources other handler
        (λ e k.
        subst (λ (i : ℕ). Q s.elapsed (noted app i s.elapsed (source_at s handler))) e
        (by_coming s.elapsed (source_at s handler) k)) h;
  }

  module _ (pends : (b : Bool) (now : ℕ) (x : Source) → Q now x → Q now (record x { pending = b }))
      (passes : (n now : ℕ) (x : Source) → IfSome x.raised (λ r. now < r → now + n ≤ r) → Q now x
      → Q (now + n) (lowered (now + n) x)) where
    pub touching_one : Touching app OfOne may
    touching_one = record {
      coming = coming_of_one;
      marked = λ other s h.
          one_changed (Q s.elapsed) (λ (x : Source). record x { pending = true }) s.sources other handler
          (λ e k. pends true s.elapsed (source_at s handler) k) h;
      unmarked = λ s h.
          subst (Q s.elapsed) (sym (get_or-map (λ (x : Source). record x { pending = false }) s.sources handler no_source))
          (pends false s.elapsed (source_at s handler) h);
      elapsed = λ n s none h.
          subst (Q (s.elapsed + n)) (sym (get_or-map (lowered (s.elapsed + n)) s.sources handler no_source))
          (passes n s.elapsed (source_at s handler) (none handler) h);
    }

-- ---- which ops the file has

pub all_so : {X : Type 0} {A B : X → Type 0} → ((x : X) → A x → B x) → (xs : List X) → AllByRecursion A xs → AllByRecursion B xs
all_so k [] h = tt
all_so k (x ∷ xs) h = (k x h.0, all_so k xs h.1)

pub some_so : {X : Type 0} {A B : X → Type 0} → ((x : X) → A x → B x) → (o : Option X) → IfSome o A → IfSome o B
some_so k None h = tt
some_so k (Some x) h = k x h

-- Those of a well-formed application are on its handlers, and in their ranges.
abbrev pub is_formed : Application → ℕ → SourceOp → Bool
is_formed app handler what = has_handler app handler && is_near what

pub formed_allows : (app : Application) → IsWellFormed app → AreAllowed app (is_formed app)
formed_allows app formed = record {
  tasks = λ task op_index. of_task task op_index (op_at app task op_index) refl;
  handlers = λ handler. all_so of_handler (ops_of app handler) (isr_known app formed handler);
} where
  of_handler : (o : IsrOp) → knows_isr app o ≡ true → is_isr_allowed (is_formed app) o ≡ true
  of_handler (isr_op.Source handler what) k = k
  of_handler _ k = refl

  both : (task op_index : ℕ) (o : Op) → Known app task op_index o → is_in_range o ≡ true → is_allowed (is_formed app) o ≡ true
  both task op_index (op.Source handler what) k r = rw (k, r) refl
  both task op_index _ k r = refl

  of_task : (task op_index : ℕ) (o : Option Op) → op_at app task op_index ≡ o
      → IfSome o (λ op. is_allowed (is_formed app) op ≡ true)
  of_task task op_index None e = tt
  of_task task op_index (Some o) e =
      both task op_index o (known_at app formed task op_index o e)
      (range_at op_index (script_of app task) o (script_formed app formed task).ranges e)
