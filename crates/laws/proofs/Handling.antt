-- Handlers that look: what their checks and branches come to, and by what a run is stopped.
use Rattle.model.specs.Values.{with_number}
use Rattle.std.proofs.Common.{◌≡◌, ◌+◌, ◌++◌, ◌⊎◌, inl, inr, ℕ, zero, suc, true, false, length, List, [], ◌∷◌, Option, Some, None}
use Rattle.std.proofs.Common.{◌||◌, refl, ap, sym, subst, ◌∙◌, arith}
use Rattle.std.proofs.lemmas.List.{length-map, map-append}
use Rattle.model.specs.declared.answer.AnswerCondition.{AnswerCondition}
use Rattle.model.specs.declared.call.WaitList.{WaitList}
use Rattle.model.specs.declared.event.End.{End}
use Rattle.model.specs.declared.event.End.TheVariants.{HandlerCheck}
use Rattle.model.specs.declared.op.Access.{Access}
use Rattle.model.specs.declared.op.Access.TheVariants.{Send}
use Rattle.model.specs.declared.op.IsrOp.{IsrOp}
use Rattle.model.specs.declared.op.IsrOp.TheVariants as isr_op
use Rattle.model.specs.Answers.{holds}
use Rattle.model.specs.declared.notification.NotifyAction.{NotifyAction}
use Rattle.model.specs.Notifications.{notified, notify, notify_with_number}
use Rattle.model.specs.State.{notification_at, waits_for_notification, with_notification}
use Rattle.model.specs.Application.{Application, Limits, commands_of, interrupts_at, ops_of}
use Rattle.model.specs.Blocks.{edge_of_isr, isr_edges_of, past_branch}
use Rattle.model.specs.Daemon.{item_of}
use Rattle.model.specs.Handlers.{handle, serve, inject, pend, pending_of, none_pending, serve_pending, isr, isr_answer, isr_each}
use Rattle.model.specs.declared.source.SourceOp.{SourceOp}
use Rattle.model.specs.declared.source.SourceOp.TheVariants.{Arm, Disarm, Raise, Cancel}
use Rattle.model.specs.Ops.{do_to_source}
use Rattle.model.specs.Handlers.{can_come, come, note_coming, none_raised_now, raised_now}
use Rattle.model.specs.Handlers.{interrupt, isr_jump, is_failed, is_tick, tick_interrupt}
use Rattle.model.specs.Objects.{attempt, fulfil, list_woken, object_after, possible}
use Rattle.model.specs.Ops.{fail}
use Rattle.model.specs.Order.{first, task_of, tasks_of}
use Rattle.model.specs.Run.{end_of}
use Rattle.model.specs.State.{State, for_each, for_one, object_at, status_at, with_object}
use Rattle.model.specs.Step.{act_current, before_step}
use Rattle.model.specs.Suspension.{can_resume, resume}
use Rattle.model.specs.Switching.{choice, choose, dispatch, is_held, is_critical, is_outranked, is_ready, is_same, preempt, to_back}
use Rattle.model.specs.Switching.{holds_ticks, is_sharing, make_ready, slice, unless_held, yield_now}
use Rattle.model.specs.Time.{advance, due, increment_tick, wake_due}
use Rattle.model.specs.Waiting.{is_locked, waiters, wake_best, wake_one}
use Rattle.model.proofs.Sorting.{by_test}
use Rattle.soundness.proofs.Settled.{when_free, when_held}
use Rattle.laws.specs.Branches.{AreWhole, ends_branch}
use Rattle.laws.specs.Looking.{is_by_misuse, is_misused}
use Rattle.laws.proofs.Blocks.{past_whole_branch}
use Rattle.laws.proofs.Deeds.{Keeping}
use Rattle.laws.proofs.Changes.{anyone, kept-act_current}
use Rattle.laws.proofs.Staying.{Stops}
use Rattle.laws.proofs.Awaited.{stopped-all_ready}
use Rattle.laws.proofs.Sleeping.{NoneBetween}

-- ---- a handler's checks and branches

pub passes : (app : Application) (handler op_index : ℕ)
    (condition : AnswerCondition) (answer : Option ℕ) (ops : List IsrOp) (s : State)
    → holds s.variables condition answer ≡ true
    → isr_each app handler op_index 0 answer (isr_op.Expect condition ∷ ops) s ≡ isr_each app handler (op_index + 1) 0 answer ops s
passes app handler op_index condition answer ops s h = rw h refl

pub fails : (app : Application) (handler op_index : ℕ) (condition : AnswerCondition)
    (answer : Option ℕ) (ops : List IsrOp) (s : State)
    → holds s.variables condition answer ≡ false
    → isr_each app handler op_index 0 answer (isr_op.Expect condition ∷ ops) s ≡ fail (HandlerCheck handler op_index) s
fails app handler op_index condition answer ops s h = rw h refl

pub ends_so : (app : Application) (limits : Limits) (check : End) (s : State)
    → s.stopped ≡ None → end_of app limits (fail check s) ≡ Some check
ends_so app limits check s none = rw none refl

pub takes_branch : (app : Application) (handler op_index : ℕ)
    (condition : AnswerCondition) (answer : Option ℕ) (ops : List IsrOp) (s : State)
    → holds s.variables condition answer ≡ true
    → isr_each app handler op_index 0 answer (isr_op.If condition ∷ ops) s ≡ isr_each app handler (op_index + 1) 0 answer ops s
takes_branch app handler op_index condition answer ops s h = rw h refl

-- These ops are jumped over, and the one behind them.
jumps_over : (app : Application) (handler op_index : ℕ) (answer : Option ℕ)
    (ops : List IsrOp) (last : IsrOp) (behind : List IsrOp) (s : State)
    → isr_each app handler op_index (length ops + 1) answer (ops ++ last ∷ behind) s
    ≡ isr_each app handler (op_index + (length ops + 1)) 0 answer behind s
jumps_over app handler op_index answer [] last behind s = refl
jumps_over app handler op_index answer (op ∷ ops) last behind s =
    let one : suc (length ops) + 1 ≡ suc (length ops + 1) = omega arith in
    let further : op_index + 1 + (length ops + 1) ≡ op_index + (suc (length ops) + 1) = omega arith in
    ap (λ n. isr_each app handler op_index n answer (op ∷ (ops ++ last ∷ behind)) s) one
    ∙ jumps_over app handler (op_index + 1) answer ops last behind s
    ∙ ap (λ n. isr_each app handler n 0 answer behind s) further

-- how long a branch is, with the op that ends it
past_ops : (ops : List IsrOp) (last : IsrOp) (behind : List IsrOp)
    → AreWhole [] (isr_edges_of ops) → ends_branch (edge_of_isr last) ≡ true
    → past_branch 0 (isr_edges_of (ops ++ last ∷ behind)) ≡ length ops + 1
past_ops ops last behind whole ends =
    ap (past_branch 0) (map-append edge_of_isr ops (last ∷ behind))
    ∙ past_whole_branch [] (isr_edges_of ops) (edge_of_isr last) (isr_edges_of behind) whole ends
    ∙ ap (λ n. n + 1) (length-map ops edge_of_isr)

pub skips_branch : (app : Application) (handler op_index : ℕ)
    (condition : AnswerCondition) (answer : Option ℕ) (ops : List IsrOp) (last : IsrOp)
    (behind : List IsrOp) (s : State) → holds s.variables condition answer ≡ false
    → AreWhole [] (isr_edges_of ops) → ends_branch (edge_of_isr last) ≡ true
    → isr_each app handler op_index 0 answer (isr_op.If condition ∷ ops ++ last ∷ behind) s
    ≡ isr_each app handler (op_index + 1 + (length ops + 1)) 0 answer behind s
skips_branch app handler op_index condition answer ops last behind s h whole ends =
    let jumps : isr_jump s (isr_op.If condition) answer (ops ++ last ∷ behind) ≡ length ops + 1 =
    rw h (past_ops ops last behind whole ends) in
    ap (λ n. isr_each app handler (op_index + 1) n answer (ops ++ last ∷ behind) s) jumps
    ∙ jumps_over app handler (op_index + 1) answer ops last behind s

pub skips_second : (app : Application) (handler op_index : ℕ) (answer : Option ℕ) (ops behind : List IsrOp) (s : State)
    → AreWhole [] (isr_edges_of ops)
    → isr_each app handler op_index 0 answer (isr_op.Else ∷ ops ++ isr_op.EndIf ∷ behind) s
    ≡ isr_each app handler (op_index + 1 + (length ops + 1)) 0 answer behind s
skips_second app handler op_index answer ops behind s whole =
    ap (λ n. isr_each app handler (op_index + 1) n answer (ops ++ isr_op.EndIf ∷ behind) s)
    (past_ops ops isr_op.EndIf behind whole refl)
    ∙ jumps_over app handler (op_index + 1) answer ops isr_op.EndIf behind s

-- ---- no handler changes by what a run is stopped, but by a first check that fails

stopped-wake_one : (s : State) (i : ℕ) (list : WaitList) → (wake_one i list s).stopped ≡ s.stopped
stopped-wake_one s i list = by_test (is_locked s.locked list) (λ t. rw t refl) (λ t. rw t refl)

stopped-wake_best : (list : WaitList) (s : State) → (wake_best list s).stopped ≡ s.stopped
unfolding wake_best
stopped-wake_best list s = of_first (task_of (first (waiters s list))) where
  of_first : (o : Option ℕ) → (for_one (λ i. wake_one i list) o s).stopped ≡ s.stopped
  of_first None = refl
  of_first (Some i) = stopped-wake_one s i list

stopped-fulfil : (caller : Option ℕ) (o : ℕ) (a : Access ℕ) (s : State) → (fulfil caller o a s).stopped ≡ s.stopped
unfolding fulfil
stopped-fulfil caller o a s = of_list (list_woken caller o a) where
  of_list : (list : Option WaitList)
      → (for_one wake_best list (with_object o (object_after caller a (object_at s o)) s)).stopped ≡ s.stopped
  of_list None = refl
  of_list (Some list) = stopped-wake_best list (with_object o (object_after caller a (object_at s o)) s)

stopped-attempt : (caller : Option ℕ) (o : ℕ) (a : Access ℕ) (s : State) → (attempt caller o a s).stopped ≡ s.stopped
unfolding attempt
stopped-attempt caller o a s = by_test (possible s o a) (λ t. rw t (stopped-fulfil caller o a s)) (λ t. rw t refl)

stopped-resume : (i : ℕ) (s : State) → (resume i s).stopped ≡ s.stopped
unfolding resume
stopped-resume i s = by_test (can_resume (status_at s i)) (λ t. rw t refl) (λ t. rw t refl)

stopped-notify : (i : ℕ) (action : NotifyAction ℕ) (s : State) → (notify i action s).stopped ≡ s.stopped
unfolding notify
stopped-notify i action s =
    let t : State = with_notification i (notified action (notification_at s i)) s in
    by_test (waits_for_notification (status_at t i)) (λ q. rw q refl) (λ q. rw q refl)

stopped-source : (handler : ℕ) (op : SourceOp) (s : State) → (do_to_source handler op s).stopped ≡ s.stopped
stopped-source handler Arm s = refl
stopped-source handler Disarm s = refl
stopped-source handler (Raise n) s = refl
stopped-source handler Cancel s = refl

stopped-isr : (app : Application) (handler op_index : ℕ) (op : IsrOp) (last : Option ℕ) (s : State)
    → (isr app handler op_index op last s).stopped ≡ s.stopped
stopped-isr app handler op_index (isr_op.Do o a) last s = stopped-attempt None o (with_number s.variables last a) s
stopped-isr app handler op_index (isr_op.Command c) last s = stopped-attempt None (commands_of app) (Send (item_of c)) s
stopped-isr app handler op_index (isr_op.Resume i) last s = stopped-resume i s
stopped-isr app handler op_index (isr_op.GetBits group) last s = refl
stopped-isr app handler op_index (isr_op.Notify i action) last s = stopped-notify i (notify_with_number s.variables last action) s
stopped-isr app handler op_index (isr_op.Value op) last s = refl
stopped-isr app handler op_index (isr_op.Source other op) last s = stopped-source other op s
stopped-isr app handler op_index (isr_op.Mark value) last s = refl
stopped-isr app handler op_index (isr_op.Expect condition) last s = refl
stopped-isr app handler op_index (isr_op.If condition) last s = refl
stopped-isr app handler op_index isr_op.Else last s = refl
stopped-isr app handler op_index isr_op.EndIf last s = refl

module _ (end : End) where
  -- The run is stopped by this.
  abbrev IsStopped : State → Type 0
  IsStopped s = s.stopped ≡ Some end

  stands-fail : (check : End) (s : State) → IsStopped s → IsStopped (fail check s)
  stands-fail check s h = rw h refl

  stands-isr_each : (app : Application) (handler op_index over : ℕ) (answer : Option ℕ) (ops : List IsrOp) (s : State) → IsStopped s
      → IsStopped (isr_each app handler op_index over answer ops s)
  stands-isr_each app handler op_index over answer [] s h = h
  stands-isr_each app handler op_index (suc over) answer (op ∷ ops) s h =
      stands-isr_each app handler (op_index + 1) over answer ops s h
  stands-isr_each app handler op_index zero answer (op ∷ ops) s h =
      let t : State = isr app handler op_index op answer s in
      by_test (is_failed s op answer)
      (λ f. rw f (stands-fail (HandlerCheck handler op_index) s h))
      (λ f.
      rw f (stands-isr_each app handler (op_index + 1) (isr_jump s op answer ops)
      (isr_answer app s op answer) ops t (stopped-isr app handler op_index op answer s ∙ h)))

  stands-handle : (app : Application) (handler : ℕ) (s : State) → IsStopped s → IsStopped (handle app handler s)
  unfolding handle
  stands-handle app handler s h = stands-isr_each app handler 0 0 None (ops_of app handler) s h

  stands-back : (o : Option ℕ) (s : State) → IsStopped s → IsStopped (for_one to_back o s)
  unfolding to_back
  stands-back None s h = h
  stands-back (Some i) s h = by_test (is_ready s i) (λ t. rw t h) (λ t. rw t h)

  stands-choose : (s : State) → IsStopped s → IsStopped (choose s)
  unfolding choose dispatch
  stands-choose s h = by_test (is_same (choice s) s.current) (λ t. rw t h) (λ t. rw t h)

  stands-preempt : (s : State) → IsStopped s → IsStopped (preempt s)
  unfolding preempt yield_now
  stands-preempt s h =
      by_test (is_outranked s) (λ t. rw t (stands-choose (for_one to_back s.current s) (stands-back s.current s h))) (λ t. rw t h)

  stands-slice : (s : State) → IsStopped s → IsStopped (slice s)
  unfolding slice yield_now
  stands-slice s h = by_test (is_outranked s || is_sharing s)
      (λ t. rw t (stands-choose (for_one to_back s.current s) (stands-back s.current s h)))
      (λ t. rw t h)

  stands-all_ready : (tasks : List ℕ) (s : State) → IsStopped s → IsStopped (for_each make_ready tasks s)
  stands-all_ready [] s h = h
  stands-all_ready (task ∷ tasks) s h = stands-all_ready tasks (make_ready task s) h

  stands-increment : (s : State) → IsStopped s → IsStopped (increment_tick s)
  unfolding increment_tick advance wake_due
  stands-increment s h =
      let next : State = record s { time = s.time + 1; elapsed = s.elapsed + 1 } in
      by_test (holds_ticks s) (λ t. rw t h) (λ t. rw t (stands-all_ready (tasks_of (due next)) next h))

  stands-come : (app : Application) (handler : ℕ) (s : State) → IsStopped s → IsStopped (come app handler s)
  unfolding come
  stands-come app handler s h = stands-handle app handler (note_coming app handler s) h

  stands-all_come : (app : Application) (handlers : List ℕ) (s : State) → IsStopped s → IsStopped (for_each (come app) handlers s)
  stands-all_come app [] s h = h
  stands-all_come app (handler ∷ handlers) s h = stands-all_come app handlers (come app handler s) (stands-come app handler s h)

  stands-tick : (app : Application) (s : State) → IsStopped s → IsStopped (tick_interrupt app s)
  unfolding tick_interrupt interrupt
  stands-tick app s h =
      let ticked : State = increment_tick s in
      let all : List ℕ = interrupts_at app ticked.elapsed ++ raised_now ticked in
      let t : State = for_each (come app) all (none_raised_now ticked) in
      let k : IsStopped t = stands-all_come app all (none_raised_now ticked) (stands-increment s h) in
      by_test (is_held t)
      (λ q. subst IsStopped (sym (when_held slice t q)) k)
      (λ q. subst IsStopped (sym (when_free slice t q)) (stands-slice t k))

  stands-handler : (app : Application) (handler : ℕ) (s : State) → IsStopped s
      → IsStopped (unless_held preempt (come app handler s))
  stands-handler app handler s h =
      let t : State = come app handler s in
      let k : IsStopped t = stands-come app handler s h in
      by_test (is_held t)
      (λ q. subst IsStopped (sym (when_held preempt t q)) k)
      (λ q. subst IsStopped (sym (when_free preempt t q)) (stands-preempt t k))

  stands-serve : (app : Application) (source : ℕ) (s : State) → IsStopped s → IsStopped (serve app source s)
  unfolding serve
  stands-serve app source s h = by_test (is_tick app source)
      (λ t. rw t (stands-tick app s h))
      (λ t. rw t (stands-handler app source s h))

  stands-inject : (app : Application) (handler : ℕ) (s : State) → IsStopped s → IsStopped (inject app handler s)
  unfolding inject
  stands-inject app handler s h = by_test (can_come s handler)
      (λ t. rw t (stands-serve app handler s h))
      (λ t. rw t h)

  stands-served : (app : Application) (handlers : List ℕ) (s : State) → IsStopped s → IsStopped (for_each (serve app) handlers s)
  stands-served app [] s h = h
  stands-served app (handler ∷ handlers) s h = stands-served app handlers (serve app handler s) (stands-serve app handler s h)

  stands-pend : (app : Application) (handler : ℕ) (s : State) → IsStopped s → IsStopped (pend app handler s)
  stands-pend app handler s h = by_test (can_come s handler) (λ t. rw t h) (λ t. rw t h)

  stands-pended : (app : Application) (handlers : List ℕ) (s : State) → IsStopped s → IsStopped (for_each (pend app) handlers s)
  stands-pended app [] s h = h
  stands-pended app (handler ∷ handlers) s h = stands-pended app handlers (pend app handler s) (stands-pend app handler s h)

  stands-each : (app : Application) (handlers : List ℕ) (s : State) → IsStopped s → IsStopped (for_each (inject app) handlers s)
  stands-each app [] s h = h
  stands-each app (handler ∷ handlers) s h = stands-each app handlers (inject app handler s) (stands-inject app handler s h)

  pub stands_before_step : (app : Application) (handlers : List ℕ) (s : State)
      → IsStopped s → IsStopped (before_step app handlers s)
  unfolding before_step serve_pending
  stands_before_step app handlers s h =
      let r : State = record s { log = [] } in
      by_test (is_critical r)
      (λ q. rw q (stands-pended app handlers r h))
      (λ q. rw q (stands-each app handlers (serve_pending app r) (stands-served app (pending_of r) (none_pending r) h)))

  -- ---- and a task changes it by a misuse alone

  -- or by a misuse
  abbrev StandsOrMisused : State → Type 0
  StandsOrMisused s = IsStopped s ⊎ (is_misused s ≡ true)

  stands-framed : (s t : State) → t.tasks ≡ s.tasks → t.next_ticket ≡ s.next_ticket
      → t.time ≡ s.time → Stops s.stopped t.stopped → StandsOrMisused s → StandsOrMisused t
  stands-framed s t e n m stops h = elim stops [
    | inl same ↦ subst (λ (o : Option End). (o ≡ Some end) ⊎ (is_by_misuse o ≡ true)) (sym same) h
    | inr fails ↦ elim fails [
      | inl check ↦ elim h [
        | inl stopped ↦ (let contrary : None ≡ Some end = sym check.0 ∙ stopped in absurd (cc))
        | inr misused ↦
            (let contrary : is_by_misuse None ≡ true = subst (λ o. is_by_misuse o ≡ true) check.0 misused in absurd (cc))
      ]
      | inr misused ↦ inr misused
    ]
  ]

  stands-passed : (n : ℕ) (s : State) → NoneBetween n s → StandsOrMisused s
      → StandsOrMisused (wake_due (record s { time = s.time + n }))
  unfolding wake_due
  stands-passed n s none h =
      let t : State = record s { time = s.time + n } in
      subst (λ (o : Option End). (o ≡ Some end) ⊎ (is_by_misuse o ≡ true)) (sym (stopped-all_ready (tasks_of (due t)) t)) h

  stands-kept : Keeping StandsOrMisused anyone anyone 0 true 0 true true
  stands-kept = record {
    framed = λ s t e n m stops left. stands-framed s t e n m stops;
    moved = λ s i t u remains k. k;
    taken = λ s i status is later k. k;
    passed = stands-passed;
  }

  pub stands_in_step : (app : Application) (limits : Limits) (running : Option ℕ) (s : State)
      → IsStopped s → StandsOrMisused (act_current app limits running s)
  stands_in_step app limits running s h =
      kept-act_current stands-kept app (λ no. absurd (cc)) limits running s
      (λ i runs. (λ is. refl, λ no. absurd (cc), refl, λ no. absurd (cc))) (inl h)
