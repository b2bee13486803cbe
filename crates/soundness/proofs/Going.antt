-- While a task holds the scheduler it goes on, also when its script is done.
use Rattle.model.specs.declared.op.Op.TheVariants as op
use Rattle.model.specs.declared.op.Op.TheVariants.{Value}
use Rattle.model.specs.declared.value.ValueOp.{ValueOp}
use Rattle.model.specs.Ops.{calculate, store, control, do_to_source}
use Rattle.model.specs.Values.{answer_of, number_of}
use Rattle.std.proofs.Common.{◌≡◌, ◌<◌, ◌+◌, ◌-◌, ◌||◌, ◌⊎◌, inl, inr, ℕ, Bool, true, false, eqb, leb, List}
use Rattle.std.proofs.Common.{[], ◌∷◌, length, Option, Some, None, refl, ap, sym, subst, ◌∙◌, arith, get_or-set_same}
use Rattle.std.proofs.Common.{drop, ◌++◌}
use Rattle.std.specs.Option.{is_some}
use Rattle.std.proofs.lemmas.Option.{slice_get_past}
use Rattle.model.specs.declared.op.Op.{Op}
use Rattle.model.specs.declared.op.Op.TheVariants.{Work, Delay, DelayUntil, Yield, Time, Mark, Expect, Repeat, End, If, Else, EndIf}
use Rattle.model.specs.declared.op.Op.TheVariants.{Break, Stamp, Since, Await, Do, GiveMutex, MessagesWaiting, SpacesAvailable}
use Rattle.model.specs.declared.op.Op.TheVariants.{SetBits, ClearBits, GetBits, WaitBits, Suspend, Resume, SuspendAll, ResumeAll}
use Rattle.model.specs.declared.op.Op.TheVariants.{EnterCritical, ExitCritical, NextCommand, Obey}
use Rattle.model.specs.declared.op.Op.TheVariants.{Notify, AwaitNotification, ClearNotification}
use Rattle.model.specs.declared.loops.Loop.{Loop}
use Rattle.model.specs.declared.notification.NotificationClear.{NotificationClear}
use Rattle.model.specs.declared.event.What.TheVariants as what
use Rattle.model.specs.declared.answer.AnswerCondition.{AnswerCondition}
use Rattle.model.specs.Answers.{holds}
use Rattle.model.specs.Blocks.{jump_from}
use Rattle.model.specs.Application.{Application, script_of, op_at, op_count, interrupts_at}
use Rattle.model.specs.State.{State, Task, Progress}
use Rattle.model.specs.State.{ticket_if_ready, task_at, progress_at, object_at, bits_at}
use Rattle.model.specs.State.{with_bits, for_each, printed, no_task, notification_at, with_notification}
use Rattle.model.specs.Switching.{is_ready, slice, preempt, is_scheduler_suspended, is_critical, is_held}
use Rattle.model.specs.Switching.{is_held_by_task}
use Rattle.model.specs.Switching.{unless_held, write}
use Rattle.model.specs.Time.{increment_tick}
use Rattle.model.specs.Ops.{go_to, moved_to, answer, use_up, expect, open_loop, next_turn, turn, close_turn, branch, skip_branch}
use Rattle.model.specs.Ops.{leave_loop, stamp, since, with_sections}
use Rattle.model.specs.Groups.{bits_without, clear}
use Rattle.model.specs.Notifications.{clear_answer, cleared, clear_notification}
use Rattle.model.specs.Suspension.{suspend_all, resume_scheduler, resume_all}
use Rattle.model.specs.Handlers.{come, interrupt, raised_now, none_raised_now, tick_interrupt}
use Rattle.model.specs.declared.source.SourceOp.{SourceOp}
use Rattle.model.specs.declared.source.SourceOp.TheVariants.{Arm, Disarm, Raise, Cancel}
use Rattle.model.specs.Step.{act, may_switch}
use Rattle.model.proofs.Sorting.{by_test}
use Rattle.model.proofs.Lists.{eqb-same}
use Rattle.soundness.proofs.Keeping.{keeps-answer}
use Rattle.soundness.proofs.Settled.{when_held, held_as_it_was, held_by_task, ticks_held_by_task}
use Rattle.soundness.proofs.Passing.{is_instant}
use Rattle.soundness.proofs.Ticking.{held-told}
use Rattle.soundness.proofs.Released.{applied_apart, current-applied}
use Rattle.soundness.proofs.Handled.{spares-come, spares-none_raised_now}
use Rattle.soundness.proofs.Sparing.{Spares, spares, spares_both}

pub suspended_held : (s : State) → is_scheduler_suspended s ≡ true → is_held_by_task s ≡ true
suspended_held s on = either (is_scheduler_suspended s) (is_critical s) on where
  either : (b c : Bool) → b ≡ true → (b || c) ≡ true
  either true c e = refl
  either false c e = absurd (cc)

-- an answer holds nothing, and lets go of nothing
still_held : (app : Application) (i : ℕ) (a : Option ℕ) (s : State) → is_held (answer app i a s) ≡ is_held s
still_held app i a s =
    let k = keeps-answer app i a s in held_as_it_was s (answer app i a s) k.hold k.suspension

-- The task goes on: it is Ready, or its script is done.
abbrev pub GoesOn : Application → ℕ → Task → Type 0
GoesOn app i t = (is_some (ticket_if_ready t.status) ≡ true) ⊎ (op_at app i t.progress.op_index ≡ None)

-- The same task runs, and goes on.
pub record Continues (app : Application) (i : ℕ) (old new : State) : Type 0 where
  pub current : new.current ≡ old.current
  pub goes : GoesOn app i (task_at new i)

past_the_last : (app : Application) (i n : ℕ) → n ≡ op_count app i → op_at app i n ≡ None
past_the_last app i n e = slice_get_past (script_of app i) n (omega arith)

module _ (app : Application) (i : ℕ) where
  moved_on : (op_index : ℕ) (p : Progress) (t : Task) → is_some (ticket_if_ready t.status) ≡ true
      → GoesOn app i (moved_to (op_count app i) op_index p t)
  moved_on op_index p t r = by_test (eqb op_index (op_count app i))
      (λ e. rw e (inr (past_the_last app i op_index (eqb-same op_index (op_count app i) e))))
      (λ e. rw e (inl r))

  pub gone_to : (op_index : ℕ) (p : Progress) (s : State) → i < length s.tasks
      → is_ready s i ≡ true → Continues app i s (go_to app i op_index p s)
  unfolding go_to
  gone_to op_index p s l r = record {
    current = refl;
    goes =
        subst (GoesOn app i) (sym (get_or-set_same s.tasks i (moved_to (op_count app i) op_index p (task_at s i)) no_task l))
        (moved_on op_index p (task_at s i) r);
  }

  pub answering_on : (a : Option ℕ) (s : State) → i < length s.tasks → is_ready s i ≡ true → Continues app i s (answer app i a s)
  unfolding answer
  answering_on a s l r =
      let k = gone_to ((progress_at s i).op_index + 1) (record (progress_at s i) { answer = a }) (write _ s) l r in
      record { current = k.current; goes = k.goes }

  -- ---- a tick that is held

  spares-each : (handlers : List ℕ) (s : State) → Spares s (for_each (come app) handlers s)
  spares-each [] s = spares s
  spares-each (handler ∷ handlers) s =
      let t : State = come app handler s in
      spares_both s t (for_each (come app) handlers t) (spares-come app handler s) (spares-each handlers t)

  pub spares-interrupt : (s : State) → Spares s (interrupt app s)
  unfolding interrupt
  spares-interrupt s =
      let all : List ℕ = interrupts_at app s.elapsed ++ raised_now s in
      spares_both s (none_raised_now s) (for_each (come app) all (none_raised_now s))
      (spares-none_raised_now s) (spares-each all (none_raised_now s))

  spared_on : (s t : State) → Spares s t → GoesOn app i (task_at s i) → GoesOn app i (task_at t i)
  spared_on s t sp g = elim g [
    | inl r ↦ inl (subst (λ (u : Task). is_some (ticket_if_ready u.status) ≡ true) (sym (sp.ready i r)) r)
    | inr e ↦ inr (ap (op_at app i) (sp.op_index i) ∙ e)
  ]

  ticked_on : (s : State) → is_scheduler_suspended s ≡ true → GoesOn app i (task_at s i) → Continues app i s (tick_interrupt app s)
  unfolding tick_interrupt increment_tick
  ticked_on s on g =
      let come : State = record s { elapsed = s.elapsed + 1; held_ticks = s.held_ticks + 1 } in
      let same : increment_tick s ≡ come = rw (ticks_held_by_task s on) refl in
      let told : State = interrupt app come in
      let sp : Spares come told = spares-interrupt come in
      let held : is_held (interrupt app (increment_tick s)) ≡ true = held-told app s ∙ held_by_task s (suspended_held s on) in
      let stays : unless_held slice (interrupt app (increment_tick s)) ≡ told =
      when_held slice (interrupt app (increment_tick s)) held ∙ ap (interrupt app) same in
      subst (Continues app i s) (sym stays) (record { current = sp.current; goes = spared_on come told sp g })

  used_on : (n : ℕ) (s : State) → i < length s.tasks → is_ready s i ≡ true → Continues app i s (use_up app i n s)
  unfolding use_up
  used_on n s l r = by_test (eqb ((progress_at s i).used + 1) n)
      (λ t. rw t (gone_to ((progress_at s i).op_index + 1) (progress_at s i) s l r))
      (λ t.
      rw t (record {
        current = refl;
        goes =
            inl (ap (λ (u : Task). is_some (ticket_if_ready u.status)) (get_or-set_same s.tasks i
            (record (task_at s i) { progress = record (progress_at s i) { used = (progress_at s i).used + 1 } }) no_task l)
            ∙ r);
      }))

  pub worked_on : (n : ℕ) (s : State) → is_scheduler_suspended s ≡ true → is_scheduler_suspended (use_up app i n s) ≡ true
      → i < length s.tasks → is_ready s i ≡ true → Continues app i s (tick_interrupt app (use_up app i n s))
  worked_on n s on on1 l r =
      let u = used_on n s l r in
      let t = ticked_on (use_up app i n s) on1 u.goes in
      record { current = t.current ∙ u.current; goes = t.goes }

  -- ---- the ops that may be done then

  expected_on : (condition : AnswerCondition) (s : State) → i < length s.tasks
      → is_ready s i ≡ true → Continues app i s (expect app i condition s)
  unfolding expect
  expected_on condition s l r = by_test (holds s.variables condition (progress_at s i).answer)
      (λ t. rw t (gone_to ((progress_at s i).op_index + 1) (progress_at s i) s l r))
      (λ t. rw t (record { current = refl; goes = inl r }))

  next_on : (p : Progress) (x : Loop) (xs : List Loop) (left : Option ℕ) (s : State)
      → i < length s.tasks → is_ready s i ≡ true → Continues app i s (next_turn app i p x xs left s)
  next_on p x xs None s l r = gone_to x.start p s l r
  next_on p x xs (Some left) s l r = by_test (leb left 1)
      (λ q. rw q (gone_to (p.op_index + 1) (record p { loops = xs }) s l r))
      (λ q. rw q (gone_to x.start (record p { loops = record x { left = Some (left - 1) } ∷ xs }) s l r))

  turned_on : (p : Progress) (ls : List Loop) (s : State) → i < length s.tasks
      → is_ready s i ≡ true → Continues app i s (turn app i p ls s)
  turned_on p [] s l r = gone_to (p.op_index + 1) p s l r
  turned_on p (x ∷ xs) s l r = next_on p x xs x.left s l r

  opened_on : (n : Option ℕ) (s : State) → i < length s.tasks → is_ready s i ≡ true → Continues app i s (open_loop app i n s)
  unfolding open_loop
  opened_on n s l r =
      gone_to ((progress_at s i).op_index + 1)
      (record (progress_at s i) { loops = record { start = (progress_at s i).op_index + 1; left = n } ∷ (progress_at s i).loops })
      s l r

  closed_on : (s : State) → i < length s.tasks → is_ready s i ≡ true → Continues app i s (close_turn app i s)
  unfolding close_turn
  closed_on s l r = turned_on (progress_at s i) (progress_at s i).loops s l r

  branched_on : (condition : AnswerCondition) (s : State) → i < length s.tasks
      → is_ready s i ≡ true → Continues app i s (branch app i condition s)
  unfolding branch
  branched_on condition s l r = by_test (holds s.variables condition (progress_at s i).answer)
      (λ t. rw t (gone_to ((progress_at s i).op_index + 1) (progress_at s i) s l r))
      (λ t. rw t (gone_to (jump_from (script_of app i) (progress_at s i).op_index) (progress_at s i) s l r))

  skipped_on : (s : State) → i < length s.tasks → is_ready s i ≡ true → Continues app i s (skip_branch app i s)
  unfolding skip_branch
  skipped_on s l r = gone_to (jump_from (script_of app i) (progress_at s i).op_index) (progress_at s i) s l r

  left_on : (s : State) → i < length s.tasks → is_ready s i ≡ true → Continues app i s (leave_loop app i s)
  unfolding leave_loop
  left_on s l r =
      gone_to (jump_from (script_of app i) (progress_at s i).op_index)
      (record (progress_at s i) { loops = drop 1 (progress_at s i).loops }) s l r

  stamped_on : (s : State) → i < length s.tasks → is_ready s i ≡ true → Continues app i s (stamp app i s)
  unfolding stamp
  stamped_on s l r = gone_to ((progress_at s i).op_index + 1) (record (progress_at s i) { stamp = s.time }) s l r

  since_on : (s : State) → i < length s.tasks → is_ready s i ≡ true → Continues app i s (since app i s)
  unfolding since
  since_on s l r = answering_on _ s l r

  calculated_on : (op : ValueOp) (s : State) → i < length s.tasks → is_ready s i ≡ true → Continues app i s (calculate app i op s)
  unfolding calculate
  calculated_on op s l r =
      let a : Option ℕ = answer_of s.variables (progress_at s i).answer op in
      let k = answering_on a (store op a s) l r in
      record { current = k.current; goes = k.goes }

  controlled_on : (handler : ℕ) (what : SourceOp) (s : State) → i < length s.tasks → is_ready s i ≡ true
      → Continues app i s (control app i handler what s)
  unfolding control
  controlled_on handler what s l r = by_what what where
    by_what : (what : SourceOp)
        → Continues app i s (go_to app i ((progress_at s i).op_index + 1) (progress_at s i) (do_to_source handler what s))
    by_what Arm = (let k = gone_to ((progress_at s i).op_index + 1) (progress_at s i) (do_to_source handler Arm s) l r in
        record { current = k.current; goes = k.goes })
    by_what Disarm = (let k = gone_to ((progress_at s i).op_index + 1) (progress_at s i) (do_to_source handler Disarm s) l r in
        record { current = k.current; goes = k.goes })
    by_what (Raise n) = (let k = gone_to ((progress_at s i).op_index + 1) (progress_at s i) (do_to_source handler (Raise n) s) l r
        in record { current = k.current; goes = k.goes })
    by_what Cancel = (let k = gone_to ((progress_at s i).op_index + 1) (progress_at s i) (do_to_source handler Cancel s) l r in
        record { current = k.current; goes = k.goes })

  cleared_on : (group mask : ℕ) (s : State) → i < length s.tasks
      → is_ready s i ≡ true → Continues app i s (clear app i group mask s)
  unfolding clear
  cleared_on group mask s l r =
      let k = answering_on (Some (bits_at s group)) (with_bits group (bits_without (bits_at s group) mask) s) l r in
      record { current = k.current; goes = k.goes }

  unnotified_on : (what : NotificationClear) (s : State) → i < length s.tasks
      → is_ready s i ≡ true → Continues app i s (clear_notification app i what s)
  unfolding clear_notification
  unnotified_on what s l r =
      let n = notification_at s i in
      let k = answering_on (clear_answer what n) (with_notification i (cleared what n) s) l r in
      record { current = k.current; goes = k.goes }

  pub suspended_on : (s : State) → i < length s.tasks → is_ready s i ≡ true → Continues app i s (suspend_all app i s)
  unfolding suspend_all
  suspended_on s l r =
      let k = answering_on (Some 0) (record s { suspensions = s.suspensions + 1 }) l r in
      record { current = k.current; goes = k.goes }

  pub sectioned_on : (n : ℕ) (s : State) → i < length s.tasks → is_ready s i ≡ true → Continues app i s (with_sections app i n s)
  unfolding with_sections
  sectioned_on n s l r =
      let k = gone_to ((progress_at s i).op_index + 1) (progress_at s i) (record s { sections = n }) l r in
      record { current = k.current; goes = k.goes }

  -- an op that doesn't switch, lets no tick pass, and holds nothing and lets go of nothing
  pub acted_on : (op : Op) (s : State) → may_switch op ≡ false → is_instant op ≡ true
      → i < length s.tasks → is_ready s i ≡ true → Continues app i s (act app i op s)
  acted_on (Work n) s q t l r = absurd (cc)
  acted_on (Delay n) s q t l r = absurd (cc)
  acted_on (DelayUntil n) s q t l r = absurd (cc)
  acted_on Yield s q t l r = absurd (cc)
  acted_on Time s q t l r = answering_on (Some (printed s.time)) s l r
  acted_on (Mark value) s q t l r =
      let n : ℕ = number_of s.variables (progress_at s i).answer value in
      let k = gone_to ((progress_at s i).op_index + 1) (progress_at s i) (write (what.Mark i n) s) l r in
      record { current = k.current; goes = k.goes }
  acted_on (Expect c) s q t l r = expected_on c s l r
  acted_on (Repeat n) s q t l r = opened_on n s l r
  acted_on End s q t l r = closed_on s l r
  acted_on (If c) s q t l r = branched_on c s l r
  acted_on Else s q t l r = skipped_on s l r
  acted_on EndIf s q t l r = gone_to ((progress_at s i).op_index + 1) (progress_at s i) s l r
  acted_on Break s q t l r = left_on s l r
  acted_on Stamp s q t l r = stamped_on s l r
  acted_on Since s q t l r = since_on s l r
  acted_on (Value op) s q t l r = calculated_on op s l r
  acted_on (op.Source j what) s q t l r = controlled_on j what s l r
  acted_on (Await o a ticks) s q t l r = absurd (cc)
  acted_on (Do o a) s q t l r = absurd (cc)
  acted_on (GiveMutex o) s q t l r = absurd (cc)
  acted_on (MessagesWaiting o) s q t l r = answering_on (Some (length (object_at s o).items)) s l r
  acted_on (SpacesAvailable o) s q t l r = answering_on (Some ((object_at s o).size - length (object_at s o).items)) s l r
  acted_on (SetBits g m) s q t l r = absurd (cc)
  acted_on (ClearBits g m) s q t l r = cleared_on g m s l r
  acted_on (GetBits g) s q t l r = answering_on (Some (bits_at s g)) s l r
  acted_on (WaitBits g c ticks) s q t l r = absurd (cc)
  acted_on (Notify j a) s q t l r = absurd (cc)
  acted_on (AwaitNotification a ticks) s q t l r = absurd (cc)
  acted_on (ClearNotification what) s q t l r = unnotified_on what s l r
  acted_on (Suspend j) s q t l r = absurd (cc)
  acted_on (Resume j) s q t l r = absurd (cc)
  acted_on SuspendAll s q t l r = absurd (cc)
  acted_on ResumeAll s q t l r = absurd (cc)
  acted_on EnterCritical s q t l r = absurd (cc)
  acted_on ExitCritical s q t l r = absurd (cc)
  acted_on (NextCommand o) s q t l r = absurd (cc)
  acted_on Obey s q t l r = absurd (cc)

-- ---- a `suspend_all` taken back

-- It leaves a Ready task as it is,
pub resumed_apart : (s : State) (i : ℕ) → is_ready s i ≡ true → task_at (resume_scheduler s) i ≡ task_at s i
unfolding resume_scheduler
resumed_apart s i r = by_test (eqb s.suspensions 1)
    (λ t. rw t (applied_apart s.held_ticks (record s { suspensions = s.suspensions - 1 }) i r))
    (λ t. rw t refl)

-- and the same task runs
pub current-resumed : (s : State) → (resume_scheduler s).current ≡ s.current
unfolding resume_scheduler
current-resumed s = by_test (eqb s.suspensions 1)
    (λ t. rw t (current-applied s.held_ticks (record s { suspensions = s.suspensions - 1 })))
    (λ t. rw t refl)

-- where others are in force still
pub resumed_on : (app : Application) (i : ℕ) (s : State) → eqb s.suspensions 1 ≡ false
    → is_held (record s { suspensions = s.suspensions - 1 }) ≡ true
    → i < length s.tasks → is_ready s i ≡ true → Continues app i s (resume_all app i s)
unfolding resume_all resume_scheduler
resumed_on app i s more held l r =
    let t : State = record s { suspensions = s.suspensions - 1 } in
    let same : resume_scheduler s ≡ t = rw more refl in
    let u : State = answer app i (Some 0) t in
    let k = answering_on app i (Some 0) t l r in
    let still : is_held u ≡ true = still_held app i (Some 0) t ∙ held in
    let whole : resume_all app i s ≡ u =
    ap (λ (x : State). unless_held preempt (answer app i (Some 0) x)) same ∙ when_held preempt u still in
    subst (Continues app i s) (sym whole) (record { current = k.current; goes = k.goes })
