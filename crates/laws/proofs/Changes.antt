-- What every deed keeps of who sleeps and who has which ticket, and so every step.
use Rattle.model.specs.declared.op.Op.TheVariants.{Value, Work, Delay, DelayUntil, Yield, Time, Mark, Expect, Repeat, End, If}
use Rattle.model.specs.declared.op.Op.TheVariants.{Else, EndIf, Break, Stamp, Since, Await, Do, GiveMutex, MessagesWaiting}
use Rattle.model.specs.declared.op.Op.TheVariants.{SpacesAvailable, SetBits, ClearBits, GetBits, WaitBits, Suspend, Resume}
use Rattle.model.specs.declared.op.Op.TheVariants.{SuspendAll, ResumeAll, EnterCritical, ExitCritical, NextCommand, Obey}
use Rattle.model.specs.declared.op.Op.TheVariants.{Notify, AwaitNotification, ClearNotification}
use Rattle.model.specs.declared.value.ValueOp.{ValueOp}
use Rattle.model.specs.declared.event.End.TheVariants.{Check, HandlerCheck}
use Rattle.model.specs.Ops.{calculate, store, one_if, answer, use_up, open_loop, close_turn, skip_branch, with_sections}
use Rattle.model.specs.Step.{act_by_value, call_with_number, notify_by_number, judge, act, misuse, act_unless, act_if}
use Rattle.model.specs.Step.{act_current, before_step, step, nobody_ready, ready_at_reset, reset, with_ops}
use Rattle.model.specs.Values.{answer_of, number_of, with_number}
use Rattle.std.specs.List.{AllByRecursion}
use Rattle.laws.specs.Values.{NoHandlerStores, is_store_to, isr_stores_to, stores_to}
use Rattle.soundness.proofs.Passing.{by_value}
use Rattle.soundness.proofs.Ticking.{either_way, jumped}
use Rattle.std.proofs.Common.{[], ◌-◌, ◌≡◌, ◌<◌, ◌+◌, ℕ, zero, suc, true, false, eqb, inl, inr, List, ◌∷◌, Option, Some, None}
use Rattle.std.proofs.Common.{refl, sym, subst}
use Rattle.std.specs.Prelude.{Bool}
use Rattle.std.specs.Option.{IfSome}
use Rattle.model.specs.declared.op.Op.{Op}
use Rattle.model.specs.declared.notification.NotifyAction.{NotifyAction}
use Rattle.model.specs.Notifications.{notify_with_number, notify_answer, notify, call_notify}
use Rattle.model.specs.State.{notification_at, State, Task, Status, ticket_of, wake_time_of, task_at, progress_at, status_at}
use Rattle.model.specs.State.{call_at, bits_at, with_task, take_ticket, for_each, printed}
use Rattle.model.specs.declared.op.Access.{Access}
use Rattle.model.specs.declared.op.Access.TheVariants.{Send}
use Rattle.model.specs.declared.event.What.{What}
use Rattle.model.specs.declared.event.What.TheVariants as what
use Rattle.model.specs.declared.event.Misuse.{Misuse}
use Rattle.model.specs.Blocks.{jump_from}
use Rattle.model.specs.Application.{Application, Limits, commands_of, op_at, ops_of, interrupts_at, script_of}
use Rattle.model.specs.Switching.{make_ready, choice, preempt, slice, settle, unless_held, write, is_held, is_critical}
use Rattle.model.specs.Switching.{holds_ticks}
use Rattle.model.specs.Objects.{answer_to, attempt}
use Rattle.model.specs.Time.{wake_due, advance, increment_tick, jump}
use Rattle.model.specs.declared.plan.Injection.{Injection}
use Rattle.model.specs.declared.op.IsrOp.{IsrOp}
use Rattle.model.specs.declared.op.IsrOp.TheVariants as isr_op
use Rattle.model.specs.declared.op.Op.TheVariants as op
use Rattle.model.specs.declared.source.SourceOp.{SourceOp}
use Rattle.model.specs.declared.source.SourceOp.TheVariants.{Arm, Disarm, Raise, Cancel}
use Rattle.model.specs.Ops.{control, do_to_source}
use Rattle.model.specs.State.{source_at, with_source}
use Rattle.model.specs.Handlers.{can_come, come, note_coming, none_raised_now, raised_now}
use Rattle.std.proofs.Common.{◌++◌}
use Rattle.model.specs.Handlers.{isr_told, isr, isr_answer, isr_jump, is_failed, isr_each, handle, serve, inject, interrupt}
use Rattle.model.specs.Handlers.{is_tick, pend, pending_of, none_pending, serve_pending, tick_interrupt, idle, ticks_ahead}
use Rattle.model.specs.Groups.{clear}
use Rattle.model.specs.Suspension.{can_resume, suspend, resume, call_suspend, call_resume, suspend_all, resume_scheduler}
use Rattle.model.specs.Suspension.{resume_all}
use Rattle.model.specs.Daemon.{item_of, command_at}
use Rattle.model.specs.Run.{injected, state_after}
use Rattle.model.proofs.Sorting.{by_test}
use Rattle.soundness.proofs.Judging.{by_judgement}
use Rattle.soundness.proofs.Settled.{when_held, when_free}
use Rattle.laws.specs.Notifications.{takes_notification}
use Rattle.laws.proofs.Staying.{Remains, Stays, Stops, left_by_op}
use Rattle.laws.proofs.Sleeping.{NoneBetween, none_in_one, none_ahead}
use Rattle.laws.proofs.Deeds.{Keeping, kept-all_ready, kept-answer, kept-applied, kept-attempt, kept-await, kept-await_notification}
use Rattle.laws.proofs.Deeds.{kept-branch, kept-clear_notification, kept-delay, kept-delay_until, kept-do_now, kept-expect}
use Rattle.laws.proofs.Deeds.{kept-fail, kept-give_mutex, kept-go_to, kept-leave_loop, kept-next_command, kept-notify}
use Rattle.laws.proofs.Deeds.{kept-obey, kept-preempt, kept-replied, kept-resume, kept-set_bits, kept-settle, kept-since}
use Rattle.laws.proofs.Deeds.{kept-slice, kept-stamp, kept-suspend, kept-turn, kept-use_up, kept-wait_bits, kept-with_bits}
use Rattle.laws.proofs.Deeds.{kept-yield_now}

-- ---- what every step keeps, if four kinds of change keep it

module _ {P : State → Type 0} {stamps answers : ℕ → Bool} {x : ℕ} {stores : Bool} {task : ℕ} {takes : Bool}
    (four : Keeping P stamps answers x stores task takes true) where
  -- ---- handlers

  kept-write : (w : What) (s : State) → P s → P (write w s)
  kept-write w s h = four.framed s (write w s) refl refl refl (inl refl) (λ _. refl, λ _ k. k, λ no. absurd (cc)) h

  -- No op of a handler stores to the variable, unless it may be stored.
  abbrev AreSpared : Application → Type 0
  AreSpared app = stores ≡ false → NoHandlerStores app x

  kept-store : (op : ValueOp) (a : Option ℕ) (s : State) → (stores ≡ false → is_store_to x op ≡ false) → P s → P (store op a s)
  kept-store op a s may h =
      four.framed s (store op a s) refl refl refl (inl refl)
      (λ no. left_by_op x op a s.variables (may no), λ _ k. k, λ no. absurd (cc)) h

  kept-source : (handler : ℕ) (op : SourceOp) (s : State) → P s → P (do_to_source handler op s)
  kept-source handler Arm s h =
      four.framed s (do_to_source handler Arm s) refl refl refl (inl refl) (λ _. refl, λ _ k. k, λ no. absurd (cc)) h
  kept-source handler Disarm s h =
      four.framed s (do_to_source handler Disarm s) refl refl refl (inl refl) (λ _. refl, λ _ k. k, λ no. absurd (cc)) h
  kept-source handler (Raise n) s h =
      four.framed s (do_to_source handler (Raise n) s) refl refl refl (inl refl) (λ _. refl, λ _ k. k, λ no. absurd (cc)) h
  kept-source handler Cancel s h =
      four.framed s (do_to_source handler Cancel s) refl refl refl (inl refl) (λ _. refl, λ _ k. k, λ no. absurd (cc)) h

  kept-isr : (app : Application) (handler op_index : ℕ) (op : IsrOp) (last : Option ℕ) (s : State)
      → (stores ≡ false → isr_stores_to x op ≡ false) → P s → P (isr app handler op_index op last s)
  kept-isr app handler op_index (isr_op.Do o a) last s may h =
      let access : Access ℕ = with_number s.variables last a in
      kept-write (isr_told handler op_index (answer_to s o access)) (attempt None o access s) (kept-attempt four None o access s h)
  kept-isr app handler op_index (isr_op.Command c) last s may h =
      let send : Access ℕ = Send (item_of c) in
      kept-write (isr_told handler op_index (answer_to s (commands_of app) send))
      (attempt None (commands_of app) send s) (kept-attempt four None (commands_of app) send s h)
  kept-isr app handler op_index (isr_op.Resume i) last s may h =
      kept-write (isr_told handler op_index (one_if (can_resume (status_at s i)))) (resume i s) (kept-resume four i s h)
  kept-isr app handler op_index (isr_op.GetBits group) last s may h =
      kept-write (isr_told handler op_index (Some (bits_at s group))) s h
  kept-isr app handler op_index (isr_op.Notify i action) last s may h =
      let a : NotifyAction ℕ = notify_with_number s.variables last action in
      kept-write (isr_told handler op_index (notify_answer a (notification_at s i))) (notify i a s) (kept-notify four i a s h)
  kept-isr app handler op_index (isr_op.Value op) last s may h =
      let a : Option ℕ = answer_of s.variables last op in
      kept-write (isr_told handler op_index a) (store op a s) (kept-store op a s may h)
  kept-isr app handler op_index (isr_op.Source other op) last s may h = kept-source other op s h
  kept-isr app handler op_index (isr_op.Mark value) last s may h =
      kept-write (what.IsrMark handler (number_of s.variables last value)) s h
  kept-isr app handler op_index (isr_op.Expect condition) last s may h = h
  kept-isr app handler op_index (isr_op.If condition) last s may h = h
  kept-isr app handler op_index isr_op.Else last s may h = h
  kept-isr app handler op_index isr_op.EndIf last s may h = h

  kept-isr_each : (app : Application) (handler op_index over : ℕ) (answer : Option ℕ) (ops : List IsrOp) (s : State)
      → (stores ≡ false → AllByRecursion (λ o. isr_stores_to x o ≡ false) ops)
      → P s → P (isr_each app handler op_index over answer ops s)
  kept-isr_each app handler op_index over answer [] s may h = h
  kept-isr_each app handler op_index (suc over) answer (op ∷ ops) s may h =
      kept-isr_each app handler (op_index + 1) over answer ops s (λ no. (may no).1) h
  kept-isr_each app handler op_index zero answer (op ∷ ops) s may h =
      let t : State = isr app handler op_index op answer s in
      by_test (is_failed s op answer)
      (λ f. rw f (kept-fail four (HandlerCheck handler op_index) s refl h))
      (λ f.
      rw f (kept-isr_each app handler (op_index + 1) (isr_jump s op answer ops)
      (isr_answer app s op answer) ops t (λ no. (may no).1)
      (kept-isr app handler op_index op answer s (λ no. (may no).0) h)))

  kept-handle : (app : Application) → AreSpared app → (handler : ℕ) (s : State) → P s → P (handle app handler s)
  unfolding handle
  kept-handle app spared handler s h = kept-isr_each app handler 0 0 None (ops_of app handler) s (λ no. spared no handler) h

  kept-come : (app : Application) → AreSpared app → (handler : ℕ) (s : State) → P s → P (come app handler s)
  unfolding come
  kept-come app spared handler s h =
      kept-handle app spared handler (note_coming app handler s)
      (four.framed s (note_coming app handler s) refl refl refl (inl refl) (λ _. refl, λ _ k. k, λ no. absurd (cc)) h)

  kept-each : {A : Type 0} (deed : A → State → State) (k : (a : A) (s : State) → P s → P (deed a s)) (ones : List A) (s : State)
      → P s → P (for_each deed ones s)
  kept-each deed k [] s h = h
  kept-each deed k (a ∷ ones) s h = kept-each deed k ones (deed a s) (k a s h)

  kept-unless_held : (deed : State → State) (k : (s : State) → P s → P (deed s)) (s : State) → P s → P (unless_held deed s)
  kept-unless_held deed k s h = by_test (is_held s)
      (λ t. subst P (sym (when_held deed s t)) h)
      (λ t. subst P (sym (when_free deed s t)) (k s h))

  kept-increment : (s : State) → P s → P (increment_tick s)
  unfolding increment_tick advance
  kept-increment s h =
      let t : State = record s { elapsed = s.elapsed + 1 } in
      by_test (holds_ticks s)
      (λ u. rw u (four.framed s (record t { held_ticks = s.held_ticks + 1 }) refl refl refl (inl refl)
      (λ _. refl, λ _ k. k, λ no. absurd (cc)) h))
      (λ u. rw u (four.passed 1 t (none_in_one t) (four.framed s t refl refl refl (inl refl)
      (λ _. refl, λ _ k. k, λ no. absurd (cc)) h)))

  kept-interrupt : (app : Application) → AreSpared app → (s : State) → P s → P (interrupt app s)
  unfolding interrupt
  kept-interrupt app spared s h =
      kept-each (come app) (kept-come app spared) (interrupts_at app s.elapsed ++ raised_now s) (none_raised_now s)
      (four.framed s (none_raised_now s) refl refl refl (inl refl) (λ _. refl, λ _ k. k, λ no. absurd (cc)) h)

  kept-tick : (app : Application) → AreSpared app → (s : State) → P s → P (tick_interrupt app s)
  unfolding tick_interrupt
  kept-tick app spared s h =
      kept-unless_held slice (kept-slice four) _ (kept-interrupt app spared (increment_tick s) (kept-increment s h))

  kept-serve : (app : Application) → AreSpared app → (source : ℕ) (s : State) → P s → P (serve app source s)
  unfolding serve
  kept-serve app spared source s h = by_test (is_tick app source)
      (λ t. rw t (kept-tick app spared s h))
      (λ t.
      rw t (kept-unless_held preempt (kept-preempt four) (come app source s) (kept-come app spared source s h)))

  kept-inject : (app : Application) → AreSpared app → (handler : ℕ) (s : State) → P s → P (inject app handler s)
  unfolding inject
  kept-inject app spared handler s h = by_test (can_come s handler)
      (λ t. rw t (kept-serve app spared handler s h))
      (λ t. rw t h)

  kept-pend : (app : Application) (handler : ℕ) (s : State) → P s → P (pend app handler s)
  kept-pend app handler s h =
      let now : State = with_source handler (record (source_at s handler) { pending = true }) s in
      by_test (can_come s handler)
      (λ t. rw t (four.framed s (note_coming app handler now) refl refl refl (inl refl) (λ _. refl, λ _ k. k, λ no. absurd (cc)) h))
      (λ t. rw t h)

  pub kept-before_step : (app : Application) → AreSpared app → (handlers : List ℕ) (s : State) → P s
      → P (before_step app handlers s)
  unfolding before_step serve_pending
  kept-before_step app spared handlers s h =
      let t : State = record s { log = [] } in
      let none : State = none_pending t in
      by_test (is_critical t)
      (λ q. rw q (kept-each (pend app) (kept-pend app) handlers t (four.framed s t refl refl refl (inl refl)
      (λ _. refl, λ _ k. k, λ no. absurd (cc)) h)))
      (λ q.
      rw q (kept-each (inject app) (kept-inject app spared) handlers (for_each (serve app) (pending_of t) none)
      (kept-each (serve app) (kept-serve app spared) (pending_of t) none
      (four.framed s none refl refl refl (inl refl) (λ _. refl, λ _ k. k, λ no. absurd (cc)) h))))

  kept-jump : (n : ℕ) (s : State) → NoneBetween n s → P s → P (jump n s)
  unfolding jump
  kept-jump n s none h =
      let t : State = record s { elapsed = s.elapsed + n } in
      four.passed n t none (four.framed s t refl refl refl (inl refl) (λ _. refl, λ _ k. k, λ no. absurd (cc)) h)

  kept-jumped : (app : Application) → AreSpared app → (n : ℕ) (s : State) → NoneBetween n s → P s → P (jumped app n s)
  kept-jumped app spared n s none h =
      kept-unless_held slice (kept-slice four) _ (kept-interrupt app spared (jump n s) (kept-jump n s none h))

  kept-idle : (app : Application) → AreSpared app → (limits : Limits) (s : State) → P s → P (idle app limits s)
  unfolding idle
  kept-idle app spared limits s h =
      let n : ℕ = ticks_ahead app limits s in
      either_way P app.tickless (jumped app n s) (tick_interrupt app s)
      (kept-jumped app spared n s (none_ahead app limits s) h) (kept-tick app spared s h)

  -- ---- the scheduler suspended and resumed

  kept-resume_scheduler : (s : State) → P s → P (resume_scheduler s)
  unfolding resume_scheduler
  kept-resume_scheduler s h =
      let t : State = record s { suspensions = s.suspensions - 1 } in
      let less : P t = four.framed s t refl refl refl (inl refl) (λ _. refl, λ _ k. k, λ no. absurd (cc)) h in
      by_test (eqb s.suspensions 1)
      (λ q. rw q (kept-applied four s.held_ticks t less))
      (λ q. rw q less)

  kept-judge : (i op_index : ℕ) (s : State) → P s → P (judge i op_index s)
  kept-judge i op_index s h = by_judgement P i op_index s h
      (λ kind. four.framed s _ refl refl refl (inr (inr refl)) (λ _. refl, λ _ k. k, λ no. absurd (cc)) h)

  kept-sections : (app : Application) (i n : ℕ) (s : State) → P s → P (with_sections app i n s)
  unfolding with_sections
  kept-sections app i n s h =
      let t : State = record s { sections = n } in
      kept-go_to four app i ((progress_at s i).op_index + 1) (progress_at s i) t (λ _. refl, λ _. refl)
      (four.framed s t refl refl refl (inl refl) (λ _. refl, λ _ k. k, λ no. absurd (cc)) h)

  -- ---- a step, and a run

  -- A task that may not stamp does no `stamp`. The op doesn't store to the variable, unless that may be stored.
  -- The task may answer. Its op doesn't take the notification, if that is its own, unless that may be taken.
  abbrev IsAllowed : State → ℕ → Option Op → Type 0
  IsAllowed s i op =
      (op ≡ Some Stamp → stamps i ≡ true) × (stores ≡ false → IfSome op (λ o. stores_to x o ≡ false)) × (answers i ≡ true)
      × (takes ≡ false → task ≡ i → IfSome op (λ o. takes_notification s i o ≡ false))

  -- an op on a source leaves where each task is in its script
  same_progress : (handler : ℕ) (what : SourceOp) (s : State) (i : ℕ)
      → (stamps i ≡ false → (progress_at s i).stamp ≡ (progress_at (do_to_source handler what s) i).stamp)
      × (answers i ≡ false → (progress_at s i).answer ≡ (progress_at (do_to_source handler what s) i).answer)
  same_progress handler Arm s i = (λ _. refl, λ _. refl)
  same_progress handler Disarm s i = (λ _. refl, λ _. refl)
  same_progress handler (Raise n) s i = (λ _. refl, λ _. refl)
  same_progress handler Cancel s i = (λ _. refl, λ _. refl)

  kept-act : (app : Application) → AreSpared app → (i : ℕ) (op : Op) (s : State) → IsAllowed s i (Some op) → P s
      → P (act app i op s)
  unfolding open_loop close_turn skip_branch clear call_suspend call_resume suspend_all resume_all calculate call_notify control
  kept-act app spared i (Work n) s may h = kept-tick app spared (use_up app i n s) (kept-use_up four app i n s h)
  kept-act app spared i (Delay n) s may h = kept-delay four app i may.2 n s h
  kept-act app spared i (DelayUntil n) s may h = kept-delay_until four app i may.2 ((progress_at s i).previous_wake + n) s h
  kept-act app spared i Yield s may h = kept-yield_now four (answer app i (Some 0) s) (kept-answer four app i may.2 (Some 0) s h)
  kept-act app spared i Time s may h = kept-answer four app i may.2 (Some (printed s.time)) s h
  kept-act app spared i (Value op) s may h =
      let a : Option ℕ = answer_of s.variables (progress_at s i).answer op in
      kept-answer four app i may.2 a (store op a s) (kept-store op a s may.1 h)
  kept-act app spared i (Mark value) s may h =
      let t : State = write (what.Mark i (number_of s.variables (progress_at s i).answer value)) s in
      kept-go_to four app i ((progress_at s i).op_index + 1) (progress_at s i) t (λ _. refl, λ _. refl)
      (four.framed s t refl refl refl (inl refl) (λ _. refl, λ _ k. k, λ no. absurd (cc)) h)
  kept-act app spared i (Expect condition) s may h = kept-expect four app i condition s h
  kept-act app spared i (Repeat n) s may h = kept-go_to four app i ((progress_at s i).op_index + 1) _ s (λ _. refl, λ _. refl) h
  kept-act app spared i End s may h = kept-turn four app i (progress_at s i) (progress_at s i).loops s (λ _. refl, λ _. refl) h
  kept-act app spared i (If condition) s may h = kept-branch four app i condition s h
  kept-act app spared i Else s may h =
      kept-go_to four app i (jump_from (script_of app i) (progress_at s i).op_index) (progress_at s i) s (λ _. refl, λ _. refl) h
  kept-act app spared i EndIf s may h =
      kept-go_to four app i ((progress_at s i).op_index + 1) (progress_at s i) s (λ _. refl, λ _. refl) h
  kept-act app spared i Break s may h = kept-leave_loop four app i s h
  kept-act app spared i Stamp s may h = kept-stamp four app i s (may.0 refl) h
  kept-act app spared i Since s may h = kept-since four app i may.2 s h
  kept-act app spared i (Await o a ticks) s may h = kept-await four app i may.2 o (call_with_number s i a) ticks (call_at s i).phase
      s h
  kept-act app spared i (Do o a) s may h = kept-do_now four app i may.2 o (call_with_number s i a) s h
  kept-act app spared i (GiveMutex o) s may h = kept-give_mutex four app i may.2 o s h
  kept-act app spared i (MessagesWaiting o) s may h = kept-answer four app i may.2 _ s h
  kept-act app spared i (SpacesAvailable o) s may h = kept-answer four app i may.2 _ s h
  kept-act app spared i (SetBits g m) s may h = kept-set_bits four app i may.2 g m (call_at s i).phase s h
  kept-act app spared i (ClearBits g m) s may h = kept-answer four app i may.2 _ _ (kept-with_bits four g _ s h)
  kept-act app spared i (GetBits g) s may h = kept-answer four app i may.2 _ s h
  kept-act app spared i (WaitBits g c ticks) s may h = kept-wait_bits four app i may.2 g c ticks (call_at s i).phase s h
  kept-act app spared i (Notify j action) s may h =
      kept-replied four app i may.2 _ (notify j (notify_by_number s i action) s)
      (kept-notify four j (notify_by_number s i action) s h)
  kept-act app spared i (AwaitNotification wait ticks) s may h =
      kept-await_notification four app i may.2 wait ticks (call_at s i).phase s may.3 h
  kept-act app spared i (ClearNotification what) s may h = kept-clear_notification four app i may.2 what s may.3 h
  kept-act app spared i (Suspend j) s may h = kept-replied four app i may.2 _ (suspend j s) (kept-suspend four j s h)
  kept-act app spared i (Resume j) s may h = kept-replied four app i may.2 _ (resume j s) (kept-resume four j s h)
  kept-act app spared i (NextCommand o) s may h = kept-next_command four app i may.2 o (call_at s i).phase s h
  kept-act app spared i Obey s may h = kept-obey four app i may.2 (command_at s i) (call_at s i).phase s h
  kept-act app spared i SuspendAll s may h =
      let t : State = record s { suspensions = s.suspensions + 1 } in
      kept-answer four app i may.2 (Some 0) t (four.framed s t refl refl refl (inl refl) (λ _. refl, λ _ k. k, λ no. absurd (cc)) h)
  kept-act app spared i ResumeAll s may h =
      kept-unless_held preempt (kept-preempt four) _
      (kept-answer four app i may.2 (Some 0) (resume_scheduler s) (kept-resume_scheduler s h))
  kept-act app spared i (op.Source handler what) s may h =
      kept-go_to four app i ((progress_at s i).op_index + 1) (progress_at s i) (do_to_source handler what s)
      (same_progress handler what s i) (kept-source handler what s h)
  kept-act app spared i EnterCritical s may h = kept-sections app i (s.sections + 1) s h
  kept-act app spared i ExitCritical s may h = kept-sections app i (s.sections - 1) s h

  kept-act_unless : (app : Application) → AreSpared app → (i : ℕ) (kind : Option Misuse) (op : Op) (s : State)
      → IsAllowed s i (Some op) → P s → P (act_unless app i kind op s)
  kept-act_unless app spared i None op s may h =
      kept-judge i (progress_at s i).op_index (act_by_value app i op s)
      (by_value P app i op s (kept-fail four (Check i (progress_at s i).op_index) s refl h) (kept-act app spared i op s may h))
  kept-act_unless app spared i (Some kind) op s may h =
      four.framed s (act_unless app i (Some kind) op s) refl refl refl (inr (inr refl)) (λ _. refl, λ _ k. k, λ no. absurd (cc)) h

  kept-act_if : (app : Application) → AreSpared app → (i : ℕ) (o : Option Op) (s : State) → IsAllowed s i o → P s
      → P (act_if app i o s)
  kept-act_if app spared i None s may h = h
  kept-act_if app spared i (Some op) s may h = kept-act_unless app spared i (misuse s i op) op s may h

  -- the same of the running task, if there is one
  abbrev pub RunsAllowed : Application → Option ℕ → State → Type 0
  RunsAllowed app running s = (i : ℕ) → running ≡ Some i → IsAllowed s i (op_at app i (progress_at s i).op_index)

  pub kept-act_current : (app : Application) → AreSpared app → (limits : Limits) (r : Option ℕ) (s : State)
      → RunsAllowed app r s → P s → P (act_current app limits r s)
  kept-act_current app spared limits None s may h = kept-idle app spared limits s h
  kept-act_current app spared limits (Some i) s may h =
      kept-act_if app spared i (op_at app i (progress_at s i).op_index) s (may i refl) h

  pub kept-step : (app : Application) → AreSpared app → (limits : Limits) (handlers : List ℕ) (s : State)
      → RunsAllowed app (before_step app handlers s).current (before_step app handlers s) → P s → P (step app limits handlers s)
  unfolding step
  kept-step app spared limits handlers s may h =
      let begun : State = before_step app handlers s in
      let acted : State = unless_held settle (act_current app limits begun.current begun) in
      four.framed acted (record acted { steps = s.steps + 1 }) refl refl refl (inl refl) (λ _. refl, λ _ k. k, λ no. absurd (cc))
      (kept-unless_held settle (kept-settle four) (act_current app limits begun.current begun)
      (kept-act_current app spared limits begun.current begun may (kept-before_step app spared handlers s h)))

  pub kept-reset : (app : Application) → P (nobody_ready app) → P (reset app)
  unfolding reset ready_at_reset
  kept-reset app h =
      let s : State = for_each make_ready (with_ops 0 app.tasks) (nobody_ready app) in
      four.framed s (record s { current = choice s }) refl refl refl (inl refl) (λ _. refl, λ _ k. k, λ no. absurd (cc))
      (kept-all_ready four (with_ops 0 app.tasks) (nobody_ready app) h)

-- any task may stamp, or answer
abbrev pub anyone : ℕ → Bool
anyone i = true

-- what every state of a run has, if four kinds of change keep it
module _ (P : State → Type 0)
    (framed : (s t : State) → t.tasks ≡ s.tasks → t.next_ticket ≡ s.next_ticket
    → t.time ≡ s.time → Stops s.stopped t.stopped → P s → P t)
    (moved : (s : State) (i : ℕ) (t : Task) → Stays (status_at s i) t.status
    → Remains true true (task_at s i) t → P s → P (with_task i t s))
    (taken : (s : State) (i : ℕ) (status : ℕ → Status) → ticket_of (status s.next_ticket) ≡ Some s.next_ticket
    → IfSome (wake_time_of (status s.next_ticket)) (λ w. s.time < w) → P s → P (take_ticket i status s))
    (passed : (n : ℕ) (s : State) → NoneBetween n s → P s → P (wake_due (record s { time = s.time + n }))) where
  them : Keeping P anyone anyone 0 true 0 true true
  them = record { framed = λ s t e n m stops left. framed s t e n m stops; moved = moved; taken = taken; passed = passed }

  pub kept_after : (app : Application) → P (nobody_ready app)
      → (limits : Limits) (plan : List Injection) (n : ℕ) → P (state_after app limits plan n)
  kept_after app h limits plan zero = kept-reset them app h
  kept_after app h limits plan (suc n) =
      kept-step them app (λ no. absurd (cc)) limits (injected plan n) (state_after app limits plan n)
      (λ i runs. (λ is. refl, λ no. absurd (cc), refl, λ no. absurd (cc))) (kept_after app h limits plan n)
