-- What is true of every state that a run comes to is true after a step.
use Rattle.model.specs.declared.op.Op.TheVariants as op
use Rattle.model.specs.declared.op.Op.TheVariants.{Value}
use Rattle.soundness.proofs.Passing.{by_value}
use Rattle.model.specs.Step.{call_with_number}
use Rattle.soundness.proofs.Sparing.{fits-number, list_for-number}
use Rattle.model.specs.declared.value.Value as value
use Rattle.std.proofs.Common.{ap₂, ◌≡◌, ◌≢◌, ◌<◌, ◌+◌, ◌-◌, ◌||◌, ◌⊎◌, inl, inr, ℕ, true, false, eqb, ltb, List, length}
use Rattle.std.proofs.Common.{Option, Some, None, refl, ap, sym, subst, ◌∙◌, arith}
use Rattle.std.specs.Option.{IfSome, option_eq}
use Rattle.std.proofs.lemmas.Bool.{ltb-true, lt-ltb}
use Rattle.model.specs.declared.op.Op.{Op}
use Rattle.model.specs.declared.event.Misuse.{Misuse}
use Rattle.model.specs.declared.event.Misuse.TheVariants.{NotSuspended, NotCritical}
use Rattle.model.specs.declared.op.Op.TheVariants.{Work, Delay, DelayUntil, Yield, Time, Mark, Expect, Repeat, End, If, Else, EndIf}
use Rattle.model.specs.declared.op.Op.TheVariants.{Break, Stamp, Since, Await, Do, GiveMutex, MessagesWaiting, SpacesAvailable}
use Rattle.model.specs.declared.op.Op.TheVariants.{SetBits, ClearBits, GetBits, WaitBits, Suspend, Resume, SuspendAll, ResumeAll}
use Rattle.model.specs.declared.op.Op.TheVariants.{EnterCritical, ExitCritical, NextCommand, Obey, Notify, AwaitNotification}
use Rattle.model.specs.declared.op.Op.TheVariants.{ClearNotification}
use Rattle.model.specs.declared.op.Access.{Access}
use Rattle.model.specs.declared.op.Access.TheVariants.{Receive}
use Rattle.model.specs.declared.op.Command.{Command}
use Rattle.model.specs.declared.call.Condition.{Condition}
use Rattle.model.specs.declared.notification.NotificationWait.{NotificationWait}
use Rattle.model.specs.declared.call.Phase.{Phase}
use Rattle.model.specs.declared.call.Phase.TheVariants.{Start, Try, Decide, Place, Unlock, Leave}
use Rattle.model.specs.declared.event.Event.{Event}
use Rattle.model.specs.declared.event.End as ending
use Rattle.model.specs.Application.{Application, Limits, script_of, op_at}
use Rattle.model.specs.Scripts.{IsWellFormed, fits_object, is_wait}
use Rattle.model.specs.State.{State, Source, task_at, progress_at, status_at, call_at, bits_at, go_on}
use Rattle.model.specs.State.{notification_at, with_notification}
use Rattle.model.specs.Switching.{choose, is_ready, preempt, settle, is_scheduler_suspended, is_critical, is_held, is_held_by_task}
use Rattle.model.specs.Switching.{holds_ticks}
use Rattle.model.specs.Switching.{unless_held}
use Rattle.model.specs.Waiting.{set_deadline, end_hold, unlock}
use Rattle.model.specs.Ops.{answer, use_up, with_sections}
use Rattle.model.specs.Objects.{list_for}
use Rattle.model.specs.Calls.{await, decide, leave_call}
use Rattle.model.specs.Groups.{is_met, begin_set, set_bits, check, final_bits, wait_bits}
use Rattle.model.specs.Notifications.{entered, is_there, end_notification_wait, check_notification, await_notification}
use Rattle.model.specs.Suspension.{suspend_all, resume_all}
use Rattle.model.specs.Daemon.{take_command, next_command, obeyed, obey, command_at}
use Rattle.model.specs.Handlers.{pend}
use Rattle.model.specs.Step.{is_ended, judge, act, act_by_value, act_unless, may_switch, is_barred, misuse, act_if, act_current}
use Rattle.model.specs.Step.{step}
use Rattle.model.specs.Invariant.{Hold, hold_of, InOne, OnObject, UntilWoken, ToSetBits, course, list_of_op, IsPhaseOf, IsSound}
use Rattle.model.specs.Invariant.{holds, IsStranded, IsRunning, RunsIn, Suspension, suspension_of, IsState}
use Rattle.model.proofs.Sorting.{by_test}
use Rattle.model.proofs.Lists.{eqb-same}
use Rattle.model.proofs.Statuses.{ready_free}
use Rattle.soundness.proofs.Settled.{IsSettled, settled-settle, when_held, when_free, held_by_call, held_by_none}
use Rattle.soundness.proofs.Settled.{nothing_holds, unlike, held_by_task, held_by_neither, no_task_holds, neither, by_suspending}
use Rattle.soundness.proofs.Settled.{section_holds, ticks_as_they_were, ticks_free, nothing_holds_ticks}
use Rattle.soundness.proofs.InScripts.{script_formed, range_at, known_at}
use Rattle.soundness.proofs.Frames.{keeps-answer_bits, keeps-try}
use Rattle.soundness.proofs.Keeping.{keeps-settle, keeps-choose, keeps-answer, keeps-set_deadline}
use Rattle.soundness.proofs.Frames.{keeps-end_notification_wait, keeps-take_command, keeps-obeyed}
use Rattle.soundness.proofs.Keeping.{keeps-use_up, keeps-preempt}
use Rattle.soundness.proofs.Frames.{keeps-clear_by_daemon}
use Rattle.soundness.proofs.Passing.{is_instant, ends-act}
use Rattle.soundness.proofs.Ticking.{lasts-final_bits, hold-end_hold}
use Rattle.soundness.proofs.Passing.{hold-act, suspends-all}
use Rattle.soundness.proofs.Ticking.{hold-idle, suspension-idle, suspension-tick, suspensions-tick}
use Rattle.soundness.proofs.Passing.{resumes-all, Opens, opens}
use Rattle.soundness.proofs.Judging.{judged_held, judged_calm, not_ended, misuse_calm, not_barred, switches_not}
use Rattle.soundness.proofs.Sound.{logged, settled, preempted}
use Rattle.soundness.proofs.Sparing.{and_left, and_right, idled}
use Rattle.soundness.proofs.Trying.{tried}
use Rattle.soundness.proofs.Called.{dated, dated_at, phase_free, course_of_one}
use Rattle.soundness.proofs.Phases.{free, unsuspended, calm_free, none_above, calm_where, calm_held, let_go_of, decided}
use Rattle.soundness.proofs.Phases.{decided_held, placed, unlocked, unlocked_held, left, left_hold, left_calm}
use Rattle.soundness.proofs.Bits.{answered_bits, final_done, set_begun, begun_held, wait_begun, waits_held, set_ended, wait_left}
use Rattle.soundness.proofs.Notified.{notification_put, notification_wait_ended, notification_wait_begun, notification_wait_held}
use Rattle.soundness.proofs.Daemon.{command_taken, cleared_by_daemon, set_ended_by_daemon}
use Rattle.soundness.proofs.Going.{GoesOn, Continues, suspended_held, suspended_on, worked_on, sectioned_on, acted_on, resumed_on}
use Rattle.soundness.proofs.Acted.{acted}

-- ---- a step that holds nothing at its end

module _ (app : Application) (formed : IsWellFormed app) where
  -- what the running task is, where nothing is held
  abbrev IsOn : State → Option ℕ → Type 0
  IsOn s None = is_held_by_task s ≡ false
  IsOn s (Some i) = (is_ready s i ≡ true) ⊎ IsStranded app s i

  -- no call holds the scheduler, and nothing is locked
  rests : (s : State) → IsSound app free s → hold_of s ≡ free → IsOn s s.current
      → (is_scheduler_suspended s ≡ false → s.held_ticks ≡ 0) → IsState app s
  rests s h same on ticks =
      let none : s.call_hold ≡ false = ap (λ (x : Hold). x.held) same in
      let unlocked_ : s.locked ≡ None = ap (λ (x : Hold). x.locked) same in
      let off : (j : ℕ) → holds (call_at s j).phase ≡ false = λ j. phase_free free _ (call_at s j).phase refl (h.calls j).phase in
      record {
        sound = subst (λ x. IsSound app x s) (sym same) h;
        runs = by_current s.current on none off;
        alone = λ j t. let f = off j in absurd (cc);
        locked = λ _. unlocked_;
        apart = λ _. none;
        held = λ off. ticks (nothing_holds_ticks s off).1;
      } where
        by_current : (r : Option ℕ) → IsOn s r → s.call_hold ≡ false
            → ((j : ℕ) → holds (call_at s j).phase ≡ false) → RunsIn app s r
        by_current None on none off = held_by_neither s none on
        by_current (Some i) on none off =
            record {
              holding = off i ∙ sym none;
              ready = λ _. on;
              setting = λ held. let f : true ≡ false = sym held ∙ none in absurd (cc);
              placing = λ e. let f : holds Place ≡ false = subst (λ phase. holds phase ≡ false) e (off i) in absurd (cc);
            }

  -- no task holds the scheduler, and the running one is Ready
  pub at_rest : (s : State) → IsSound app free s → hold_of s ≡ free → suspension_of s ≡ unsuspended → IsSettled s → IsState app s
  at_rest s h same calm on = rests s h same (by_current s.current on)
      (λ _. ap (λ (x : Suspension). x.held_ticks) calm) where
        by_current : (r : Option ℕ) → IfSome r (λ task. is_ready s task ≡ true) → IsOn s r
        by_current None on = calm_free s calm
        by_current (Some i) on = inl on

  settled_at_rest : (s : State) → IsSound app free s → hold_of s ≡ free
      → suspension_of s ≡ unsuspended → IsState app (unless_held settle s)
  settled_at_rest s h same calm =
      let none : is_held s ≡ false =
      held_by_none s (ap (λ (x : Hold). x.held) same) (ap (λ (x : Suspension). x.suspensions) calm)
      (ap (λ (x : Suspension). x.sections) calm) in
      subst (IsState app) (sym (when_free settle s none)) (at_rest (settle s) (settled app formed free s h)
      ((keeps-settle s).hold ∙ same) ((keeps-settle s).suspension ∙ calm) (settled-settle s))

  -- a task holds the scheduler, and the running one goes on
  held_at_rest : (s : State) (i : ℕ) → IsSound app free s → hold_of s ≡ free → is_held_by_task s ≡ true
      → (is_scheduler_suspended s ≡ false → s.held_ticks ≡ 0) → s.current ≡ Some i → GoesOn app i (task_at s i)
      → IsState app (unless_held settle s)
  held_at_rest s i h same on ticks runs_ goes =
      let stays : IsState app s =
      rests s h same (subst (IsOn s) (sym runs_) (elim goes [ inl r ↦ inl r | inr e ↦ inr (on, e) ])) ticks in
      subst (IsState app) (sym (when_held settle s (held_by_task s on))) stays

  still_held : (s : State) → IsState app s → s.call_hold ≡ true → IsState app (unless_held settle s)
  still_held s h held = subst (IsState app) (sym (when_held settle s (held_by_call s held))) h

  -- the events don't matter, nor the steps done, nor an end that the step brings about
  pub told : (s : State) (log : List Event) (steps : ℕ) (stopped : Option ending.End)
      → IsState app s → IsState app (record s { log = log; steps = steps; stopped = stopped })
  told s log steps stopped h =
      record {
        sound = logged app formed (hold_of s) s log steps stopped h.sound;
        runs = by_current s.current h.runs;
        alone = h.alone;
        locked = h.locked;
        apart = h.apart;
        held = h.held;
      } where
        by_current : (r : Option ℕ) → RunsIn app s r → RunsIn app (record s { log = log; steps = steps; stopped = stopped }) r
        by_current None r = r
        by_current (Some i) r = record { holding = r.holding; ready = r.ready; setting = r.setting; placing = r.placing }

  -- where nothing holds the scheduler
  module _ (s : State) (h : IsState app s) (none : is_held s ≡ false) where
    pub no_call_holds : s.call_hold ≡ false
    no_call_holds = (nothing_holds s none).0

    pub calm_now : suspension_of s ≡ unsuspended
    calm_now =
        let off = nothing_holds s none in calm_where s (no_task_holds s none) (h.held (ticks_free s off.0 off.1))

  pub hold_none : (s : State) → IsState app s → s.call_hold ≡ false → hold_of s ≡ free
  hold_none s h none =
      ap (λ l. record { held = s.call_hold; locked = l }) (h.locked none) ∙ ap (λ b. record { held = b; locked = None }) none

  pub sound_free : (s : State) → IsState app s → s.call_hold ≡ false → IsSound app free s
  sound_free s h none = subst (λ x. IsSound app x s) (hold_none s h none) h.sound

  -- a step that changes no more than the end
  ended_only : (s : State) (stopped : Option ending.End) → IsState app s
      → IsState app (unless_held settle (record s { stopped = stopped }))
  ended_only s stopped h =
      let t : State = record s { stopped = stopped } in
      let k : IsState app t = told s s.log s.steps stopped h in
      by_test (is_held s)
      (λ held. subst (IsState app) (sym (when_held settle t held)) k)
      (λ none.
      settled_at_rest t (sound_free t k (no_call_holds t k none)) (hold_none t k (no_call_holds t k none)) (calm_now t k none))

  -- a judgement at the end of an op
  judged_done : (i op_index : ℕ) (t : State) → IsState app (unless_held settle t)
      → IsState app (unless_held settle (judge i op_index t))
  judged_done i op_index t h = by_test (is_held_by_task t)
      (λ held. by_test (is_ended (status_at t i))
      (λ e. let j = judged_held i op_index t held e in
      subst Done (sym j.1) (ended_only t _ (subst (IsState app) (when_held settle t (held_by_task t held)) h)))
      (λ on. subst Done (sym (not_ended i op_index t on)) h))
      (λ free. subst Done (sym (judged_calm i op_index t free)) h) where
        Done : State → Type 0
        Done x = IsState app (unless_held settle x)

  -- ---- the ops

  module _ (s : State) (i : ℕ) (h : IsState app s) (on : s.current ≡ Some i) where
    running : IsRunning app s i
    running = subst (RunsIn app s) on h.runs

    there : i < length s.tasks
    there = subst (λ r. IfSome r (λ task. task < length s.tasks)) on h.sound.table.current

    -- where no call holds the scheduler, and the task has an op to do
    ready_at : (op : Op) → s.call_hold ≡ false → op_at app i (progress_at s i).op_index ≡ Some op → is_ready s i ≡ true
    ready_at op none is = elim (running.ready none) [ inl r ↦ r | inr x ↦ let f = x.1 in absurd (cc) ]

    -- where nothing holds it
    module _ (none : s.call_hold ≡ false) (off : is_held_by_task s ≡ false) where
      calm : suspension_of s ≡ unsuspended
      calm = calm_where s off (h.held (ticks_free s none (neither s off).0))

      rested : (op : Op) → op_at app i (progress_at s i).op_index ≡ Some op → course (Some op) ≡ InOne
          → suspension_of (act app i op s) ≡ suspension_of s → IsState app (unless_held settle (act app i op s))
      rested op is w kept =
          settled_at_rest (act app i op s)
          (acted app formed s i op (sound_free s h none) (h.locked none) there (ready_at op none is) is w)
          (hold-act app i op s w ∙ hold_none s h none) (kept ∙ calm)

      instant : (op : Op) → op_at app i (progress_at s i).op_index ≡ Some op → course (Some op) ≡ InOne
          → is_instant op ≡ true → IsState app (unless_held settle (act app i op s))
      instant op is w t = rested op is w (ends-act app i op s t w).suspension

      worked : (n : ℕ) → op_at app i (progress_at s i).op_index ≡ Some (Work n)
          → IsState app (unless_held settle (act app i (Work n) s))
      worked n is =
          let k = keeps-use_up app i n s in
          let free_ : holds_ticks (use_up app i n s) ≡ false =
          ticks_as_they_were s (use_up app i n s) k.hold k.suspension ∙ ticks_free s none (neither s off).0 in
          rested (Work n) is refl (suspension-tick app (use_up app i n s) free_ ∙ k.suspension)

      suspended_first : op_at app i (progress_at s i).op_index ≡ Some SuspendAll
          → IsState app (unless_held settle (act app i SuspendAll s))
      suspended_first is =
          let r : is_ready s i ≡ true = ready_at SuspendAll none is in
          let k = suspended_on app i s there r in
          let e = (suspends-all app i s).suspensions in
          let more : is_scheduler_suspended (suspend_all app i s) ≡ true =
          lt-ltb 0 (suspend_all app i s).suspensions (omega arith) in
          held_at_rest _ i (acted app formed s i SuspendAll (sound_free s h none) (h.locked none) there r is refl)
          (hold-act app i SuspendAll s refl ∙ hold_none s h none) (suspended_held (suspend_all app i s) more)
          (λ no. unlike (sym more ∙ no)) (k.current ∙ on) k.goes

      entered_first : op_at app i (progress_at s i).op_index ≡ Some EnterCritical
          → IsState app (unless_held settle (act app i EnterCritical s))
      entered_first is =
          let r : is_ready s i ≡ true = ready_at EnterCritical none is in
          let k = sectioned_on app i (s.sections + 1) s there r in
          let one = opens app i (s.sections + 1) s in
          held_at_rest _ i (acted app formed s i EnterCritical (sound_free s h none) (h.locked none) there r is refl)
          (hold-act app i EnterCritical s refl ∙ hold_none s h none)
          (section_holds (act app i EnterCritical s)
          (let e = one.sections in lt-ltb 0 (act app i EnterCritical s).sections (omega arith)))
          (λ no. one.held ∙ h.held (ticks_free s none (neither s off).0)) (k.current ∙ on) k.goes

      -- ---- a call on an object

      module _ (o : ℕ) (v : Access value.Value) (ticks : Option ℕ)
          (is : op_at app i (progress_at s i).op_index ≡ Some (Await o v ticks)) where
        abbrev a : Access ℕ
        a = call_with_number s i v

        ready_now : is_ready s i ≡ true
        ready_now = ready_at (Await o v ticks) none is

        fit : fits_object app o a ≡ true
        fit =
            fits-number app o s.variables (progress_at s i).answer v
            ∙ and_left (fits_object app o v) _ (known_at app formed i (progress_at s i).op_index (Await o v ticks) is)

        in_range : is_wait ticks ≡ true
        in_range = range_at (progress_at s i).op_index (script_of app i) (Await o v ticks) (script_formed app formed i).ranges is

        tried_again : IsState app (unless_held settle (await app i o a ticks Try s))
        tried_again =
            settled_at_rest _ (tried app formed free s i o v a ticks (sound_free s h none) (h.locked none) there ready_now is fit)
            ((keeps-try app i o a s).hold ∙ hold_none s h none) ((keeps-try app i o a s).suspension ∙ calm)

        tried_first : IsState app (unless_held settle (await app i o a ticks Start s))
        tried_first =
            let t : State = set_deadline i ticks s in
            let k = keeps-set_deadline i ticks s in
            let at = dated_at s i ticks there in
            let h1 : IsSound app free t =
            dated app formed free s i ticks (sound_free s h none) (ready_free (status_at s i) ready_now) in_range in
            let unlocked_ : t.locked ≡ None = ap (λ (x : Hold). x.locked) k.hold ∙ h.locked none in
            let op_is : op_at app i (progress_at t i).op_index ≡ Some (Await o v ticks) = ap (op_at app i) at.1 ∙ is in
            settled_at_rest _ (tried app formed free t i o v a ticks h1 unlocked_ (rw k.tasks there) (at.0 ∙ ready_now) op_is fit)
            ((keeps-try app i o a t).hold ∙ k.hold ∙ hold_none s h none)
            ((keeps-try app i o a t).suspension ∙ k.suspension ∙ calm)

      -- ---- the daemon

      command_next : (o : ℕ) → op_at app i (progress_at s i).op_index ≡ Some (NextCommand o)
          → IsState app (unless_held settle (take_command app i o s))
      command_next o is =
          let k = keeps-take_command app i o s in
          let fit : fits_object app o Receive ≡ true = (known_at app formed i (progress_at s i).op_index (NextCommand o) is).2 in
          settled_at_rest _
          (command_taken app formed free s i o (sound_free s h none)
          (h.locked none) there (ready_at (NextCommand o) none is) is fit)
          (k.hold ∙ hold_none s h none) (k.suspension ∙ calm)

      obeyed_next : (c : Command) → op_at app i (progress_at s i).op_index ≡ Some Obey
          → IsState app (unless_held settle (obey app i c Start s))
      obeyed_next c is =
          let r : is_ready s i ≡ true = ready_at Obey none is in
          let k = keeps-clear_by_daemon app i c.group c.mask s in
          by_test c.clear
          (λ t.
          rw t (settled_at_rest _
          (cleared_by_daemon app formed free s i c.group c.mask (sound_free s h none) (ready_free (status_at s i) r) is)
          (k.hold ∙ hold_none s h none) (k.suspension ∙ calm)))
          (λ t.
          rw t (still_held _ (set_begun app formed s i Obey h.sound none (h.locked none) calm on there r is c.group c.mask refl)
          (begun_held app formed s i Obey h.sound none (h.locked none) calm on there r is c.group c.mask)))

      -- ---- calls on an event group

      set_first : (g m : ℕ) → op_at app i (progress_at s i).op_index ≡ Some (SetBits g m)
          → IsState app (unless_held settle (begin_set i g m s))
      set_first g m is =
          let r : is_ready s i ≡ true = ready_at (SetBits g m) none is in
          still_held _ (set_begun app formed s i (SetBits g m) h.sound none (h.locked none) calm on there r is g m refl)
          (begun_held app formed s i (SetBits g m) h.sound none (h.locked none) calm on there r is g m)

      module _ (g : ℕ) (c : Condition) (ticks : Option ℕ)
          (is : op_at app i (progress_at s i).op_index ≡ Some (WaitBits g c ticks)) where
        waiting_ready : is_ready s i ≡ true
        waiting_ready = ready_at (WaitBits g c ticks) none is

        wait_range : is_wait ticks ≡ true
        wait_range =
            and_right _ (is_wait ticks)
            (range_at (progress_at s i).op_index (script_of app i) (WaitBits g c ticks) (script_formed app formed i).ranges is)

        checked : IsState app (unless_held settle (check app i g c ticks s))
        unfolding check
        checked = by_test (is_met (bits_at s g) c || option_eq eqb ticks (Some 0))
            (λ t.
            rw t (settled_at_rest _
            (answered_bits app formed free s i (WaitBits g c ticks) (sound_free s h none)
            (ready_free (status_at s i) waiting_ready) is (λ n. refl) g c)
            ((keeps-answer_bits app i g c s).hold ∙ hold_none s h none) ((keeps-answer_bits app i g c s).suspension ∙ calm)))
            (λ t.
            rw t (still_held _
            (wait_begun app formed s i (WaitBits g c ticks) h.sound none (h.locked none)
            calm on there waiting_ready is g c ticks refl wait_range)
            (waits_held app formed s i (WaitBits g c ticks) h.sound none (h.locked none) calm on there waiting_ready is g c ticks)))

        final_next : IsState app (unless_held settle (final_bits app i g c (call_at s i).kept s))
        final_next =
            let k = lasts-final_bits app i g c (call_at s i).kept s in
            settled_at_rest _
            (final_done app formed free s i (WaitBits g c ticks) (sound_free s h none)
            (ready_free (status_at s i) waiting_ready) is (λ n. refl) g c (call_at s i).kept)
            (k.hold ∙ hold_none s h none) (k.suspension ∙ calm)

      -- ---- a wait for a notification

      module _ (wait : NotificationWait) (ticks : Option ℕ)
          (is : op_at app i (progress_at s i).op_index ≡ Some (AwaitNotification wait ticks)) where
        awaiting_ready : is_ready s i ≡ true
        awaiting_ready = ready_at (AwaitNotification wait ticks) none is

        await_ended : IsState app (unless_held settle (end_notification_wait app i wait s))
        await_ended =
            let k = keeps-end_notification_wait app i wait s in
            settled_at_rest _
            (notification_wait_ended app formed free s i (AwaitNotification wait ticks) (sound_free s h none)
            (ready_free (status_at s i) awaiting_ready) is (λ n. refl) wait)
            (k.hold ∙ hold_none s h none) (k.suspension ∙ calm)

        await_begun : IsState app (unless_held settle (await_notification app i wait ticks Start s))
        unfolding check_notification
        await_begun =
            let t : State = with_notification i (entered wait (notification_at s i)) s in
            let k = keeps-end_notification_wait app i wait t in
            let range : is_wait ticks ≡ true =
            range_at (progress_at s i).op_index (script_of app i) (AwaitNotification wait ticks)
            (script_formed app formed i).ranges is in
            by_test (is_there wait (notification_at t i) || option_eq eqb ticks (Some 0))
            (λ q.
            rw q (settled_at_rest _
            (notification_wait_ended app formed free t i (AwaitNotification wait ticks)
            (notification_put app formed free s i (entered wait (notification_at s i)) (sound_free s h none))
            (ready_free (status_at s i) awaiting_ready) is (λ n. refl) wait)
            (k.hold ∙ hold_none s h none) (k.suspension ∙ calm)))
            (λ q.
            rw q (still_held _
            (notification_wait_begun app formed t i (AwaitNotification wait ticks)
            (notification_put app formed (hold_of s) s i (entered wait (notification_at s i)) h.sound)
            none (h.locked none) calm on there awaiting_ready is ticks range refl)
            (notification_wait_held i ticks t)))

    free_in : (phase : Phase) → (call_at s i).phase ≡ phase → holds phase ≡ false → s.call_hold ≡ false
    free_in phase e off = sym running.holding ∙ ap holds e ∙ off

    held_in : (phase : Phase) → (call_at s i).phase ≡ phase → holds phase ≡ true → s.call_hold ≡ true
    held_in phase e on_ = sym running.holding ∙ ap holds e ∙ on_

    -- the task is in a phase of its op
    module _ (op : Op) (is : op_at app i (progress_at s i).op_index ≡ Some op) where
      phase_of : (phase : Phase) → (call_at s i).phase ≡ phase → IsPhaseOf (hold_of s) (course (Some op)) phase
      phase_of phase e =
          subst (IsPhaseOf (hold_of s) (course (Some op))) e
          (subst (λ o. IsPhaseOf (hold_of s) (course o) (call_at s i).phase) is (h.sound.calls i).phase)

      not_there : (phase : Phase) → (call_at s i).phase ≡ phase
          → (IsPhaseOf (hold_of s) (course (Some op)) phase → ⊥) → (P : Type 0) → P
      not_there phase e f P = absurd (f (phase_of phase e))

    pub start_only : (op : Op) → course (Some op) ≡ InOne → op_at app i (progress_at s i).op_index ≡ Some op → s.call_hold ≡ false
    start_only op w is =
        free_in Start
        (course_of_one (hold_of s) (call_at s i).phase
        (subst (λ way. IsPhaseOf (hold_of s) way (call_at s i).phase) (ap course is ∙ w) (h.sound.calls i).phase))
        refl

    module _ (off : is_held_by_task s ≡ false) where
      -- a call on an object decides, and comes to the phases after that
      module _ (o : ℕ) (a : Access ℕ) (op : Op) (is : op_at app i (progress_at s i).op_index ≡ Some op)
          (way : course (Some op) ≡ OnObject o) where
        on_object : course (op_at app i (progress_at s i).op_index) ≡ OnObject o
        on_object = ap course is ∙ way

        decided_next : (call_at s i).phase ≡ Decide → list_of_op (Some op) ≡ Some (list_for o a)
            → IsState app (unless_held settle (decide i o a s))
        decided_next e listed =
            let none = free_in Decide e refl in
            let r : is_ready s i ≡ true = ready_at op none is in
            still_held _ (decided app formed s i o a op h.sound none (h.locked none) (calm none off) on there r is way listed)
            (decided_held app formed s i o a op h.sound none (h.locked none) (calm none off) on there r is way listed)

        placed_next : (call_at s i).phase ≡ Place → IsState app (unless_held settle (go_on i Unlock s))
        placed_next e = let held = held_in Place e refl in still_held _ (placed app formed s i o h on there on_object held e) held

        unlocked_next : (call_at s i).phase ≡ Unlock → IsState app (unless_held settle (go_on i Leave (unlock s)))
        unlocked_next e =
            let held = held_in Unlock e refl in
            still_held _ (unlocked app formed s i o h on there on_object held e)
            (unlocked_held app formed s i o h on there on_object held e)

        left_next : (call_at s i).phase ≡ Leave → IsState app (unless_held settle (leave_call i s))
        left_next e =
            let held = held_in Leave e refl in
            settled_at_rest _ (left app formed s i o h on there on_object held e)
            (left_hold app formed s i o h on there on_object held e)
            (left_calm app formed s i o h on there on_object held e)

      -- the phase that is next, of a call on an object
      next : (o : ℕ) (v : Access value.Value) (ticks : Option ℕ) → op_at app i (progress_at s i).op_index ≡ Some (Await o v ticks)
          → (phase : Phase) → (call_at s i).phase ≡ phase
          → IsState app (unless_held settle (await app i o (call_with_number s i v) ticks phase s))
      next o v ticks is Start e = tried_first (free_in Start e refl) off o v ticks is
      next o v ticks is Try e = tried_again (free_in Try e refl) off o v ticks is
      next o v ticks is Decide e =
          decided_next o (call_with_number s i v) (Await o v ticks) is refl e
          (ap (λ list. Some list) (sym (list_for-number o s.variables (progress_at s i).answer v)))
      next o v ticks is Place e = placed_next o (call_with_number s i v) (Await o v ticks) is refl e
      next o v ticks is Unlock e = unlocked_next o (call_with_number s i v) (Await o v ticks) is refl e
      next o v ticks is Leave e = left_next o (call_with_number s i v) (Await o v ticks) is refl e

      -- of the daemon's receive
      next_of_command : (o : ℕ) → op_at app i (progress_at s i).op_index ≡ Some (NextCommand o) → (phase : Phase)
          → (call_at s i).phase ≡ phase → IsState app (unless_held settle (next_command app i o phase s))
      next_of_command o is Start e = command_next (free_in Start e refl) off o is
      next_of_command o is Try e = command_next (free_in Try e refl) off o is
      next_of_command o is Decide e = decided_next o Receive (NextCommand o) is refl e refl
      next_of_command o is Place e = placed_next o Receive (NextCommand o) is refl e
      next_of_command o is Unlock e = unlocked_next o Receive (NextCommand o) is refl e
      next_of_command o is Leave e = left_next o Receive (NextCommand o) is refl e

      -- of a command that it does
      next_of_obey : (c : Command) → op_at app i (progress_at s i).op_index ≡ Some Obey → (phase : Phase)
          → (call_at s i).phase ≡ phase → IsState app (unless_held settle (obey app i c phase s))
      next_of_obey c is Start e = obeyed_next (free_in Start e refl) off c is
      next_of_obey c is Leave e =
          let held = held_in Leave e refl in
          let at : IsPhaseOf (hold_of s) ToSetBits Leave = phase_of Obey is Leave e in
          let r : is_ready s i ≡ true = running.setting held (ap course is) in
          let ended : State = end_hold i Start s in
          let done : State = obeyed app i false (bits_at s c.group) ended in
          let k = keeps-obeyed app i false (bits_at s c.group) ended in
          let same : hold_of ended ≡ free = hold-end_hold i Start s ∙ ap (λ l. record { held = false; locked = l }) at.1 in
          settled_at_rest (preempt done)
          (preempted app formed free done (set_ended_by_daemon app formed s i h on there at.1 (bits_at s c.group) is r))
          ((keeps-preempt done).hold ∙ k.hold ∙ same)
          ((keeps-preempt done).suspension ∙ k.suspension ∙ let_go_of s i Start (calm_held app s h held))
      next_of_obey c is Try e = absurd (phase_of Obey is Try e)
      next_of_obey c is Decide e = absurd (phase_of Obey is Decide e)
      next_of_obey c is Place e = absurd (phase_of Obey is Place e)
      next_of_obey c is Unlock e = absurd (phase_of Obey is Unlock e)

      -- of a set
      next_of_set : (g m : ℕ) → op_at app i (progress_at s i).op_index ≡ Some (SetBits g m) → (phase : Phase)
          → (call_at s i).phase ≡ phase → IsState app (unless_held settle (set_bits app i g m phase s))
      next_of_set g m is Start e = set_first (free_in Start e refl) off g m is
      next_of_set g m is Leave e =
          let held = held_in Leave e refl in
          let at : IsPhaseOf (hold_of s) ToSetBits Leave = phase_of (SetBits g m) is Leave e in
          let r : is_ready s i ≡ true = running.setting held (ap course is) in
          let done : State = answer app i (call_at s i).kept (end_hold i Start s) in
          let k = keeps-answer app i (call_at s i).kept (end_hold i Start s) in
          let same : hold_of (end_hold i Start s) ≡ free =
          hold-end_hold i Start s ∙ ap (λ l. record { held = false; locked = l }) at.1 in
          settled_at_rest (preempt done) (preempted app formed free done (set_ended app formed s i h on there at.1 g m is r))
          ((keeps-preempt done).hold ∙ k.hold ∙ same)
          ((keeps-preempt done).suspension ∙ k.suspension ∙ let_go_of s i Start (calm_held app s h held))
      next_of_set g m is Try e = absurd (phase_of (SetBits g m) is Try e)
      next_of_set g m is Decide e = absurd (phase_of (SetBits g m) is Decide e)
      next_of_set g m is Place e = absurd (phase_of (SetBits g m) is Place e)
      next_of_set g m is Unlock e = absurd (phase_of (SetBits g m) is Unlock e)

      -- of a wait until the task is woken
      woken_next : (op : Op) → op_at app i (progress_at s i).op_index ≡ Some op → course (Some op) ≡ UntilWoken
          → (call_at s i).phase ≡ Leave → IsState app (unless_held settle (choose (end_hold i Try s)))
      woken_next op is way e =
          let held = held_in Leave e refl in
          let at : IsPhaseOf (hold_of s) UntilWoken Leave =
          subst (λ c. IsPhaseOf (hold_of s) c Leave) way (phase_of op is Leave e) in
          let ended : State = end_hold i Try s in
          let same : hold_of ended ≡ free = hold-end_hold i Try s ∙ ap (λ l. record { held = false; locked = l }) at.1 in
          let fits : IsPhaseOf free (course (op_at app i (progress_at s i).op_index)) Try =
          subst (λ c. IsPhaseOf free c Try) (sym (ap course is ∙ way)) tt in
          settled_at_rest (choose ended) (wait_left app formed s i h on there at.1 fits)
          ((keeps-choose ended).hold ∙ same) ((keeps-choose ended).suspension ∙ let_go_of s i Try (calm_held app s h held))

      -- of a wait for bits
      next_of_wait : (g : ℕ) (c : Condition) (ticks : Option ℕ) → op_at app i (progress_at s i).op_index ≡ Some (WaitBits g c ticks)
          → (phase : Phase) → (call_at s i).phase ≡ phase → IsState app (unless_held settle (wait_bits app i g c ticks phase s))
      next_of_wait g c ticks is Start e = checked (free_in Start e refl) off g c ticks is
      next_of_wait g c ticks is Leave e = woken_next (WaitBits g c ticks) is refl e
      next_of_wait g c ticks is Try e = final_next (free_in Try e refl) off g c ticks is
      next_of_wait g c ticks is Decide e = absurd (phase_of (WaitBits g c ticks) is Decide e)
      next_of_wait g c ticks is Place e = absurd (phase_of (WaitBits g c ticks) is Place e)
      next_of_wait g c ticks is Unlock e = absurd (phase_of (WaitBits g c ticks) is Unlock e)

      -- of a wait for a notification
      next_of_await : (wait : NotificationWait) (ticks : Option ℕ)
          → op_at app i (progress_at s i).op_index ≡ Some (AwaitNotification wait ticks) → (phase : Phase)
          → (call_at s i).phase ≡ phase → IsState app (unless_held settle (await_notification app i wait ticks phase s))
      next_of_await wait ticks is Start e = await_begun (free_in Start e refl) off wait ticks is
      next_of_await wait ticks is Leave e = woken_next (AwaitNotification wait ticks) is refl e
      next_of_await wait ticks is Try e = await_ended (free_in Try e refl) off wait ticks is
      next_of_await wait ticks is Decide e = absurd (phase_of (AwaitNotification wait ticks) is Decide e)
      next_of_await wait ticks is Place e = absurd (phase_of (AwaitNotification wait ticks) is Place e)
      next_of_await wait ticks is Unlock e = absurd (phase_of (AwaitNotification wait ticks) is Unlock e)

      -- no task holds the scheduler
      calm_done : (op : Op) → op_at app i (progress_at s i).op_index ≡ Some op
          → misuse s i op ≡ None → IsState app (unless_held settle (act app i op s))
      calm_done (Work n) is e = worked (start_only (Work n) refl is) off n is
      calm_done (Delay n) is e = instant (start_only (Delay n) refl is) off (Delay n) is refl refl
      calm_done (DelayUntil n) is e = instant (start_only (DelayUntil n) refl is) off (DelayUntil n) is refl refl
      calm_done Yield is e = instant (start_only Yield refl is) off Yield is refl refl
      calm_done Time is e = instant (start_only Time refl is) off Time is refl refl
      calm_done (Mark n) is e = instant (start_only (Mark n) refl is) off (Mark n) is refl refl
      calm_done (Expect c) is e = instant (start_only (Expect c) refl is) off (Expect c) is refl refl
      calm_done (Repeat n) is e = instant (start_only (Repeat n) refl is) off (Repeat n) is refl refl
      calm_done End is e = instant (start_only End refl is) off End is refl refl
      calm_done (If c) is e = instant (start_only (If c) refl is) off (If c) is refl refl
      calm_done Else is e = instant (start_only Else refl is) off Else is refl refl
      calm_done EndIf is e = instant (start_only EndIf refl is) off EndIf is refl refl
      calm_done Break is e = instant (start_only Break refl is) off Break is refl refl
      calm_done Stamp is e = instant (start_only Stamp refl is) off Stamp is refl refl
      calm_done Since is e = instant (start_only Since refl is) off Since is refl refl
      calm_done (Value op) is e = instant (start_only (Value op) refl is) off (Value op) is refl refl
      calm_done (op.Source j what) is e = instant (start_only (op.Source j what) refl is) off (op.Source j what) is refl refl
      calm_done (Await o a ticks) is e = next o a ticks is (call_at s i).phase refl
      calm_done (Do o a) is e = instant (start_only (Do o a) refl is) off (Do o a) is refl refl
      calm_done (GiveMutex o) is e = instant (start_only (GiveMutex o) refl is) off (GiveMutex o) is refl refl
      calm_done (MessagesWaiting o) is e = instant (start_only (MessagesWaiting o) refl is) off (MessagesWaiting o) is refl refl
      calm_done (SpacesAvailable o) is e = instant (start_only (SpacesAvailable o) refl is) off (SpacesAvailable o) is refl refl
      calm_done (SetBits g m) is e = next_of_set g m is (call_at s i).phase refl
      calm_done (ClearBits g m) is e = instant (start_only (ClearBits g m) refl is) off (ClearBits g m) is refl refl
      calm_done (GetBits g) is e = instant (start_only (GetBits g) refl is) off (GetBits g) is refl refl
      calm_done (WaitBits g c ticks) is e = next_of_wait g c ticks is (call_at s i).phase refl
      calm_done (Notify j a) is e = instant (start_only (Notify j a) refl is) off (Notify j a) is refl refl
      calm_done (AwaitNotification a ticks) is e = next_of_await a ticks is (call_at s i).phase refl
      calm_done (ClearNotification c) is e =
          instant (start_only (ClearNotification c) refl is) off (ClearNotification c) is refl refl
      calm_done (Suspend j) is e = instant (start_only (Suspend j) refl is) off (Suspend j) is refl refl
      calm_done (Resume j) is e = instant (start_only (Resume j) refl is) off (Resume j) is refl refl
      calm_done SuspendAll is e = suspended_first (start_only SuspendAll refl is) off is
      calm_done (NextCommand o) is e = next_of_command o is (call_at s i).phase refl
      calm_done Obey is e = next_of_obey (command_at s i) is (call_at s i).phase refl
      calm_done ResumeAll is e =
          let f : Some NotSuspended ≡ None = sym (misuse_calm s i ResumeAll off ∙ rw (neither s off).0 refl) ∙ e in absurd (cc)
      calm_done EnterCritical is e = entered_first (start_only EnterCritical refl is) off is
      calm_done ExitCritical is e =
          let f : Some NotCritical ≡ None = sym (misuse_calm s i ExitCritical off ∙ rw (neither s off).1 refl) ∙ e in absurd (cc)

    -- ---- while the task holds the scheduler

    module _ (held : is_held_by_task s ≡ true) where
      none_holds : s.call_hold ≡ false
      none_holds = h.apart held

      -- it still does
      goes_on : (op : Op) → op_at app i (progress_at s i).op_index ≡ Some op
          → course (Some op) ≡ InOne → is_held_by_task (act app i op s) ≡ true
          → (is_scheduler_suspended (act app i op s) ≡ false → (act app i op s).held_ticks ≡ 0)
          → Continues app i s (act app i op s) → IsState app (unless_held settle (act app i op s))
      goes_on op is w still ticks k =
          held_at_rest (act app i op s) i
          (acted app formed s i op (sound_free s h none_holds) (h.locked none_holds) there (ready_at op none_holds is) is w)
          (hold-act app i op s w ∙ hold_none s h none_holds) still ticks (k.current ∙ on) k.goes

      -- by a `suspend_all`
      suspended_on_ : (op : Op) → op_at app i (progress_at s i).op_index ≡ Some op
          → course (Some op) ≡ InOne → is_scheduler_suspended (act app i op s) ≡ true
          → Continues app i s (act app i op s) → IsState app (unless_held settle (act app i op s))
      suspended_on_ op is w still k = goes_on op is w (suspended_held (act app i op s) still) (λ no. unlike (sym still ∙ no)) k

      -- it does no more
      lets_go : (op : Op) → op_at app i (progress_at s i).op_index ≡ Some op → course (Some op) ≡ InOne
          → suspension_of (act app i op s) ≡ unsuspended → IsState app (unless_held settle (act app i op s))
      lets_go op is w calm =
          settled_at_rest (act app i op s)
          (acted app formed s i op (sound_free s h none_holds) (h.locked none_holds) there (ready_at op none_holds is) is w)
          (hold-act app i op s w ∙ hold_none s h none_holds) calm

      still_used : (n : ℕ) → is_scheduler_suspended s ≡ true → is_scheduler_suspended (use_up app i n s) ≡ true
      still_used n sus = ap (λ (x : Suspension). ltb 0 x.suspensions) (keeps-use_up app i n s).suspension ∙ sus

      resumed_last : is_critical s ≡ false → op_at app i (progress_at s i).op_index ≡ Some ResumeAll
          → eqb s.suspensions 1 ≡ true → IsState app (unless_held settle (resume_all app i s))
      resumed_last shut is one =
          let k = resumes-all app i s in
          let was : s.suspensions ≡ 1 = eqb-same s.suspensions 1 one in
          let count = k.suspensions in
          let none_left : (resume_all app i s).suspensions ≡ 0 = omega arith in
          let calm_now : suspension_of (resume_all app i s) ≡ unsuspended =
          ap₂ (λ (a b : ℕ). record { suspensions = a; held_ticks = b; sections = (resume_all app i s).sections })
          none_left (k.held was)
          ∙ ap (λ (n : ℕ). record { suspensions = 0; held_ticks = 0; sections = n }) (k.sections ∙ none_above s.sections shut) in
          lets_go ResumeAll is refl calm_now

      resumed_more : is_scheduler_suspended s ≡ true → op_at app i (progress_at s i).op_index ≡ Some ResumeAll
          → eqb s.suspensions 1 ≡ false → IsState app (unless_held settle (resume_all app i s))
      resumed_more sus is more =
          let count = (resumes-all app i s).suspensions in
          let some : 0 < s.suspensions = ltb-true 0 s.suspensions sus in
          let apart : s.suspensions ≢ 1 = (λ e. let u : eqb s.suspensions 1 ≡ true = rw e refl in absurd (cc)) in
          let left_over : is_scheduler_suspended (record s { suspensions = s.suspensions - 1 }) ≡ true =
          lt-ltb 0 (s.suspensions - 1) (omega arith) in
          let still : is_scheduler_suspended (resume_all app i s) ≡ true =
          lt-ltb 0 (resume_all app i s).suspensions (omega arith) in
          let held_then : is_held (record s { suspensions = s.suspensions - 1 }) ≡ true =
          held_by_task (record s { suspensions = s.suspensions - 1 })
          (suspended_held (record s { suspensions = s.suspensions - 1 }) left_over) in
          suspended_on_ ResumeAll is refl still (resumed_on app i s more held_then there (ready_at ResumeAll none_holds is))

      -- a section more or less
      sectioned : (n : ℕ) (op : Op) → (act app i op s ≡ with_sections app i n s) → op_at app i (progress_at s i).op_index ≡ Some op
          → course (Some op) ≡ InOne → IsState app (unless_held settle (act app i op s))
      sectioned n op same is w = by_test (is_held_by_task (act app i op s))
          (λ still. goes_on op is w still ticks
          (subst (Continues app i s) (sym same) (sectioned_on app i n s there (ready_at op none_holds is))))
          (λ free. lets_go op is w (calm_where (act app i op s) free (ticks (neither (act app i op s) free).0))) where
            one : Opens n s (act app i op s)
            one = subst (Opens n s) (sym same) (opens app i n s)

            ticks : is_scheduler_suspended (act app i op s) ≡ false → (act app i op s).held_ticks ≡ 0
            ticks off = one.held ∙ h.held (ticks_free s none_holds (ap (λ (x : ℕ). ltb 0 x) (sym one.suspensions) ∙ off))

      continued : (op : Op) → op_at app i (progress_at s i).op_index ≡ Some op → course (Some op) ≡ InOne
          → may_switch op ≡ false → is_instant op ≡ true → IsState app (unless_held settle (act app i op s))
      continued op is w q t =
          let same = (ends-act app i op s t w).suspension in
          goes_on op is w (ap (λ (x : Suspension). ltb 0 x.suspensions || ltb 0 x.sections) same ∙ held)
          (λ off.
          ap (λ (x : Suspension). x.held_ticks) same
          ∙ h.held (ticks_free s none_holds (ap (λ (x : Suspension). ltb 0 x.suspensions) (sym same) ∙ off)))
          (acted_on app i op s q t there (ready_at op none_holds is))

      -- what has no place in a section is done in none
      barred_apart : (op : Op) → is_barred op ≡ true → misuse s i op ≡ None → is_critical s ≡ false
      barred_apart op b n = by_test (is_critical s) (λ t. unlike (sym b ∙ not_barred s i op t n)) (λ t. t)

      held_done : (op : Op) → op_at app i (progress_at s i).op_index ≡ Some op
          → misuse s i op ≡ None → may_switch op ≡ false → IsState app (unless_held settle (act app i op s))
      held_done (Work n) is fine q =
          let sus : is_scheduler_suspended s ≡ true = by_suspending s held (barred_apart (Work n) refl fine) in
          suspended_on_ (Work n) is refl (ap (λ (x : ℕ). ltb 0 x) (suspensions-tick app (use_up app i n s)) ∙ still_used n sus)
          (worked_on app i n s sus (still_used n sus) there (ready_at (Work n) none_holds is))
      held_done (Delay n) is fine q = absurd (cc)
      held_done (DelayUntil n) is fine q = absurd (cc)
      held_done Yield is fine q = absurd (cc)
      held_done Time is fine q = continued Time is refl refl refl
      held_done (Mark n) is fine q = continued (Mark n) is refl refl refl
      held_done (Expect c) is fine q = continued (Expect c) is refl refl refl
      held_done (Repeat n) is fine q = continued (Repeat n) is refl refl refl
      held_done End is fine q = continued End is refl refl refl
      held_done (If c) is fine q = continued (If c) is refl refl refl
      held_done Else is fine q = continued Else is refl refl refl
      held_done EndIf is fine q = continued EndIf is refl refl refl
      held_done Break is fine q = continued Break is refl refl refl
      held_done Stamp is fine q = continued Stamp is refl refl refl
      held_done Since is fine q = continued Since is refl refl refl
      held_done (Value op) is fine q = continued (Value op) is refl refl refl
      held_done (op.Source j what) is fine q = continued (op.Source j what) is refl refl refl
      held_done (Await o a ticks) is fine q = absurd (cc)
      held_done (Do o a) is fine q = absurd (cc)
      held_done (GiveMutex o) is fine q = absurd (cc)
      held_done (MessagesWaiting o) is fine q = continued (MessagesWaiting o) is refl refl refl
      held_done (SpacesAvailable o) is fine q = continued (SpacesAvailable o) is refl refl refl
      held_done (SetBits g m) is fine q = absurd (cc)
      held_done (ClearBits g m) is fine q = continued (ClearBits g m) is refl refl refl
      held_done (GetBits g) is fine q = continued (GetBits g) is refl refl refl
      held_done (WaitBits g c ticks) is fine q = absurd (cc)
      held_done (Notify j a) is fine q = absurd (cc)
      held_done (AwaitNotification a ticks) is fine q = absurd (cc)
      held_done (ClearNotification c) is fine q = continued (ClearNotification c) is refl refl refl
      held_done (Suspend j) is fine q = absurd (cc)
      held_done (Resume j) is fine q = absurd (cc)
      held_done SuspendAll is fine q =
          suspended_on_ SuspendAll is refl
          (let e = (suspends-all app i s).suspensions in lt-ltb 0 (suspend_all app i s).suspensions (omega arith))
          (suspended_on app i s there (ready_at SuspendAll none_holds is))
      held_done EnterCritical is fine q = sectioned (s.sections + 1) EnterCritical refl is refl
      held_done ExitCritical is fine q = sectioned (s.sections - 1) ExitCritical refl is refl
      held_done (NextCommand o) is fine q = absurd (cc)
      held_done Obey is fine q = absurd (cc)
      held_done ResumeAll is fine q =
          let shut : is_critical s ≡ false = barred_apart ResumeAll refl fine in
          by_test (eqb s.suspensions 1) (resumed_last shut is) (resumed_more (by_suspending s held shut) is)

    act_done : (op : Op) → op_at app i (progress_at s i).op_index ≡ Some op
        → misuse s i op ≡ None → IsState app (unless_held settle (act app i op s))
    act_done op is n = by_test (is_held_by_task s)
        (λ held. held_done held op is n (switches_not s i op held n))
        (λ off. calm_done off op is n)

    act_if_done : (op : Option Op) → op_at app i (progress_at s i).op_index ≡ op
        → IsState app (unless_held settle (act_if app i op s))
    act_if_done None is = ended_only s s.stopped h
    act_if_done (Some op) is = act_unless_done (misuse s i op) refl where
      act_unless_done : (kind : Option Misuse) → misuse s i op ≡ kind
          → IsState app (unless_held settle (act_unless app i kind op s))
      act_unless_done None e =
          judged_done i (progress_at s i).op_index (act_by_value app i op s)
          (by_value (λ t. IsState app (unless_held settle t)) app i op s (ended_only s _ h) (act_done op is e))
      act_unless_done (Some kind) e = ended_only s _ h

  pub current_done : (limits : Limits) (s : State) (r : Option ℕ) → IsState app s
      → s.current ≡ r → IsState app (unless_held settle (act_current app limits r s))
  current_done limits s None h on =
      let none : is_held s ≡ false = subst (RunsIn app s) on h.runs in
      let off : s.call_hold ≡ false = no_call_holds s h none in
      settled_at_rest _ (idled app formed free limits s (sound_free s h off) (h.locked off))
      (hold-idle app limits s ∙ hold_none s h off)
      (suspension-idle app limits s (ticks_free s off (nothing_holds s none).1) ∙ calm_now s h none)
  current_done limits s (Some i) h on = act_if_done s i h on (op_at app i (progress_at s i).op_index) refl
