-- A phase of a call in which it reports nothing ends neither a task nor the run.
use Rattle.kernel.proofs.Valued.{acts_past}
use Rattle.model.specs.Step.{act_by_value}
use Rattle.std.proofs.Common.{◌≡◌, ◌||◌, ◌&&◌, leb, ℕ, true, false, eqb, ltb, List, [], ◌∷◌, ◌++◌, Option, Some, None, refl}
use Rattle.std.proofs.Common.{ap, sym, subst, ◌∙◌, ◌+◌, ◌-◌, zero, suc}
use Rattle.std.specs.Option.{is_some, option_eq}
use Rattle.model.specs.declared.event.End.{End}
use Rattle.model.specs.declared.op.Access.{Access}
use Rattle.std.specs.Prelude.{Bool, if◌then◌else◌}
use Rattle.model.specs.declared.op.Command.{Command}
use Rattle.model.specs.declared.op.Op.{Op}
use Rattle.model.specs.declared.notification.NotificationWait.{NotificationWait}
use Rattle.model.specs.declared.op.Op.TheVariants.{AwaitNotification, Obey, SetBits, WaitBits}
use Rattle.model.specs.declared.call.CallProgress.{CallProgress}
use Rattle.model.specs.declared.call.Condition.{Condition}
use Rattle.model.specs.declared.call.Phase.{Phase}
use Rattle.model.specs.declared.call.Phase.TheVariants.{Start, Try, Decide, Place, Unlock, Leave}
use Rattle.model.specs.declared.call.WaitList.TheVariants.{ToReceive, ToSend}
use Rattle.model.specs.Application.{Application, Limits, is_any_awaited, op_at}
use Rattle.model.specs.State.{State, Task, Waiting, task_at, status_at, progress_at, call_at, object_at, bits_at, with_task}
use Rattle.model.specs.State.{with_call, for_one, for_each, no_task, notification_at}
use Rattle.model.specs.Order.{tasks_of}
use Rattle.model.specs.Switching.{is_ready, is_same, is_off, choice, make_ready, to_back, dispatch, choose, settle, is_held}
use Rattle.model.specs.Switching.{is_held_by_task, unless_held}
use Rattle.model.specs.Time.{wake_due, due, advance, apply_one, apply_held}
use Rattle.model.specs.Waiting.{awakened, is_expired, set_deadline, wait_in, unlock_object, unlock}
use Rattle.model.specs.Objects.{list_for, possible}
use Rattle.model.specs.Mutexes.{set_priority, raise, inherits, inherit_from, inherit}
use Rattle.model.specs.Groups.{keep_answer, wake_with_bits, bits_set, met_by, set, begin_set, wake_all, wait_bits, wait_for_bits}
use Rattle.model.specs.Groups.{answer_bits, begin_bits_wait, check, is_met, set_bits, want}
use Rattle.model.specs.Notifications.{await_notification, begin_notification_wait, check_notification, end_notification_wait}
use Rattle.model.specs.Notifications.{is_there, wait_for_notification}
use Rattle.model.specs.Daemon.{clear_by_daemon, command_at, next_command, obey}
use Rattle.model.specs.Calls.{decide, await}
use Rattle.model.specs.Invariant.{IsNonePending}
use Rattle.model.specs.Step.{is_ended, act_current, act_if, before_step, own_misuse, step}
use Rattle.model.specs.Run.{are_all_ended, is_stuck}
use Rattle.model.proofs.Sorting.{by_test}
use Rattle.model.proofs.Tables.{each-set}
use Rattle.soundness.proofs.Keeping.{keeps-settle, keeps-unless_held}
use Rattle.soundness.proofs.Ticking.{lasts-await, lasts-begin_set}
use Rattle.soundness.proofs.Judging.{acts_calm, takes_hold}
use Rattle.ops.specs.InCall.{IsSilent, when_entered}
use Rattle.ops.proofs.Commanding.{same_after}
use Rattle.kernel.specs.InCall.{IsCallOn}
use Rattle.kernel.specs.InCall.IsCallOn.{Awaits, Receives}
use Rattle.kernel.specs.Over.{is_at_tick_limit, is_over}
use Rattle.kernel.proofs.Unstopped.{stopped-all_ready, stopped-inherit, stopped-set, stopped-settled}
use Rattle.kernel.proofs.Ending.{each_of, none_of, not_passed, runs_on}
use Rattle.kernel.proofs.Ended.{not_all_but, some_left}
use Rattle.soundness.proofs.Pending.{begun_alone}

-- Whoever wasn't Ended isn't.
abbrev EndsNobody : State → State → Type 0
EndsNobody old new = (i : ℕ) → is_ended (status_at old i) ≡ false → is_ended (status_at new i) ≡ false

on-with_task : (s : State) (i : ℕ) (t : Task)
    → (is_ended (status_at s i) ≡ false → is_ended t.status ≡ false) → EndsNobody s (with_task i t s)
on-with_task s i t own j on =
    let P : ℕ → Task → Type 0 = λ k u. k ≡ j → is_ended u.status ≡ false in
    let before : (k : ℕ) → k ≡ j → is_ended (status_at s k) ≡ false = λ k e.
    subst (λ (m : ℕ). is_ended (status_at s m) ≡ false) (sym e) on in
    each-set no_task P s.tasks i t (λ e. own (before i e)) before j refl

on-with_call : (s : State) (i : ℕ) (call : CallProgress) → EndsNobody s (with_call i call s)
on-with_call s i call = on-with_task s i (record (task_at s i) { progress = record (progress_at s i) { call = call } }) (λ on. on)

on-make_ready : (s : State) (i : ℕ) → EndsNobody s (make_ready i s)
on-make_ready s i = on-with_task s i (record (task_at s i) { status = _ }) (λ on. refl)

on-all_ready : (js : List ℕ) (s : State) → EndsNobody s (for_each make_ready js s)
on-all_ready [] s j on = on
on-all_ready (i ∷ js) s j on = on-all_ready js (make_ready i s) j (on-make_ready s i j on)

-- ---- one who will wait for a mutex lends its priority

-- nor do ticks that were held
pub on-applied : (n : ℕ) (s : State) → EndsNobody s (apply_held n s)
unfolding apply_one advance wake_due
on-applied zero s j on = on
on-applied (suc n) s j on =
    let later : State = record s { time = s.time + 1; held_ticks = s.held_ticks - 1 } in
    on-applied n (apply_one s) j (on-all_ready (tasks_of (due later)) later j on)

on-to_back : (s : State) (i : ℕ) → EndsNobody s (to_back i s)
unfolding to_back
on-to_back s i j on = by_test (is_ready s i) (λ t. rw t (on-make_ready s i j on)) (λ t. rw t on)

on-set_priority : (s : State) (i priority : ℕ) → EndsNobody s (set_priority i priority s)
unfolding set_priority
on-set_priority s i priority j on = by_test (eqb (task_at s i).priority priority)
    (λ t. rw t on)
    (λ t. let u : Task = record (task_at s i) { priority = priority } in
    rw t (on-to_back (with_task i u s) i j (on-with_task s i u (λ o. o) j on)))

on-raise : (s : State) (holder priority : ℕ) → EndsNobody s (raise holder priority s)
on-raise s holder priority j on = by_test (ltb (task_at s holder).priority priority)
    (λ t. rw t (on-set_priority s holder priority j on))
    (λ t. rw t on)

on-inherit : (s : State) (i o : ℕ) → EndsNobody s (inherit i o s)
unfolding inherit
on-inherit s i o j on = by_holder (object_at s o).holder where
  by_holder : (holder : Option ℕ) → is_ended (status_at (for_one (inherit_from i) holder s) j) ≡ false
  by_holder None = on
  by_holder (Some holder) =
      let call : CallProgress = record (call_at s i) { inherited = inherits i holder s } in
      on-raise (with_call i call s) holder (task_at s i).priority j (on-with_call s i call j on)

-- ---- the phases

on-wait_in : (s : State) (i o : ℕ) (a : Access ℕ) → EndsNobody s (wait_in i (list_for o a) s)
unfolding wait_in
on-wait_in s i o a j on =
    let t : State = with_call i (record (call_at s i) { waits = true }) s in
    on-with_task t i (record (task_at t i) { status = Waiting _ }) (λ o. refl)
    j (on-with_call s i (record (call_at s i) { waits = true }) j on)

on-decide : (s : State) (i o : ℕ) (a : Access ℕ) → EndsNobody s (decide i o a s)
unfolding decide
on-decide s i o a j on = by_test (possible s o a || is_expired s i)
    (λ t. rw t (on-with_call s i (record (call_at s i) { phase = Unlock }) j on))
    (λ t.
    let waits : State = wait_in i (list_for o a) (inherit i o s) in
    rw t (on-with_call waits i (record (call_at waits i) { phase = Place })
    j (on-wait_in (inherit i o s) i o a j (on-inherit s i o j on))))

on-unlock : (s : State) → EndsNobody s (unlock s)
unfolding unlock
on-unlock s j on = by_locked s.locked where
  by_locked : (o : Option ℕ) → is_ended (status_at (for_one unlock_object o s) j) ≡ false
  by_locked None = on
  by_locked (Some o) =
      on-all_ready (tasks_of (awakened s (ToReceive o)) ++ tasks_of (awakened s (ToSend o))) (record s { locked = None }) j on

on-await : (app : Application) (i o : ℕ) (a : Access ℕ) (ticks : Option ℕ) (phase : Phase) (s : State)
    → IsSilent phase → EndsNobody s (await app i o a ticks phase s)
on-await app i o a ticks Start s silent = absurd silent
on-await app i o a ticks Try s silent = absurd silent
on-await app i o a ticks Decide s silent = on-decide s i o a
on-await app i o a ticks Place s silent = on-with_call s i (record (call_at s i) { phase = Unlock })
on-await app i o a ticks Unlock s silent = λ j on.
    on-with_call (unlock s) i (record (call_at (unlock s) i) { phase = Leave }) j (on-unlock s j on)
on-await app i o a ticks Leave s silent = absurd silent

stopped-decide : (s : State) (i o : ℕ) (a : Access ℕ) → (decide i o a s).stopped ≡ s.stopped
unfolding decide wait_in
stopped-decide s i o a = by_test (possible s o a || is_expired s i) (λ t. rw t refl) (λ t. rw t (stopped-inherit s i o))

stopped-unlock : (s : State) → (unlock s).stopped ≡ s.stopped
unfolding unlock
stopped-unlock s = by_locked s.locked where
  by_locked : (o : Option ℕ) → (for_one unlock_object o s).stopped ≡ s.stopped
  by_locked None = refl
  by_locked (Some o) =
      stopped-all_ready (tasks_of (awakened s (ToReceive o)) ++ tasks_of (awakened s (ToSend o))) (record s { locked = None })

stopped-await : (app : Application) (i o : ℕ) (a : Access ℕ) (ticks : Option ℕ) (phase : Phase) (s : State)
    → IsSilent phase → (await app i o a ticks phase s).stopped ≡ s.stopped
stopped-await app i o a ticks Start s silent = absurd silent
stopped-await app i o a ticks Try s silent = absurd silent
stopped-await app i o a ticks Decide s silent = stopped-decide s i o a
stopped-await app i o a ticks Place s silent = refl
stopped-await app i o a ticks Unlock s silent = stopped-unlock s
stopped-await app i o a ticks Leave s silent = absurd silent

-- ---- the end of the step

pub on-choose : (s : State) → EndsNobody s (choose s)
unfolding choose dispatch
on-choose s j on = by_test (is_same (choice s) s.current) (λ t. rw t on) (λ t. rw t on)

on-settle : (s : State) → EndsNobody s (settle s)
unfolding settle
on-settle s j on = by_test (is_off s s.current) (λ t. rw t (on-choose s j on)) (λ t. rw t on)

on-unless_held : (s : State) → EndsNobody s (unless_held settle s)
on-unless_held s j on = by_test (is_held s) (λ t. rw t on) (λ t. rw t (on-settle s j on))

-- ---- a set

on-wake_all : (bits : ℕ) (js : List ℕ) (s : State) → EndsNobody s (wake_all js bits s)
on-wake_all bits [] s j on = on
on-wake_all bits (i ∷ js) s j on =
    on-wake_all bits js (wake_with_bits i bits s) j
    (on-make_ready (keep_answer i bits s) i j (on-with_call s i (record (call_at s i) { kept = Some bits }) j on))

on-set : (s : State) (group mask : ℕ) → EndsNobody s (set group mask s)
unfolding set
on-set s group mask j on = on-wake_all (bits_set group mask s) (met_by group (bits_set group mask s) s) s j on

on-begin_set : (s : State) (i group mask : ℕ) → EndsNobody s (begin_set i group mask s)
unfolding begin_set
on-begin_set s i group mask j on =
    let t : State = set group mask (record s { call_hold = true }) in
    let u : State = keep_answer i (bits_at t group) t in
    on-with_call u i (record (call_at u i) { phase = Leave }) j (on-with_call t i
    (record (call_at t i) { kept = Some (bits_at t group) }) j (on-set (record s { call_hold = true }) group mask j on))

stopped-begin_set : (s : State) (i group mask : ℕ) → (begin_set i group mask s).stopped ≡ s.stopped
unfolding begin_set
stopped-begin_set s i group mask = stopped-set (record s { call_hold = true }) group mask

-- ---- the begin of a wait for bits

on-begin_bits_wait : (s : State) (i group : ℕ) (c : Condition) (ticks : Option ℕ) → EndsNobody s (begin_bits_wait i group c ticks s)
unfolding begin_bits_wait wait_for_bits set_deadline
on-begin_bits_wait s i group c ticks j on =
    let held : State = record s { call_hold = true } in
    let due : State = set_deadline i ticks held in
    let wanting : State = want i c due in
    let waits : State = wait_for_bits i group wanting in
    on-with_call waits i _ j (on-with_task wanting i _ (λ o. refl) j (on-with_call due i _ j (on-with_call held i _ j on)))

-- ---- the begin of a wait for a notification

on-begin_notification_wait : (s : State) (i : ℕ) (ticks : Option ℕ) → EndsNobody s (begin_notification_wait i ticks s)
unfolding begin_notification_wait wait_for_notification set_deadline
on-begin_notification_wait s i ticks j on =
    let held : State = record s { call_hold = true } in
    let due : State = set_deadline i ticks held in
    let waits : State = wait_for_notification i due in
    on-with_call waits i _ j (on-with_task due i _ (λ o. refl) j (on-with_call held i _ j on))

-- ---- the step

-- Where what is done in a step ends nobody and stops nothing, and lets no tick pass,
-- a run that isn't over before it isn't over after it.
module _ (app : Application) (limits : Limits) (task : ℕ) (s : State) (plain : IsNonePending s) (done : State)
    (does : act_current app limits s.current (record s { log = [] }) ≡ done)
    (ends_nobody : EndsNobody s done) (stops_not : done.stopped ≡ s.stopped) (lasts_not : done.elapsed ≡ s.elapsed) where
  pub not_over_by : (step app limits [] s).current ≡ Some task
      → is_over app limits s ≡ false → is_over app limits (step app limits [] s) ≡ false
  unfolding step
  not_over_by still going =
      let begun : State = before_step app [] s in
      let alone : begun ≡ record s { log = [] } = begun_alone app s plain in
      let acted : State = act_current app limits begun.current begun in
      let ended : State = step app limits [] s in
      let does : acted ≡ done = ap (λ (x : State). act_current app limits x.current x) alone ∙ does in
      let stopped : ended.stopped ≡ s.stopped = stopped-settled acted ∙ ap (λ (x : State). x.stopped) does ∙ stops_not in
      let each = each_of (is_some s.stopped) (are_all_ended app s) (is_at_tick_limit app limits s) (is_stuck app s) going in
      let lasts : acted.elapsed ≡ s.elapsed = ap (λ (x : State). x.elapsed) does ∙ lasts_not in
      let early : is_at_tick_limit app limits ended ≡ false =
      ap (λ (n : ℕ). app.tickless && leb limits.ticks n) ((keeps-unless_held settle acted keeps-settle).elapsed ∙ lasts) ∙ each.2 in
      let goes : are_all_ended app ended ≡ false = by_test (is_any_awaited app)
      (λ t.
      let one = some_left app.tasks s.tasks (rw t at each.1) in
      let on : is_ended (status_at acted one.0) ≡ false =
      subst (λ (x : State). is_ended (status_at x one.0) ≡ false) (sym does) (ends_nobody one.0 one.2) in
      not_passed app ended (not_all_but app.tasks ended.tasks one.0 one.1 (on-unless_held acted one.0 on)))
      (λ t. rw t refl) in
      none_of (is_some ended.stopped) (are_all_ended app ended) (is_at_tick_limit app limits ended) (is_stuck app ended)
      (ap (λ (o : Option End). is_some o) stopped ∙ each.0)
      goes
      early
      (runs_on app ended task still)

-- What the op of a call that waits does in such a phase is what the call does.
module _ (app : Application) (task object : ℕ) (access : Access ℕ) (ticks : Option ℕ) (phase : Phase)
    (silent : IsSilent phase) (s : State) (reached : (call_at s task).phase ≡ phase) where
  not_begun : (other : Phase) → (IsSilent other → ⊥) → phase ≡ other → ⊥
  not_begun other loud e = loud (subst IsSilent e silent)

  call_acts : (op : Op) → IsCallOn op object access ticks
      → act_by_value app task op s ≡ await app task object access ticks phase s
  call_acts op (Awaits call variables answer e number) =
      ap (λ o. act_by_value app task o s) e
      ∙ acts_past app task object call ticks s phase (not_begun Start (λ x. x)) (not_begun Try (λ x. x)) reached variables answer
      ∙ ap (λ x. await app task object x ticks phase s) (sym number)
  call_acts op (Receives e a t) =
      ap (λ o. act_by_value app task o s) e
      ∙ ap (λ p. next_command app task object p s) reached
      ∙ sym (same_after app task object phase s (not_begun Start (λ x. x)) (not_begun Try (λ x. x)))
      ∙ ap (λ x. await app task object x None phase s) (sym a)
      ∙ ap (λ x. await app task object access x phase s) (sym t)

  call_allowed : (op : Op) → IsCallOn op object access ticks → (own_misuse s task op ≡ None) × (takes_hold op ≡ false)
  call_allowed op (Awaits call variables answer e number) = (ap (own_misuse s task) e, ap takes_hold e)
  call_allowed op (Receives e a t) = (ap (own_misuse s task) e, ap takes_hold e)

module _ (app : Application) (limits : Limits) (task object : ℕ) (access : Access ℕ) (ticks : Option ℕ)
    (phase : Phase) (silent : IsSilent phase) (op : Op) (on : IsCallOn op object access ticks) where
  acts_silently : (s : State) → s.current ≡ Some task → op_at app task (progress_at s task).op_index ≡ Some op
      → (call_at s task).phase ≡ phase → is_held_by_task s ≡ false
      → act_current app limits s.current s ≡ await app task object access ticks phase s
  acts_silently s runs is reached none =
      let allowed = call_allowed app task object access ticks phase silent s reached op on in
      ap (λ c. act_current app limits c s) runs
      ∙ ap (λ o. act_if app task o s) is
      ∙ acts_calm app task op s none allowed.0 allowed.1
      ∙ call_acts app task object access ticks phase silent s reached op on

  -- a run that isn't over before such a step isn't over after it
  pub not_over_silently : (s : State) → IsNonePending s → s.current ≡ Some task
      → op_at app task (progress_at s task).op_index ≡ Some op → (call_at s task).phase ≡ phase → is_held_by_task s ≡ false
      → (step app limits [] s).current ≡ Some task → is_over app limits s ≡ false
      → is_over app limits (step app limits [] s) ≡ false
  not_over_silently s plain runs is reached none still going =
      let begun : State = record s { log = [] } in
      not_over_by app limits task s plain (await app task object access ticks phase begun)
      (acts_silently begun runs is reached none)
      (on-await app task object access ticks phase begun silent) (stopped-await app task object access ticks phase begun silent)
      (lasts-await app task object access ticks phase begun).elapsed
      still going

-- So it is where the daemon begins to set the bits of a command.
module _ (app : Application) (limits : Limits) (task : ℕ) (s : State) (plain : IsNonePending s) (runs : s.current ≡ Some task)
    (is : op_at app task (progress_at s task).op_index ≡ Some Obey) (reached : (call_at s task).phase ≡ Start)
    (none : is_held_by_task s ≡ false) (sets : (command_at s task).clear ≡ false) where
  begun : State
  begun = record s { log = [] }

  command : Command
  command = command_at s task

  begins_set : act_current app limits s.current begun ≡ begin_set task command.group command.mask begun
  unfolding begun command
  begins_set =
      ap (λ c. act_current app limits c begun) runs
      ∙ ap (λ o. act_if app task o begun) is
      ∙ acts_calm app task Obey begun none refl refl
      ∙ ap (λ p. obey app task command p begun) reached
      ∙ ap (λ (b : Bool).
      if b then clear_by_daemon app task command.group command.mask begun else begin_set task command.group command.mask begun)
      sets

  pub not_over_setting : (running : ℕ) → (step app limits [] s).current ≡ Some running
      → is_over app limits s ≡ false → is_over app limits (step app limits [] s) ≡ false
  unfolding begun command
  not_over_setting running still going =
      not_over_by app limits running s plain (begin_set task command.group command.mask begun) begins_set
      (on-begin_set begun task command.group command.mask) (stopped-begin_set begun task command.group command.mask)
      (lasts-begin_set task command.group command.mask begun).elapsed
      still going

-- So it is where a call of a task on an event group begins, or one that waits for a notification.
module _ (app : Application) (limits : Limits) (task : ℕ) (op : Op) (s : State) (plain : IsNonePending s)
    (runs : s.current ≡ Some task)
    (is : op_at app task (progress_at s task).op_index ≡ Some op) (reached : (call_at s task).phase ≡ Start)
    (none : is_held_by_task s ≡ false) where
  anew : State
  anew = record s { log = [] }

  acts_as : (form : Op) → op ≡ form → own_misuse anew task form ≡ None → takes_hold form ≡ false
      → act_current app limits s.current anew ≡ act_by_value app task form anew
  unfolding anew
  acts_as form same allowed apart =
      ap (λ c. act_current app limits c anew) runs
      ∙ ap (λ o. act_if app task o anew) (is ∙ ap Some same)
      ∙ acts_calm app task form anew none allowed apart

  module _ (group mask : ℕ) (same : op ≡ SetBits group mask) where
    sets : act_current app limits s.current anew ≡ begin_set task group mask anew
    unfolding anew
    sets =
        acts_as (SetBits group mask) same refl refl
        ∙ ap (λ p. set_bits app task group mask p anew) reached

    pub not_over_set : (step app limits [] s).current ≡ Some task
        → is_over app limits s ≡ false → is_over app limits (step app limits [] s) ≡ false
    unfolding anew
    not_over_set =
        not_over_by app limits task s plain (begin_set task group mask anew) sets
        (on-begin_set anew task group mask) (stopped-begin_set anew task group mask)
        (lasts-begin_set task group mask anew).elapsed

  module _ (group : ℕ) (condition : Condition) (ticks : Option ℕ) (same : op ≡ WaitBits group condition ticks)
      (unmet : is_met (bits_at s group) condition || option_eq eqb ticks (Some 0) ≡ false) where
    waits : act_current app limits s.current anew ≡ begin_bits_wait task group condition ticks anew
    unfolding anew check
    waits =
        acts_as (WaitBits group condition ticks) same refl refl
        ∙ ap (λ p. wait_bits app task group condition ticks p anew) reached
        ∙ ap (λ (b : Bool).
        if b then answer_bits app task group condition anew else begin_bits_wait task group condition ticks anew)
        unmet

    pub not_over_wait : (step app limits [] s).current ≡ Some task
        → is_over app limits s ≡ false → is_over app limits (step app limits [] s) ≡ false
    unfolding anew begin_bits_wait wait_for_bits set_deadline
    not_over_wait =
        not_over_by app limits task s plain (begin_bits_wait task group condition ticks anew) waits
        (on-begin_bits_wait anew task group condition ticks) refl refl

  module _ (wait : NotificationWait) (ticks : Option ℕ) (same : op ≡ AwaitNotification wait ticks)
      (unmet : is_there wait (notification_at (when_entered task wait (record s { log = [] })) task) || option_eq eqb ticks (Some 0)
      ≡ false) where
    notices : act_current app limits s.current anew ≡ begin_notification_wait task ticks (when_entered task wait anew)
    unfolding anew check_notification
    notices =
        acts_as (AwaitNotification wait ticks) same refl refl
        ∙ ap (λ p. await_notification app task wait ticks p anew) reached
        ∙ ap (λ (b : Bool).
        if b then end_notification_wait app task wait (when_entered task wait anew)
        else begin_notification_wait task ticks (when_entered task wait anew))
        unmet

    pub not_over_notice : (step app limits [] s).current ≡ Some task
        → is_over app limits s ≡ false → is_over app limits (step app limits [] s) ≡ false
    unfolding anew begin_notification_wait wait_for_notification set_deadline
    not_over_notice =
        not_over_by app limits task s plain (begin_notification_wait task ticks (when_entered task wait anew)) notices
        (on-begin_notification_wait (when_entered task wait anew) task ticks) refl refl
