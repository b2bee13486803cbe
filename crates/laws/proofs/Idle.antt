-- Idle runs only where no task is Ready, and after a tick nobody outranks the running task.
use Rattle.model.specs.declared.op.Op.TheVariants.{Value}
use Rattle.model.specs.declared.event.End.TheVariants.{Check}
use Rattle.model.specs.Ops.{calculate, fail}
use Rattle.model.specs.Step.{act_by_value, call_with_number}
use Rattle.soundness.proofs.Passing.{by_value}
use Rattle.std.proofs.Common.{◌≡◌, ◌≤◌, ◌||◌, ◌++◌, ◌+◌, ℕ, zero, suc, Bool, true, false, eqb, leb, ltb, List, [], ◌∷◌, Option}
use Rattle.std.proofs.Common.{Some, None, refl, sym, subst, ◌∙◌, arith}
use Rattle.std.specs.List.{AllByRecursion, list_any}
use Rattle.std.specs.Option.{option_eq}
use Rattle.std.proofs.lemmas.Bool.{le-ltb}
use Rattle.model.specs.declared.op.Op.{Op}
use Rattle.model.specs.declared.op.Op.TheVariants.{Work, Delay, DelayUntil, Yield, Time, Mark, Expect, Repeat, End, If, Else, EndIf}
use Rattle.model.specs.declared.op.Op.TheVariants.{Break, Stamp, Since, Await, Do, GiveMutex, MessagesWaiting, SpacesAvailable}
use Rattle.model.specs.declared.op.Op.TheVariants.{SetBits, ClearBits, GetBits, WaitBits, Suspend, Resume, SuspendAll, ResumeAll}
use Rattle.model.specs.declared.op.Op.TheVariants.{EnterCritical, ExitCritical, Notify, AwaitNotification, ClearNotification}
use Rattle.model.specs.declared.op.Op.TheVariants.{NextCommand, Obey}
use Rattle.model.specs.declared.notification.NotificationWait.{NotificationWait}
use Rattle.model.specs.Notifications.{call_notify, is_there, entered, end_notification_wait, wait_for_notification}
use Rattle.model.specs.Notifications.{begin_notification_wait, check_notification, await_notification, clear_notification}
use Rattle.model.specs.State.{notification_at, with_notification}
use Rattle.model.specs.declared.op.Access.{Access}
use Rattle.model.specs.declared.op.Access.TheVariants.{Receive}
use Rattle.model.specs.declared.op.Command.{Command}
use Rattle.model.specs.declared.call.Condition.{Condition}
use Rattle.model.specs.declared.call.Phase.{Phase}
use Rattle.model.specs.declared.call.Phase.TheVariants.{Start, Try, Decide, Place, Unlock, Leave}
use Rattle.model.specs.declared.event.Misuse.{Misuse}
use Rattle.model.specs.declared.loops.Loop.{Loop}
use Rattle.model.specs.declared.answer.AnswerCondition.{AnswerCondition}
use Rattle.model.specs.Answers.{holds}
use Rattle.model.specs.Application.{Application, Limits, interrupts_at, op_at}
use Rattle.model.specs.State.{State, Progress, task_at, progress_at, call_at, bits_at, go_on, for_each, for_one}
use Rattle.model.specs.Order.{Entry, first, task_of, tasks_of}
use Rattle.model.specs.Switching.{to_back, dispatch, choose, choice, is_same, is_ready, ready_list, ready_key, yield_now, is_above}
use Rattle.model.specs.Switching.{is_outranked, is_sharing, preempt, slice, settle, is_off, is_held, holds_ticks}
use Rattle.model.specs.Waiting.{wait_in, set_deadline, is_expired, end_hold, unlock_object, unlock}
use Rattle.model.specs.Objects.{possible, answer_to, list_for}
use Rattle.model.specs.Mutexes.{inherit, after_timeout, give_mutex}
use Rattle.model.specs.Calls.{try, lock, decide, leave_call, await, do_now}
use Rattle.model.specs.declared.plan.Injection.{Injection}
use Rattle.model.specs.declared.op.Op.TheVariants as op
use Rattle.model.specs.declared.source.SourceOp.{SourceOp}
use Rattle.model.specs.declared.source.SourceOp.TheVariants.{Arm, Disarm, Raise, Cancel}
use Rattle.model.specs.Ops.{control, do_to_source}
use Rattle.model.specs.Handlers.{come, none_raised_now, raised_now, interrupt, tick_interrupt, idle, ticks_ahead}
use Rattle.model.specs.Time.{advance, due, increment_tick, jump, sleep, set_previous_wake, wake_due}
use Rattle.model.specs.Ops.{go_to, answer, use_up, delay, delay_until, expect, open_loop, next_turn, turn, close_turn, branch}
use Rattle.model.specs.Ops.{skip_branch, leave_loop, stamp, since, with_sections}
use Rattle.model.specs.Groups.{is_met, begin_set, set_bits, clear, answer_bits, wait_for_bits, begin_bits_wait, check, final_bits}
use Rattle.model.specs.Groups.{wait_bits}
use Rattle.model.specs.Suspension.{call_suspend, call_resume, suspend_all, resume_scheduler, resume_all}
use Rattle.model.specs.Daemon.{take_command, next_command, obeyed, clear_by_daemon, obey, command_at}
use Rattle.model.specs.Step.{judge, act, misuse, act_unless, act_if, act_current, before_step, step, ready_at_reset}
use Rattle.model.specs.Step.{reset}
use Rattle.model.specs.Run.{injected, state_after}
use Rattle.model.proofs.Sorting.{by_test, Falls, Falls-in_order, IsAfter}
use Rattle.model.proofs.Lists.{HasKey, list_has}
use Rattle.model.proofs.Chosen.{same_eq}
use Rattle.soundness.proofs.Judging.{by_judgement}
use Rattle.soundness.proofs.Settled.{when_held, when_free, held_as_it_was}
use Rattle.soundness.proofs.Ticking.{held-told, either_way, jumped, jump_come}
use Rattle.soundness.proofs.Bits.{stays-set}
use Rattle.soundness.proofs.Handled.{spares-come}
use Rattle.soundness.proofs.Frames.{keeps-interrupt}
use Rattle.soundness.proofs.Keeping.{Keeps, keeps_both, keeps-wake_due}
use Rattle.soundness.proofs.Reached.{reached_after}
use Rattle.soundness.proofs.Begun.{reached_before_step}
use Rattle.model.specs.Invariant.{IsState, RunsIn}
use Rattle.model.specs.Scripts.{IsWellFormed}
use Rattle.model.proofs.Unlocking.{opened_by, current-all_ready}
use Rattle.soundness.proofs.Inheriting.{reranks-after_timeout, reranks-inherit}
use Rattle.soundness.proofs.Going.{current-resumed}
use Rattle.model.specs.Order.{keyed}
use Rattle.laws.specs.Choice.{IsChoice}
use Rattle.laws.proofs.Choice.{choice_is, key_is, none_ready}

abbrev IdleAlone : State → Type 0
IdleAlone s = s.current ≡ None → (i : ℕ) → is_ready s i ≡ false

chosen_none : (s : State) → choice s ≡ None → (i : ℕ) → is_ready s i ≡ false
chosen_none s e = subst (IsChoice s) e (choice_is s)

idle-choose : (s : State) → IdleAlone (choose s)
unfolding choose dispatch
idle-choose s = by_test (is_same (choice s) s.current)
    (λ t. rw t (λ e. chosen_none s (same_eq (choice s) s.current t ∙ e)))
    (λ t. rw t (λ e. chosen_none s e))

idle-yield_now : (s : State) → IdleAlone (yield_now s)
unfolding yield_now
idle-yield_now s = idle-choose (for_one to_back s.current s)

any_true : (es : List Entry) → list_any (λ (e : Entry). true) es ≡ false → es ≡ []
any_true [] t = refl
any_true (e ∷ es) t = absurd (cc)

or_false : (a b : Bool) → (a || b) ≡ false → a ≡ false
or_false false b t = refl
or_false true b t = absurd (cc)

idle_below : (s : State) → is_outranked s ≡ false → IdleAlone s
idle_below s t e =
    let P : Option ℕ → Type 0 = λ r. list_any (is_above s r) (ready_list s) ≡ false in
    none_ready s (any_true (ready_list s) (subst P e t))

idle-slice : (s : State) → IdleAlone (slice s)
unfolding slice
idle-slice s = by_test (is_outranked s || is_sharing s)
    (λ t. rw t (idle-yield_now s))
    (λ t. rw t (idle_below s (or_false (is_outranked s) (is_sharing s) t)))

idle-preempt : (s : State) → IdleAlone (preempt s)
unfolding preempt
idle-preempt s = by_test (is_outranked s)
    (λ t. rw t (idle-yield_now s))
    (λ t. rw t (idle_below s t))

idle-tick : (app : Application) (s : State) → is_held s ≡ false → IdleAlone (tick_interrupt app s)
unfolding tick_interrupt
idle-tick app s free =
    let told : State = interrupt app (increment_tick s) in
    subst IdleAlone (sym (when_free slice told (held-told app s ∙ free))) (idle-slice told)

-- Ticks that come at once, or one, leave the scheduler held or not as it was.
held-jumped : (app : Application) (n : ℕ) (s : State) → is_held (interrupt app (jump n s)) ≡ is_held s
unfolding jump
held-jumped app n s =
    let k : Keeps (jump_come n s) (interrupt app (jump n s)) =
    keeps_both (jump_come n s) (jump n s) (interrupt app (jump n s))
    (keeps-wake_due (jump_come n s)) (keeps-interrupt app (jump n s)) in
    held_as_it_was (jump_come n s) (interrupt app (jump n s)) k.hold k.suspension

idle-jumped : (app : Application) (n : ℕ) (s : State) → is_held s ≡ false → IdleAlone (jumped app n s)
idle-jumped app n s free =
    let told : State = interrupt app (jump n s) in
    subst IdleAlone (sym (when_free slice told (held-jumped app n s ∙ free))) (idle-slice told)

idle-idle : (app : Application) (limits : Limits) (s : State) → is_held s ≡ false → IdleAlone (idle app limits s)
unfolding idle
idle-idle app limits s free =
    let n : ℕ = ticks_ahead app limits s in
    either_way IdleAlone app.tickless (jumped app n s) (tick_interrupt app s) (idle-jumped app n s free) (idle-tick app s free)

current-all_come : (app : Application) (handlers : List ℕ) (s : State) → (for_each (come app) handlers s).current ≡ s.current
current-all_come app [] s = refl
current-all_come app (h ∷ hs) s = current-all_come app hs (come app h s) ∙ (spares-come app h s).current

current-increment : (s : State) → (increment_tick s).current ≡ s.current
unfolding increment_tick advance wake_due
current-increment s =
    let later : State = record s { time = s.time + 1; elapsed = s.elapsed + 1 } in
    by_test (holds_ticks s) (λ t. rw t refl) (λ t. rw t (current-all_ready later (tasks_of (due later))))

current-told : (app : Application) (s : State) → (interrupt app (increment_tick s)).current ≡ s.current
unfolding interrupt
current-told app s =
    let ticked : State = increment_tick s in
    current-all_come app (interrupts_at app ticked.elapsed ++ raised_now ticked) (none_raised_now ticked) ∙ current-increment s

current-use_up : (app : Application) (i n : ℕ) (s : State) → (use_up app i n s).current ≡ s.current
unfolding use_up go_to
current-use_up app i n s = by_test (eqb ((progress_at s i).used + 1) n) (λ t. rw t refl) (λ t. rw t refl)

-- a task runs while the tick passes, or after it somebody may
idle-work : (app : Application) (i : ℕ) (s : State) → s.current ≡ Some i → IdleAlone (tick_interrupt app s)
unfolding tick_interrupt
idle-work app i s r =
    let told : State = interrupt app (increment_tick s) in
    by_test (is_held told)
    (λ t.
    subst IdleAlone (sym (when_held slice told t))
    (λ e. let f : Some i ≡ None = sym r ∙ sym (current-told app s) ∙ e in absurd (cc)))
    (λ t. subst IdleAlone (sym (when_free slice told t)) (idle-slice told))

idle-settle : (s : State) → IdleAlone s → IdleAlone (settle s)
unfolding settle
idle-settle s h = by_test (is_off s s.current) (λ t. rw t (idle-choose s)) (λ t. rw t h)

-- ---- ops after which the same task runs

current-sleep : (i w : ℕ) (s : State) → (sleep i w s).current ≡ s.current
unfolding sleep
current-sleep i w s = by_test (is_ready s i) (λ t. rw t refl) (λ t. rw t refl)

current-delay_until : (app : Application) (i w : ℕ) (s : State) → (delay_until app i w s).current ≡ s.current
unfolding delay_until set_previous_wake answer go_to
current-delay_until app i w s = by_test (ltb s.time w) (λ t. rw t (current-sleep i w (answer app i (Some 1) s))) (λ t. rw t refl)

current-expect : (app : Application) (i : ℕ) (condition : AnswerCondition) (s : State)
    → (expect app i condition s).current ≡ s.current
unfolding expect go_to
current-expect app i condition s = by_test (holds s.variables condition (progress_at s i).answer) (λ t. rw t refl) (λ t. rw t refl)

current-next_turn : (app : Application) (i : ℕ) (p : Progress) (l : Loop) (ls : List Loop) (left : Option ℕ) (s : State)
    → (next_turn app i p l ls left s).current ≡ s.current
unfolding go_to
current-next_turn app i p l ls None s = refl
current-next_turn app i p l ls (Some left) s = by_test (leb left 1) (λ q. rw q refl) (λ q. rw q refl)

current-turn : (app : Application) (i : ℕ) (p : Progress) (ls : List Loop) (s : State) → (turn app i p ls s).current ≡ s.current
unfolding go_to
current-turn app i p [] s = refl
current-turn app i p (l ∷ ls) s = current-next_turn app i p l ls l.left s

current-branch : (app : Application) (i : ℕ) (condition : AnswerCondition) (s : State)
    → (branch app i condition s).current ≡ s.current
unfolding branch go_to
current-branch app i condition s = by_test (holds s.variables condition (progress_at s i).answer) (λ t. rw t refl) (λ t. rw t refl)

still_runs : (i : ℕ) (s t : State) → s.current ≡ Some i → t.current ≡ s.current → IdleAlone t
still_runs i s t r e = λ n. absurd (let f : Some i ≡ None = sym r ∙ sym e ∙ n in cc)

idle-delay : (app : Application) (i n : ℕ) (s : State) → s.current ≡ Some i → IdleAlone (delay app i n s)
unfolding delay answer go_to
idle-delay app i n s r = by_test (eqb n 0)
    (λ t. rw t (idle-yield_now (answer app i (Some 0) s)))
    (λ t.
    rw t (still_runs i s (sleep i (s.time + n) (answer app i (Some 0) s))
    r (current-sleep i (s.time + n) (answer app i (Some 0) s))))

idle-try : (app : Application) (i o : ℕ) (a : Access ℕ) (s : State) → s.current ≡ Some i → IdleAlone (try app i o a s)
unfolding try answer go_to
idle-try app i o a s r = by_test (possible s o a)
    (λ t. rw t (idle-preempt _))
    (λ t. rw t (by_test (is_expired s i)
    (λ q. rw q (still_runs i s (answer app i (answer_to s o a) (after_timeout i o s)) r (reranks-after_timeout s i o).current))
    (λ q. rw q (still_runs i s (go_on i Decide s) r refl))))

idle-decide : (i o : ℕ) (a : Access ℕ) (s : State) → s.current ≡ Some i → IdleAlone (decide i o a s)
unfolding decide wait_in
idle-decide i o a s r = by_test (possible s o a || is_expired s i)
    (λ t. rw t (still_runs i s (lock i o Unlock s) r refl))
    (λ t. rw t (still_runs i s (lock i o Place (wait_in i (list_for o a) (inherit i o s))) r (reranks-inherit s i o).current))

current-unlock : (s : State) → (unlock s).current ≡ s.current
unfolding unlock
current-unlock s = by_locked s.locked where
  by_locked : (o : Option ℕ) → (for_one unlock_object o s).current ≡ s.current
  by_locked None = refl
  by_locked (Some o) = current-all_ready (record s { locked = None }) (opened_by s o)

idle-leave_call : (i : ℕ) (s : State) → IdleAlone (leave_call i s)
unfolding leave_call
idle-leave_call i s = by_test (call_at s i).waits
    (λ t. rw t (idle-choose (end_hold i Try s)))
    (λ t. rw t (idle-preempt (end_hold i Try s)))

idle-await : (app : Application) (i o : ℕ) (a : Access ℕ) (ticks : Option ℕ) (phase : Phase) (s : State)
    → s.current ≡ Some i → IdleAlone (await app i o a ticks phase s)
unfolding set_deadline
idle-await app i o a ticks Start s r = idle-try app i o a (set_deadline i ticks s) r
idle-await app i o a ticks Try s r = idle-try app i o a s r
idle-await app i o a ticks Decide s r = idle-decide i o a s r
idle-await app i o a ticks Place s r = still_runs i s (go_on i Unlock s) r refl
idle-await app i o a ticks Unlock s r = still_runs i s (go_on i Leave (unlock s)) r (current-unlock s)
idle-await app i o a ticks Leave s r = idle-leave_call i s

idle-do_now : (app : Application) (i o : ℕ) (a : Access ℕ) (s : State) → IdleAlone (do_now app i o a s)
unfolding do_now
idle-do_now app i o a s = idle-preempt _

idle-give_mutex : (app : Application) (i o : ℕ) (s : State) → IdleAlone (give_mutex app i o s)
unfolding give_mutex
idle-give_mutex app i o s = idle-preempt _

-- ---- event groups

idle-set_bits : (app : Application) (i g m : ℕ) (phase : Phase) (s : State)
    → s.current ≡ Some i → IdleAlone (set_bits app i g m phase s)
unfolding begin_set
idle-set_bits app i g m Start s r = still_runs i s (begin_set i g m s) r (stays-set g m (record s { call_hold = true })).current
idle-set_bits app i g m Try s r = idle-preempt _
idle-set_bits app i g m Decide s r = idle-preempt _
idle-set_bits app i g m Place s r = idle-preempt _
idle-set_bits app i g m Unlock s r = idle-preempt _
idle-set_bits app i g m Leave s r = idle-preempt _

current-answer_bits : (app : Application) (i g : ℕ) (c : Condition) (s : State) → (answer_bits app i g c s).current ≡ s.current
unfolding answer_bits answer go_to
current-answer_bits app i g c s = by_test (is_met (bits_at s g) c) (λ t. rw t refl) (λ t. rw t refl)

current-check : (app : Application) (i g : ℕ) (c : Condition) (ticks : Option ℕ) (s : State)
    → (check app i g c ticks s).current ≡ s.current
unfolding check begin_bits_wait wait_for_bits set_deadline
current-check app i g c ticks s = by_test (is_met (bits_at s g) c || option_eq eqb ticks (Some 0))
    (λ t. rw t (current-answer_bits app i g c s))
    (λ t. rw t refl)

current-final_bits : (app : Application) (i g : ℕ) (c : Condition) (kept : Option ℕ) (s : State)
    → (final_bits app i g c kept s).current ≡ s.current
unfolding answer go_to
current-final_bits app i g c None s = current-answer_bits app i g c s
current-final_bits app i g c (Some bits) s = refl

idle-final : (app : Application) (i g : ℕ) (c : Condition) (s : State)
    → s.current ≡ Some i → IdleAlone (final_bits app i g c (call_at s i).kept s)
idle-final app i g c s r =
    still_runs i s (final_bits app i g c (call_at s i).kept s) r (current-final_bits app i g c (call_at s i).kept s)

idle-wait_bits : (app : Application) (i g : ℕ) (c : Condition) (ticks : Option ℕ) (phase : Phase) (s : State)
    → s.current ≡ Some i → IdleAlone (wait_bits app i g c ticks phase s)
idle-wait_bits app i g c ticks Start s r = still_runs i s (check app i g c ticks s) r (current-check app i g c ticks s)
idle-wait_bits app i g c ticks Leave s r = idle-choose (end_hold i Try s)
idle-wait_bits app i g c ticks Try s r = idle-final app i g c s r
idle-wait_bits app i g c ticks Decide s r = idle-final app i g c s r
idle-wait_bits app i g c ticks Place s r = idle-final app i g c s r
idle-wait_bits app i g c ticks Unlock s r = idle-final app i g c s r

-- ---- notifications

current-end_notification_wait : (app : Application) (i : ℕ) (wait : NotificationWait) (s : State)
    → (end_notification_wait app i wait s).current ≡ s.current
unfolding end_notification_wait answer go_to
current-end_notification_wait app i wait s = refl

current-check_notification : (app : Application) (i : ℕ) (wait : NotificationWait) (ticks : Option ℕ) (s : State)
    → (check_notification app i wait ticks s).current ≡ s.current
unfolding check_notification begin_notification_wait wait_for_notification set_deadline
current-check_notification app i wait ticks s = by_test (is_there wait (notification_at s i) || option_eq eqb ticks (Some 0))
    (λ t. rw t (current-end_notification_wait app i wait s))
    (λ t. rw t refl)

idle-await_notification : (app : Application) (i : ℕ) (wait : NotificationWait) (ticks : Option ℕ) (phase : Phase) (s : State)
    → s.current ≡ Some i → IdleAlone (await_notification app i wait ticks phase s)
idle-await_notification app i wait ticks Start s r =
    let t : State = with_notification i (entered wait (notification_at s i)) s in
    still_runs i s (check_notification app i wait ticks t) r (current-check_notification app i wait ticks t)
idle-await_notification app i wait ticks Leave s r = idle-choose (end_hold i Try s)
idle-await_notification app i wait ticks Try s r =
    still_runs i s (end_notification_wait app i wait s) r (current-end_notification_wait app i wait s)
idle-await_notification app i wait ticks Decide s r =
    still_runs i s (end_notification_wait app i wait s) r (current-end_notification_wait app i wait s)
idle-await_notification app i wait ticks Place s r =
    still_runs i s (end_notification_wait app i wait s) r (current-end_notification_wait app i wait s)
idle-await_notification app i wait ticks Unlock s r =
    still_runs i s (end_notification_wait app i wait s) r (current-end_notification_wait app i wait s)

-- ---- the daemon

idle-take_command : (app : Application) (i o : ℕ) (s : State) → s.current ≡ Some i → IdleAlone (take_command app i o s)
unfolding take_command
idle-take_command app i o s r = by_test (possible s o Receive)
    (λ t. rw t (idle-preempt _))
    (λ t. rw t (still_runs i s (go_on i Decide s) r refl))

idle-next_command : (app : Application) (i o : ℕ) (phase : Phase) (s : State)
    → s.current ≡ Some i → IdleAlone (next_command app i o phase s)
idle-next_command app i o Start s r = idle-take_command app i o s r
idle-next_command app i o Try s r = idle-take_command app i o s r
idle-next_command app i o Decide s r = idle-await app i o Receive None Decide s r
idle-next_command app i o Place s r = idle-await app i o Receive None Place s r
idle-next_command app i o Unlock s r = idle-await app i o Receive None Unlock s r
idle-next_command app i o Leave s r = idle-await app i o Receive None Leave s r

idle-begin_command : (app : Application) (i : ℕ) (c : Command) (s : State) → s.current ≡ Some i → IdleAlone (obey app i c Start s)
unfolding clear_by_daemon obeyed go_to begin_set
idle-begin_command app i c s r = by_test c.clear
    (λ t. rw t (still_runs i s (clear_by_daemon app i c.group c.mask s) r refl))
    (λ t. rw t (still_runs i s (begin_set i c.group c.mask s) r (stays-set c.group c.mask (record s { call_hold = true })).current))

idle-obey : (app : Application) (i : ℕ) (c : Command) (phase : Phase) (s : State)
    → s.current ≡ Some i → IdleAlone (obey app i c phase s)
idle-obey app i c Start s r = idle-begin_command app i c s r
idle-obey app i c Try s r = idle-preempt _
idle-obey app i c Decide s r = idle-preempt _
idle-obey app i c Place s r = idle-preempt _
idle-obey app i c Unlock s r = idle-preempt _
idle-obey app i c Leave s r = idle-preempt _

-- ---- the scheduler resumed

idle-resume_all : (app : Application) (i : ℕ) (s : State) → s.current ≡ Some i → IdleAlone (resume_all app i s)
unfolding resume_all answer go_to
idle-resume_all app i s r =
    let t : State = answer app i (Some 0) (resume_scheduler s) in
    by_test (is_held t)
    (λ q. subst IdleAlone (sym (when_held preempt t q)) (still_runs i s t r (current-resumed s)))
    (λ q. subst IdleAlone (sym (when_free preempt t q)) (idle-preempt t))

idle-judge : (i op_index : ℕ) (s : State) → IdleAlone s → IdleAlone (judge i op_index s)
idle-judge i op_index s h = by_judgement IdleAlone i op_index s h (λ kind. h)

current-source : (handler : ℕ) (what : SourceOp) (s : State) → (do_to_source handler what s).current ≡ s.current
current-source handler Arm s = refl
current-source handler Disarm s = refl
current-source handler (Raise n) s = refl
current-source handler Cancel s = refl

idle-act : (app : Application) (i : ℕ) (op : Op) (s : State) → s.current ≡ Some i → IdleAlone (act app i op s)
unfolding answer go_to open_loop close_turn skip_branch leave_loop stamp since clear call_suspend call_resume suspend_all
    with_sections calculate call_notify clear_notification control
idle-act app i (Work n) s r = idle-work app i (use_up app i n s) (current-use_up app i n s ∙ r)
idle-act app i (Delay n) s r = idle-delay app i n s r
idle-act app i (DelayUntil n) s r =
    still_runs i s (delay_until app i ((progress_at s i).previous_wake + n) s)
    r (current-delay_until app i ((progress_at s i).previous_wake + n) s)
idle-act app i Yield s r = idle-yield_now (answer app i (Some 0) s)
idle-act app i Time s r = still_runs i s (act app i Time s) r refl
idle-act app i (Mark n) s r = still_runs i s (act app i (Mark n) s) r refl
idle-act app i (Expect condition) s r = still_runs i s (expect app i condition s) r (current-expect app i condition s)
idle-act app i (Repeat n) s r = still_runs i s (open_loop app i n s) r refl
idle-act app i End s r = still_runs i s (close_turn app i s) r (current-turn app i (progress_at s i) (progress_at s i).loops s)
idle-act app i (If condition) s r = still_runs i s (branch app i condition s) r (current-branch app i condition s)
idle-act app i Else s r = still_runs i s (skip_branch app i s) r refl
idle-act app i EndIf s r = still_runs i s (act app i EndIf s) r refl
idle-act app i Break s r = still_runs i s (leave_loop app i s) r refl
idle-act app i Stamp s r = still_runs i s (stamp app i s) r refl
idle-act app i Since s r = still_runs i s (since app i s) r refl
idle-act app i (Value op) s r = still_runs i s (calculate app i op s) r refl
idle-act app i (Await o a ticks) s r = idle-await app i o (call_with_number s i a) ticks (call_at s i).phase s r
idle-act app i (Do o a) s r = idle-do_now app i o (call_with_number s i a) s
idle-act app i (GiveMutex o) s r = idle-give_mutex app i o s
idle-act app i (MessagesWaiting o) s r = still_runs i s (act app i (MessagesWaiting o) s) r refl
idle-act app i (SpacesAvailable o) s r = still_runs i s (act app i (SpacesAvailable o) s) r refl
idle-act app i (SetBits g m) s r = idle-set_bits app i g m (call_at s i).phase s r
idle-act app i (ClearBits g m) s r = still_runs i s (act app i (ClearBits g m) s) r refl
idle-act app i (GetBits g) s r = still_runs i s (act app i (GetBits g) s) r refl
idle-act app i (WaitBits g c ticks) s r = idle-wait_bits app i g c ticks (call_at s i).phase s r
idle-act app i (Notify j action) s r = idle-preempt _
idle-act app i (AwaitNotification wait ticks) s r = idle-await_notification app i wait ticks (call_at s i).phase s r
idle-act app i (ClearNotification what) s r = still_runs i s (clear_notification app i what s) r refl
idle-act app i (Suspend j) s r = idle-preempt _
idle-act app i (Resume j) s r = idle-preempt _
idle-act app i (NextCommand o) s r = idle-next_command app i o (call_at s i).phase s r
idle-act app i Obey s r = idle-obey app i (command_at s i) (call_at s i).phase s r
idle-act app i SuspendAll s r = still_runs i s (act app i SuspendAll s) r refl
idle-act app i ResumeAll s r = idle-resume_all app i s r
idle-act app i (op.Source j what) s r = still_runs i s (control app i j what s) r (current-source j what s)
idle-act app i EnterCritical s r = still_runs i s (act app i EnterCritical s) r refl
idle-act app i ExitCritical s r = still_runs i s (act app i ExitCritical s) r refl

idle-act_unless : (app : Application) (i : ℕ) (kind : Option Misuse) (op : Op) (s : State)
    → s.current ≡ Some i → IdleAlone (act_unless app i kind op s)
idle-act_unless app i None op s r =
    idle-judge i (progress_at s i).op_index (act_by_value app i op s)
    (by_value IdleAlone app i op s (still_runs i s (fail (Check i (progress_at s i).op_index) s) r refl) (idle-act app i op s r))
idle-act_unless app i (Some kind) op s r = still_runs i s (act_unless app i (Some kind) op s) r refl

idle-act_if : (app : Application) (i : ℕ) (o : Option Op) (s : State) → s.current ≡ Some i → IdleAlone (act_if app i o s)
idle-act_if app i None s r = still_runs i s s r refl
idle-act_if app i (Some op) s r = idle-act_unless app i (misuse s i op) op s r

idle-act_current : (app : Application) (limits : Limits) (r : Option ℕ) (s : State)
    → s.current ≡ r → (r ≡ None → is_held s ≡ false) → IdleAlone (act_current app limits r s)
idle-act_current app limits None s e free = idle-idle app limits s (free refl)
idle-act_current app limits (Some i) s e free = idle-act_if app i (op_at app i (progress_at s i).op_index) s e

idle_free : (app : Application) (s : State) → IsState app s → s.current ≡ None → is_held s ≡ false
idle_free app s h e = subst (RunsIn app s) e h.runs

idle-step : (app : Application) → IsWellFormed app → (limits : Limits) (handlers : List ℕ) (s : State)
    → IsState app s → IdleAlone (step app limits handlers s)
unfolding step
idle-step app formed limits handlers s reached =
    let r : State = before_step app handlers s in
    let t : State = act_current app limits r.current r in
    let h : IdleAlone t =
    idle-act_current app limits r.current r refl (idle_free app r (reached_before_step app formed handlers s reached)) in
    by_test (is_held t)
    (λ q. subst IdleAlone (sym (when_held settle t q)) h)
    (λ q. subst IdleAlone (sym (when_free settle t q)) (idle-settle t h))

idle-reset : (app : Application) → IdleAlone (reset app)
unfolding reset
idle-reset app = λ e. chosen_none (ready_at_reset app) e

idle_all : (app : Application) → IsWellFormed app
    → (limits : Limits) (plan : List Injection) (n : ℕ) → IdleAlone (state_after app limits plan n)
idle_all app formed limits plan zero = idle-reset app
idle_all app formed limits plan (suc n) =
    idle-step app formed limits (injected plan n) (state_after app limits plan n) (reached_after app formed limits plan n)

pub idle_after : (app : Application) → IsWellFormed app → (limits : Limits) (plan : List Injection) (n task : ℕ)
    → (state_after app limits plan n).current ≡ None → is_ready (state_after app limits plan n) task ≡ false
idle_after app formed limits plan n task e = idle_all app formed limits plan n e task

-- ---- after a tick

none_above : (s : State) (c : ℕ) (es : List Entry)
    → AllByRecursion (λ (e : Entry). e.key.priority ≤ (task_at s c).priority) es → list_any (is_above s (Some c)) es ≡ false
none_above s c [] h = refl
none_above s c (e ∷ es) h = rw (le-ltb (task_at s c).priority e.key.priority h.0) (none_above s c es h.1)

after_first : (s : State) (e : Entry) (p : ℕ) → e.key.priority ≡ p → (es : List Entry)
    → AllByRecursion (λ (f : Entry). IsAfter f.key e.key) es → AllByRecursion (λ (f : Entry). f.key.priority ≤ p) es
after_first s e p is [] h = tt
after_first s e p is (f ∷ es) h = (let low = h.0.low in omega arith, after_first s e p is es h.1)

by_list : (s : State) (es : List Entry) → AllByRecursion (HasKey ready_key s.tasks) es
    → Falls es → list_any (is_above s (task_of (first es))) es ≡ false
by_list s [] h f = refl
by_list s (e ∷ es) h f =
    let is = key_is (task_at s e.task).priority (task_at s e.task).status e.key h.0.key in
    none_above s e.task (e ∷ es) (let same = is.1 in omega arith, after_first s e (task_at s e.task).priority is.1 es f.0)

chosen_top : (s : State) → list_any (is_above s (choice s)) (ready_list s) ≡ false
chosen_top s = by_list s (ready_list s) (list_has ready_key s.tasks) (Falls-in_order (keyed ready_key 0 s.tasks))

top-choose : (s : State) → is_outranked (choose s) ≡ false
unfolding choose dispatch
top-choose s = by_test (is_same (choice s) s.current)
    (λ t. let P : Option ℕ → Type 0 = λ r. list_any (is_above s r) (ready_list s) ≡ false in
    rw t (subst P (same_eq (choice s) s.current t) (chosen_top s)))
    (λ t. rw t (chosen_top s))

top-slice : (s : State) → is_outranked (slice s) ≡ false
unfolding slice yield_now
top-slice s = by_test (is_outranked s || is_sharing s)
    (λ t. rw t (top-choose (for_one to_back s.current s)))
    (λ t. rw t (or_false (is_outranked s) (is_sharing s) t))

pub not_outranked-tick : (app : Application) (s : State) → is_held s ≡ false → is_outranked (tick_interrupt app s) ≡ false
unfolding tick_interrupt
not_outranked-tick app s free =
    let told : State = interrupt app (increment_tick s) in
    subst (λ (t : State). is_outranked t ≡ false) (sym (when_free slice told (held-told app s ∙ free))) (top-slice told)

not_outranked-jump : (app : Application) (n : ℕ) (s : State) → is_held s ≡ false → is_outranked (jumped app n s) ≡ false
not_outranked-jump app n s free =
    let told : State = interrupt app (jump n s) in
    subst (λ (t : State). is_outranked t ≡ false) (sym (when_free slice told (held-jumped app n s ∙ free))) (top-slice told)

pub not_outranked-idle : (app : Application) (limits : Limits) (s : State)
    → is_held s ≡ false → is_outranked (idle app limits s) ≡ false
unfolding idle
not_outranked-idle app limits s free =
    let n : ℕ = ticks_ahead app limits s in
    either_way (λ (t : State). is_outranked t ≡ false) app.tickless (jumped app n s)
    (tick_interrupt app s) (not_outranked-jump app n s free) (not_outranked-tick app s free)
