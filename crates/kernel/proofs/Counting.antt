-- No op changes how many steps are done: only the step itself counts.
use Rattle.model.specs.declared.op.Op.TheVariants as op
use Rattle.model.specs.declared.op.Op.TheVariants.{Value}
use Rattle.model.specs.Step.{act_by_value, call_with_number, notify_by_number}
use Rattle.model.specs.Values.{number_of}
use Rattle.soundness.proofs.Frames.{keeps-calculate, keeps-control}
use Rattle.soundness.proofs.Passing.{by_value}
use Rattle.std.proofs.Common.{◌≡◌, ◌+◌, ◌-◌, ◌||◌, ℕ, zero, suc, true, false, eqb, List, ◌++◌, Option, Some, None, refl, sym}
use Rattle.std.proofs.Common.{◌∙◌, length}
use Rattle.std.specs.Option.{option_eq}
use Rattle.model.specs.declared.op.Op.{Op}
use Rattle.model.specs.declared.op.Op.TheVariants.{Work, Delay, DelayUntil, Yield, Time, Mark, Expect, Repeat, End, If, Else, EndIf}
use Rattle.model.specs.declared.op.Op.TheVariants.{Break, Stamp, Since, Await, Do, GiveMutex, MessagesWaiting, SpacesAvailable}
use Rattle.model.specs.declared.op.Op.TheVariants.{SetBits, ClearBits, GetBits, WaitBits, Notify, AwaitNotification}
use Rattle.model.specs.declared.op.Op.TheVariants.{ClearNotification, Suspend, Resume, SuspendAll, ResumeAll}
use Rattle.model.specs.declared.op.Op.TheVariants.{EnterCritical, ExitCritical, NextCommand, Obey}
use Rattle.model.specs.declared.op.Access.{Access}
use Rattle.model.specs.declared.op.Access.TheVariants.{Receive}
use Rattle.model.specs.declared.op.Command.{Command}
use Rattle.model.specs.declared.call.Condition.{Condition}
use Rattle.model.specs.declared.call.Phase.{Phase}
use Rattle.model.specs.declared.call.Phase.TheVariants.{Start, Try, Decide, Place, Unlock, Leave}
use Rattle.model.specs.declared.call.WaitList.TheVariants.{ToReceive, ToSend}
use Rattle.model.specs.declared.event.Misuse.{Misuse}
use Rattle.model.specs.declared.event.What.TheVariants as what
use Rattle.model.specs.declared.answer.AnswerCondition.{AnswerCondition}
use Rattle.model.specs.Answers.{holds}
use Rattle.model.specs.Application.{Application, Limits, op_at}
use Rattle.model.specs.State.{State, progress_at, call_at, object_at, bits_at, notification_at, with_notification, for_one, printed}
use Rattle.model.specs.Order.{tasks_of}
use Rattle.model.specs.Switching.{preempt, slice, settle, holds_ticks, unless_held, write}
use Rattle.model.specs.Waiting.{awakened, wait_in, set_deadline, is_expired, let_go, end_hold, unlock_object, unlock}
use Rattle.model.specs.Time.{advance, increment_tick, jump, apply_one, apply_held}
use Rattle.model.specs.Ops.{answer, use_up, expect, with_sections}
use Rattle.model.specs.Objects.{possible}
use Rattle.model.specs.Calls.{decide, leave_call, await}
use Rattle.model.specs.Groups.{is_met, begin_set, set_bits, wait_for_bits, begin_bits_wait, check, wait_bits}
use Rattle.model.specs.declared.notification.NotificationWait.{NotificationWait}
use Rattle.model.specs.Notifications.{await_notification, begin_notification_wait, check_notification, entered, is_there}
use Rattle.model.specs.Notifications.{wait_for_notification}
use Rattle.model.specs.Suspension.{suspend_all, resume_scheduler, resume_all}
use Rattle.model.specs.Daemon.{next_command, obeyed, end_set_by_daemon, obey, command_at}
use Rattle.model.specs.Handlers.{interrupt, tick_interrupt, idle, ticks_ahead}
use Rattle.model.specs.Step.{judge, act, act_unless, misuse, act_if, act_current, before_step}
use Rattle.model.proofs.Sorting.{by_test}
use Rattle.soundness.proofs.Judging.{by_judgement}
use Rattle.soundness.proofs.Ticking.{either_way, lasts-final_bits}
use Rattle.model.specs.declared.event.Event.{Event}
use Rattle.machine.specs.declared.machine.Machine.{Machine}
use Rattle.machine.specs.StandsFor.{Stands, AtAny}
use Rattle.machine.proofs.Either.{steps_are}
use Rattle.soundness.proofs.Keeping.{keeps-choose, keeps-yield_now, keeps-preempt, keeps-slice, keeps-settle, keeps-unless_held}
use Rattle.soundness.proofs.Keeping.{keeps-all_ready, keeps-wake_due, keeps-go_to, keeps-answer, keeps-use_up, keeps-delay}
use Rattle.soundness.proofs.Keeping.{keeps-delay_until, keeps-open_loop, keeps-close_turn, keeps-branch, keeps-skip_branch}
use Rattle.soundness.proofs.Keeping.{keeps-leave_loop, keeps-stamp, keeps-since, keeps-set_deadline, keeps-inherit}
use Rattle.soundness.proofs.Keeping.{keeps-give_mutex}
use Rattle.soundness.proofs.Frames.{keeps-try, keeps-do_now, keeps-set, keeps-clear, keeps-answer_bits, keeps-call_suspend}
use Rattle.soundness.proofs.Frames.{keeps-call_resume, keeps-take_command, keeps-obeyed, keeps-clear_by_daemon, keeps-interrupt}
use Rattle.soundness.proofs.Coming.{comes-before_step}
use Rattle.soundness.proofs.Frames.{keeps-call_notify, keeps-clear_notification, keeps-end_notification_wait}

steps-unlock : (s : State) → (unlock s).steps ≡ s.steps
unfolding unlock
steps-unlock s = by_locked s.locked where
  by_locked : (o : Option ℕ) → (for_one unlock_object o s).steps ≡ s.steps
  by_locked None = refl
  by_locked (Some o) =
      (keeps-all_ready (tasks_of (awakened s (ToReceive o)) ++ tasks_of (awakened s (ToSend o))) (record s { locked = None })).steps

steps-decide : (i o : ℕ) (a : Access ℕ) (s : State) → (decide i o a s).steps ≡ s.steps
unfolding decide wait_in
steps-decide i o a s = by_test (possible s o a || is_expired s i)
    (λ t. rw t refl)
    (λ t. rw t (keeps-inherit i o s).steps)

-- ---- ticks that were held

steps-applied : (s : State) → (apply_one s).steps ≡ s.steps
unfolding apply_one advance
steps-applied s = (keeps-wake_due (record s { time = s.time + 1; held_ticks = s.held_ticks - 1 })).steps

steps-applies : (n : ℕ) (s : State) → (apply_held n s).steps ≡ s.steps
steps-applies zero s = refl
steps-applies (suc n) s = steps-applies n (apply_one s) ∙ steps-applied s

steps-end_hold : (i : ℕ) (phase : Phase) (s : State) → (end_hold i phase s).steps ≡ s.steps
steps-end_hold i phase s = steps-applies s.held_ticks (let_go i phase s)

-- ---- the calls

steps-leave_call : (i : ℕ) (s : State) → (leave_call i s).steps ≡ s.steps
unfolding leave_call
steps-leave_call i s =
    let free : State = end_hold i Try s in
    by_test (call_at s i).waits
    (λ t. rw t ((keeps-choose free).steps ∙ steps-end_hold i Try s))
    (λ t. rw t ((keeps-preempt free).steps ∙ steps-end_hold i Try s))

steps-await : (app : Application) (i o : ℕ) (a : Access ℕ) (ticks : Option ℕ) (phase : Phase) (s : State)
    → (await app i o a ticks phase s).steps ≡ s.steps
steps-await app i o a ticks Start s =
    let t : State = set_deadline i ticks s in
    (keeps-try app i o a t).steps ∙ (keeps-set_deadline i ticks s).steps
steps-await app i o a ticks Try s = (keeps-try app i o a s).steps
steps-await app i o a ticks Decide s = steps-decide i o a s
steps-await app i o a ticks Place s = refl
steps-await app i o a ticks Unlock s = steps-unlock s
steps-await app i o a ticks Leave s = steps-leave_call i s

steps-begin_set : (i group mask : ℕ) (s : State) → (begin_set i group mask s).steps ≡ s.steps
unfolding begin_set
steps-begin_set i group mask s = (keeps-set group mask (record s { call_hold = true })).steps

steps-end_set : (app : Application) (i : ℕ) (s : State)
    → (preempt (answer app i (call_at s i).kept (end_hold i Start s))).steps ≡ s.steps
steps-end_set app i s =
    let free : State = end_hold i Start s in
    let told : State = answer app i (call_at s i).kept free in
    (keeps-preempt told).steps ∙ (keeps-answer app i (call_at s i).kept free).steps ∙ steps-end_hold i Start s

steps-set_bits : (app : Application) (i group mask : ℕ) (phase : Phase) (s : State)
    → (set_bits app i group mask phase s).steps ≡ s.steps
steps-set_bits app i group mask Start s = steps-begin_set i group mask s
steps-set_bits app i group mask Try s = steps-end_set app i s
steps-set_bits app i group mask Decide s = steps-end_set app i s
steps-set_bits app i group mask Place s = steps-end_set app i s
steps-set_bits app i group mask Unlock s = steps-end_set app i s
steps-set_bits app i group mask Leave s = steps-end_set app i s

steps-check : (app : Application) (i group : ℕ) (c : Condition) (ticks : Option ℕ) (s : State)
    → (check app i group c ticks s).steps ≡ s.steps
unfolding check begin_bits_wait wait_for_bits set_deadline
steps-check app i group c ticks s = by_test (is_met (bits_at s group) c || option_eq eqb ticks (Some 0))
    (λ t. rw t (keeps-answer_bits app i group c s).steps)
    (λ t. rw t refl)

steps-wait_bits : (app : Application) (i group : ℕ) (c : Condition) (ticks : Option ℕ) (phase : Phase) (s : State)
    → (wait_bits app i group c ticks phase s).steps ≡ s.steps
steps-wait_bits app i group c ticks Start s = steps-check app i group c ticks s
steps-wait_bits app i group c ticks Leave s = (keeps-choose (end_hold i Try s)).steps ∙ steps-end_hold i Try s
steps-wait_bits app i group c ticks Try s = (lasts-final_bits app i group c (call_at s i).kept s).steps
steps-wait_bits app i group c ticks Decide s = (lasts-final_bits app i group c (call_at s i).kept s).steps
steps-wait_bits app i group c ticks Place s = (lasts-final_bits app i group c (call_at s i).kept s).steps
steps-wait_bits app i group c ticks Unlock s = (lasts-final_bits app i group c (call_at s i).kept s).steps

steps-begin_notice : (i : ℕ) (ticks : Option ℕ) (s : State) → (begin_notification_wait i ticks s).steps ≡ s.steps
unfolding begin_notification_wait wait_for_notification set_deadline
steps-begin_notice i ticks s = refl

steps-check_notification : (app : Application) (i : ℕ) (wait : NotificationWait) (ticks : Option ℕ) (s : State)
    → (check_notification app i wait ticks s).steps ≡ s.steps
unfolding check_notification
steps-check_notification app i wait ticks s = by_test (is_there wait (notification_at s i) || option_eq eqb ticks (Some 0))
    (λ t. rw t ((keeps-end_notification_wait app i wait s).steps))
    (λ t. rw t (steps-begin_notice i ticks s))

steps-await_notification : (app : Application) (i : ℕ) (wait : NotificationWait) (ticks : Option ℕ) (phase : Phase) (s : State)
    → (await_notification app i wait ticks phase s).steps ≡ s.steps
steps-await_notification app i wait ticks Start s =
    steps-check_notification app i wait ticks (with_notification i (entered wait (notification_at s i)) s)
steps-await_notification app i wait ticks Leave s = (keeps-choose (end_hold i Try s)).steps ∙ steps-end_hold i Try s
steps-await_notification app i wait ticks Try s = (keeps-end_notification_wait app i wait s).steps
steps-await_notification app i wait ticks Decide s = (keeps-end_notification_wait app i wait s).steps
steps-await_notification app i wait ticks Place s = (keeps-end_notification_wait app i wait s).steps
steps-await_notification app i wait ticks Unlock s = (keeps-end_notification_wait app i wait s).steps

steps-next_command : (app : Application) (i o : ℕ) (phase : Phase) (s : State) → (next_command app i o phase s).steps ≡ s.steps
steps-next_command app i o Start s = (keeps-take_command app i o s).steps
steps-next_command app i o Try s = (keeps-take_command app i o s).steps
steps-next_command app i o Decide s = steps-await app i o Receive None Decide s
steps-next_command app i o Place s = steps-await app i o Receive None Place s
steps-next_command app i o Unlock s = steps-await app i o Receive None Unlock s
steps-next_command app i o Leave s = steps-await app i o Receive None Leave s

steps-end_command : (app : Application) (i group : ℕ) (s : State) → (end_set_by_daemon app i group s).steps ≡ s.steps
steps-end_command app i group s =
    let free : State = end_hold i Start s in
    let told : State = obeyed app i false (bits_at s group) free in
    (keeps-preempt told).steps ∙ (keeps-obeyed app i false (bits_at s group) free).steps ∙ steps-end_hold i Start s

steps-obey : (app : Application) (i : ℕ) (c : Command) (phase : Phase) (s : State) → (obey app i c phase s).steps ≡ s.steps
steps-obey app i c Start s = by_test c.clear
    (λ t. rw t (keeps-clear_by_daemon app i c.group c.mask s).steps)
    (λ t. rw t (steps-begin_set i c.group c.mask s))
steps-obey app i c Try s = steps-end_command app i c.group s
steps-obey app i c Decide s = steps-end_command app i c.group s
steps-obey app i c Place s = steps-end_command app i c.group s
steps-obey app i c Unlock s = steps-end_command app i c.group s
steps-obey app i c Leave s = steps-end_command app i c.group s

steps-expect : (app : Application) (i : ℕ) (condition : AnswerCondition) (s : State) → (expect app i condition s).steps ≡ s.steps
unfolding expect
steps-expect app i condition s = by_test (holds s.variables condition (progress_at s i).answer)
    (λ t. rw t (keeps-go_to app i ((progress_at s i).op_index + 1) (progress_at s i) s).steps)
    (λ t. rw t refl)

-- ---- the tick, and the scheduler suspended and resumed

steps-increment : (s : State) → (increment_tick s).steps ≡ s.steps
unfolding increment_tick advance
steps-increment s = by_test (holds_ticks s)
    (λ t. rw t refl)
    (λ t. rw t (keeps-wake_due (record s { time = s.time + 1; elapsed = s.elapsed + 1 })).steps)

steps-tick : (app : Application) (s : State) → (tick_interrupt app s).steps ≡ s.steps
unfolding tick_interrupt
steps-tick app s =
    let come : State = increment_tick s in
    let told : State = interrupt app come in
    (keeps-unless_held slice told keeps-slice).steps ∙ (keeps-interrupt app come).steps ∙ steps-increment s

steps-idle : (app : Application) (limits : Limits) (s : State) → (idle app limits s).steps ≡ s.steps
unfolding idle jump
steps-idle app limits s =
    let come : State = jump (ticks_ahead app limits s) s in
    let told : State = interrupt app come in
    either_way (λ t. t.steps ≡ s.steps) app.tickless (unless_held slice told) (tick_interrupt app s)
    ((keeps-unless_held slice told keeps-slice).steps ∙ (keeps-interrupt app come).steps
    ∙ (keeps-wake_due
    (record s { time = s.time + ticks_ahead app limits s; elapsed = s.elapsed + ticks_ahead app limits s })).steps)
    (steps-tick app s)

steps-resumes : (s : State) → (resume_scheduler s).steps ≡ s.steps
unfolding resume_scheduler
steps-resumes s = by_test (eqb s.suspensions 1)
    (λ t. rw t (steps-applies s.held_ticks (record s { suspensions = s.suspensions - 1 })))
    (λ t. rw t refl)

steps-resumes_all : (app : Application) (i : ℕ) (s : State) → (resume_all app i s).steps ≡ s.steps
unfolding resume_all
steps-resumes_all app i s =
    let t : State = resume_scheduler s in
    let u : State = answer app i (Some 0) t in
    (keeps-unless_held preempt u keeps-preempt).steps ∙ (keeps-answer app i (Some 0) t).steps ∙ steps-resumes s

steps-suspends_all : (app : Application) (i : ℕ) (s : State) → (suspend_all app i s).steps ≡ s.steps
unfolding suspend_all
steps-suspends_all app i s = (keeps-answer app i (Some 0) (record s { suspensions = s.suspensions + 1 })).steps

-- ---- the ops

steps-act : (app : Application) (i : ℕ) (op : Op) (s : State) → (act app i op s).steps ≡ s.steps
unfolding with_sections
steps-act app i (Work n) s = steps-tick app (use_up app i n s) ∙ (keeps-use_up app i n s).steps
steps-act app i (Delay n) s = (keeps-delay app i n s).steps
steps-act app i (DelayUntil n) s = (keeps-delay_until app i ((progress_at s i).previous_wake + n) s).steps
steps-act app i Yield s = (keeps-yield_now (answer app i (Some 0) s)).steps ∙ (keeps-answer app i (Some 0) s).steps
steps-act app i Time s = (keeps-answer app i (Some (printed s.time)) s).steps
steps-act app i (Value op) s = (keeps-calculate app i op s).steps
steps-act app i (op.Source j what) s = (keeps-control app i j what s).steps
steps-act app i (Mark value) s =
    let n : ℕ = number_of s.variables (progress_at s i).answer value in
    (keeps-go_to app i ((progress_at s i).op_index + 1) (progress_at s i) (write (what.Mark i n) s)).steps
steps-act app i (Expect a) s = steps-expect app i a s
steps-act app i (Repeat n) s = (keeps-open_loop app i n s).steps
steps-act app i End s = (keeps-close_turn app i s).steps
steps-act app i (If c) s = (keeps-branch app i c s).steps
steps-act app i Else s = (keeps-skip_branch app i s).steps
steps-act app i EndIf s = (keeps-go_to app i ((progress_at s i).op_index + 1) (progress_at s i) s).steps
steps-act app i Break s = (keeps-leave_loop app i s).steps
steps-act app i Stamp s = (keeps-stamp app i s).steps
steps-act app i Since s = (keeps-since app i s).steps
steps-act app i (Await o a ticks) s = steps-await app i o (call_with_number s i a) ticks (call_at s i).phase s
steps-act app i (Do o a) s = (keeps-do_now app i o (call_with_number s i a) s).steps
steps-act app i (GiveMutex o) s = (keeps-give_mutex app i o s).steps
steps-act app i (MessagesWaiting o) s = (keeps-answer app i (Some (length (object_at s o).items)) s).steps
steps-act app i (SpacesAvailable o) s = (keeps-answer app i (Some ((object_at s o).size - length (object_at s o).items)) s).steps
steps-act app i (SetBits g m) s = steps-set_bits app i g m (call_at s i).phase s
steps-act app i (ClearBits g m) s = (keeps-clear app i g m s).steps
steps-act app i (GetBits g) s = (keeps-answer app i (Some (bits_at s g)) s).steps
steps-act app i (WaitBits g c ticks) s = steps-wait_bits app i g c ticks (call_at s i).phase s
steps-act app i (Notify j a) s = (keeps-call_notify app i j (notify_by_number s i a) s).steps
steps-act app i (AwaitNotification w ticks) s = steps-await_notification app i w ticks (call_at s i).phase s
steps-act app i (ClearNotification x) s = (keeps-clear_notification app i x s).steps
steps-act app i (Suspend j) s = (keeps-call_suspend app i j s).steps
steps-act app i (Resume j) s = (keeps-call_resume app i j s).steps
steps-act app i SuspendAll s = steps-suspends_all app i s
steps-act app i ResumeAll s = steps-resumes_all app i s
steps-act app i EnterCritical s =
    (keeps-go_to app i ((progress_at s i).op_index + 1) (progress_at s i) (record s { sections = s.sections + 1 })).steps
steps-act app i ExitCritical s =
    (keeps-go_to app i ((progress_at s i).op_index + 1) (progress_at s i) (record s { sections = s.sections - 1 })).steps
steps-act app i (NextCommand o) s = steps-next_command app i o (call_at s i).phase s
steps-act app i Obey s = steps-obey app i (command_at s i) (call_at s i).phase s

steps-judged : (i op_index : ℕ) (s : State) → (judge i op_index s).steps ≡ s.steps
steps-judged i op_index s = by_judgement (λ (t : State). t.steps ≡ s.steps) i op_index s refl (λ kind. refl)

steps-act_unless : (app : Application) (i : ℕ) (kind : Option Misuse) (op : Op) (s : State)
    → (act_unless app i kind op s).steps ≡ s.steps
steps-act_unless app i None op s =
    steps-judged i (progress_at s i).op_index (act_by_value app i op s)
    ∙ by_value (λ (t : State). t.steps ≡ s.steps) app i op s refl (steps-act app i op s)
steps-act_unless app i (Some kind) op s = refl

steps-act_if : (app : Application) (i : ℕ) (o : Option Op) (s : State) → (act_if app i o s).steps ≡ s.steps
steps-act_if app i None s = refl
steps-act_if app i (Some op) s = steps-act_unless app i (misuse s i op) op s

steps-act_current : (app : Application) (limits : Limits) (r : Option ℕ) (s : State) → (act_current app limits r s).steps ≡ s.steps
steps-act_current app limits None s = steps-idle app limits s
steps-act_current app limits (Some i) s = steps-act_if app i (op_at app i (progress_at s i).op_index) s

-- So what a step does, before it is counted, leaves their number.
pub steps_acted : (app : Application) (limits : Limits) (handlers : List ℕ) (s : State)
    → (unless_held settle (act_current app limits (before_step app handlers s).current (before_step app handlers s))).steps
    ≡ s.steps
steps_acted app limits handlers s =
    let begun : State = before_step app handlers s in
    let acted : State = act_current app limits begun.current begun in
    (keeps-unless_held settle acted keeps-settle).steps
    ∙ steps-act_current app limits begun.current begun ∙ (comes-before_step app handlers s).steps

-- The kernel has the number of before, then.
pub steps_still : (app : Application) (limits : Limits) (handlers : List ℕ) (s : State) (k new : Machine) (log : List Event)
    → Stands k s
    → AtAny new log (unless_held settle (act_current app limits (before_step app handlers s).current (before_step app handlers s)))
    → new.steps ≡ k.steps
steps_still app limits handlers s k new log h a =
    steps_are new _ a.stands ∙ steps_acted app limits handlers s ∙ sym (steps_are k s h)
