-- What is left as it was by calls that wait, event groups, notifications, the daemon, values, sources and handlers.
use Rattle.model.specs.declared.value.ValueOp.{ValueOp}
use Rattle.model.specs.Ops.{calculate, store}
use Rattle.model.specs.Values.{answer_of, number_of, with_number}
use Rattle.std.proofs.Common.{◌≡◌, ◌+◌, ◌-◌, ◌++◌, ℕ, Bool, true, false, List, ◌∷◌, Option, Some, []}
use Rattle.std.proofs.Common.{None}
use Rattle.std.proofs.Common.{refl, ap, map, get_or}
use Rattle.std.proofs.Common.{set as list_set}
use Rattle.std.specs.Prelude.{if◌then◌else◌}
use Rattle.std.proofs.Common.{zero, suc}
use Rattle.model.specs.declared.op.Access.{Access}
use Rattle.model.specs.declared.op.Access.TheVariants.{Send, Receive}
use Rattle.model.specs.declared.call.Phase.TheVariants.{Decide}
use Rattle.model.specs.declared.event.What.{What}
use Rattle.model.specs.declared.event.What.TheVariants as what
use Rattle.model.specs.declared.op.IsrOp.{IsrOp}
use Rattle.model.specs.declared.op.IsrOp.TheVariants as isr_op
use Rattle.model.specs.declared.event.End.{End}
use Rattle.model.specs.declared.notification.Notification.{Notification}
use Rattle.model.specs.declared.notification.NotifyAction.{NotifyAction}
use Rattle.model.specs.declared.notification.NotificationWait.{NotificationWait}
use Rattle.model.specs.declared.notification.NotificationClear.{NotificationClear}
use Rattle.model.specs.declared.event.End.TheVariants.{HandlerCheck}
use Rattle.model.specs.Application.{Application, commands_of, ops_of, interrupts_at}
use Rattle.model.specs.State.{State, Source, no_source, source_at, with_source}
use Rattle.model.specs.State.{Progress, Ready, Suspended, task_at, status_at, progress_at}
use Rattle.model.specs.State.{call_at, with_progress, bits_at, with_bits}
use Rattle.model.specs.State.{for_each, waits_for_notification, notification_at, with_notification}
use Rattle.model.specs.Switching.{make_ready}
use Rattle.model.specs.Switching.{preempt, write}
use Rattle.model.specs.Waiting.{is_expired}
use Rattle.model.specs.Objects.{possible, answer_to, fulfil, attempt}
use Rattle.model.specs.Calls.{try, do_now}
use Rattle.model.specs.Ops.{one_if, answer}
use Rattle.model.specs.Ops.{fail, do_to_source, control}
use Rattle.model.specs.declared.call.Condition.{Condition}
use Rattle.model.specs.Groups.{is_met, bits_without, bits_left, keep_answer, met_by, wake_with_bits, bits_set, set, left_by}
use Rattle.model.specs.Groups.{clear, answer_bits, wake_all}
use Rattle.model.specs.Suspension.{can_suspend, can_resume, suspend, resumed, resume, call_suspend, call_resume}
use Rattle.model.specs.Notifications.{notify_with_number, notified, notify_answer, wake_notified, notify, call_notify, wait_answer}
use Rattle.model.specs.Notifications.{left_by_wait, end_notification_wait, clear_answer, cleared, clear_notification}
use Rattle.model.specs.Daemon.{item_of, received, take_command, obeyed, clear_by_daemon}
use Rattle.model.specs.Mutexes.{after_timeout}
use Rattle.model.specs.Handlers.{isr_told, isr, isr_answer, isr_jump, is_failed, isr_each, handle, interrupt, come, note_coming}
use Rattle.model.specs.Handlers.{free_after, is_raised_for, none_raised_now, raised_now}
use Rattle.model.specs.declared.source.SourceOp.{SourceOp}
use Rattle.model.specs.declared.source.SourceOp.TheVariants.{Arm, Disarm, Raise, Cancel}
use Rattle.model.proofs.Sorting.{by_test}
use Rattle.soundness.proofs.Keeping.{Keeps, keeps, keeps_both, keeps-with_task, keeps-take_ticket, keeps-preempt, keeps-each}
use Rattle.soundness.proofs.Keeping.{keeps-go_to, keeps-answer, keeps-fulfil, keeps-attempt, keeps-with_call, keeps-after_timeout}

-- ---- calls that may wait, and those that don't

pub keeps-try : (app : Application) (i o : ℕ) (a : Access ℕ) (s : State) → Keeps s (try app i o a s)
unfolding try
keeps-try app i o a s =
    let t : State = fulfil (Some i) o a s in
    let u : State = answer app i (answer_to s o a) t in
    by_test (possible s o a)
    (λ p.
    rw p (keeps_both s t (preempt u) (keeps-fulfil (Some i) o a s)
    (keeps_both t u (preempt u) (keeps-answer app i (answer_to s o a) t) (keeps-preempt u))))
    (λ p. rw p (by_test (is_expired s i)
    (λ q.
    rw q (keeps_both s (after_timeout i o s) (answer app i (answer_to s o a) (after_timeout i o s))
    (keeps-after_timeout i o s) (keeps-answer app i (answer_to s o a) (after_timeout i o s))))
    (λ q. rw q (keeps-with_call i (record (call_at s i) { phase = Decide }) s))))

pub keeps-do_now : (app : Application) (i o : ℕ) (a : Access ℕ) (s : State) → Keeps s (do_now app i o a s)
unfolding do_now
keeps-do_now app i o a s =
    let t : State = attempt (Some i) o a s in
    let u : State = answer app i (answer_to s o a) t in
    keeps_both s t (preempt u) (keeps-attempt (Some i) o a s)
    (keeps_both t u (preempt u) (keeps-answer app i (answer_to s o a) t) (keeps-preempt u))

-- ---- event groups, and tasks suspended and resumed

pub keeps-with_bits : (group bits : ℕ) (s : State) → Keeps s (with_bits group bits s)
keeps-with_bits group bits s = record {
  time = refl;
  elapsed = refl;
  steps = refl;
  tasks = refl;
  hold = refl;
  suspension =
      refl;
  pending = refl;
}

keeps-wake_with_bits : (bits i : ℕ) (s : State) → Keeps s (wake_with_bits i bits s)
keeps-wake_with_bits bits i s =
    let t : State = keep_answer i bits s in
    keeps_both s t (make_ready i t) (keeps-with_call i (record (call_at s i) { kept = Some bits }) s) (keeps-take_ticket i Ready t)

pub keeps-wake_all : (bits : ℕ) (is : List ℕ) (s : State) → Keeps s (wake_all is bits s)
keeps-wake_all bits is s = keeps-each (λ i. wake_with_bits i bits) (keeps-wake_with_bits bits) is s

pub keeps-set : (group mask : ℕ) (s : State) → Keeps s (set group mask s)
unfolding set
keeps-set group mask s =
    let bits : ℕ = bits_set group mask s in
    let met : List ℕ = met_by group bits s in
    let t : State = wake_all met bits s in
    keeps_both s t (with_bits group (left_by met bits s) t) (keeps-wake_all bits met s)
    (keeps-with_bits group (left_by met bits s) t)

pub keeps-clear : (app : Application) (i group mask : ℕ) (s : State) → Keeps s (clear app i group mask s)
unfolding clear
keeps-clear app i group mask s =
    let t : State = with_bits group (bits_without (bits_at s group) mask) s in
    keeps_both s t (answer app i (Some (bits_at s group)) t)
    (keeps-with_bits group (bits_without (bits_at s group) mask) s) (keeps-answer app i (Some (bits_at s group)) t)

pub keeps-answer_bits : (app : Application) (i group : ℕ) (c : Condition) (s : State) → Keeps s (answer_bits app i group c s)
unfolding answer_bits
keeps-answer_bits app i group c s =
    let bits : ℕ = bits_at s group in
    let t : State = with_bits group (bits_left bits c) s in
    by_test (is_met bits c)
    (λ q.
    rw q (keeps_both s t (answer app i (Some bits) t)
    (keeps-with_bits group (bits_left bits c) s) (keeps-answer app i (Some bits) t)))
    (λ q. rw q (keeps-answer app i (Some bits) s))

pub keeps-suspend : (i : ℕ) (s : State) → Keeps s (suspend i s)
unfolding suspend
keeps-suspend i s = by_test (can_suspend (status_at s i))
    (λ t. rw t (keeps-with_task i (record (task_at s i) { status = Suspended }) s))
    (λ t. rw t (keeps s))

pub keeps-resume : (i : ℕ) (s : State) → Keeps s (resume i s)
unfolding resume
keeps-resume i s =
    let p : Progress = resumed s.time (progress_at s i) in
    let t : State = with_progress i p s in
    by_test (can_resume (status_at s i))
    (λ q.
    rw q (keeps_both s t (make_ready i t)
    (keeps-with_task i (record (task_at s i) { progress = p }) s) (keeps-take_ticket i Ready t)))
    (λ q. rw q (keeps s))

keeps-replied : (app : Application) (i : ℕ) (a : Option ℕ) (s t : State) → Keeps s t → Keeps s (preempt (answer app i a t))
keeps-replied app i a s t k =
    let u : State = answer app i a t in
    keeps_both s t (preempt u) k (keeps_both t u (preempt u) (keeps-answer app i a t) (keeps-preempt u))

pub keeps-call_suspend : (app : Application) (i other : ℕ) (s : State) → Keeps s (call_suspend app i other s)
unfolding call_suspend
keeps-call_suspend app i other s =
    keeps-replied app i (one_if (can_suspend (status_at s other))) s (suspend other s) (keeps-suspend other s)

pub keeps-call_resume : (app : Application) (i other : ℕ) (s : State) → Keeps s (call_resume app i other s)
unfolding call_resume
keeps-call_resume app i other s =
    keeps-replied app i (one_if (can_resume (status_at s other))) s (resume other s) (keeps-resume other s)

-- ---- notifications

pub keeps-with_notification : (i : ℕ) (n : Notification) (s : State) → Keeps s (with_notification i n s)
keeps-with_notification i n s =
    record { time = refl; elapsed = refl; steps = refl; tasks = refl; hold = refl; suspension = refl; pending = refl }

pub keeps-wake_notified : (i : ℕ) (s : State) → Keeps s (wake_notified i s)
keeps-wake_notified i s = by_test (waits_for_notification (status_at s i))
    (λ t. rw t (keeps-take_ticket i Ready s))
    (λ t. rw t (keeps s))

pub keeps-notify : (i : ℕ) (action : NotifyAction ℕ) (s : State) → Keeps s (notify i action s)
unfolding notify
keeps-notify i action s =
    let n : Notification = notified action (notification_at s i) in
    let t : State = with_notification i n s in
    keeps_both s t (wake_notified i t) (keeps-with_notification i n s) (keeps-wake_notified i t)

pub keeps-call_notify : (app : Application) (i other : ℕ) (action : NotifyAction ℕ) (s : State)
    → Keeps s (call_notify app i other action s)
unfolding call_notify
keeps-call_notify app i other action s =
    keeps-replied app i (notify_answer action (notification_at s other)) s (notify other action s) (keeps-notify other action s)

-- the task leaves this of its notification, and answers
keeps-left : (app : Application) (i : ℕ) (n : Notification) (a : Option ℕ) (s : State)
    → Keeps s (answer app i a (with_notification i n s))
keeps-left app i n a s =
    let t : State = with_notification i n s in
    keeps_both s t (answer app i a t) (keeps-with_notification i n s) (keeps-answer app i a t)

pub keeps-end_notification_wait : (app : Application) (i : ℕ) (wait : NotificationWait) (s : State)
    → Keeps s (end_notification_wait app i wait s)
unfolding end_notification_wait
keeps-end_notification_wait app i wait s =
    keeps-left app i (left_by_wait wait (notification_at s i)) (wait_answer wait (notification_at s i)) s

pub keeps-clear_notification : (app : Application) (i : ℕ) (what : NotificationClear) (s : State)
    → Keeps s (clear_notification app i what s)
unfolding clear_notification
keeps-clear_notification app i what s =
    keeps-left app i (cleared what (notification_at s i)) (clear_answer what (notification_at s i)) s

-- ---- the daemon

pub keeps-received : (app : Application) (i : ℕ) (a : Option ℕ) (s : State) → Keeps s (received app i a s)
unfolding received
keeps-received app i a s = keeps-go_to app i ((progress_at s i).op_index + 1) (record (progress_at s i) { answer = a }) s

pub keeps-take_command : (app : Application) (i o : ℕ) (s : State) → Keeps s (take_command app i o s)
unfolding take_command
keeps-take_command app i o s =
    let t : State = fulfil (Some i) o Receive s in
    let u : State = received app i (answer_to s o Receive) t in
    by_test (possible s o Receive)
    (λ p.
    rw p (keeps_both s t (preempt u) (keeps-fulfil (Some i) o Receive s)
    (keeps_both t u (preempt u) (keeps-received app i (answer_to s o Receive) t) (keeps-preempt u))))
    (λ p. rw p (keeps-with_call i (record (call_at s i) { phase = Decide }) s))

pub keeps-obeyed : (app : Application) (i : ℕ) (clear : Bool) (bits : ℕ) (s : State) → Keeps s (obeyed app i clear bits s)
unfolding obeyed
keeps-obeyed app i clear bits s =
    let k = keeps-go_to app i 0 (record (progress_at s i) { answer = Some bits }) (write (what.Obeyed i clear bits) s) in
    record {
      time = k.time;
      elapsed = k.elapsed;
      steps = k.steps;
      tasks = k.tasks;
      hold = k.hold;
      suspension =
          k.suspension;
      pending = k.pending;
    }

pub keeps-clear_by_daemon : (app : Application) (i group mask : ℕ) (s : State) → Keeps s (clear_by_daemon app i group mask s)
unfolding clear_by_daemon
keeps-clear_by_daemon app i group mask s =
    let bits : ℕ = bits_without (bits_at s group) mask in
    let t : State = with_bits group bits s in
    keeps_both s t (obeyed app i true (bits_at s group) t)
    (keeps-with_bits group bits s) (keeps-obeyed app i true (bits_at s group) t)

-- ---- values

pub keeps-store : (op : ValueOp) (a : Option ℕ) (s : State) → Keeps s (store op a s)
keeps-store op a s = record {
  time = refl;
  elapsed = refl;
  steps = refl;
  tasks = refl;
  hold = refl;
  suspension = refl;
  pending = refl;
}

pub keeps-calculate : (app : Application) (i : ℕ) (op : ValueOp) (s : State) → Keeps s (calculate app i op s)
unfolding calculate
keeps-calculate app i op s =
    let a : Option ℕ = answer_of s.variables (progress_at s i).answer op in
    keeps_both s (store op a s) (calculate app i op s) (keeps-store op a s) (keeps-answer app i a (store op a s))

-- ---- interrupt sources

pending_set : (xs : List Source) (i : ℕ) (x : Source) → x.pending ≡ (get_or xs i no_source).pending
    → map (λ (y : Source). y.pending) (list_set xs i x) ≡ map (λ (y : Source). y.pending) xs
pending_set [] i x same = refl
pending_set (y ∷ ys) zero x same = ap (λ (b : Bool). b ∷ map (λ (z : Source). z.pending) ys) same
pending_set (y ∷ ys) (suc i) x same = ap (λ (bs : List Bool). y.pending ∷ bs) (pending_set ys i x same)

-- A source that is as pending as it was is put in its place.
pub keeps-with_source : (i : ℕ) (x : Source) (s : State) → x.pending ≡ (source_at s i).pending → Keeps s (with_source i x s)
keeps-with_source i x s same = record {
  time = refl;
  elapsed = refl;
  steps = refl;
  tasks = refl;
  hold = refl;
  suspension = refl;
  pending = pending_set s.sources i x same;
}

pub keeps-do_to_source : (handler : ℕ) (op : SourceOp) (s : State) → Keeps s (do_to_source handler op s)
keeps-do_to_source handler Arm s = keeps-with_source handler (record (source_at s handler) { armed = true }) s refl
keeps-do_to_source handler Disarm s = keeps-with_source handler (record (source_at s handler) { armed = false }) s refl
keeps-do_to_source handler (Raise ticks) s =
    keeps-with_source handler (record (source_at s handler) { raised = Some (s.elapsed + ticks) }) s refl
keeps-do_to_source handler Cancel s = keeps-with_source handler (record (source_at s handler) { raised = None }) s refl

pub keeps-control : (app : Application) (i handler : ℕ) (op : SourceOp) (s : State) → Keeps s (control app i handler op s)
unfolding control
keeps-control app i handler op s =
    let t : State = do_to_source handler op s in
    keeps_both s t (control app i handler op s) (keeps-do_to_source handler op s)
    (keeps-go_to app i ((progress_at s i).op_index + 1) (progress_at s i) t)

pub keeps-note_coming : (app : Application) (handler : ℕ) (s : State) → Keeps s (note_coming app handler s)
keeps-note_coming app handler s =
    keeps-with_source handler (record (source_at s handler) { free_from = free_after app handler s }) s refl

pending_lowered : (tick : ℕ) (xs : List Source)
    → map (λ (x : Source). x.pending) (map (λ (x : Source). if is_raised_for tick x then record x { raised = None } else x) xs)
    ≡ map (λ (x : Source). x.pending) xs
pending_lowered tick [] = refl
pending_lowered tick (x ∷ xs) = by_test (is_raised_for tick x)
    (λ t. rw t (ap (λ (bs : List Bool). x.pending ∷ bs) (pending_lowered tick xs)))
    (λ t. rw t (ap (λ (bs : List Bool). x.pending ∷ bs) (pending_lowered tick xs)))

pub keeps-none_raised_now : (s : State) → Keeps s (none_raised_now s)
keeps-none_raised_now s = record {
  time = refl;
  elapsed = refl;
  steps = refl;
  tasks = refl;
  hold = refl;
  suspension = refl;
  pending = pending_lowered s.elapsed s.sources;
}

-- ---- handlers

pub keeps-write : (w : What) (s : State) → Keeps s (write w s)
keeps-write w s = record { time = refl; elapsed = refl; steps = refl; tasks = refl; hold = refl; suspension = refl; pending = refl }

pub keeps-isr : (app : Application) (handler op_index : ℕ) (op : IsrOp) (answer : Option ℕ) (s : State)
    → Keeps s (isr app handler op_index op answer s)
keeps-isr app handler op_index (isr_op.Do o a) last s =
    let access : Access ℕ = with_number s.variables last a in
    let t : State = attempt None o access s in
    let w : What = isr_told handler op_index (answer_to s o access) in
    keeps_both s t (write w t) (keeps-attempt None o access s) (keeps-write w t)
keeps-isr app handler op_index (isr_op.Command c) last s =
    let send : Access ℕ = Send (item_of c) in
    let t : State = attempt None (commands_of app) send s in
    let w : What = isr_told handler op_index (answer_to s (commands_of app) send) in
    keeps_both s t (write w t) (keeps-attempt None (commands_of app) send s) (keeps-write w t)
keeps-isr app handler op_index (isr_op.Resume task) last s =
    let t : State = resume task s in
    let w : What = isr_told handler op_index (one_if (can_resume (status_at s task))) in
    keeps_both s t (write w t) (keeps-resume task s) (keeps-write w t)
keeps-isr app handler op_index (isr_op.GetBits group) last s =
    keeps-write (isr_told handler op_index (Some (bits_at s group))) s
keeps-isr app handler op_index (isr_op.Notify task action) last s =
    let a : NotifyAction ℕ = notify_with_number s.variables last action in
    let t : State = notify task a s in
    let w : What = isr_told handler op_index (notify_answer a (notification_at s task)) in
    keeps_both s t (write w t) (keeps-notify task a s) (keeps-write w t)
keeps-isr app handler op_index (isr_op.Value op) last s =
    let a : Option ℕ = answer_of s.variables last op in
    let w : What = isr_told handler op_index a in
    keeps_both s (store op a s) (write w (store op a s)) (keeps-store op a s) (keeps-write w (store op a s))
keeps-isr app handler op_index (isr_op.Source other op) last s = keeps-do_to_source other op s
keeps-isr app handler op_index (isr_op.Mark value) last s =
    keeps-write (what.IsrMark handler (number_of s.variables last value)) s
keeps-isr app handler op_index (isr_op.Expect condition) last s = keeps s
keeps-isr app handler op_index (isr_op.If condition) last s = keeps s
keeps-isr app handler op_index isr_op.Else last s = keeps s
keeps-isr app handler op_index isr_op.EndIf last s = keeps s

pub keeps-fail : (check : End) (s : State) → Keeps s (fail check s)
keeps-fail check s = record {
  time = refl;
  elapsed = refl;
  steps = refl;
  tasks = refl;
  hold = refl;
  suspension = refl;
  pending = refl;
}

keeps-isr_each : (app : Application) (handler op_index over : ℕ) (answer : Option ℕ) (ops : List IsrOp) (s : State)
    → Keeps s (isr_each app handler op_index over answer ops s)
keeps-isr_each app handler op_index over answer [] s = keeps s
keeps-isr_each app handler op_index (suc over) answer (op ∷ ops) s = keeps-isr_each app handler (op_index + 1) over answer ops s
keeps-isr_each app handler op_index zero answer (op ∷ ops) s =
    let t : State = isr app handler op_index op answer s in
    let next : Option ℕ = isr_answer app s op answer in
    let over : ℕ = isr_jump s op answer ops in
    by_test (is_failed s op answer)
    (λ f. rw f (keeps-fail (HandlerCheck handler op_index) s))
    (λ f.
    rw f (keeps_both s t (isr_each app handler (op_index + 1) over next ops t)
    (keeps-isr app handler op_index op answer s) (keeps-isr_each app handler (op_index + 1) over next ops t)))

pub keeps-handle : (app : Application) (handler : ℕ) (s : State) → Keeps s (handle app handler s)
unfolding handle
keeps-handle app handler s = keeps-isr_each app handler 0 0 None (ops_of app handler) s

pub keeps-come : (app : Application) (handler : ℕ) (s : State) → Keeps s (come app handler s)
unfolding come
keeps-come app handler s =
    let noted : State = note_coming app handler s in
    keeps_both s noted (handle app handler noted) (keeps-note_coming app handler s) (keeps-handle app handler noted)

pub keeps-interrupt : (app : Application) (s : State) → Keeps s (interrupt app s)
unfolding interrupt
keeps-interrupt app s =
    let lowered : State = none_raised_now s in
    let all : List ℕ = interrupts_at app s.elapsed ++ raised_now s in
    keeps_both s lowered (for_each (come app) all lowered) (keeps-none_raised_now s)
    (keeps-each (come app) (keeps-come app) all lowered)
