-- What a change may do to a task, to a variable, to a notification, and to a run that goes on.
use Rattle.model.specs.declared.value.ValueOp.{ValueOp}
use Rattle.model.specs.declared.event.End.TheVariants.{Check, HandlerCheck}
use Rattle.model.specs.declared.value.ValueOp.TheVariants as value_op
use Rattle.model.specs.Values.{stored, variable_in}
use Rattle.std.proofs.lemmas.List.{get_or-set_other, get_or_past}
use Rattle.model.proofs.Lists.{eqb-refl, eqb-same}
use Rattle.laws.specs.Values.{is_store_to}
use Rattle.std.proofs.Common.{[], get_or-set_same, length, ltb-false, ◌≡◌, ◌≢◌, ◌<◌, ◌+◌, ◌||◌, ℕ, zero, suc, true, false, eqb}
use Rattle.std.proofs.Common.{leb, ltb, leb-false, inl, inr, ◌⊎◌, List, ◌∷◌, map, get_or, set, Option, Some, None, refl, ap}
use Rattle.std.proofs.Common.{ap₂, sym, subst, arith}
use Rattle.std.specs.Prelude.{Bool}
use Rattle.std.specs.Option.{IfSome, option_eq, option_map, option_or, unwrap_or}
use Rattle.std.proofs.lemmas.Bool.{ltb-true}
use Rattle.std.proofs.Math.ListN.{length-set}
use Rattle.model.specs.declared.notification.Notification.{Notification}
use Rattle.model.specs.declared.notification.NotificationWait.{NotificationWait}
use Rattle.model.specs.declared.notification.NotificationWait.TheVariants.{Take, Wait}
use Rattle.model.specs.Notifications.{entered}
use Rattle.model.specs.State.{notification_at, with_notification, State, Task, Status, Ready, Awake, Waiting, Asleep}
use Rattle.model.specs.State.{WaitingForBits, WaitingForNotification, Suspended, Ended, ticket_of, wake_time_of, task_at}
use Rattle.model.specs.State.{progress_at, call_at, with_task, no_task}
use Rattle.model.specs.declared.event.End.{End as Ending}
use Rattle.model.specs.Application.{Definition}
use Rattle.model.specs.Waiting.{awake_status, set_deadline, is_expired}
use Rattle.model.specs.Mutexes.{inherit}
use Rattle.model.specs.declared.call.Condition.{Condition}
use Rattle.model.specs.Groups.{want, check}
use Rattle.model.specs.Step.{task_at_reset}
use Rattle.model.proofs.Sorting.{by_test}
use Rattle.soundness.proofs.Keeping.{keeps-inherit}
use Rattle.soundness.proofs.Inheriting.{reranks-inherit}
use Rattle.laws.specs.Looking.{is_by_misuse}

-- ---- a task that goes on

-- a task whose status has this ticket, and wakes by itself then, or it has none, and doesn't
abbrev pub Stays : Status → Status → Type 0
Stays old new =
    ((ticket_of new ≡ ticket_of old) × (wake_time_of new ≡ wake_time_of old)) ⊎ ((ticket_of new ≡ None) × (wake_time_of new ≡ None))

pub same_awake : (u : Status) → (ticket_of (awake_status u) ≡ ticket_of u) × (wake_time_of (awake_status u) ≡ wake_time_of u)
same_awake (Ready n) = (refl, refl)
same_awake (Awake w) = (refl, refl)
same_awake (Waiting w) = (refl, refl)
same_awake (Asleep w n) = (refl, refl)
same_awake (WaitingForBits g n d) = (refl, refl)
same_awake (WaitingForNotification n d) = (refl, refl)
same_awake Suspended = (refl, refl)
same_awake Ended = (refl, refl)

pub still_to_come : (deadline : Option ℕ) (now : ℕ)
    → unwrap_or (option_map (λ d. leb d now) deadline) false ≡ false → IfSome deadline (λ d. now < d)
still_to_come None now t = tt
still_to_come (Some d) now t = leb-false d now t

-- inheriting doesn't bring a deadline nearer
pub expired_inherited : (s : State) (i o : ℕ) → is_expired (inherit i o s) i ≡ is_expired s i
expired_inherited s i o =
    ap₂ (λ (deadline : Option ℕ) (now : ℕ). unwrap_or (option_map (λ d. leb d now) deadline) false)
    ((reranks-inherit s i o).at i).deadline (keeps-inherit i o s).time

pub or_false_right : (a b : Bool) → (a || b) ≡ false → b ≡ false
or_false_right false b t = t
or_false_right true b t = absurd (cc)

-- a wait for some ticks ends later
ticks_later : (ticks : Option ℕ) (now : ℕ) → option_eq eqb ticks (Some 0) ≡ false
    → IfSome (option_map (λ n. now + n) ticks) (λ w. now < w)
ticks_later None now t = tt
ticks_later (Some zero) now t = absurd (cc)
ticks_later (Some (suc n)) now t = omega arith

-- so does one that begins for bits
pub begun_later : (i : ℕ) (c : Condition) (ticks : Option ℕ) (s : State) → option_eq eqb ticks (Some 0) ≡ false
    → IfSome (call_at (want i c (set_deadline i ticks s)) i).deadline (λ w. s.time < w)
unfolding set_deadline
begun_later i c ticks s some =
    let t1 : Task =
    record (task_at s i)
    { progress = record (progress_at s i) { call = record (call_at s i) { deadline = option_map (λ n. s.time + n) ticks } } } in
    let s1 : State = with_task i t1 s in
    let t2 : Task =
    record (task_at s1 i) { progress = record (progress_at s1 i) { call = record (call_at s1 i) { wants = Some c } } } in
    let D : Task → Type 0 = λ t. IfSome t.progress.call.deadline (λ w. s.time < w) in
    by_test (ltb i (length s.tasks))
    (λ l.
    let within = ltb-true i (length s.tasks) l in
    let at1 : get_or (set s.tasks i t1) i no_task ≡ t1 = get_or-set_same s.tasks i t1 no_task within in
    let at2 : get_or (set (set s.tasks i t1) i t2) i no_task ≡ t2 =
    get_or-set_same (set s.tasks i t1) i t2 no_task (rw length-set within) in
    subst D (sym at2) (subst D (sym at1) (ticks_later ticks s.time some)))
    (λ l.
    let past = ltb-false i (length s.tasks) l in
    let none : get_or (set (set s.tasks i t1) i t2) i no_task ≡ no_task =
    get_or_past (set (set s.tasks i t1) i t2) i no_task (rw (length-set, length-set) past) in
    subst D (sym none) tt)

-- so does one that begins for a notification
pub dated_later : (i : ℕ) (ticks : Option ℕ) (s : State) → option_eq eqb ticks (Some 0) ≡ false
    → IfSome (call_at (set_deadline i ticks s) i).deadline (λ w. s.time < w)
unfolding set_deadline
dated_later i ticks s some =
    let t : Task =
    record (task_at s i)
    { progress = record (progress_at s i) { call = record (call_at s i) { deadline = option_map (λ n. s.time + n) ticks } } } in
    let D : Task → Type 0 = λ u. IfSome u.progress.call.deadline (λ w. s.time < w) in
    by_test (ltb i (length s.tasks))
    (λ l. subst D (sym (get_or-set_same s.tasks i t no_task (ltb-true i (length s.tasks) l))) (ticks_later ticks s.time some))
    (λ l.
    let none : get_or (set s.tasks i t) i no_task ≡ no_task =
    get_or_past (set s.tasks i t) i no_task (rw length-set (ltb-false i (length s.tasks) l)) in
    subst D (sym none) tt)

-- ---- a run that is stopped

-- It failed by a check.
abbrev pub is_failed_check : Option Ending → Bool
is_failed_check (Some (Check task op_index)) = true
is_failed_check (Some (HandlerCheck handler op_index)) = true
is_failed_check _ = false

-- It goes on, or is stopped, as before; or it went on and fails by a check; or it is a misuse.
abbrev pub Stops : Option Ending → Option Ending → Type 0
Stops old new = (new ≡ old) ⊎ (((old ≡ None) × (is_failed_check new ≡ true)) ⊎ (is_by_misuse new ≡ true))

-- A check that fails stops it, unless it is stopped already.
pub stops-fail : (stopped : Option Ending) (check : Ending)
    → is_failed_check (Some check) ≡ true → Stops stopped (option_or stopped (Some check))
stops-fail None check is = inr (inl (refl, is))
stops-fail (Some end) check is = inl refl

-- ---- what a task keeps

-- its base priority; its stamp, unless it may stamp; and its last answer, unless it may answer
abbrev pub Remains : (stamps answers : Bool) → Task → Task → Type 0
Remains stamps answers old new =
    (new.base_priority ≡ old.base_priority) × (stamps ≡ false → new.progress.stamp ≡ old.progress.stamp)
    × (answers ≡ false → new.progress.answer ≡ old.progress.answer)

-- ---- what is left of a variable, and of a notification

-- A notification of this task that is pending is so still.
abbrev pub StaysPending : (task : ℕ) → State → State → Type 0
StaysPending task old new = (notification_at old task).pending ≡ true → (notification_at new task).pending ≡ true

-- What is kept of the interrupt sources stays, and no tick elapses.
abbrev pub IsUntouched : State → State → Type 0
IsUntouched old new = (new.sources ≡ old.sources) × (new.elapsed ≡ old.elapsed)

-- The variable is as it was, unless it may be stored. A notification of the task that is pending is so still, unless it may be
-- taken. The sources are as they were, unless they may be touched.
abbrev pub AreLeft : (x : ℕ) (stores : Bool) (task : ℕ) (takes touches : Bool) → State → State → Type 0
AreLeft x stores task takes touches old new =
    (stores ≡ false → variable_in new.variables x ≡ variable_in old.variables x) × (takes ≡ false → StaysPending task old new)
    × (touches ≡ false → IsUntouched old new)

-- An op that doesn't store to it leaves it.
pub left_by_op : (x : ℕ) (op : ValueOp) (a : Option ℕ) (variables : List ℕ) → is_store_to x op ≡ false
    → variable_in (stored op a variables) x ≡ variable_in variables x
left_by_op x (value_op.Load y) a variables other = refl
left_by_op x (value_op.Compute kind value) a variables other = refl
left_by_op x (value_op.Store y value) None variables other = refl
left_by_op x (value_op.Store y value) (Some n) variables other =
    let apart : x ≢ y.number = (λ e. let same : eqb y.number x ≡ true = rw e (eqb-refl y.number) in absurd (cc)) in
    get_or-set_other variables y.number x n 0 apart

-- A notification that is put for one where it is pending leaves it so.
pub pending_by : (task i : ℕ) (n : Notification) (s : State) → ((notification_at s i).pending ≡ true → n.pending ≡ true)
    → StaysPending task s (with_notification i n s)
pending_by task i n s k = by_test (eqb task i)
    (λ t.
    let same : task ≡ i = eqb-same task i t in
    rw t (λ h. k (subst (λ (j : ℕ). (notification_at s j).pending ≡ true) same h)))
    (λ t. rw t (λ h. h))

-- So does one of another task.
pub pending_apart : (task i : ℕ) (n : Notification) (s : State) → task ≢ i → StaysPending task s (with_notification i n s)
pending_apart task i n s apart = by_test (eqb task i)
    (λ t. absurd (apart (eqb-same task i t)))
    (λ t. rw t (λ h. h))

-- The start of a wait leaves it pending.
pub pending_entered : (wait : NotificationWait) (n : Notification) → n.pending ≡ true → (entered wait n).pending ≡ true
pending_entered (Take clears) n h = h
pending_entered (Wait masks) n h = rw h refl

-- ---- a change of one task

pub one_task : (ts : List Task) (i : ℕ) (t : Task) (j : ℕ)
    → ((get_or (set ts i t) j no_task ≡ t) × (j ≡ i)) ⊎ (get_or (set ts i t) j no_task ≡ get_or ts j no_task)
one_task [] i t j = inr refl
one_task (u ∷ us) zero t zero = inl (refl, refl)
one_task (u ∷ us) zero t (suc j) = inr refl
one_task (u ∷ us) (suc i) t zero = inr refl
one_task (u ∷ us) (suc i) t (suc j) = elim (one_task us i t j) [ inl e ↦ inl (e.0, ap suc e.1) | inr e ↦ inr e ]

pub status_same : (a b : Task) → a ≡ b → a.status ≡ b.status
status_same a b e = ap (λ (t : Task). t.status) e

pub ended_at_reset : (start : ℕ) (ds : List Definition) (i : ℕ) → (get_or (map (task_at_reset start) ds) i no_task).status ≡ Ended
ended_at_reset start [] i = refl
ended_at_reset start (d ∷ ds) zero = refl
ended_at_reset start (d ∷ ds) (suc i) = ended_at_reset start ds i
