-- What a handler's ops keep of a state, and what a wake spares.
use Rattle.model.specs.declared.op.Op.TheVariants.{Value}
use Rattle.model.specs.Ops.{store}
use Rattle.model.specs.Values.{answer_of, stored, with_number}
use Rattle.soundness.proofs.Sound.{revalued, resourced, with_source_sound, done_to_source}
use Rattle.soundness.proofs.Frames.{keeps-come}
use Rattle.model.specs.declared.value.Value as value
use Rattle.std.proofs.Common.{◌⊎◌, ◌≡◌, ◌+◌, ◌&&◌, ℕ, Bool, true, false, inl, inr, get_or, set, List, ◌∷◌, []}
use Rattle.std.proofs.Common.{Option, Some, None, refl, ap, sym, subst, ◌∙◌, suc, zero}
use Rattle.std.specs.List.{AllByRecursion, slice_get}
use Rattle.std.specs.Prelude.{if◌then◌else◌}
use Rattle.std.proofs.Common.{◌++◌, length}
use Rattle.std.proofs.Math.ListN.{length-map}
use Rattle.std.specs.Option.{IfSome, is_some, option_map, unwrap_or}
use Rattle.model.specs.declared.object.ObjectKind.{ObjectKind}
use Rattle.model.specs.declared.object.ObjectKind.TheVariants.{Queue, Semaphore, Mutex}
use Rattle.model.specs.declared.op.Op.TheVariants.{Mark, Expect, If, Else, EndIf}
use Rattle.model.specs.declared.op.Op.TheVariants.{Do}
use Rattle.model.specs.declared.op.Op.TheVariants.{GetBits, Resume}
use Rattle.model.specs.declared.op.Op.TheVariants.{Notify}
use Rattle.model.specs.declared.op.IsrOp.{IsrOp}
use Rattle.model.specs.declared.op.IsrOp.TheVariants as isr_op
use Rattle.model.specs.declared.notification.NotifyAction.{NotifyAction}
use Rattle.model.specs.declared.op.Access.{Access}
use Rattle.model.specs.declared.op.Access.TheVariants.{Send, SendFront, Overwrite, Receive, Peek, Take, Give, Lock}
use Rattle.model.specs.declared.call.Phase.TheVariants.{Place}
use Rattle.model.specs.declared.call.WaitList.{WaitList}
use Rattle.model.specs.declared.call.WaitList.TheVariants.{ToReceive, ToSend}
use Rattle.model.specs.declared.event.What.{What}
use Rattle.model.specs.Application.{Application, Limits, commands_of, ops_of, interrupts_at}
use Rattle.model.specs.Scripts.{IsDaemon, IsWellFormed, fits, fits_object, has_group, is_mask, knows_isr}
use Rattle.model.specs.Daemon.{item_of}
use Rattle.model.specs.State.{State, Task, Progress, Object, Status, Wait, Ready, Awake, Waiting, Asleep, WaitingForBits}
use Rattle.model.specs.State.{WaitingForNotification, Suspended, Ended, ticket_if_ready, wake_time_of, task_at, status_at}
use Rattle.model.specs.State.{progress_at, call_at, object_at, with_object, for_one, for_each, no_task}
use Rattle.model.specs.State.{Source, source_at}
use Rattle.model.specs.Order.{Entry, first, task_of}
use Rattle.model.specs.Notifications.{notify_with_number, notify}
use Rattle.model.specs.Suspension.{can_resume, resumed, resume}
use Rattle.model.specs.Switching.{is_ready, holds_ticks, is_held, slice, unless_held, write}
use Rattle.model.specs.Waiting.{waiters, awake_status, is_locked, wake_one, wake_best}
use Rattle.model.specs.Time.{advance, increment_tick, jump}
use Rattle.model.specs.Objects.{possible, object_after, list_woken, list_for, fulfil, attempt}
use Rattle.model.specs.Handlers.{isr, isr_answer, isr_jump, is_failed, isr_each, handle, interrupt, tick_interrupt, idle}
use Rattle.model.specs.Handlers.{ticks_ahead, come, note_coming, free_after, is_raised_for, raised_now, none_raised_now}
use Rattle.model.specs.Invariant.{Hold, IsSound, holds}
use Rattle.model.specs.Invariant.{wait_of}
use Rattle.model.proofs.Sorting.{by_test}
use Rattle.model.proofs.Lists.{HasKey, list_has}
use Rattle.model.proofs.Tables.{each-set}
use Rattle.soundness.proofs.Settled.{when_held, when_free}
use Rattle.soundness.proofs.InScripts.{isr_known}
use Rattle.soundness.proofs.Keeping.{Keeps, keeps, keeps_both, keeps-with_object, keeps-wake_one}
use Rattle.soundness.proofs.Frames.{keeps-isr, keeps-write}
use Rattle.soundness.proofs.Ticking.{either_way, hold-increment, hold-jump}
use Rattle.soundness.proofs.Suspending.{resumed_task}
use Rattle.soundness.proofs.Sound.{logged, sliced, woken, later, held_up}
use Rattle.soundness.proofs.Notified.{notified_task}
use Rattle.soundness.proofs.Called.{WaitsIn, waits_in, waits_key, same_list_eq, attempted, spared_one}

pub and_left : (a b : Bool) → (a && b) ≡ true → a ≡ true
and_left true b t = refl
and_left false b t = absurd (cc)

pub and_right : (a b : Bool) → (a && b) ≡ true → b ≡ true
and_right true b t = t
and_right false b t = absurd (cc)

-- with its value as a number a call fits as it did, and waits where it did
pub fits-number : (app : Application) (o : ℕ) (variables : List ℕ) (answer : Option ℕ) (a : Access value.Value)
    → fits_object app o (with_number variables answer a) ≡ fits_object app o a
fits-number app o variables answer a = by_kind (slice_get app.objects o) a where
  by_access : (kind : ObjectKind) (a : Access value.Value) → fits kind (with_number variables answer a) ≡ fits kind a
  by_access (Queue size) (Send v) = refl
  by_access (Queue size) (SendFront v) = refl
  by_access (Queue size) (Overwrite v) = refl
  by_access (Queue size) Receive = refl
  by_access (Queue size) Peek = refl
  by_access (Queue size) Take = refl
  by_access (Queue size) Give = refl
  by_access (Queue size) Lock = refl
  by_access (Semaphore most first) (Send v) = refl
  by_access (Semaphore most first) (SendFront v) = refl
  by_access (Semaphore most first) (Overwrite v) = refl
  by_access (Semaphore most first) Receive = refl
  by_access (Semaphore most first) Peek = refl
  by_access (Semaphore most first) Take = refl
  by_access (Semaphore most first) Give = refl
  by_access (Semaphore most first) Lock = refl
  by_access Mutex (Send v) = refl
  by_access Mutex (SendFront v) = refl
  by_access Mutex (Overwrite v) = refl
  by_access Mutex Receive = refl
  by_access Mutex Peek = refl
  by_access Mutex Take = refl
  by_access Mutex Give = refl
  by_access Mutex Lock = refl

  by_kind : (kind : Option ObjectKind) (a : Access value.Value)
      → unwrap_or (option_map (λ k. fits k (with_number variables answer a)) kind) false
      ≡ unwrap_or (option_map (λ k. fits k a) kind) false
  by_kind None a = refl
  by_kind (Some kind) a = by_access kind a

pub list_for-number : (o : ℕ) (variables : List ℕ) (answer : Option ℕ) (a : Access value.Value)
    → list_for o (with_number variables answer a) ≡ list_for o a
list_for-number o variables answer (Send v) = refl
list_for-number o variables answer (SendFront v) = refl
list_for-number o variables answer (Overwrite v) = refl
list_for-number o variables answer Receive = refl
list_for-number o variables answer Peek = refl
list_for-number o variables answer Take = refl
list_for-number o variables answer Give = refl
list_for-number o variables answer Lock = refl

-- where a receive may be, a send may be
sends_where_receives : (app : Application) (o n : ℕ) → fits_object {Item = ℕ} app o Receive ≡ true
    → fits_object app o (Send n) ≡ true
sends_where_receives app o n fit = by_kind (slice_get app.objects o) fit where
  Fits : Option ObjectKind → Access ℕ → Type 0
  Fits kind access = unwrap_or (option_map (λ k. fits k access) kind) false ≡ true

  by_kind : (kind : Option ObjectKind) → Fits kind Receive → Fits kind (Send n)
  by_kind None fit = fit
  by_kind (Some (Queue size)) fit = fit
  by_kind (Some (Semaphore most first)) fit = fit
  by_kind (Some Mutex) fit = fit

-- a command may be sent to the daemon's queue, where there is a daemon
pub commands_fit : (app : Application) → IsWellFormed app → (n : ℕ)
    → is_some app.daemon ≡ true → fits_object app (commands_of app) (Send n) ≡ true
commands_fit app formed n some = by_daemon app.daemon some formed.daemon where
  by_daemon : (o : Option ℕ) → is_some o ≡ true → IfSome o (IsDaemon app) → fits_object app (commands_of app) (Send n) ≡ true
  by_daemon None t d = absurd (cc)
  by_daemon (Some daemon) t d = sends_where_receives app (commands_of app) n d.queue

-- ---- what is kept, while this is held and locked

module _ (app : Application) (formed : IsWellFormed app) (hold : Hold) where
  isr_done : (s : State) (handler op_index : ℕ) (op : IsrOp) (last : Option ℕ) → knows_isr app op ≡ true
      → IsSound app hold s → s.locked ≡ hold.locked → IsSound app hold (isr app handler op_index op last s)
  isr_done s handler op_index (isr_op.Do o a) last known h same =
      let access : Access ℕ = with_number s.variables last a in
      let t : State = attempt None o access s in
      let fit : fits_object app o access ≡ true =
      fits-number app o s.variables last a ∙ and_left (fits_object app o a) _ known in
      logged app formed hold t _ t.steps t.stopped (attempted app formed hold s None o access h same fit tt)
  isr_done s handler op_index (isr_op.Command c) last known h same =
      let send : Access ℕ = Send (item_of c) in
      let t : State = attempt None (commands_of app) send s in
      let some : is_some app.daemon ≡ true = and_left (is_some app.daemon) (has_group app c.group && is_mask c.mask) known in
      logged app formed hold t _ t.steps t.stopped
      (attempted app formed hold s None (commands_of app) send h same (commands_fit app formed (item_of c) some) tt)
  isr_done s handler op_index (isr_op.Resume task) last known h same =
      let t : State = resume task s in
      logged app formed hold t _ t.steps t.stopped (resumed_task app formed hold s task h)
  isr_done s handler op_index (isr_op.GetBits group) last known h same = logged app formed hold s _ s.steps s.stopped h
  isr_done s handler op_index (isr_op.Notify task action) last known h same =
      let a : NotifyAction ℕ = notify_with_number s.variables last action in
      let t : State = notify task a s in
      logged app formed hold t _ t.steps t.stopped (notified_task app formed hold s task a h)
  isr_done s handler op_index (isr_op.Value op) last known h same =
      let a : Option ℕ = answer_of s.variables last op in
      let t : State = store op a s in
      logged app formed hold t _ t.steps t.stopped (revalued app formed hold s (stored op a s.variables) h)
  isr_done s handler op_index (isr_op.Source other op) last known h same = done_to_source app formed hold other op s h
  isr_done s handler op_index (isr_op.Mark value) last known h same = logged app formed hold s _ s.steps s.stopped h
  isr_done s handler op_index (isr_op.Expect condition) last known h same = h
  isr_done s handler op_index (isr_op.If condition) last known h same = h
  isr_done s handler op_index isr_op.Else last known h same = h
  isr_done s handler op_index isr_op.EndIf last known h same = h

  each_done : (ops : List IsrOp) (s : State) (handler op_index over : ℕ) (answer : Option ℕ)
      → AllByRecursion (λ (op : IsrOp). knows_isr app op ≡ true) ops → IsSound app hold s
      → s.locked ≡ hold.locked → IsSound app hold (isr_each app handler op_index over answer ops s)
  each_done [] s handler op_index over answer known h same = h
  each_done (op ∷ ops) s handler op_index (suc over) answer known h same =
      each_done ops s handler (op_index + 1) over answer known.1 h same
  each_done (op ∷ ops) s handler op_index zero answer known h same =
      let t : State = isr app handler op_index op answer s in
      by_test (is_failed s op answer)
      (λ f. rw f (logged app formed hold s s.log s.steps _ h))
      (λ f.
      rw f (each_done ops t handler (op_index + 1) (isr_jump s op answer ops)
      (isr_answer app s op answer) known.1 (isr_done s handler op_index op answer known.0 h same)
      (ap (λ (x : Hold). x.locked) (keeps-isr app handler op_index op answer s).hold ∙ same)))

  pub handled : (s : State) (handler : ℕ) → IsSound app hold s → s.locked ≡ hold.locked → IsSound app hold (handle app handler s)
  unfolding handle
  handled s handler h same = each_done (ops_of app handler) s handler 0 0 None (isr_known app formed handler) h same

  pub come_sound : (s : State) (handler : ℕ) → IsSound app hold s → s.locked ≡ hold.locked → IsSound app hold (come app handler s)
  unfolding come
  come_sound s handler h same =
      handled (note_coming app handler s) handler (with_source_sound app formed hold handler
      (record (source_at s handler) { free_from = free_after app handler s }) s h) same

  all_come : (handlers : List ℕ) (s : State) → IsSound app hold s
      → s.locked ≡ hold.locked → IsSound app hold (for_each (come app) handlers s)
  all_come [] s h same = h
  all_come (handler ∷ handlers) s h same =
      all_come handlers (come app handler s) (come_sound s handler h same)
      (ap (λ (x : Hold). x.locked) (keeps-come app handler s).hold ∙ same)

  interrupted : (s : State) → IsSound app hold s → s.locked ≡ hold.locked → IsSound app hold (interrupt app s)
  unfolding interrupt
  interrupted s h same =
      let lowered : State = none_raised_now s in
      let many : length lowered.sources ≡ length app.handlers + 1 =
      length-map s.sources (λ (x : Source). if is_raised_for s.elapsed x then record x { raised = None } else x) ∙ h.sources in
      all_come (interrupts_at app s.elapsed ++ raised_now s) lowered (resourced app formed hold s lowered.sources many h) same

  incremented : (s : State) → IsSound app hold s → IsSound app hold (increment_tick s)
  unfolding increment_tick advance
  incremented s h = by_test (holds_ticks s)
      (λ t. rw t (held_up app formed hold s h))
      (λ t. rw t (woken app formed hold (record s { time = s.time + 1; elapsed = s.elapsed + 1 }) (later app formed hold 1 s h)))

  -- a tick, and its base interrupts
  pub ticked : (s : State) → IsSound app hold s → s.locked ≡ hold.locked → IsSound app hold (tick_interrupt app s)
  unfolding tick_interrupt
  ticked s h same =
      let come : State = increment_tick s in
      let still : come.locked ≡ hold.locked = ap (λ (x : Hold). x.locked) (hold-increment s) ∙ same in
      let told : State = interrupt app come in
      let done : IsSound app hold told = interrupted come (incremented s h) still in
      by_test (is_held told)
      (λ t. subst (IsSound app hold) (sym (when_held slice told t)) done)
      (λ t. subst (IsSound app hold) (sym (when_free slice told t)) (sliced app formed hold told done))

  jumped_sound : (n : ℕ) (s : State) → IsSound app hold s → IsSound app hold (jump n s)
  unfolding jump
  jumped_sound n s h = woken app formed hold (record s { time = s.time + n; elapsed = s.elapsed + n }) (later app formed hold n s h)

  pub jumped_there : (n : ℕ) (s : State) → IsSound app hold s → s.locked ≡ hold.locked
      → IsSound app hold (unless_held slice (interrupt app (jump n s)))
  jumped_there n s h same =
      let come : State = jump n s in
      let still : come.locked ≡ hold.locked = ap (λ (x : Hold). x.locked) (hold-jump n s) ∙ same in
      let told : State = interrupt app come in
      let done : IsSound app hold told = interrupted come (jumped_sound n s h) still in
      by_test (is_held told)
      (λ t. subst (IsSound app hold) (sym (when_held slice told t)) done)
      (λ t. subst (IsSound app hold) (sym (when_free slice told t)) (sliced app formed hold told done))

  pub idled : (limits : Limits) (s : State) → IsSound app hold s → s.locked ≡ hold.locked → IsSound app hold (idle app limits s)
  unfolding idle
  idled limits s h same =
      either_way (IsSound app hold) app.tickless
      (unless_held slice (interrupt app (jump (ticks_ahead app limits s) s))) (tick_interrupt app s)
      (jumped_there (ticks_ahead app limits s) s h same) (ticked s h same)

-- ---- what is spared

-- The same task runs. Each task is at its op, and where it was in it, except for one that is resumed. One who was Ready still is,
-- and one who waited for the locked object has the same wait, though it may be Awake by now. Where none is locked, one who was to
-- wake by itself is still to wake then, or is Ready.
pub record Spares (old new : State) : Type 0 where
  pub kept : Keeps old new
  pub current : new.current ≡ old.current
  pub op_index : (i : ℕ) → (progress_at new i).op_index ≡ (progress_at old i).op_index
  pub holding : (i : ℕ) → holds (call_at new i).phase ≡ holds (call_at old i).phase
  pub place : (i : ℕ) → (call_at new i).phase ≡ Place → (call_at old i).phase ≡ Place
  pub unsuspended : (i : ℕ) → can_resume (status_at old i) ≡ false → can_resume (status_at new i) ≡ false
  pub at : (i : ℕ) → can_resume (status_at old i) ≡ false → task_at new i ≡ record (task_at old i) { status = status_at new i }
  pub ready : (i : ℕ) → is_ready old i ≡ true → task_at new i ≡ task_at old i
  pub waits : (i : ℕ) (w : Wait) → wait_of (status_at old i) ≡ Some w
      → is_locked old.locked w.list ≡ true → wait_of (status_at new i) ≡ Some w
  pub sleeps : old.locked ≡ None → (i : ℕ)
      → (is_ready new i ≡ true) ⊎ (wake_time_of (status_at new i) ≡ wake_time_of (status_at old i))

pub spares : (s : State) → Spares s s
spares s =
    record {
      kept = keeps s;
      current = refl;
      op_index = λ i. refl;
      holding = λ i. refl;
      place = λ i e. e;
      unsuspended = λ i e. e;
      at = λ i e. refl;
      ready = λ i r. refl;
      waits = λ i w e l. e;
      sleeps = λ n i. inr refl;
    }

pub spares_both : (a b c : State) → Spares a b → Spares b c → Spares a c
spares_both a b c h k = record {
  kept = keeps_both a b c h.kept k.kept;
  current = k.current ∙ h.current;
  op_index = λ i. k.op_index i ∙ h.op_index i;
  holding = λ i. k.holding i ∙ h.holding i;
  place = λ i e. h.place i (k.place i e);
  unsuspended = λ i e. k.unsuspended i (h.unsuspended i e);
  at = λ i e. k.at i (h.unsuspended i e) ∙ ap (λ (t : Task). record t { status = status_at c i }) (h.at i e);
  ready = λ i r. k.ready i (subst (λ (t : Task). is_some (ticket_if_ready t.status) ≡ true) (sym (h.ready i r)) r) ∙ h.ready i r;
  waits = λ i w e l.
      k.waits i w (h.waits i w e l)
      (subst (λ (o : Option ℕ). is_locked o w.list ≡ true) (sym (ap (λ (x : Hold). x.locked) h.kept.hold)) l);
  sleeps = λ n i.
      let m : b.locked ≡ None = ap (λ (x : Hold). x.locked) h.kept.hold ∙ n in
      slept_both i (h.sleeps n i) (k.sleeps m i) (k.ready i);
} where
  slept_both : (i : ℕ) → (is_ready b i ≡ true) ⊎ (wake_time_of (status_at b i) ≡ wake_time_of (status_at a i))
      → (is_ready c i ≡ true) ⊎ (wake_time_of (status_at c i) ≡ wake_time_of (status_at b i))
      → (is_ready b i ≡ true → task_at c i ≡ task_at b i)
      → (is_ready c i ≡ true) ⊎ (wake_time_of (status_at c i) ≡ wake_time_of (status_at a i))
  slept_both i x (inl r) stays = inl r
  slept_both i (inl r) (inr e) stays = inl (ap (λ (t : Task). is_some (ticket_if_ready t.status)) (stays r) ∙ r)
  slept_both i (inr d) (inr e) stays = inr (e ∙ d)

-- where each task is where it was in its script
pub spared_by : (old new : State) → Keeps old new → new.current ≡ old.current
    → ((i : ℕ) → task_at new i ≡ record (task_at old i) { status = status_at new i })
    → ((i : ℕ) → can_resume (status_at old i) ≡ false → can_resume (status_at new i) ≡ false)
    → ((i : ℕ) → is_ready old i ≡ true → task_at new i ≡ task_at old i)
    → ((i : ℕ) (w : Wait) → wait_of (status_at old i) ≡ Some w
    → is_locked old.locked w.list ≡ true → wait_of (status_at new i) ≡ Some w)
    → (old.locked ≡ None → (i : ℕ) → (is_ready new i ≡ true) ⊎ (wake_time_of (status_at new i) ≡ wake_time_of (status_at old i)))
    → Spares old new
spared_by old new kept current at unsuspended ready waits sleeps =
    let call : (i : ℕ) → progress_at new i ≡ progress_at old i = λ i. ap (λ (t : Task). t.progress) (at i) in
    record {
      kept = kept;
      current = current;
      op_index = λ i. ap (λ (p : Progress). p.op_index) (call i);
      holding = λ i. ap (λ (p : Progress). holds p.call.phase) (call i);
      place = λ i e. ap (λ (p : Progress). p.call.phase) (sym (call i)) ∙ e;
      unsuspended = unsuspended;
      at = λ i _. at i;
      ready = ready;
      waits = waits;
      sleeps = sleeps;
    }

-- an event more
pub spares-write : (w : What) (s : State) → Spares s (write w s)
spares-write w s =
    spared_by s (write w s) (keeps-write w s) refl (λ i. refl) (λ i e. e) (λ i r. refl) (λ i v e l. e) (λ n i. inr refl)

-- ---- a wake spares

same_wait : (u : Status) → wait_of (awake_status u) ≡ wait_of u
same_wait (Ready n) = refl
same_wait (Awake w) = refl
same_wait (Waiting w) = refl
same_wait (Asleep v n) = refl
same_wait (WaitingForBits g m d) = refl
same_wait (WaitingForNotification m d) = refl
same_wait Suspended = refl
same_wait Ended = refl

-- a task that gets a status, and no other
pub at_status : (s : State) (j : ℕ) (u : Status) (i : ℕ)
    → get_or (set s.tasks j (record (task_at s j) { status = u })) i no_task
    ≡ record (task_at s i) { status = (get_or (set s.tasks j (record (task_at s j) { status = u })) i no_task).status }
at_status s j u i =
    let P : ℕ → Task → Type 0 = λ k t. k ≡ i → t ≡ record (task_at s i) { status = t.status } in
    each-set no_task P s.tasks j (record (task_at s j) { status = u })
    (λ e. ap (λ (k : ℕ). record (task_at s k) { status = u }) e)
    (λ k e. ap (λ (m : ℕ). record (task_at s m) { status = status_at s k }) e) i refl

-- one who waits for the locked object is woken in one way only
one_waits : (s : State) (j : ℕ) (list : WaitList) (i : ℕ) (w : Wait) → WaitsIn list (status_at s j)
    → wait_of (status_at s i) ≡ Some w → is_locked s.locked w.list ≡ true → wait_of (status_at (wake_one j list s) i) ≡ Some w
one_waits s j list i w in_list e l =
    let P : ℕ → Task → Type 0 = λ k t. k ≡ i → wait_of t.status ≡ Some w in
    let others : (k : ℕ) → k ≡ i → wait_of (status_at s k) ≡ Some w = λ k q. ap (λ (m : ℕ). wait_of (status_at s m)) q ∙ e in
    by_test (is_locked s.locked list)
    (λ t.
    rw t (each-set no_task P s.tasks j (record (task_at s j) { status = awake_status (status_at s j) })
    (λ q. same_wait (status_at s j) ∙ others j q) others i refl))
    (λ t. rw t (each-set no_task P s.tasks j (record (task_at s j) { status = Ready s.next_ticket }) (λ q.
    let waiting : wait_of (status_at s j) ≡ Some in_list.wait = ap wait_of in_list.is in
    let f : Some in_list.wait ≡ Some w = sym waiting ∙ others j q in
    let same : in_list.wait ≡ w = cc in
    let there : w.list ≡ list = ap (λ (v : Wait). v.list) (sym same) ∙ same_list_eq in_list.wait.list list in_list.there in
    let locked : is_locked s.locked list ≡ true = subst (λ x. is_locked s.locked x ≡ true) there l in
    absurd (cc)) others i refl))

awake_unsuspended : (u : Status) → can_resume u ≡ false → can_resume (awake_status u) ≡ false
awake_unsuspended (Ready n) e = refl
awake_unsuspended (Awake w) e = refl
awake_unsuspended (Waiting w) e = refl
awake_unsuspended (Asleep v n) e = refl
awake_unsuspended (WaitingForBits g m d) e = refl
awake_unsuspended (WaitingForNotification m d) e = refl
awake_unsuspended Suspended e = absurd (cc)
awake_unsuspended Ended e = refl

-- a status that nobody who is Suspended has spares who isn't
pub unsuspended_but : (s : State) (j : ℕ) (u : Status) → can_resume u ≡ false → (i : ℕ) → can_resume (status_at s i) ≡ false
    → can_resume (get_or (set s.tasks j (record (task_at s j) { status = u })) i no_task).status ≡ false
unsuspended_but s j u e =
    each-set no_task (λ i t. can_resume (status_at s i) ≡ false → can_resume t.status ≡ false)
    s.tasks j (record (task_at s j) { status = u }) (λ _. e) (λ i f. f)

none_locked : (list : WaitList) → is_locked None list ≡ false
none_locked (ToReceive object) = refl
none_locked (ToSend object) = refl

-- where none is locked, who is woken is Ready
one_sleeps : (s : State) (j : ℕ) (list : WaitList) (i : ℕ) → s.locked ≡ None
    → (is_ready (wake_one j list s) i ≡ true) ⊎ (wake_time_of (status_at (wake_one j list s) i) ≡ wake_time_of (status_at s i))
one_sleeps s j list i none =
    let P : ℕ → Task → Type 0 = λ k t.
    (is_some (ticket_if_ready t.status) ≡ true) ⊎ (wake_time_of t.status ≡ wake_time_of (status_at s k)) in
    let free : is_locked s.locked list ≡ false = ap (λ (o : Option ℕ). is_locked o list) none ∙ none_locked list in
    rw free (each-set no_task P s.tasks j (record (task_at s j) { status = Ready s.next_ticket }) (inl refl) (λ k. inr refl) i)

spares-wake_one : (s : State) (j : ℕ) (list : WaitList) → WaitsIn list (status_at s j) → Spares s (wake_one j list s)
spares-wake_one s j list in_list = spared_by s (wake_one j list s)
    (keeps-wake_one j list s)
    (by_test (is_locked s.locked list) (λ t. rw t refl) (λ t. rw t refl))
    (λ i. by_test (is_locked s.locked list)
    (λ t. rw t (at_status s j (awake_status (status_at s j)) i))
    (λ t. rw t (at_status s j (Ready s.next_ticket) i)))
    (λ i e. by_test (is_locked s.locked list)
    (λ t. rw t (unsuspended_but s j (awake_status (status_at s j)) (ap (λ u. can_resume (awake_status u)) in_list.is) i e))
    (λ t. rw t (unsuspended_but s j (Ready s.next_ticket) refl i e)))
    (λ i r. spared_one s i j list r in_list)
    (λ i w. one_waits s j list i w in_list)
    (λ n i. one_sleeps s j list i n)

first_spares : (s : State) (list : WaitList) (es : List Entry) → AllByRecursion (HasKey (waits_key list) s.tasks) es
    → Spares s (for_one (λ j. wake_one j list) (task_of (first es)) s)
unfolding waits_key
first_spares s list [] has = spares s
first_spares s list (e ∷ es) has = spares-wake_one s e.task list (waits_in list (status_at s e.task) e.key has.0.key)

spares-wake_best : (list : WaitList) (s : State) → Spares s (wake_best list s)
unfolding wake_best waits_key
spares-wake_best list s = first_spares s list (waiters s list) (list_has (waits_key list) s.tasks)

spares-for : (o : Option WaitList) (s : State) → Spares s (for_one wake_best o s)
spares-for None s = spares s
spares-for (Some list) s = spares-wake_best list s

spares-object : (o : ℕ) (x : Object) (s : State) → Spares s (with_object o x s)
spares-object o x s =
    spared_by s (with_object o x s) (keeps-with_object o x s) refl
    (λ i. refl) (λ i e. e) (λ i r. refl) (λ i w e l. e) (λ n i. inr refl)

pub spares-attempt : (caller : Option ℕ) (o : ℕ) (a : Access ℕ) (s : State) → Spares s (attempt caller o a s)
unfolding attempt fulfil
spares-attempt caller o a s =
    let t : State = with_object o (object_after caller a (object_at s o)) s in
    by_test (possible s o a)
    (λ p.
    rw p (spares_both s t (for_one wake_best (list_woken caller o a) t)
    (spares-object o (object_after caller a (object_at s o)) s) (spares-for (list_woken caller o a) t)))
    (λ p. rw p (spares s))
