-- What a handler keeps of a state, and what it spares.
use Rattle.model.specs.declared.op.Op.TheVariants as op
use Rattle.model.specs.declared.op.Op.TheVariants.{Value}
use Rattle.model.specs.declared.value.ValueOp.{ValueOp}
use Rattle.model.specs.Ops.{store, do_to_source}
use Rattle.model.specs.Values.{answer_of, number_of, with_number}
use Rattle.soundness.proofs.Sound.{resourced}
use Rattle.soundness.proofs.Frames.{keeps-store, keeps-with_source, keeps-none_raised_now}
use Rattle.std.proofs.Common.{◌⊎◌, ◌≡◌, ◌<◌, ◌+◌, ◌||◌, ℕ, Bool, true, false, ltb, inl, inr, get_or, List, ◌∷◌, []}
use Rattle.std.proofs.Common.{Option, Some, None, refl, ap, sym, subst, ◌∙◌, suc, zero, ◌≢◌, get_or-set_other}
use Rattle.std.specs.List.{AllByRecursion, filter, range_with_len}
use Rattle.std.specs.Prelude.{if◌then◌else◌}
use Rattle.std.proofs.Common.{◌++◌, length, map, eqb}
use Rattle.std.proofs.Common.{set as list_set}
use Rattle.std.proofs.Math.ListN.{length-map}
use Rattle.std.specs.Option.{IfSome, is_some, option_eq}
use Rattle.model.specs.declared.op.Op.{Op}
use Rattle.model.specs.declared.op.Op.TheVariants.{Work, Delay, DelayUntil, Yield, Time, Mark, Expect, Repeat, End, If, Else, EndIf}
use Rattle.model.specs.declared.op.Op.TheVariants.{Break, Stamp, Since, Await, Do, GiveMutex, MessagesWaiting, SpacesAvailable}
use Rattle.model.specs.declared.op.Op.TheVariants.{SetBits, ClearBits, GetBits, WaitBits, Suspend, Resume, SuspendAll, ResumeAll}
use Rattle.model.specs.declared.op.Op.TheVariants.{EnterCritical, ExitCritical, NextCommand, Obey}
use Rattle.model.specs.declared.op.Op.TheVariants.{Notify, AwaitNotification, ClearNotification}
use Rattle.model.specs.declared.op.IsrOp.{IsrOp}
use Rattle.model.specs.declared.op.IsrOp.TheVariants as isr_op
use Rattle.model.specs.declared.notification.Notification.{Notification}
use Rattle.model.specs.declared.notification.NotifyAction.{NotifyAction}
use Rattle.model.specs.declared.op.Access.{Access}
use Rattle.model.specs.declared.op.Access.TheVariants.{Send, Receive}
use Rattle.model.specs.declared.call.Phase.{Phase}
use Rattle.model.specs.declared.call.Phase.TheVariants.{Start, Try, Decide, Place, Unlock, Leave}
use Rattle.model.specs.declared.call.WaitList.{WaitList}
use Rattle.model.specs.declared.event.What.{What}
use Rattle.model.specs.declared.event.What.TheVariants as what
use Rattle.model.specs.Application.{Application, commands_of, op_at, ops_of, interrupts_at}
use Rattle.model.specs.Scripts.{IsWellFormed}
use Rattle.model.specs.Daemon.{item_of}
use Rattle.model.specs.State.{State, Task, Progress, Status, Wait, Ready, Awake, Waiting, Asleep, WaitingForBits}
use Rattle.model.specs.State.{WaitingForNotification, Suspended, Ended, ticket_if_ready, wake_time_of, task_at, status_at}
use Rattle.model.specs.State.{progress_at, call_at, bits_at, with_progress, for_each, no_task}
use Rattle.model.specs.State.{Source, no_source, source_at, with_source}
use Rattle.model.specs.State.{waits_for_notification, notification_at, with_notification}
use Rattle.model.specs.Ops.{one_if, fail}
use Rattle.model.specs.Notifications.{notify_with_number, notified, notify_answer, wake_notified, notify}
use Rattle.model.specs.Suspension.{can_resume, phase_resumed, resumed, resume}
use Rattle.model.specs.Switching.{make_ready, is_ready, holds_ticks, is_held_by_task, write}
use Rattle.model.specs.Waiting.{is_locked}
use Rattle.model.specs.Objects.{answer_to, list_for, attempt}
use Rattle.model.specs.declared.event.End.{End as RunEnd}
use Rattle.model.specs.declared.event.End.TheVariants.{HandlerCheck}
use Rattle.model.specs.Handlers.{isr_told, isr, isr_answer, isr_jump, is_failed, isr_each, handle, interrupt}
use Rattle.model.specs.Handlers.{come, note_coming, free_after, is_raised_for, raised_now, none_raised_now}
use Rattle.model.specs.declared.source.SourceOp.{SourceOp}
use Rattle.model.specs.declared.source.SourceOp.TheVariants.{Arm, Disarm, Raise, Cancel}
use Rattle.model.specs.Invariant.{Hold, hold_of, course, list_of_op, IsPhaseOf, IsWaitOf, IsSound, Suspension, holds, IsPlacing}
use Rattle.model.specs.Invariant.{IsNoneRaised, IsStranded, RunsIn, IsState, wait_of}
use Rattle.model.proofs.Sorting.{by_test}
use Rattle.model.proofs.Tables.{each-set}
use Rattle.model.proofs.Unlocking.{is_locked-own}
use Rattle.soundness.proofs.Settled.{held_as_it_was, ticks_as_they_were}
use Rattle.soundness.proofs.Keeping.{Keeps, keeps_both, keeps-with_task, keeps-take_ticket}
use Rattle.soundness.proofs.Frames.{keeps-fail, keeps-with_notification}
use Rattle.soundness.proofs.Suspending.{suspended_free, each_resumed}
use Rattle.soundness.proofs.Sound.{later}
use Rattle.soundness.proofs.Notified.{awaiting_free, awaiting_not_ready}
use Rattle.soundness.proofs.Sparing.{come_sound, Spares, spares, spares_both, spared_by, spares-write, at_status, unsuspended_but}
use Rattle.soundness.proofs.Sparing.{spares-attempt}

-- ---- a resume spares who isn't Suspended

pub place_resumed : (phase : Phase) → phase_resumed phase ≡ Place → phase ≡ Place
place_resumed Start e = absurd (cc)
place_resumed Try e = absurd (cc)
place_resumed Decide e = absurd (cc)
place_resumed Place e = refl
place_resumed Unlock e = absurd (cc)
place_resumed Leave e = absurd (cc)

pub holds_resumed : (phase : Phase) → holds (phase_resumed phase) ≡ holds phase
holds_resumed Start = refl
holds_resumed Try = refl
holds_resumed Decide = refl
holds_resumed Place = refl
holds_resumed Unlock = refl
holds_resumed Leave = refl

ready_unsuspended : (u : Status) → is_some (ticket_if_ready u) ≡ true → can_resume u ≡ false
ready_unsuspended (Ready n) t = refl
ready_unsuspended (Awake w) t = absurd (cc)
ready_unsuspended (Waiting w) t = absurd (cc)
ready_unsuspended (Asleep v n) t = absurd (cc)
ready_unsuspended (WaitingForBits g m d) t = absurd (cc)
ready_unsuspended (WaitingForNotification m d) t = absurd (cc)
ready_unsuspended Suspended t = absurd (cc)
ready_unsuspended Ended t = absurd (cc)

spares-resumed : (s : State) (j : ℕ) → can_resume (status_at s j) ≡ true
    → Spares s (make_ready j (with_progress j (resumed s.time (progress_at s j)) s))
spares-resumed s j suspended =
    let p : Progress = resumed s.time (progress_at s j) in
    let t : State = with_progress j p s in
    let each = each_resumed s j suspended in
    record {
      kept =
          keeps_both s t (make_ready j t) (keeps-with_task j (record (task_at s j) { progress = p }) s)
          (keeps-take_ticket j Ready t);
      current = refl;
      op_index = each (λ i u. u.progress.op_index ≡ (progress_at s i).op_index) refl (λ i. refl);
      holding =
          each (λ i u. holds u.progress.call.phase ≡ holds (call_at s i).phase) (holds_resumed (call_at s j).phase) (λ i. refl);
      place =
          each (λ i u. u.progress.call.phase ≡ Place → (call_at s i).phase ≡ Place) (place_resumed (call_at s j).phase) (λ i e. e);
      unsuspended = each (λ i u. can_resume (status_at s i) ≡ false → can_resume u.status ≡ false) (λ e. refl) (λ i e. e);
      at =
          each (λ i u. can_resume (status_at s i) ≡ false → u ≡ record (task_at s i) { status = u.status })
          (λ e. absurd (cc)) (λ i e. refl);
      ready =
          each (λ i u. is_ready s i ≡ true → u ≡ task_at s i)
          (λ r. let f = ready_unsuspended (status_at s j) r in absurd (cc)) (λ i r. refl);
      waits =
          each (λ i u. (w : Wait) → wait_of (status_at s i) ≡ Some w → is_locked s.locked w.list ≡ true → wait_of u.status ≡ Some w)
          (λ w e l. let f = suspended_free (status_at s j) suspended in absurd (cc)) (λ i w e l. e);
      sleeps = λ n.
          each (λ i u. (is_some (ticket_if_ready u.status) ≡ true) ⊎ (wake_time_of u.status ≡ wake_time_of (status_at s i)))
          (inl refl) (λ i. inr refl);
    }

pub spares-resume : (j : ℕ) (s : State) → Spares s (resume j s)
unfolding resume
spares-resume j s = by_test (can_resume (status_at s j))
    (λ t. rw t (spares-resumed s j t))
    (λ t. rw t (spares s))

-- ---- a notify spares who isn't woken by it

-- A task that isn't Ready, and waits in no list, is Ready.
pub spares-make_ready : (j : ℕ) (s : State) → is_ready s j ≡ false → wait_of (status_at s j) ≡ None → Spares s (make_ready j s)
spares-make_ready j s off free =
    let u : Task = record (task_at s j) { status = Ready s.next_ticket } in
    spared_by s (make_ready j s) (keeps-take_ticket j Ready s) refl
    (at_status s j (Ready s.next_ticket))
    (unsuspended_but s j (Ready s.next_ticket) refl)
    (λ i r.
    let apart : i ≢ j = (λ e. let on : is_ready s j ≡ true = subst (λ k. is_ready s k ≡ true) e r in absurd (cc)) in
    get_or-set_other s.tasks j i u no_task apart)
    (λ i w e l.
    each-set no_task (λ k t. wait_of (status_at s k) ≡ Some w → wait_of t.status ≡ Some w)
    s.tasks j u (λ q. absurd (cc)) (λ k q. q) i e)
    (λ n.
    each-set no_task (λ k t. (is_some (ticket_if_ready t.status) ≡ true) ⊎ (wake_time_of t.status ≡ wake_time_of (status_at s k)))
    s.tasks j u (inl refl) (λ k. inr refl))

spares-with_notification : (j : ℕ) (n : Notification) (s : State) → Spares s (with_notification j n s)
spares-with_notification j n s =
    spared_by s (with_notification j n s) (keeps-with_notification j n s) refl
    (λ i. refl) (λ i e. e) (λ i r. refl) (λ i w e l. e) (λ m i. inr refl)

spares-wake_notified : (j : ℕ) (s : State) → Spares s (wake_notified j s)
spares-wake_notified j s = by_test (waits_for_notification (status_at s j))
    (λ t. rw t (spares-make_ready j s (awaiting_not_ready (status_at s j) t) (awaiting_free (status_at s j) t)))
    (λ t. rw t (spares s))

pub spares-notify : (j : ℕ) (action : NotifyAction ℕ) (s : State) → Spares s (notify j action s)
unfolding notify
spares-notify j action s =
    let n : Notification = notified action (notification_at s j) in
    let t : State = with_notification j n s in
    spares_both s t (wake_notified j t) (spares-with_notification j n s) (spares-wake_notified j t)

spares-store : (op : ValueOp) (a : Option ℕ) (s : State) → Spares s (store op a s)
spares-store op a s =
    let k = spares s in
    record {
      kept = keeps-store op a s;
      current = k.current;
      op_index = k.op_index;
      holding = k.holding;
      place = k.place;
      unsuspended = k.unsuspended;
      at = k.at;
      ready = k.ready;
      waits = k.waits;
      sleeps = k.sleeps;
    }

-- a deed on the sources alone
resourced_spares : (s : State) (xs : List Source) → Keeps s (record s { sources = xs }) → Spares s (record s { sources = xs })
resourced_spares s xs kept =
    let k = spares s in
    record {
      kept = kept;
      current = k.current;
      op_index = k.op_index;
      holding = k.holding;
      place = k.place;
      unsuspended = k.unsuspended;
      at = k.at;
      ready = k.ready;
      waits = k.waits;
      sleeps = k.sleeps;
    }

spares-with_source : (i : ℕ) (x : Source) (s : State) → x.pending ≡ (source_at s i).pending → Spares s (with_source i x s)
spares-with_source i x s same = resourced_spares s (list_set s.sources i x) (keeps-with_source i x s same)

spares-do_to_source : (handler : ℕ) (op : SourceOp) (s : State) → Spares s (do_to_source handler op s)
spares-do_to_source handler Arm s = spares-with_source handler (record (source_at s handler) { armed = true }) s refl
spares-do_to_source handler Disarm s = spares-with_source handler (record (source_at s handler) { armed = false }) s refl
spares-do_to_source handler (Raise ticks) s =
    spares-with_source handler (record (source_at s handler) { raised = Some (s.elapsed + ticks) }) s refl
spares-do_to_source handler Cancel s = spares-with_source handler (record (source_at s handler) { raised = None }) s refl

pub spares-none_raised_now : (s : State) → Spares s (none_raised_now s)
spares-none_raised_now s = resourced_spares s (none_raised_now s).sources (keeps-none_raised_now s)

spares-isr : (app : Application) (handler op_index : ℕ) (op : IsrOp) (last : Option ℕ) (s : State)
    → Spares s (isr app handler op_index op last s)
spares-isr app handler op_index (isr_op.Do o a) last s =
    let access : Access ℕ = with_number s.variables last a in
    let t : State = attempt None o access s in
    let w : What = isr_told handler op_index (answer_to s o access) in
    spares_both s t (write w t) (spares-attempt None o access s) (spares-write w t)
spares-isr app handler op_index (isr_op.Command c) last s =
    let send : Access ℕ = Send (item_of c) in
    let t : State = attempt None (commands_of app) send s in
    let w : What = isr_told handler op_index (answer_to s (commands_of app) send) in
    spares_both s t (write w t) (spares-attempt None (commands_of app) send s) (spares-write w t)
spares-isr app handler op_index (isr_op.Resume j) last s =
    let t : State = resume j s in
    let w : What = isr_told handler op_index (one_if (can_resume (status_at s j))) in
    spares_both s t (write w t) (spares-resume j s) (spares-write w t)
spares-isr app handler op_index (isr_op.GetBits group) last s =
    spares-write (isr_told handler op_index (Some (bits_at s group))) s
spares-isr app handler op_index (isr_op.Notify j action) last s =
    let a : NotifyAction ℕ = notify_with_number s.variables last action in
    let t : State = notify j a s in
    let w : What = isr_told handler op_index (notify_answer a (notification_at s j)) in
    spares_both s t (write w t) (spares-notify j a s) (spares-write w t)
spares-isr app handler op_index (isr_op.Value op) last s =
    let a : Option ℕ = answer_of s.variables last op in
    let w : What = isr_told handler op_index a in
    spares_both s (store op a s) (write w (store op a s)) (spares-store op a s) (spares-write w (store op a s))
spares-isr app handler op_index (isr_op.Source other op) last s = spares-do_to_source other op s
spares-isr app handler op_index (isr_op.Mark value) last s =
    spares-write (what.IsrMark handler (number_of s.variables last value)) s
spares-isr app handler op_index (isr_op.Expect condition) last s = spares s
spares-isr app handler op_index (isr_op.If condition) last s = spares s
spares-isr app handler op_index isr_op.Else last s = spares s
spares-isr app handler op_index isr_op.EndIf last s = spares s

spares-fail : (check : RunEnd) (s : State) → Spares s (fail check s)
spares-fail check s =
    let k = spares s in
    record {
      kept = keeps-fail check s;
      current = k.current;
      op_index = k.op_index;
      holding = k.holding;
      place = k.place;
      unsuspended = k.unsuspended;
      at = k.at;
      ready = k.ready;
      waits = k.waits;
      sleeps = k.sleeps;
    }

spares-isr_each : (app : Application) (handler op_index over : ℕ) (answer : Option ℕ) (ops : List IsrOp) (s : State)
    → Spares s (isr_each app handler op_index over answer ops s)
spares-isr_each app handler op_index over answer [] s = spares s
spares-isr_each app handler op_index (suc over) answer (op ∷ ops) s = spares-isr_each app handler (op_index + 1) over answer ops s
spares-isr_each app handler op_index zero answer (op ∷ ops) s =
    let t : State = isr app handler op_index op answer s in
    let next : Option ℕ = isr_answer app s op answer in
    let over : ℕ = isr_jump s op answer ops in
    by_test (is_failed s op answer)
    (λ f. rw f (spares-fail (HandlerCheck handler op_index) s))
    (λ f.
    rw f (spares_both s t (isr_each app handler (op_index + 1) over next ops t)
    (spares-isr app handler op_index op answer s) (spares-isr_each app handler (op_index + 1) over next ops t)))

pub spares-handle : (app : Application) (handler : ℕ) (s : State) → Spares s (handle app handler s)
unfolding handle
spares-handle app handler s = spares-isr_each app handler 0 0 None (ops_of app handler) s

pub spares-come : (app : Application) (handler : ℕ) (s : State) → Spares s (come app handler s)
unfolding come
spares-come app handler s =
    let noted : State = note_coming app handler s in
    spares_both s noted (handle app handler noted)
    (spares-with_source handler (record (source_at s handler) { free_from = free_after app handler s }) s refl)
    (spares-handle app handler noted)

-- ---- so every state stays one of a run

-- who is to be placed waits for the locked object
place_locked : (hold : Hold) (op : Option Op) (list : WaitList) → IsPhaseOf hold (course op) Place
    → list_of_op op ≡ Some list → is_locked hold.locked list ≡ true
place_locked hold None list p e = absurd p
place_locked hold (Some (Await o a ticks)) list p e =
    let same : list_for o a ≡ list = cc in
    let P : Option ℕ → WaitList → Type 0 = λ l x. is_locked l x ≡ true in
    subst (P hold.locked) same (subst (λ l. P l (list_for o a)) (sym p.1) (is_locked-own o a))
place_locked hold (Some (Value op)) list p e = absurd p
place_locked hold (Some (op.Source j what)) list p e = absurd p
place_locked hold (Some (Work n)) list p e = absurd p
place_locked hold (Some (Delay n)) list p e = absurd p
place_locked hold (Some (DelayUntil n)) list p e = absurd p
place_locked hold (Some Yield) list p e = absurd p
place_locked hold (Some Time) list p e = absurd p
place_locked hold (Some (Mark n)) list p e = absurd p
place_locked hold (Some (Expect c)) list p e = absurd p
place_locked hold (Some (Repeat n)) list p e = absurd p
place_locked hold (Some End) list p e = absurd p
place_locked hold (Some (If c)) list p e = absurd p
place_locked hold (Some Else) list p e = absurd p
place_locked hold (Some EndIf) list p e = absurd p
place_locked hold (Some Break) list p e = absurd p
place_locked hold (Some Stamp) list p e = absurd p
place_locked hold (Some Since) list p e = absurd p
place_locked hold (Some (Do o a)) list p e = absurd p
place_locked hold (Some (GiveMutex o)) list p e = absurd p
place_locked hold (Some (MessagesWaiting o)) list p e = absurd p
place_locked hold (Some (SpacesAvailable o)) list p e = absurd p
place_locked hold (Some (SetBits g m)) list p e = absurd p
place_locked hold (Some (ClearBits g m)) list p e = absurd p
place_locked hold (Some (GetBits g)) list p e = absurd p
place_locked hold (Some (WaitBits g c ticks)) list p e = absurd p
place_locked hold (Some (Notify j a)) list p e = absurd p
place_locked hold (Some (AwaitNotification a ticks)) list p e = absurd p
place_locked hold (Some (ClearNotification c)) list p e = absurd p
place_locked hold (Some (Suspend j)) list p e = absurd p
place_locked hold (Some (Resume j)) list p e = absurd p
place_locked hold (Some SuspendAll) list p e = absurd p
place_locked hold (Some ResumeAll) list p e = absurd p
place_locked hold (Some EnterCritical) list p e = absurd p
place_locked hold (Some ExitCritical) list p e = absurd p
place_locked hold (Some (NextCommand o)) list p e =
    let same : list_for {Item = ℕ} o Receive ≡ list = cc in
    let P : Option ℕ → WaitList → Type 0 = λ l x. is_locked l x ≡ true in
    subst (P hold.locked) same (subst (λ l. P l (list_for {Item = ℕ} o Receive)) (sym p.1) (is_locked-own {Item = ℕ} o Receive))
place_locked hold (Some Obey) list p e = absurd p

module _ (app : Application) (formed : IsWellFormed app) (s t : State)
    (h : IsState app s) (sound : IsSound app (hold_of s) t) (sp : Spares s t) where
  same_held : t.call_hold ≡ s.call_hold
  same_held = ap (λ (x : Hold). x.held) sp.kept.hold

  same_ticks : holds_ticks t ≡ holds_ticks s
  same_ticks = ticks_as_they_were s t sp.kept.hold sp.kept.suspension

  same_by_task : is_held_by_task t ≡ is_held_by_task s
  same_by_task = ap (λ (x : Suspension). ltb 0 x.suspensions || ltb 0 x.sections) sp.kept.suspension

  waiting_unsuspended : (u : Status) (w : Wait) → wait_of u ≡ Some w → can_resume u ≡ false
  waiting_unsuspended (Ready n) w e = refl
  waiting_unsuspended (Awake v) w e = refl
  waiting_unsuspended (Waiting v) w e = refl
  waiting_unsuspended (Asleep v n) w e = refl
  waiting_unsuspended (WaitingForBits g m d) w e = refl
  waiting_unsuspended (WaitingForNotification m d) w e = refl
  waiting_unsuspended Suspended w e = absurd (cc)
  waiting_unsuspended Ended w e = refl

  placing_still : (i : ℕ) → (call_at s i).phase ≡ Place → IsPlacing s.time (task_at s i) (wait_of (status_at s i))
      → IsPlacing t.time (task_at t i) (wait_of (status_at t i))
  placing_still i is placing = by_wait (wait_of (status_at s i)) refl placing where
    phase : IsPhaseOf (hold_of s) (course (op_at app i (progress_at s i).op_index)) Place
    phase = subst (IsPhaseOf (hold_of s) (course (op_at app i (progress_at s i).op_index))) is (h.sound.calls i).phase

    by_wait : (o : Option Wait) → wait_of (status_at s i) ≡ o → IsPlacing s.time (task_at s i) o
        → IsPlacing t.time (task_at t i) (wait_of (status_at t i))
    by_wait None e p = absurd p
    by_wait (Some w) e p =
        let W : Option Wait → Type 0 = λ o.
        IfSome o (λ x. IsWaitOf (op_at app i (progress_at s i).op_index) (call_at s i).deadline x) in
        let of_op : IsWaitOf (op_at app i (progress_at s i).op_index) (call_at s i).deadline w = subst W e (h.sound.calls i).wait in
        let locked : is_locked s.locked w.list ≡ true =
        place_locked (hold_of s) (op_at app i (progress_at s i).op_index) w.list phase of_op.list in
        let L : Task → Type 0 = λ u. w.priority ≡ u.priority in
        let there : L (task_at t i) = subst L (sym (sp.at i (waiting_unsuspended (status_at s i) w e))) p.0 in
        let D : ℕ → Type 0 = λ now. IfSome w.deadline (λ deadline. now < deadline) in
        let later : D t.time = subst D (sym sp.kept.time) p.1 in
        subst (IsPlacing t.time (task_at t i)) (sym (sp.waits i w e locked)) (there, later)

  -- who ran on its last op runs on
  stranded_still : (i : ℕ) → IsStranded app s i → IsStranded app t i
  stranded_still i x = (same_by_task ∙ x.0, ap (op_at app i) (sp.op_index i) ∙ x.1)

  ready_still : (i : ℕ) → is_ready s i ≡ true → is_ready t i ≡ true
  ready_still i was = subst (λ (u : Task). is_some (ticket_if_ready u.status) ≡ true) (sym (sp.ready i was)) was

  runs_still : (r : Option ℕ) → RunsIn app s r → RunsIn app t r
  runs_still None r = held_as_it_was s t sp.kept.hold sp.kept.suspension ∙ r
  runs_still (Some i) r = record {
    holding = sp.holding i ∙ r.holding ∙ sym same_held;
    ready = λ none. elim (r.ready (sym same_held ∙ none)) [ inl was ↦ inl (ready_still i was) | inr x ↦ inr (stranded_still i x) ];
    setting = λ held way.
        ready_still i (r.setting (sym same_held ∙ held) (sym (ap (λ n. course (op_at app i n)) (sp.op_index i)) ∙ way));
    placing = λ is. let was : (call_at s i).phase ≡ Place = sp.place i is in placing_still i was (r.placing was);
  }

  pub state_still : IsState app t
  state_still = record {
    sound = subst (λ x. IsSound app x t) (sym sp.kept.hold) sound;
    runs = subst (RunsIn app t) (sym sp.current) (runs_still s.current h.runs);
    alone = λ i on. sp.current ∙ h.alone i (sym (sp.holding i) ∙ on);
    locked = λ none. ap (λ (x : Hold). x.locked) sp.kept.hold ∙ h.locked (sym same_held ∙ none);
    apart = λ on. same_held ∙ h.apart (sym same_by_task ∙ on);
    held = λ off. ap (λ (x : Suspension). x.held_ticks) sp.kept.suspension ∙ h.held (sym same_ticks ∙ off);
  }

-- None is raised for this tick any more.
pub lowered_between : (app : Application) → IsWellFormed app → (s : State) → IsState app s → IsState app (none_raised_now s)
lowered_between app formed s h =
    let many : length (none_raised_now s).sources ≡ length app.handlers + 1 =
    length-map s.sources (λ (x : Source). if is_raised_for s.elapsed x then record x { raised = None } else x)
    ∙ h.sound.sources in
    state_still app formed s (none_raised_now s) h (resourced app formed (hold_of s) s (none_raised_now s).sources many h.sound)
    (spares-none_raised_now s)

-- a handler that comes between two steps
pub come_between : (app : Application) → IsWellFormed app
    → (handler : ℕ) (s : State) → IsState app s → IsState app (come app handler s)
come_between app formed handler s h =
    state_still app formed s (come app handler s) h
    (come_sound app formed (hold_of s) s handler h.sound refl) (spares-come app handler s)

-- ---- without base interrupts

none_raised_for : (tick : ℕ) (xs : List Source) → AllByRecursion (λ (x : Source). x.raised ≡ None) xs
    → map (λ (x : Source). if is_raised_for tick x then record x { raised = None } else x) xs ≡ xs
none_raised_for tick [] h = refl
none_raised_for tick (x ∷ xs) h =
    let none : is_raised_for tick x ≡ false = ap (λ (o : Option ℕ). option_eq eqb o (Some tick)) h.0 in
    rw none (ap (λ (ys : List Source). x ∷ ys) (none_raised_for tick xs h.1))

not_raised : (xs : List Source) (i : ℕ) → AllByRecursion (λ (x : Source). x.raised ≡ None) xs
    → (get_or xs i no_source).raised ≡ None
not_raised [] i h = refl
not_raised (x ∷ xs) zero h = h.0
not_raised (x ∷ xs) (suc i) h = not_raised xs i h.1

none_chosen : (p : ℕ → Bool) (a n : ℕ) → ((i : ℕ) → p i ≡ false) → filter p (range_with_len a n) ≡ []
none_chosen p a zero none = refl
none_chosen p a (suc n) none = rw (none a) (none_chosen p (a + 1) n none)

-- If no handler is raised, none comes by itself, and none is lowered.
pub nobody_raised : (s : State) → IsNoneRaised s → (raised_now s ≡ []) × (none_raised_now s ≡ s)
nobody_raised s h = (
  none_chosen (λ source. is_raised_for s.elapsed (source_at s source)) 0 (length s.sources)
      (λ i. ap (λ (o : Option ℕ). option_eq eqb o (Some s.elapsed)) (not_raised s.sources i h)),
  ap (λ (xs : List Source). record s { sources = xs }) (none_raised_for s.elapsed s.sources h),
)

pub uninterrupted : (app : Application) → app.interrupts ≡ [] → (s : State) → IsNoneRaised s → interrupt app s ≡ s
unfolding interrupt
uninterrupted app none s h =
    let nobody = nobody_raised s h in
    let at_none : interrupts_at app s.elapsed ≡ [] = rw none refl in
    ap (λ (all : List ℕ). for_each (come app) (all ++ raised_now s) (none_raised_now s)) at_none
    ∙ ap (λ (all : List ℕ). for_each (come app) all (none_raised_now s)) nobody.0 ∙ nobody.1
