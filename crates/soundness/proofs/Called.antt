-- What the deeds of calls on objects keep.
use Rattle.model.specs.declared.value.Value as value
use Rattle.std.proofs.Common.{◌≡◌, ◌≢◌, ◌<◌, ◌≤◌, ◌+◌, ℕ, true, false, ltb, List, [], ◌∷◌, ◌++◌, length, get_or, set, drop, Option}
use Rattle.std.proofs.Common.{Some, None, refl, ap, sym, subst, arith, get_or-set_same, get_or-set_other, length-append}
use Rattle.std.specs.List.{AllByRecursion, slice_get}
use Rattle.std.specs.Option.{IfSome, option_map, option_and_then, is_some, unwrap_or}
use Rattle.std.proofs.Math.ListN.{length-set}
use Rattle.std.proofs.lemmas.Bool.{ltb-true}
use Rattle.model.specs.declared.object.ObjectKind.{ObjectKind}
use Rattle.model.specs.declared.object.ObjectKind.TheVariants.{Queue, Semaphore, Mutex}
use Rattle.model.specs.declared.op.Op.{Op}
use Rattle.model.specs.declared.op.Op.TheVariants.{Do}
use Rattle.model.specs.declared.op.Access.{Access}
use Rattle.model.specs.declared.op.Access.TheVariants.{Send, SendFront, Overwrite, Receive, Peek, Take, Give, Lock}
use Rattle.model.specs.declared.call.CallProgress.{CallProgress}
use Rattle.model.specs.declared.call.Phase.{Phase}
use Rattle.model.specs.declared.call.Phase.TheVariants.{Start, Try, Decide, Place, Unlock, Leave}
use Rattle.model.specs.declared.call.WaitList.{WaitList}
use Rattle.model.specs.declared.call.WaitList.TheVariants.{ToReceive, ToSend}
use Rattle.model.specs.Application.{Application, op_at}
use Rattle.model.specs.Scripts.{IsWellFormed, fits, fits_object, is_wait}
use Rattle.model.specs.State.{State, Task, Object, Status, Wait, Ready, Awake, Waiting, Asleep, WaitingForBits}
use Rattle.model.specs.State.{WaitingForNotification, Suspended, Ended, ticket_if_ready, wait_if_waiting, wait_if_awake, task_at}
use Rattle.model.specs.State.{status_at, progress_at, call_at, object_at, with_task, with_call, with_object, go_on, for_one}
use Rattle.model.specs.State.{no_task, no_object}
use Rattle.model.specs.Order.{Key, Entry, first, task_of}
use Rattle.model.specs.Switching.{is_ready}
use Rattle.model.specs.Waiting.{same_list, wait_key, waiters, awake_status, awaken, is_locked, wake_one, wake_best, wait_in}
use Rattle.model.specs.Waiting.{set_deadline}
use Rattle.model.specs.Objects.{allows, object_after, list_woken, list_for, possible, answer_to, fulfil, attempt}
use Rattle.model.specs.Calls.{do_now}
use Rattle.model.specs.Ops.{answer}
use Rattle.model.specs.Suspension.{phase_resumed}
use Rattle.model.specs.Invariant.{HasTicketBelow, IsReckoned, Hold, Course, InOne, OnObject, UntilWoken, ToSetBits, course}
use Rattle.model.specs.Invariant.{IsPhaseOf, list_of_op, IsWaitOf, IsCall, IsObject, IsSound, holds, wait_of}
use Rattle.model.proofs.Sorting.{by_test}
use Rattle.model.proofs.Lists.{HasKey, eqb-same, list_has}
use Rattle.model.proofs.Tables.{ticket_at, table-set, held_after, each-set, each-set_but}
use Rattle.model.proofs.Statuses.{ready_free}
use Rattle.soundness.proofs.InScripts.{nesting_past}
use Rattle.soundness.proofs.Sound.{IsKept, changed, taken, made_ready, answered, preempted}
use Rattle.soundness.proofs.Reckoned.{ready_reckoned}

-- ---- lists of those who wait

pub same_list_eq : (a b : WaitList) → same_list a b ≡ true → a ≡ b
same_list_eq (ToReceive a) (ToReceive b) t = ap ToReceive (eqb-same a b t)
same_list_eq (ToReceive a) (ToSend b) t = absurd (cc)
same_list_eq (ToSend a) (ToReceive b) t = absurd (cc)
same_list_eq (ToSend a) (ToSend b) t = ap ToSend (eqb-same a b t)

-- a task with a key in a list waits there
pub record WaitsIn (list : WaitList) (u : Status) : Type 0 where
  pub wait : Wait
  pub is : u ≡ Waiting wait
  pub there : same_list wait.list list ≡ true

pub waits_in : (list : WaitList) (u : Status) (k : Key)
    → option_and_then (wait_key list) (wait_if_waiting u) ≡ Some k → WaitsIn list u
waits_in list (Ready n) k e = absurd (cc)
waits_in list (Awake w) k e = absurd (cc)
waits_in list (Waiting w) k e = by_test (same_list w.list list)
    (λ t. record { wait = w; is = refl; there = t })
    (λ t. let none : None ≡ Some k = rw t at e in absurd (cc))
waits_in list (Asleep v n) k e = absurd (cc)
waits_in list (WaitingForBits g m d) k e = absurd (cc)
waits_in list (WaitingForNotification m d) k e = absurd (cc)
waits_in list Suspended k e = absurd (cc)
waits_in list Ended k e = absurd (cc)

unfoldable pub waits_key : WaitList → Task → Option Key
waits_key list t = option_and_then (wait_key list) (wait_if_waiting t.status)

ready_waits : (u : Status) (list : WaitList) → is_some (ticket_if_ready u) ≡ true → WaitsIn list u → ⊥
ready_waits u list r w =
    let P : Status → Type 0 = λ v. is_some (ticket_if_ready v) ≡ true in
    let f : false ≡ true = subst P w.is r in
    absurd (cc)

-- ---- objects

more-end : (v : ℕ) (xs : List ℕ) (size : ℕ) → ltb (length xs) size ≡ true → length (xs ++ v ∷ []) ≤ size
more-end v xs size t = let l = ltb-true (length xs) size t in omega (arith, length-append xs (v ∷ []))

fewer : (xs : List ℕ) (size : ℕ) → length xs ≤ size → length (drop 1 xs) ≤ size
fewer [] size l = l
fewer (x ∷ xs) size l = omega arith

-- a possible call leaves the object of its kind, and within its room
after : (kind : Option ObjectKind) (caller : Option ℕ) (a : Access ℕ) (o : Object)
    → unwrap_or (option_map (λ k. fits k a) kind) false ≡ true → IsObject kind o
    → allows o a ≡ true → IsObject kind (object_after caller a o)
after None caller a o f h t = absurd (cc)
after (Some (Queue size)) caller (Send v) o f h t = (h.0, let same = h.0 in let m = more-end v o.items o.size t in omega arith)
after (Some (Queue size)) caller (SendFront v) o f h t =
    (h.0, let same = h.0 in let l = ltb-true (length o.items) o.size t in omega arith)
after (Some (Queue size)) caller (Overwrite v) o f h t = (h.0, let one = eqb-same size 1 f in omega arith)
after (Some (Queue size)) caller Receive o f h t = (h.0, fewer o.items o.size h.1)
after (Some (Queue size)) caller Peek o f h t = h
after (Some (Queue size)) caller Take o f h t = absurd (cc)
after (Some (Queue size)) caller Give o f h t = absurd (cc)
after (Some (Queue size)) caller Lock o f h t = absurd (cc)
after (Some (Semaphore most first)) caller (Send v) o f h t = absurd (cc)
after (Some (Semaphore most first)) caller (SendFront v) o f h t = absurd (cc)
after (Some (Semaphore most first)) caller (Overwrite v) o f h t = absurd (cc)
after (Some (Semaphore most first)) caller Receive o f h t = absurd (cc)
after (Some (Semaphore most first)) caller Peek o f h t = absurd (cc)
after (Some (Semaphore most first)) caller Take o f h t = (h.0, let l = h.1 in omega arith)
after (Some (Semaphore most first)) caller Give o f h t = (h.0, let l = ltb-true o.count o.max_count t in omega arith)
after (Some (Semaphore most first)) caller Lock o f h t = absurd (cc)
after (Some Mutex) caller (Send v) o f h t = absurd (cc)
after (Some Mutex) caller (SendFront v) o f h t = absurd (cc)
after (Some Mutex) caller (Overwrite v) o f h t = absurd (cc)
after (Some Mutex) caller Receive o f h t = absurd (cc)
after (Some Mutex) caller Peek o f h t = absurd (cc)
after (Some Mutex) caller Take o f h t = absurd (cc)
after (Some Mutex) caller Give o f h t = absurd (cc)
after (Some Mutex) caller Lock o f h t = h

module _ (app : Application) (formed : IsWellFormed app) (hold : Hold) where
  pub stored : (s : State) (o : ℕ) (x : Object) → IsSound app hold s → IsObject (slice_get app.objects o) x
      → IfSome x.holder (λ i. i < length s.tasks) → IsSound app hold (with_object o x s)
  stored s o x h fine held = record {
    table =
        record {
          tickets = h.table.tickets;
          few = h.table.few;
          current = h.table.current;
          holders = each-set no_object (λ _ u. IfSome u.holder (λ i. i < length s.tasks)) s.objects o x held h.table.holders;
        };
    tasks = h.tasks;
    objects = rw length-set h.objects;
    progress = h.progress;
    calls = h.calls;
    contents = each-set no_object (λ k. IsObject (slice_get app.objects k)) s.objects o x fine h.contents;
    sources = h.sources;
    priorities = h.priorities;
    time = h.time;
  }

  -- ---- a wake

  -- one who waits becomes Awake
  pub woken_while_locked : (s : State) (i : ℕ) (list : WaitList) → IsSound app hold s
      → is_locked hold.locked list ≡ true → WaitsIn list (status_at s i) → IsSound app hold (awaken i s)
  woken_while_locked s i list h locked w =
      let u : Status = awake_status (status_at s i) in
      let same : u ≡ Awake w.wait = ap awake_status w.is in
      let a = h.progress i in
      let c = h.calls i in
      let there : is_locked hold.locked w.wait.list ≡ true =
      subst (λ l. is_locked hold.locked l ≡ true) (sym (same_list_eq w.wait.list list w.there)) locked in
      let B : Status → Type 0 = λ v. HasTicketBelow s.next_ticket v in
      let R : Status → Type 0 = λ v. IsReckoned s.time (progress_at s i).previous_wake v in
      let W : Status → Type 0 = λ v.
      IfSome (wait_of v) (λ x. IsWaitOf (op_at app i (progress_at s i).op_index) (call_at s i).deadline x) in
      let A : Status → Type 0 = λ v. IfSome (wait_if_awake v) (λ x. is_locked hold.locked x.list ≡ true) in
      let P : Status → Type 0 = λ v. IfSome (wait_of v) (λ x. x.priority < 32) in
      let below : HasTicketBelow s.next_ticket (Waiting w.wait) =
      subst B w.is (ticket_at s.next_ticket i s.tasks h.table.tickets) in
      let reckoned : IsReckoned s.time (progress_at s i).previous_wake (Waiting w.wait) = subst R w.is a.reckoned in
      let waits : IfSome (wait_of (Waiting w.wait))
      (λ x. IsWaitOf (op_at app i (progress_at s i).op_index) (call_at s i).deadline x) =
      subst W w.is c.wait in
      changed app formed hold s i (record (task_at s i) { status = u }) h (subst B (sym same) below) (
        record { nests = a.nests; loops = a.loops; used = a.used; reckoned = subst R (sym same) reckoned; stamped = a.stamped },
        record { phase = c.phase; wait = subst W (sym same) waits; awake = subst A (sym same) there; near = c.near },
        ((h.priorities i).0, (h.priorities i).1, subst P (sym same) (subst P w.is (h.priorities i).2)),
      )

  pub woken_one : (s : State) (i : ℕ) (list : WaitList) → IsSound app hold s → s.locked ≡ hold.locked
      → i < length s.tasks → WaitsIn list (status_at s i) → IsSound app hold (wake_one i list s)
  woken_one s i list h same l w =
      let R : Status → Type 0 = λ v. IsReckoned s.time (progress_at s i).previous_wake v in
      let past : (progress_at s i).previous_wake ≤ s.time = subst R w.is (h.progress i).reckoned in
      by_test (is_locked s.locked list)
      (λ t. rw t (woken_while_locked s i list h (subst (λ o. is_locked o list ≡ true) same t) w))
      (λ t. rw t (made_ready app formed hold s i h (l, past)))

  first_woken : (s : State) (list : WaitList) (es : List Entry) → IsSound app hold s
      → s.locked ≡ hold.locked → AllByRecursion (HasKey (waits_key list) s.tasks) es
      → IsSound app hold (for_one (λ i. wake_one i list) (task_of (first es)) s)
  unfolding waits_key
  first_woken s list [] h same has = h
  first_woken s list (e ∷ es) h same has =
      woken_one s e.task list h same has.0.within (waits_in list (status_at s e.task) e.key has.0.key)

  pub woken_best : (s : State) (list : WaitList) → IsSound app hold s → s.locked ≡ hold.locked → IsSound app hold (wake_best list s)
  unfolding wake_best waits_key
  woken_best s list h same = first_woken s list (waiters s list) h same (list_has (waits_key list) s.tasks)

  woken_for : (s : State) (o : Option WaitList) → IsSound app hold s
      → s.locked ≡ hold.locked → IsSound app hold (for_one wake_best o s)
  woken_for s None h same = h
  woken_for s (Some list) h same = woken_best s list h same

  pub fulfilled : (s : State) (caller : Option ℕ) (o : ℕ) (a : Access ℕ) → IsSound app hold s
      → s.locked ≡ hold.locked → possible s o a ≡ true → fits_object app o a ≡ true
      → IfSome caller (λ i. i < length s.tasks) → IsSound app hold (fulfil caller o a s)
  unfolding fulfil
  fulfilled s caller o a h same t f l =
      woken_for (with_object o (object_after caller a (object_at s o)) s) (list_woken caller o a)
      (stored s o (object_after caller a (object_at s o)) h
      (after (slice_get app.objects o) caller a (object_at s o) f (h.contents o) t)
      (held_after caller a (object_at s o) (length s.tasks) l (h.table.holders o)))
      same

  pub attempted : (s : State) (caller : Option ℕ) (o : ℕ) (a : Access ℕ) → IsSound app hold s → s.locked ≡ hold.locked
      → fits_object app o a ≡ true → IfSome caller (λ i. i < length s.tasks) → IsSound app hold (attempt caller o a s)
  unfolding attempt
  attempted s caller o a h same f l = by_test (possible s o a) (λ t. rw t (fulfilled s caller o a h same t f l)) (λ t. rw t h)

-- ---- a wake leaves who is Ready as it is

ready_apart : (s : State) (i j : ℕ) (list : WaitList) → is_ready s i ≡ true → WaitsIn list (status_at s j) → i ≢ j
ready_apart s i j list r w = λ e. ready_waits (status_at s j) list (subst (λ k. is_ready s k ≡ true) e r) w

pub spared_one : (s : State) (i j : ℕ) (list : WaitList) → is_ready s i ≡ true
    → WaitsIn list (status_at s j) → task_at (wake_one j list s) i ≡ task_at s i
spared_one s i j list r w =
    let ne : i ≢ j = ready_apart s i j list r w in
    by_test (is_locked s.locked list)
    (λ t. rw t (get_or-set_other s.tasks j i (record (task_at s j) { status = awake_status (status_at s j) }) no_task ne))
    (λ t. rw t (get_or-set_other s.tasks j i (record (task_at s j) { status = Ready s.next_ticket }) no_task ne))

first_spared : (s : State) (i : ℕ) (list : WaitList) (es : List Entry)
    → is_ready s i ≡ true → AllByRecursion (HasKey (waits_key list) s.tasks) es
    → task_at (for_one (λ j. wake_one j list) (task_of (first es)) s) i ≡ task_at s i
unfolding waits_key
first_spared s i list [] r has = refl
first_spared s i list (e ∷ es) r has = spared_one s i e.task list r (waits_in list (status_at s e.task) e.key has.0.key)

pub spared_best : (s : State) (i : ℕ) (list : WaitList) → is_ready s i ≡ true → task_at (wake_best list s) i ≡ task_at s i
unfolding wake_best waits_key
spared_best s i list r = first_spared s i list (waiters s list) r (list_has (waits_key list) s.tasks)

spared_for : (s : State) (i : ℕ) (o : Option WaitList) → is_ready s i ≡ true → task_at (for_one wake_best o s) i ≡ task_at s i
spared_for s i None r = refl
spared_for s i (Some list) r = spared_best s i list r

pub spared_fulfil : (s : State) (i : ℕ) (caller : Option ℕ) (o : ℕ) (a : Access ℕ)
    → is_ready s i ≡ true → task_at (fulfil caller o a s) i ≡ task_at s i
unfolding fulfil
spared_fulfil s i caller o a r = spared_for (with_object o (object_after caller a (object_at s o)) s) i (list_woken caller o a) r

pub spared_attempt : (s : State) (i : ℕ) (caller : Option ℕ) (o : ℕ) (a : Access ℕ)
    → is_ready s i ≡ true → task_at (attempt caller o a s) i ≡ task_at s i
unfolding attempt
spared_attempt s i caller o a r = by_test (possible s o a) (λ t. rw t (spared_fulfil s i caller o a r)) (λ t. rw t refl)

-- ---- a call of a Ready task

near_now : (ticks : Option ℕ) (now : ℕ) → is_wait ticks ≡ true
    → IfSome (option_map (λ n. now + n) ticks) (λ deadline. deadline < now + 4294967296)
near_now None now t = tt
near_now (Some n) now t = let l = ltb-true n 4294967295 t in omega arith

module _ (app : Application) (formed : IsWellFormed app) (hold : Hold) where
  -- a call goes on with another phase
  pub went_on : (s : State) (i : ℕ) (phase : Phase) → IsSound app hold s
      → IsPhaseOf hold (course (op_at app i (progress_at s i).op_index)) phase → IsSound app hold (go_on i phase s)
  went_on s i phase h p =
      let a = h.progress i in
      let c = h.calls i in
      changed app formed hold s i
      (record (task_at s i) { progress = record (progress_at s i) { call = record (call_at s i) { phase = phase } } })
      h (ticket_at s.next_ticket i s.tasks h.table.tickets) (
        record { nests = a.nests; loops = a.loops; used = a.used; reckoned = a.reckoned; stamped = a.stamped },
        record { phase = p; wait = c.wait; awake = c.awake; near = c.near },
        h.priorities i,
      )

  -- a call that begins gets its deadline
  pub dated : (s : State) (i : ℕ) (ticks : Option ℕ) → IsSound app hold s
      → wait_of (status_at s i) ≡ None → is_wait ticks ≡ true → IsSound app hold (set_deadline i ticks s)
  unfolding set_deadline
  dated s i ticks h free range =
      let a = h.progress i in
      let c = h.calls i in
      let deadline : Option ℕ = option_map (λ n. s.time + n) ticks in
      let W : Option Wait → Type 0 = λ o. IfSome o (λ w. IsWaitOf (op_at app i (progress_at s i).op_index) deadline w) in
      changed app formed hold s i
      (record (task_at s i) { progress = record (progress_at s i) { call = record (call_at s i) { deadline = deadline } } })
      h (ticket_at s.next_ticket i s.tasks h.table.tickets) (
        record { nests = a.nests; loops = a.loops; used = a.used; reckoned = a.reckoned; stamped = a.stamped },
        record { phase = c.phase; wait = subst W (sym free) tt; awake = c.awake; near = near_now ticks s.time range },
        h.priorities i,
      )

  -- the call is done, or not, and answers
  pub replied : (s t : State) (i : ℕ) (op : Op) (reply : Option ℕ) → IsSound app hold t
      → task_at t i ≡ task_at s i → is_ready s i ≡ true → op_at app i (progress_at s i).op_index ≡ Some op
      → ((nesting : ℕ) → nesting_past nesting op ≡ nesting) → IsSound app hold (answer app i reply t)
  replied s t i op reply h same r is flat =
      let O : Task → Type 0 = λ u. op_at app i u.progress.op_index ≡ Some op in
      let F : Task → Type 0 = λ u. wait_of u.status ≡ None in
      answered app formed hold t i op h (subst F (sym same) (ready_free (status_at s i) r))
      (subst O (sym same) is) reply (flat (length (progress_at t i).loops))

  pub done_now : (s : State) (i o : ℕ) (v : Access value.Value) (a : Access ℕ) → IsSound app hold s → s.locked ≡ hold.locked
      → i < length s.tasks → is_ready s i ≡ true → op_at app i (progress_at s i).op_index ≡ Some (Do o v)
      → fits_object app o a ≡ true → IsSound app hold (do_now app i o a s)
  unfolding do_now
  done_now s i o v a h same l r is fit =
      preempted app formed hold _ (replied s (attempt (Some i) o a s) i (Do o v) (answer_to s o a)
      (attempted app formed hold s (Some i) o a h same fit l) (spared_attempt s i (Some i) o a r) r is (λ n. refl))

  -- a wait begins
  pub began : (s : State) (i o : ℕ) (a : Access ℕ) (op : Op) → IsSound app hold s
      → i < length s.tasks → is_ready s i ≡ true → op_at app i (progress_at s i).op_index ≡ Some op
      → list_of_op (Some op) ≡ Some (list_for o a) → IsSound app hold (wait_in i (list_for o a) s)
  unfolding wait_in
  began s i o a op h l r is listed =
      let list : WaitList = list_for o a in
      let call : CallProgress = record (call_at s i) { waits = true } in
      let t : Task = record (task_at s i) { progress = record (progress_at s i) { call = call } } in
      let s1 : State = with_call i call s in
      let at : task_at s1 i ≡ t = get_or-set_same s.tasks i t no_task l in
      let f : ℕ → Status = λ ticket.
      Waiting (record { list = list; priority = (task_at s i).priority; ticket = ticket; deadline = (call_at s i).deadline }) in
      let a0 = h.progress i in
      let c0 = h.calls i in
      let past : (progress_at s i).previous_wake ≤ s.time =
      ready_reckoned s.time (progress_at s i).previous_wake (status_at s i) a0.reckoned r in
      let L : Option Op → Type 0 = λ op. list_of_op op ≡ Some list in
      let h1 : IsSound app hold s1 = changed app formed hold s i t h (ticket_at s.next_ticket i s.tasks h.table.tickets) (
        record { nests = a0.nests; loops = a0.loops; used = a0.used; reckoned = a0.reckoned; stamped = a0.stamped },
        record { phase = c0.phase; wait = c0.wait; awake = c0.awake; near = c0.near },
        h.priorities i,
      ) in
      let K : Task → Type 0 = λ u. IsKept app formed hold s.time i (record u { status = f s.next_ticket }) in
      taken app formed hold s1 i f h1 (omega arith) (subst K (sym at) (
        record { nests = a0.nests; loops = a0.loops; used = a0.used; reckoned = past; stamped = a0.stamped },
        record { phase = c0.phase; wait = record { list = subst L (sym is) listed; deadline = refl }; awake = tt; near = c0.near },
        ((h.priorities i).0, (h.priorities i).1, (h.priorities i).1),
      ))

-- a call that gets its deadline is that of a task that is Ready still, and at the same op
pub dated_at : (s : State) (i : ℕ) (ticks : Option ℕ) → i < length s.tasks
    → (is_ready (set_deadline i ticks s) i ≡ is_ready s i)
    × ((progress_at (set_deadline i ticks s) i).op_index ≡ (progress_at s i).op_index)
unfolding set_deadline
dated_at s i ticks l =
    let t : Task =
    record (task_at s i)
    { progress = record (progress_at s i) { call = record (call_at s i) { deadline = option_map (λ n. s.time + n) ticks } } } in
    let at : get_or (set s.tasks i t) i no_task ≡ t = get_or-set_same s.tasks i t no_task l in
    (ap (λ (u : Task). is_some (ticket_if_ready u.status)) at, ap (λ (u : Task). u.progress.op_index) at)

-- ---- another hold

-- a phase that doesn't hold the scheduler fits every hold
phase_apart : (old new : Hold) (way : Course) (phase : Phase)
    → holds phase ≡ false → IsPhaseOf old way phase → IsPhaseOf new way phase
phase_apart old new InOne Start t p = tt
phase_apart old new InOne Try t p = absurd p
phase_apart old new InOne Decide t p = absurd p
phase_apart old new InOne Place t p = absurd p
phase_apart old new InOne Unlock t p = absurd p
phase_apart old new InOne Leave t p = absurd p
phase_apart old new (OnObject o) Start t p = tt
phase_apart old new (OnObject o) Try t p = tt
phase_apart old new (OnObject o) Decide t p = tt
phase_apart old new (OnObject o) Place t p = absurd (cc)
phase_apart old new (OnObject o) Unlock t p = absurd (cc)
phase_apart old new (OnObject o) Leave t p = absurd (cc)
phase_apart old new UntilWoken Start t p = tt
phase_apart old new UntilWoken Decide t p = absurd p
phase_apart old new UntilWoken Place t p = absurd p
phase_apart old new UntilWoken Unlock t p = absurd p
phase_apart old new UntilWoken Leave t p = absurd (cc)
phase_apart old new UntilWoken Try t p = tt
phase_apart old new ToSetBits Start t p = tt
phase_apart old new ToSetBits Try t p = absurd p
phase_apart old new ToSetBits Decide t p = absurd p
phase_apart old new ToSetBits Place t p = absurd p
phase_apart old new ToSetBits Unlock t p = absurd p
phase_apart old new ToSetBits Leave t p = absurd (cc)

-- where nothing is held, no phase holds
pub phase_free : (hold : Hold) (way : Course) (phase : Phase) → hold.held ≡ false → IsPhaseOf hold way phase → holds phase ≡ false
phase_free hold InOne Start t p = refl
phase_free hold InOne Try t p = absurd p
phase_free hold InOne Decide t p = absurd p
phase_free hold InOne Place t p = absurd p
phase_free hold InOne Unlock t p = absurd p
phase_free hold InOne Leave t p = absurd p
phase_free hold (OnObject o) Start t p = refl
phase_free hold (OnObject o) Try t p = refl
phase_free hold (OnObject o) Decide t p = refl
phase_free hold (OnObject o) Place t p = let held = p.0 in absurd (cc)
phase_free hold (OnObject o) Unlock t p = let held = p.0 in absurd (cc)
phase_free hold (OnObject o) Leave t p = let held = p.0 in absurd (cc)
phase_free hold UntilWoken Start t p = refl
phase_free hold UntilWoken Decide t p = absurd p
phase_free hold UntilWoken Place t p = absurd p
phase_free hold UntilWoken Unlock t p = absurd p
phase_free hold UntilWoken Leave t p = let held = p.0 in absurd (cc)
phase_free hold UntilWoken Try t p = refl
phase_free hold ToSetBits Start t p = refl
phase_free hold ToSetBits Try t p = absurd p
phase_free hold ToSetBits Decide t p = absurd p
phase_free hold ToSetBits Place t p = absurd p
phase_free hold ToSetBits Unlock t p = absurd p
phase_free hold ToSetBits Leave t p = let held = p.0 in absurd (cc)

-- a task that is resumed is in a phase of its op still
pub phase_again : (hold : Hold) (way : Course) (phase : Phase) → IsPhaseOf hold way phase → IsPhaseOf hold way (phase_resumed phase)
phase_again hold InOne Start p = tt
phase_again hold InOne Try p = absurd p
phase_again hold InOne Decide p = absurd p
phase_again hold InOne Place p = absurd p
phase_again hold InOne Unlock p = absurd p
phase_again hold InOne Leave p = absurd p
phase_again hold (OnObject o) Start p = tt
phase_again hold (OnObject o) Try p = tt
phase_again hold (OnObject o) Decide p = tt
phase_again hold (OnObject o) Place p = p
phase_again hold (OnObject o) Unlock p = p
phase_again hold (OnObject o) Leave p = p
phase_again hold UntilWoken Start p = tt
phase_again hold UntilWoken Decide p = absurd p
phase_again hold UntilWoken Place p = absurd p
phase_again hold UntilWoken Unlock p = absurd p
phase_again hold UntilWoken Leave p = p
phase_again hold UntilWoken Try p = tt
phase_again hold ToSetBits Start p = tt
phase_again hold ToSetBits Try p = absurd p
phase_again hold ToSetBits Decide p = absurd p
phase_again hold ToSetBits Place p = absurd p
phase_again hold ToSetBits Unlock p = absurd p
phase_again hold ToSetBits Leave p = p

-- an op of one phase is in its first
pub course_of_one : (hold : Hold) (phase : Phase) → IsPhaseOf hold InOne phase → phase ≡ Start
course_of_one hold Start p = refl
course_of_one hold Try p = absurd p
course_of_one hold Decide p = absurd p
course_of_one hold Place p = absurd p
course_of_one hold Unlock p = absurd p
course_of_one hold Leave p = absurd p

pub call_apart : (old new : Hold) (now : ℕ) (op : Option Op) (t : Task) → holds t.progress.call.phase ≡ false
    → wait_if_awake t.status ≡ None → IsCall old now op t → IsCall new now op t
call_apart old new now op t free asleep c =
    let A : Option Wait → Type 0 = λ o. IfSome o (λ w. is_locked new.locked w.list ≡ true) in
    record {
      phase = phase_apart old new (course op) t.progress.call.phase free c.phase;
      wait = c.wait;
      awake = subst A (sym asleep) tt;
      near = c.near;
    }

module _ (app : Application) (formed : IsWellFormed app) (old new : Hold) where
  -- one task changes, and what is held
  pub rehung : (s : State) (i : ℕ) (t : Task) → IsSound app old s → i < length s.tasks
      → HasTicketBelow s.next_ticket t.status → IsKept app formed new s.time i t
      → ((j : ℕ) → j ≢ i → IsCall new s.time (op_at app j (progress_at s j).op_index) (task_at s j))
      → IsSound app new (with_task i t s)
  rehung s i t h l b k others =
      let all : (j : ℕ) → IsKept app formed new s.time j (get_or (set s.tasks i t) j no_task) =
      each-set_but no_task (IsKept app formed new s.time) s.tasks i t l k (λ j ne. (h.progress j, others j ne, h.priorities j)) in
      record {
        table = table-set s i t h.table b;
        tasks = rw length-set h.tasks;
        objects = h.objects;
        progress = λ j. (all j).0;
        calls = λ j. (all j).1;
        contents = h.contents;
        sources = h.sources;
        priorities = λ j. (all j).2;
        time = h.time;
      }

  -- what is held changes, and no task
  pub reheld : (s : State) → IsSound app old s
      → ((j : ℕ) → IsCall new s.time (op_at app j (progress_at s j).op_index) (task_at s j)) → IsSound app new s
  reheld s h calls =
      record {
        table = h.table;
        tasks = h.tasks;
        objects = h.objects;
        progress = h.progress;
        calls = calls;
        contents = h.contents;
        sources = h.sources;
        priorities = h.priorities;
        time = h.time;
      }
