-- The end state of a run, as a kernel has it.
use Rattle.std.proofs.Common.{◌≡◌, ◌≢◌, ◌<◌, ◌+◌, ◌||◌, ℕ, zero, suc, Bool, true, false, eqb, List, [], ◌∷◌, ◌++◌, length, map}
use Rattle.std.proofs.Common.{take, get_or, Option, Some, None, refl, ap, ap₂, sym, subst, ◌∙◌, arith}
use Rattle.std.specs.Prelude.{if◌then◌else◌}
use Rattle.std.specs.List.{cons_option, range_with_len}
use Rattle.std.specs.Option.{IfSome, is_some, option_and_then, option_map}
use Rattle.std.proofs.Math.ListN.{length-set}
use Rattle.std.proofs.lemmas.List.{get_or-set_other}
use Rattle.std.proofs.lemmas.List.Folds.{list_any-append}
use Rattle.std.proofs.lemmas.Option.{same_Some}
use Rattle.model.specs.declared.call.Phase.{Phase}
use Rattle.model.specs.declared.call.Phase.TheVariants.{Place, Unlock}
use Rattle.model.specs.declared.call.WaitList.{WaitList}
use Rattle.model.specs.declared.call.WaitList.TheVariants.{ToReceive, ToSend}
use Rattle.model.specs.declared.op.Op.{Op}
use Rattle.model.specs.Application.{Application, op_at}
use Rattle.model.specs.State.{State, Object, Progress, Status, Task, Wait, Ready, Awake, Waiting, WaitingForBits}
use Rattle.model.specs.State.{WaitingForNotification, Asleep, Suspended}
use Rattle.model.specs.State.{Ended, call_at, for_each, for_one, go_on, no_object, no_task, printed, progress_at, status_at}
use Rattle.model.specs.State.{task_at, ticket_if_ready, wait_if_awake, wake_time_of}
use Rattle.model.specs.Order.{Entry, Key, tasks_of}
use Rattle.model.specs.Switching.{is_same, make_ready}
use Rattle.model.specs.Waiting.{awakened, is_locked, same_list, unlock, unlock_object, wait_key}
use Rattle.model.specs.Suspension.{can_resume}
use Rattle.model.specs.Invariant.{IsPlacing, IsRunning, IsState, IsWaitOf, RunsIn, wait_of}
use Rattle.model.proofs.Lists.{eqb-refl, eqb-same}
use Rattle.model.proofs.Members.{has_task, has_task-key, has_task-none}
use Rattle.model.proofs.Tables.{each-set}
use Rattle.task_lists.specs.Tasks.{is_among}
use Rattle.groups.specs.StandsFor.{event_wait}
use Rattle.objects.specs.declared.waiting_lists.Unlocked.{Unlocked}
use Rattle.objects.specs.WaitersStand.{AtLocked, is_awake}
use Rattle.objects.proofs.Awake.{nobody_awake}
use Rattle.machine.specs.declared.machine.Machine.{Machine}
use Rattle.machine.specs.StandsFor.{Stands, StandsBefore, StandsFor, progress_in}
use Rattle.machine.specs.StandsFor.Stands.{Placed, Placing}
use Rattle.machine.specs.Can.{IsAhead}
use Rattle.machine.proofs.Either.{current_is, now_is, progress_is}
use Rattle.ops.specs.Can.{CanPlace}
use Rattle.kernel.specs.EndStates.{Settles, StandsOpened}
use Rattle.sched.specs.Schedule as schedule
use Rattle.sched.specs.Schedule.{is_suspended}
use Rattle.sched.proofs.Standing.{ready_same}
use Rattle.model.specs.declared.end_state.HeldMutex.{HeldMutex}
use Rattle.model.specs.declared.end_state.Situation.{Situation}
use Rattle.model.specs.declared.end_state.Situation.TheVariants as situation
use Rattle.model.specs.EndStates.{EndState, end_state_of, held_by, held_from, situation_by, situation_of}

-- ---- who has begun to wait, and isn't in its lists yet

-- its deadline is still to come
ahead : (op : Option Op) (now : ℕ) (t : Task) (wait : Option Wait) (deadline : Option ℕ) → IfSome wait (λ w. IsWaitOf op deadline w)
    → IsPlacing now t wait → IfSome deadline (λ d. d < now + 4294967296) → IsAhead now deadline
ahead op now t None deadline of p near = absurd p
ahead op now t (Some w) None of p near = tt
ahead op now t (Some w) (Some d) of p near =
    let later : now < d = subst (λ (o : Option ℕ). IfSome o (λ time. now < time)) of.deadline p.1 in
    (later, omega arith)

module _ (app : Application) (s : State) (reached : IsState app s) (k : Machine)
    (h : Stands k s) (task : ℕ) (on : k.sched.current ≡ Some task) where
  runs : s.current ≡ Some task
  runs = sym (current_is k s h) ∙ on

  running : IsRunning app s task
  running = subst (RunsIn app s) runs reached.runs

  deadline_ahead : (call_at s task).phase ≡ Place → IsAhead k.clock.now (progress_in k.progress task).call.deadline
  deadline_ahead at =
      let D : Progress → Type 0 = λ p. IsAhead k.clock.now p.call.deadline in
      let calls = reached.sound.calls task in
      let own : IsAhead s.time (call_at s task).deadline =
      ahead (op_at app task (progress_at s task).op_index) s.time (task_at s task)
      (wait_of (status_at s task)) (call_at s task).deadline calls.wait (running.placing at) calls.near in
      subst D (sym (progress_is k s h task)) (subst (λ (now : ℕ). IsAhead now (call_at s task).deadline) (sym (now_is k s h)) own)

  pub can_place : (progress_in k.progress task).call.phase ≡ Place → CanPlace k task
  can_place e = by_stands h where
    by_stands : Stands k s → CanPlace k task
    by_stands (Placed p) = absurd (p.rest.placed task e)
    by_stands (Placing other list b) =
        let one : other ≡ task = same_Some other task (sym b.current ∙ runs) in
        record {
          state = s;
          list = list;
          stands = subst (λ (i : ℕ). StandsBefore i list k s) one b;
          deadline = deadline_ahead (ap (λ (p : Progress). p.call.phase) (sym (progress_is k s h task)) ∙ e);
        }

-- ---- the same is reported of both

map_same : {X Y : Type 0} (f g : X → Y) → ((x : X) → f x ≡ g x) → (xs : List X) → map f xs ≡ map g xs
map_same f g same [] = refl
map_same f g same (x ∷ xs) = ap₂ (λ y ys. y ∷ ys) (same x) (map_same f g same xs)

module _ (s : State) (i : ℕ) (phase : Phase) where
  situation_goes_on : (j : ℕ) → situation_of (go_on i phase s) j ≡ situation_of s j
  situation_goes_on =
      let P : ℕ → Task → Type 0 = λ j u.
      situation_by u.progress.op_index (is_same s.current (Some j)) u.status ≡ situation_of s j in
      let p : Progress = record (progress_at s i) { call = record (call_at s i) { phase = phase } } in
      each-set no_task P s.tasks i (record (task_at s i) { progress = p }) refl (λ j. refl)

  pub tasks_go_on : length (go_on i phase s).tasks ≡ length s.tasks
  tasks_go_on = length-set _ _ _

  pub end_state_goes_on : end_state_of (go_on i phase s) ≡ end_state_of s
  end_state_goes_on =
      let R : List Situation → EndState = λ xs. record { situations = xs; held = held_from 0 s.objects; variables = s.variables } in
      let N : ℕ → List Situation = λ n. map (situation_of (go_on i phase s)) (range_with_len 0 n) in
      ap R (ap N tasks_go_on
      ∙ map_same (situation_of (go_on i phase s)) (situation_of s) situation_goes_on (range_with_len 0 (length s.tasks)))

module _ (app : Application) (k : Machine) (s : State) (reached : IsState app s) where
  pub settles : StandsFor k s → Settles app k s
  settles h = record { state = s; stands = h; tasks = reached.sound.tasks; objects = reached.sound.objects; same = refl }

  pub settles_placed : (i : ℕ) → StandsFor k (go_on i Unlock s) → Settles app k s
  settles_placed i h = record {
    state = go_on i Unlock s;
    stands = h;
    tasks = tasks_go_on s i Unlock ∙ reached.sound.tasks;
    objects = reached.sound.objects;
    same = end_state_goes_on s i Unlock;
  }

-- ---- who is Awake

among-tasks_of : (i : ℕ) (es : List Entry) → is_among i (tasks_of es) ≡ has_task i es
among-tasks_of i [] = refl
among-tasks_of i (e ∷ es) = ap (λ (b : Bool). eqb e.task i || b) (among-tasks_of i es)

abbrev woken_key : WaitList → Task → Option Key
woken_key list t = option_and_then (wait_key list) (wait_if_awake t.status)

-- whether it was woken out of this list
among_woken : (s : State) (list : WaitList) (i : ℕ)
    → is_among i (tasks_of (awakened s list)) ≡ is_some (woken_key list (task_at s i))
among_woken s list i = among-tasks_of i (awakened s list) ∙ by_key (woken_key list (task_at s i)) refl where
  by_key : (o : Option Key) → woken_key list (task_at s i) ≡ o → has_task i (awakened s list) ≡ is_some o
  by_key None e = has_task-none (woken_key list) i s.tasks e
  by_key (Some k) e = has_task-key (woken_key list) refl i k s.tasks e

or-true : (b : Bool) → (b || true) ≡ true
or-true true = refl
or-true false = refl

woken_either : (o : ℕ) (w : Option Wait) → IfSome w (λ w. is_locked (Some o) w.list ≡ true)
    → (is_some (option_and_then (wait_key (ToReceive o)) w) || is_some (option_and_then (wait_key (ToSend o)) w)) ≡ is_some w
woken_either o None at = refl
woken_either o (Some w) at = by_list w.list refl at where
  by_list : (list : WaitList) → w.list ≡ list → is_locked (Some o) list ≡ true
      → (is_some (wait_key (ToReceive o) w) || is_some (wait_key (ToSend o) w)) ≡ true
  by_list (ToReceive p) e t =
      let same : o ≡ p = eqb-same o p t in
      let own : same_list w.list (ToReceive o) ≡ true =
      ap (λ (l : WaitList). same_list l (ToReceive o)) e ∙ ap (λ (q : ℕ). eqb q o) (sym same) ∙ eqb-refl o in
      rw own refl
  by_list (ToSend p) e t =
      let same : o ≡ p = eqb-same o p t in
      let own : same_list w.list (ToSend o) ≡ true =
      ap (λ (l : WaitList). same_list l (ToSend o)) e ∙ ap (λ (q : ℕ). eqb q o) (sym same) ∙ eqb-refl o in
      rw own (or-true _)

-- those who were woken through the locked object are the Awake ones
pub woken_are : (s : State) (o : ℕ) → s.locked ≡ Some o → AtLocked None s → (receivers senders : List ℕ)
    → receivers ≡ tasks_of (awakened s (ToReceive o)) → senders ≡ tasks_of (awakened s (ToSend o))
    → (i : ℕ) → is_among i (receivers ++ senders) ≡ is_awake s i
woken_are s o locked h receivers senders r t i =
    let at : IfSome (wait_if_awake (status_at s i)) (λ w. is_locked (Some o) w.list ≡ true) =
    subst (λ (l : Option ℕ). IfSome (wait_if_awake (status_at s i)) (λ w. is_locked l w.list ≡ true)) locked (h.awake i) in
    list_any-append (λ other. eqb other i) receivers senders
    ∙ ap₂ (λ (a b : Bool). a || b) (ap (is_among i) r ∙ among_woken s (ToReceive o) i)
    (ap (is_among i) t ∙ among_woken s (ToSend o) i)
    ∙ woken_either o (wait_if_awake (status_at s i)) at

pub none_is_awake : (s : State) → s.locked ≡ None → AtLocked None s → (i : ℕ) → false ≡ is_awake s i
none_is_awake s none h i = sym (ap (λ (w : Option Wait). is_some w) (nobody_awake None s none h i))

-- ---- the others stay as they are when the object is unlocked

not_first : (a b : Bool) → (a || b) ≡ false → a ≡ false
not_first false b e = refl
not_first true b e = absurd (cc)

not_later : (a b : Bool) → (a || b) ≡ false → b ≡ false
not_later false b e = e
not_later true b e = absurd (cc)

unmoved : (s : State) (js : List ℕ) (i : ℕ) → is_among i js ≡ false → status_at (for_each make_ready js s) i ≡ status_at s i
unmoved s [] i none = refl
unmoved s (j ∷ js) i none =
    let apart : i ≢ j = λ same.
    (let t : eqb j i ≡ true = ap (eqb j) same ∙ eqb-refl j in let f = not_first (eqb j i) (is_among i js) none in absurd (cc)) in
    unmoved (make_ready j s) js i (not_later (eqb j i) (is_among i js) none)
    ∙ ap (λ (t : Task). t.status)
    (get_or-set_other s.tasks j i (record (task_at s j) { status = Ready s.next_ticket }) no_task apart)

pub others_stay : (s : State) → AtLocked None s → (i : ℕ) → is_awake s i ≡ false → status_at (unlock s) i ≡ status_at s i
unfolding unlock
others_stay s h i not = by_locked s.locked refl where
  by_locked : (o : Option ℕ) → s.locked ≡ o → status_at (for_one unlock_object o s) i ≡ status_at s i
  by_locked None e = refl
  by_locked (Some o) e =
      unmoved (record s { locked = None }) (tasks_of (awakened s (ToReceive o)) ++ tasks_of (awakened s (ToSend o)))
      i (woken_are s o e h _ _ refl refl i ∙ not)

-- ---- what a task is doing, by what is asked of its status

pub told_suspended : (op : ℕ) (b : Bool) (u : Status) → can_resume u ≡ true → situation.Suspended op ≡ situation_by op b u
told_suspended op b (Ready n) e = absurd (cc)
told_suspended op b (Awake w) e = absurd (cc)
told_suspended op b (Waiting w) e = absurd (cc)
told_suspended op b (WaitingForBits g n d) e = absurd (cc)
told_suspended op b (WaitingForNotification n d) e = absurd (cc)
told_suspended op b (Asleep w n) e = absurd (cc)
told_suspended op b Suspended e = refl
told_suspended op b Ended e = absurd (cc)

pub told_ready : (op : ℕ) (b : Bool) (u : Status) → is_some (ticket_if_ready u) ≡ true
    → (if b then situation.Runs op else situation.Ready op) ≡ situation_by op b u
told_ready op b (Ready n) e = refl
told_ready op b (Awake w) e = absurd (cc)
told_ready op b (Waiting w) e = absurd (cc)
told_ready op b (WaitingForBits g n d) e = absurd (cc)
told_ready op b (WaitingForNotification n d) e = absurd (cc)
told_ready op b (Asleep w n) e = absurd (cc)
told_ready op b Suspended e = absurd (cc)
told_ready op b Ended e = absurd (cc)

pub told_awake : (op : ℕ) (b : Bool) (u : Status) → is_some (wait_if_awake u) ≡ true → situation.Awake op ≡ situation_by op b u
told_awake op b (Ready n) e = absurd (cc)
told_awake op b (Awake w) e = refl
told_awake op b (Waiting w) e = absurd (cc)
told_awake op b (WaitingForBits g n d) e = absurd (cc)
told_awake op b (WaitingForNotification n d) e = absurd (cc)
told_awake op b (Asleep w n) e = absurd (cc)
told_awake op b Suspended e = absurd (cc)
told_awake op b Ended e = absurd (cc)

-- It waits, until this tick.
pub told_waiting : (op : ℕ) (b : Bool) (u : Status) (until : Option ℕ)
    → is_some (wait_if_awake u) ≡ false → (is_some (wait_of u) || is_some (event_wait u)) ≡ true
    → until ≡ option_map printed (wake_time_of u) → situation.Waits op until ≡ situation_by op b u
told_waiting op b (Ready n) until a e t = absurd (cc)
told_waiting op b (Awake w) until a e t = absurd (cc)
told_waiting op b (Waiting w) until a e t = ap (λ o. situation.Waits op o) t
told_waiting op b (WaitingForBits g n d) until a e t = ap (λ o. situation.Waits op o) t
told_waiting op b (WaitingForNotification n d) until a e t = ap (λ o. situation.Waits op o) t
told_waiting op b (Asleep w n) until a e t = absurd (cc)
told_waiting op b Suspended until a e t = absurd (cc)
told_waiting op b Ended until a e t = absurd (cc)

-- what is known of a status of none of these kinds
pub record IsElsewhere (u : Status) : Type 0 where
  pub suspended : can_resume u ≡ false
  pub ready : is_some (ticket_if_ready u) ≡ false
  pub awake : is_some (wait_if_awake u) ≡ false
  pub waits : (is_some (wait_of u) || is_some (event_wait u)) ≡ false

pub told_asleep : (op : ℕ) (b : Bool) (u : Status) (until : ℕ) → IsElsewhere u
    → Some until ≡ option_map printed (wake_time_of u) → situation.Sleeps op until ≡ situation_by op b u
told_asleep op b (Ready n) until e t = absurd (cc)
told_asleep op b (Awake w) until e t = let f = e.awake in absurd (cc)
told_asleep op b (Waiting w) until e t = let f = e.waits in absurd (cc)
told_asleep op b (WaitingForBits g n d) until e t = let f = e.waits in absurd (cc)
told_asleep op b (WaitingForNotification n d) until e t = let f = e.waits in absurd (cc)
told_asleep op b (Asleep w n) until e t = ap (λ m. situation.Sleeps op m) (same_Some until (printed w) t)
told_asleep op b Suspended until e t = absurd (cc)
told_asleep op b Ended until e t = absurd (cc)

pub told_ended : (op : ℕ) (b : Bool) (u : Status) → IsElsewhere u
    → None ≡ option_map printed (wake_time_of u) → situation.Ended ≡ situation_by op b u
told_ended op b (Ready n) e t = let f = e.ready in absurd (cc)
told_ended op b (Awake w) e t = let f = e.awake in absurd (cc)
told_ended op b (Waiting w) e t = let f = e.waits in absurd (cc)
told_ended op b (WaitingForBits g n d) e t = let f = e.waits in absurd (cc)
told_ended op b (WaitingForNotification n d) e t = let f = e.waits in absurd (cc)
told_ended op b (Asleep w n) e t = absurd (cc)
told_ended op b Suspended e t = let f = e.suspended in absurd (cc)
told_ended op b Ended e t = refl

-- ---- one object after the other

held_more : (k i : ℕ) (os : List Object) → i < length os
    → held_from k (take (suc i) os)
    ≡ held_from k (take i os) ++ cons_option (option_map (held_by (k + i)) (get_or os i no_object).holder) []
held_more k i [] l = absurd (omega arith)
held_more k zero (o ∷ os) l =
    ap (λ (n : ℕ). cons_option (option_map (held_by n) o.holder) []) (let same : k ≡ k + 0 = omega arith in same)
held_more k (suc i) (o ∷ os) l =
    let next : k + 1 + i ≡ k + suc i = omega arith in
    let later =
    held_more (k + 1) i os (omega arith)
    ∙ ap (λ (n : ℕ). held_from (k + 1) (take i os) ++ cons_option (option_map (held_by n) (get_or os i no_object).holder) [])
    next in
    by_first (option_map (held_by k) o.holder) (held_from (k + 1) (take (suc i) os)) (held_from (k + 1) (take i os)) _ later where
      by_first : (m : Option HeldMutex) (xs ys zs : List HeldMutex) → xs ≡ ys ++ zs → cons_option m xs ≡ cons_option m ys ++ zs
      by_first None xs ys zs e = e
      by_first (Some h) xs ys zs e = ap (λ (us : List HeldMutex). h ∷ us) e

pub held_next : (i : ℕ) (os : List Object) (o : Option ℕ) (xs ys : List HeldMutex)
    → i < length os → o ≡ (get_or os i no_object).holder → xs ≡ held_from 0 (take i os)
    → ys ≡ xs ++ cons_option (option_map (held_by i) o) [] → ys ≡ held_from 0 (take (i + 1) os)
held_next i os o xs ys l holder is new =
    new
    ∙ ap₂ (λ (us : List HeldMutex) (m : Option ℕ). us ++ cons_option (option_map (held_by i) m) []) is holder
    ∙ ap (λ (n : ℕ). held_from 0 (take i os) ++ cons_option (option_map (held_by n) (get_or os i no_object).holder) [])
    (let same : i ≡ 0 + i = omega arith in same)
    ∙ sym (held_more 0 i os l)
    ∙ ap (λ (n : ℕ). held_from 0 (take n os)) (let same : suc i ≡ i + 1 = omega arith in same)

-- ---- by the kernel

module _ (k : Machine) (awake : Unlocked) (s : State) (h : StandsOpened k awake s) (i : ℕ) where
  at_op : (progress_in k.progress i).op_index ≡ (progress_at s i).op_index
  at_op = ap (λ (p : Progress). p.op_index) (h.progress i)

  runs_alike : is_same k.sched.current (Some i) ≡ is_same s.current (Some i)
  runs_alike = ap (λ (c : Option ℕ). is_same c (Some i)) h.sched.current

  pub is_suspended_then : (op : ℕ) → op ≡ (progress_in k.progress i).op_index
      → is_suspended k.sched i ≡ true → situation.Suspended op ≡ situation_of s i
  is_suspended_then op e t =
      told_suspended op (is_same s.current (Some i)) (status_at s i) (sym (h.sched.suspended i) ∙ t)
      ∙ ap (λ (o : ℕ). situation_by o (is_same s.current (Some i)) (status_at s i)) (e ∙ at_op)

  pub is_ready_then : (op : ℕ) (b : Bool) → op ≡ (progress_in k.progress i).op_index → b ≡ is_same k.sched.current (Some i)
      → schedule.is_ready k.sched i ≡ true → (if b then situation.Runs op else situation.Ready op) ≡ situation_of s i
  is_ready_then op b e f t =
      told_ready op b (status_at s i) (sym (ready_same k.sched s i h.sched) ∙ t)
      ∙ ap₂ (λ (o : ℕ) (c : Bool). situation_by o c (status_at s i)) (e ∙ at_op) (f ∙ runs_alike)

  pub is_awake_then : (op : ℕ) → op ≡ (progress_in k.progress i).op_index
      → is_among i (awake.to_receive.items ++ awake.to_send.items) ≡ true → situation.Awake op ≡ situation_of s i
  is_awake_then op e t =
      told_awake op (is_same s.current (Some i)) (status_at s i) (sym (h.objects.woken i) ∙ t)
      ∙ ap (λ (o : ℕ). situation_by o (is_same s.current (Some i)) (status_at s i)) (e ∙ at_op)

  -- It wasn't Awake.
  module _ (other : is_among i (awake.to_receive.items ++ awake.to_send.items) ≡ false) where
    not_awake : is_some (wait_if_awake (status_at s i)) ≡ false
    not_awake = sym (h.objects.woken i) ∙ other

    -- whether it waits
    abbrev Waits : Bool → Type 0
    Waits b = b ≡ (is_some (wait_of (status_at h.objects.opened i)) || is_some (event_wait (status_at s i)))

    waits_alike : (b : Bool) → Waits b → (is_some (wait_of (status_at s i)) || is_some (event_wait (status_at s i))) ≡ b
    waits_alike b w =
        ap (λ (u : Status). is_some (wait_of u) || is_some (event_wait (status_at s i))) (sym (h.objects.others i not_awake))
        ∙ sym w

    pub is_waiting_then : (op : ℕ) (until : Option ℕ) (b : Bool) → op ≡ (progress_in k.progress i).op_index
        → b ≡ (is_some (wait_of (status_at h.objects.opened i)) || is_some (event_wait (status_at s i))) → b ≡ true
        → until ≡ option_map printed (wake_time_of (status_at s i)) → situation.Waits op until ≡ situation_of s i
    is_waiting_then op until b e w t u =
        told_waiting op (is_same s.current (Some i)) (status_at s i) until not_awake (waits_alike b w ∙ t) u
        ∙ ap (λ (o : ℕ). situation_by o (is_same s.current (Some i)) (status_at s i)) (e ∙ at_op)

    module _ (off : is_suspended k.sched i ≡ false) (unready : schedule.is_ready k.sched i ≡ false) (b : Bool)
        (w : b ≡ (is_some (wait_of (status_at h.objects.opened i)) || is_some (event_wait (status_at s i)))) (t : b ≡ false) where
      elsewhere : IsElsewhere (status_at s i)
      elsewhere =
          record {
            suspended = sym (h.sched.suspended i) ∙ off;
            ready = sym (ready_same k.sched s i h.sched) ∙ unready;
            awake = not_awake;
            waits = waits_alike b w ∙ t;
          }

      pub is_asleep_then : (op until : ℕ) → op ≡ (progress_in k.progress i).op_index
          → Some until ≡ option_map printed (wake_time_of (status_at s i)) → situation.Sleeps op until ≡ situation_of s i
      is_asleep_then op until e u =
          told_asleep op (is_same s.current (Some i)) (status_at s i) until elsewhere u
          ∙ ap (λ (o : ℕ). situation_by o (is_same s.current (Some i)) (status_at s i)) (e ∙ at_op)

      pub is_ended_then : None ≡ option_map printed (wake_time_of (status_at s i)) → situation.Ended ≡ situation_of s i
      is_ended_then u = told_ended (progress_at s i).op_index (is_same s.current (Some i)) (status_at s i) elsewhere u
