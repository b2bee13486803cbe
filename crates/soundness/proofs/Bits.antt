-- What the calls on event groups keep.
use Rattle.std.proofs.Common.{◌≡◌, ◌<◌, ◌≤◌, ◌+◌, ℕ, Bool, true, false, List, [], ◌∷◌, length, Option, Some, None, refl, ap, sym}
use Rattle.std.proofs.Common.{subst, ◌∙◌, arith, get_or-set_same}
use Rattle.std.specs.List.{AllByRecursion, filter}
use Rattle.std.specs.Option.{IfSome, option_map, is_some}
use Rattle.std.proofs.Math.ListN.{length-set}
use Rattle.model.specs.declared.op.Op.{Op}
use Rattle.model.specs.declared.op.Op.TheVariants.{SetBits, WaitBits}
use Rattle.model.specs.declared.call.CallProgress.{CallProgress}
use Rattle.model.specs.declared.call.Condition.{Condition}
use Rattle.model.specs.declared.call.Phase.TheVariants.{Start, Leave, Try}
use Rattle.model.specs.Application.{Application, op_at}
use Rattle.model.specs.Scripts.{IsWellFormed, is_wait}
use Rattle.model.specs.State.{State, Task, Status, Ready, Awake, Waiting, WaitingForBits, WaitingForNotification, Asleep, Suspended}
use Rattle.model.specs.State.{Ended, Wait, ticket_if_ready, ticket_if_for_bits, task_at, status_at, progress_at, call_at, bits_at}
use Rattle.model.specs.State.{with_task, with_bits, go_on, take_ticket, no_task}
use Rattle.model.specs.Order.{Key, Entry, key, tasks_of}
use Rattle.model.specs.Switching.{make_ready, is_ready, choose}
use Rattle.model.specs.Waiting.{set_deadline, let_go, end_hold}
use Rattle.model.specs.Ops.{answer}
use Rattle.model.specs.Groups.{is_met, bits_without, bits_left, want, keep_answer, bits_key, waiters_for_bits, is_met_for, met_by}
use Rattle.model.specs.Groups.{wake_with_bits, bits_set, set, begin_set, clear, answer_bits, wait_for_bits, left_by, wake_all}
use Rattle.model.specs.Groups.{begin_bits_wait, final_bits}
use Rattle.model.specs.Invariant.{HasTicketBelow, IsReckoned, Hold, hold_of, UntilWoken, ToSetBits, course, IsPhaseOf, IsWaitOf}
use Rattle.model.specs.Invariant.{list_of_op, IsSound, holds, suspension_of, IsState, wait_of}
use Rattle.model.proofs.Sorting.{by_test}
use Rattle.model.proofs.Lists.{HasKey, list_has}
use Rattle.model.proofs.Tables.{ticket_at, each-set}
use Rattle.model.proofs.Statuses.{ready_free}
use Rattle.soundness.proofs.InScripts.{nesting_past}
use Rattle.soundness.proofs.Frames.{keeps-set}
use Rattle.soundness.proofs.Keeping.{Keeps, keeps_both, keeps-with_call, keeps-take_ticket, keeps-set_deadline}
use Rattle.soundness.proofs.Sound.{framed, otherwise, changed, taken, kept_free, made_ready, answered}
use Rattle.soundness.proofs.Reckoned.{CanBeReady, can_still}
use Rattle.soundness.proofs.Sound.{chosen}
use Rattle.soundness.proofs.Reckoned.{ready_reckoned}
use Rattle.soundness.proofs.Called.{went_on, dated, dated_at}
use Rattle.soundness.proofs.Released.{applied_apart}
use Rattle.soundness.proofs.Phases.{free, unsuspended, calm_free, in_hold, others_free, held_by_all, hold_ended}

-- ---- who may be woken

bits_reckoned : (now previous group : ℕ) (u : Status) (k : Key)
    → option_map (key 0) (ticket_if_for_bits group u) ≡ Some k → IsReckoned now previous u → previous ≤ now
bits_reckoned now p group (Ready n) k e r = r
bits_reckoned now p group (Awake w) k e r = r
bits_reckoned now p group (Waiting w) k e r = r
bits_reckoned now p group (Asleep v n) k e r = absurd (cc)
bits_reckoned now p group (WaitingForBits g m d) k e r = r
bits_reckoned now p group (WaitingForNotification m d) k e r = r
bits_reckoned now p group Suspended k e r = absurd (cc)
bits_reckoned now p group Ended k e r = absurd (cc)

-- those whom a set meets may be Ready
met_can : (s : State) (group : ℕ) (p : ℕ → Bool)
    → ((i : ℕ) → IsReckoned s.time (progress_at s i).previous_wake (status_at s i)) → (es : List Entry)
    → AllByRecursion (HasKey (bits_key group) s.tasks) es → AllByRecursion (CanBeReady s) (filter p (tasks_of es))
met_can s group p r [] has = tt
met_can s group p r (e ∷ es) has = by_test (p e.task)
    (λ t.
    rw t (
      (
        has.0.within,
        bits_reckoned s.time (progress_at s e.task).previous_wake group (status_at s e.task) e.key has.0.key (r e.task),
      ),
      met_can s group p r es has.1,
    ))
    (λ t. rw t (met_can s group p r es has.1))

kept_can : (s : State) (i bits j : ℕ) → CanBeReady s j → CanBeReady (keep_answer i bits s) j
kept_can s i bits j c = (
  rw length-set c.0,
  each-set no_task (λ k (t : Task). (progress_at s k).previous_wake ≤ s.time → t.progress.previous_wake ≤ s.time) s.tasks i
      (record (task_at s i) { progress = record (progress_at s i) { call = record (call_at s i) { kept = Some bits } } })
      (λ l. l) (λ k l. l) j c.1,
)

-- the task runs on, and each task is at its op, in its phase
pub record Stays (old new : State) : Type 0 where
  pub current : new.current ≡ old.current
  pub tasks : length new.tasks ≡ length old.tasks
  pub op_index : (i : ℕ) → (progress_at new i).op_index ≡ (progress_at old i).op_index
  pub phase : (i : ℕ) → (call_at new i).phase ≡ (call_at old i).phase

stays : (s : State) → Stays s s
stays s = record { current = refl; tasks = refl; op_index = λ i. refl; phase = λ i. refl }

stays_both : (a b c : State) → Stays a b → Stays b c → Stays a c
stays_both a b c h k =
    record {
      current = k.current ∙ h.current;
      tasks = k.tasks ∙ h.tasks;
      op_index = λ i. k.op_index i ∙ h.op_index i;
      phase = λ i. k.phase i ∙ h.phase i;
    }

stays-with_task : (i : ℕ) (t : Task) (s : State) → t.progress.op_index ≡ (progress_at s i).op_index
    → t.progress.call.phase ≡ (call_at s i).phase → Stays s (with_task i t s)
stays-with_task i t s index phase = record {
  current = refl;
  tasks = length-set s.tasks i t;
  op_index = each-set no_task (λ j (u : Task). u.progress.op_index ≡ (progress_at s j).op_index) s.tasks i t index (λ j. refl);
  phase = each-set no_task (λ j (u : Task). u.progress.call.phase ≡ (call_at s j).phase) s.tasks i t phase (λ j. refl);
}

stays-take_ticket : (i : ℕ) (f : ℕ → Status) (s : State) → Stays s (take_ticket i f s)
stays-take_ticket i f s =
    let k = stays-with_task i (record (task_at s i) { status = f s.next_ticket }) s refl refl in
    record { current = refl; tasks = k.tasks; op_index = k.op_index; phase = k.phase }

pub stays-set_deadline : (i : ℕ) (ticks : Option ℕ) (s : State) → Stays s (set_deadline i ticks s)
unfolding set_deadline
stays-set_deadline i ticks s =
    let call : CallProgress = record (call_at s i) { deadline = option_map (λ n. s.time + n) ticks } in
    stays-with_task i (record (task_at s i) { progress = record (progress_at s i) { call = call } }) s refl refl

stays-wake_with_bits : (i bits : ℕ) (s : State) → Stays s (wake_with_bits i bits s)
stays-wake_with_bits i bits s =
    let t : State = keep_answer i bits s in
    stays_both s t (make_ready i t)
    (stays-with_task i
    (record (task_at s i) { progress = record (progress_at s i) { call = record (call_at s i) { kept = Some bits } } })
    s refl refl)
    (stays-take_ticket i Ready t)

stays-wake_all : (bits : ℕ) (is : List ℕ) (s : State) → Stays s (wake_all is bits s)
stays-wake_all bits [] s = stays s
stays-wake_all bits (i ∷ is) s =
    let t : State = wake_with_bits i bits s in
    stays_both s t (wake_all is bits t) (stays-wake_with_bits i bits s) (stays-wake_all bits is t)

pub stays-set : (group mask : ℕ) (s : State) → Stays s (set group mask s)
unfolding set
stays-set group mask s =
    let k = stays-wake_all (bits_set group mask s) (met_by group (bits_set group mask s) s) s in
    record { current = k.current; tasks = k.tasks; op_index = k.op_index; phase = k.phase }

-- who is Ready stays so when others are woken
module _ (i : ℕ) where
  Still : ℕ → Task → Type 0
  Still j u = j ≡ i → is_some (ticket_if_ready u.status) ≡ true

  still_in : (s : State) → is_ready s i ≡ true → (j : ℕ) → Still j (task_at s j)
  unfolding Still
  still_in s r j e = subst (λ k. is_ready s k ≡ true) (sym e) r

  pub ready-keep_answer : (j bits : ℕ) (s : State) → is_ready s i ≡ true → is_ready (keep_answer j bits s) i ≡ true
  unfolding Still
  ready-keep_answer j bits s r =
      each-set no_task Still s.tasks j
      (record (task_at s j) { progress = record (progress_at s j) { call = record (call_at s j) { kept = Some bits } } })
      (still_in s r j) (still_in s r) i refl

  ready-wake_with_bits : (j bits : ℕ) (s : State) → is_ready s i ≡ true → is_ready (wake_with_bits j bits s) i ≡ true
  unfolding Still
  ready-wake_with_bits j bits s r =
      let t : State = keep_answer j bits s in
      each-set no_task Still t.tasks j (record (task_at t j) { status = Ready t.next_ticket })
      (λ _. refl) (still_in t (ready-keep_answer j bits s r)) i refl

  ready-wake_all : (bits : ℕ) (js : List ℕ) (s : State) → is_ready s i ≡ true
      → is_ready (wake_all js bits s) i ≡ true
  ready-wake_all bits [] s r = r
  ready-wake_all bits (j ∷ js) s r = ready-wake_all bits js (wake_with_bits j bits s) (ready-wake_with_bits j bits s r)

  pub ready-set : (group mask : ℕ) (s : State) → is_ready s i ≡ true → is_ready (set group mask s) i ≡ true
  unfolding set
  ready-set group mask s r = ready-wake_all (bits_set group mask s) (met_by group (bits_set group mask s) s) s r

-- ---- a wait in no list of an object

-- A task that gets such a status when it takes a ticket waits in no list of an object.
pub record WaitsApart (status : ℕ → Status) : Type 0 where
  pub free : (ticket : ℕ) → wait_of (status ticket) ≡ None
  pub below : (ticket : ℕ) → HasTicketBelow (ticket + 1) (status ticket)
  pub reckoned : (now previous ticket : ℕ) → previous ≤ now → IsReckoned now previous (status ticket)

for_bits : (group : ℕ) (deadline : Option ℕ) → WaitsApart (λ ticket. WaitingForBits group ticket deadline)
for_bits group deadline =
    record { free = λ ticket. refl; below = λ ticket. omega arith; reckoned = λ now previous ticket past. past }

-- ---- what is kept

module _ (app : Application) (formed : IsWellFormed app) (hold : Hold) where
  -- the bits of a group
  pub bits_put : (s : State) (group bits : ℕ) → IsSound app hold s → IsSound app hold (with_bits group bits s)
  bits_put s group bits h = otherwise app formed hold s (with_bits group bits s).group_bits s.suspensions s.sections h

  answer_kept : (s : State) (i bits : ℕ) → IsSound app hold s → IsSound app hold (keep_answer i bits s)
  answer_kept s i bits h =
      let a = h.progress i in
      let c = h.calls i in
      changed app formed hold s i
      (record (task_at s i) { progress = record (progress_at s i) { call = record (call_at s i) { kept = Some bits } } })
      h (ticket_at s.next_ticket i s.tasks h.table.tickets) (
        record { nests = a.nests; loops = a.loops; used = a.used; reckoned = a.reckoned; stamped = a.stamped },
        record { phase = c.phase; wait = c.wait; awake = c.awake; near = c.near },
        h.priorities i,
      )

  wanted : (s : State) (i : ℕ) (w : Condition) → IsSound app hold s → IsSound app hold (want i w s)
  wanted s i w h =
      let a = h.progress i in
      let c = h.calls i in
      changed app formed hold s i
      (record (task_at s i) { progress = record (progress_at s i) { call = record (call_at s i) { wants = Some w } } })
      h (ticket_at s.next_ticket i s.tasks h.table.tickets) (
        record { nests = a.nests; loops = a.loops; used = a.used; reckoned = a.reckoned; stamped = a.stamped },
        record { phase = c.phase; wait = c.wait; awake = c.awake; near = c.near },
        h.priorities i,
      )

  still_can_all : (s : State) (i bits : ℕ) (js : List ℕ) → CanBeReady s i
      → AllByRecursion (CanBeReady s) js → AllByRecursion (CanBeReady (wake_with_bits i bits s)) js
  still_can_all s i bits [] c a = tt
  still_can_all s i bits (j ∷ js) c a =
      (can_still (keep_answer i bits s) i j (kept_can s i bits i c) (kept_can s i bits j a.0), still_can_all s i bits js c a.1)

  all_woken : (bits : ℕ) (is : List ℕ) (s : State) → IsSound app hold s
      → AllByRecursion (CanBeReady s) is → IsSound app hold (wake_all is bits s)
  all_woken bits [] s h can = h
  all_woken bits (i ∷ is) s h can =
      let t : State = wake_with_bits i bits s in
      all_woken bits is t (made_ready app formed hold (keep_answer i bits s) i (answer_kept s i bits h) (kept_can s i bits i can.0))
      (still_can_all s i bits is can.0 can.1)

  pub set_done : (s : State) (group mask : ℕ) → IsSound app hold s → IsSound app hold (set group mask s)
  unfolding set
  set_done s group mask h =
      let bits : ℕ = bits_set group mask s in
      let met : List ℕ = met_by group bits s in
      bits_put (wake_all met bits s) group (left_by met bits s) (all_woken bits met s h
      (met_can s group (is_met_for bits s) (λ i. (h.progress i).reckoned)
      (waiters_for_bits s group) (list_has (bits_key group) s.tasks)))

  module _ (s : State) (i : ℕ) (op : Op) (h : IsSound app hold s) (free : wait_of (status_at s i) ≡ None)
      (is : op_at app i (progress_at s i).op_index ≡ Some op) (flat : (nesting : ℕ) → nesting_past nesting op ≡ nesting) where
    pub cleared : (group mask : ℕ) → IsSound app hold (clear app i group mask s)
    unfolding clear
    cleared group mask =
        answered app formed hold _ i op (bits_put s group (bits_without (bits_at s group) mask) h) free is _ (flat _)

    pub answered_bits : (group : ℕ) (c : Condition) → IsSound app hold (answer_bits app i group c s)
    unfolding answer_bits
    answered_bits group c = by_test (is_met (bits_at s group) c)
        (λ t. rw t (answered app formed hold _ i op (bits_put s group (bits_left (bits_at s group) c) h) free is _ (flat _)))
        (λ t. rw t (answered app formed hold s i op h free is _ (flat _)))

    pub final_done : (group : ℕ) (c : Condition) (kept : Option ℕ) → IsSound app hold (final_bits app i group c kept s)
    final_done group c None = answered_bits group c
    final_done group c (Some bits) = answered app formed hold s i op h free is (Some bits) (flat _)

  -- a wait begins
  waited : (s : State) (i : ℕ) (status : ℕ → Status) → WaitsApart status → IsSound app hold s → is_ready s i ≡ true
      → IsSound app hold (take_ticket i status s)
  waited s i status w h r =
      let past : (progress_at s i).previous_wake ≤ s.time =
      ready_reckoned s.time (progress_at s i).previous_wake (status_at s i) (h.progress i).reckoned r in
      taken app formed hold s i status h (w.below s.next_ticket)
      (kept_free app formed hold s i (status s.next_ticket) h (w.free s.next_ticket)
      (w.reckoned s.time (progress_at s i).previous_wake s.next_ticket past))

-- ---- a call that holds the scheduler

module _ (app : Application) (formed : IsWellFormed app) where
  module _ (s : State) (i : ℕ) (op : Op) (h : IsSound app (hold_of s) s) (none : s.call_hold ≡ false)
      (unlocked : s.locked ≡ None) (calm : suspension_of s ≡ unsuspended)
      (runs : s.current ≡ Some i) (l : i < length s.tasks) (r : is_ready s i ≡ true)
      (is : op_at app i (progress_at s i).op_index ≡ Some op) where
    -- the scheduler is held, and nothing locked
    abbrev pub holding : Hold
    holding = record { held = true; locked = None }

    abbrev pub begun : State
    begun = record s { call_hold = true }

    begun_hold : hold_of begun ≡ holding
    begun_hold = ap (λ o. record { held = true; locked = o }) unlocked

    begun_sound : IsSound app holding begun
    begun_sound =
        framed app formed holding s s.log s.steps s.stopped s.locked true (held_by_all app formed s holding h none unlocked)

    -- from here on the call is in its phase Leave
    leaving : (t : State) → IsSound app holding t → Keeps begun t → Stays begun t → IsPhaseOf holding (course (Some op)) Leave
        → (course (Some op) ≡ ToSetBits → is_ready t i ≡ true) → IsState app (go_on i Leave t)
    leaving t sound k st fits setting =
        let same : hold_of t ≡ holding = k.hold ∙ begun_hold in
        let P : Option Op → Type 0 = λ o. IsPhaseOf holding (course o) Leave in
        let op_is : op_at app i (progress_at t i).op_index ≡ Some op = ap (op_at app i) (st.op_index i) ∙ is in
        let after : IsSound app holding (go_on i Leave t) = went_on app formed holding t i Leave sound (subst P (sym op_is) fits) in
        in_hold app formed t i
        (record (task_at t i) { progress = record (progress_at t i) { call = record (call_at t i) { phase = Leave } } })
        (subst (λ x. IsSound app x (go_on i Leave t)) (sym same) after) (st.current ∙ runs) (rw st.tasks l)
        (ap (λ (x : Hold). x.held) same) refl (λ e. absurd (cc)) (λ e. setting (ap course (sym op_is) ∙ e))
        (λ j ne. ap holds (st.phase j) ∙ others_free app formed s h none j) (calm_free t (k.suspension ∙ calm))

    pub set_begun : (group mask : ℕ) → course (Some op) ≡ ToSetBits → IsState app (begin_set i group mask s)
    unfolding begin_set
    set_begun group mask e =
        let u : State = set group mask begun in
        let bits : ℕ = bits_at u group in
        let v : State = keep_answer i bits u in
        leaving v (answer_kept app formed holding u i bits (set_done app formed holding begun group mask begun_sound))
        (keeps_both begun u v (keeps-set group mask begun) (keeps-with_call i (record (call_at u i) { kept = Some bits }) u))
        (stays_both begun u v (stays-set group mask begun) (stays-with_task i
        (record (task_at u i) { progress = record (progress_at u i) { call = record (call_at u i) { kept = Some bits } } })
        u refl refl))
        (rw e (refl, refl))
        (λ _. ready-keep_answer i i bits u (ready-set i group mask begun r))

    -- the task waits until it is woken
    pub wait_started : (u : State) (status : ℕ → Status) → WaitsApart status → IsSound app holding u → Keeps begun u
        → Stays begun u → is_ready u i ≡ true → course (Some op) ≡ UntilWoken → IsState app (go_on i Leave (take_ticket i status u))
    wait_started u status w sound k st ready way =
        leaving (take_ticket i status u) (waited app formed holding u i status w sound ready)
        (keeps_both begun u (take_ticket i status u) k (keeps-take_ticket i status u))
        (stays_both begun u (take_ticket i status u) st (stays-take_ticket i status u))
        (subst (λ c. IsPhaseOf holding c Leave) (sym way) (refl, refl))
        (λ e. let f : UntilWoken ≡ ToSetBits = sym way ∙ e in absurd (cc))

    -- when the deadline of its call is set
    pub dated_sound : (ticks : Option ℕ) → is_wait ticks ≡ true → IsSound app holding (set_deadline i ticks begun)
    dated_sound ticks range = dated app formed holding begun i ticks begun_sound (ready_free (status_at s i) r) range

    pub dated_ready : (ticks : Option ℕ) → is_ready (set_deadline i ticks begun) i ≡ true
    dated_ready ticks = (dated_at begun i ticks l).0 ∙ r

    pub wait_begun : (group : ℕ) (c : Condition) (ticks : Option ℕ) → op ≡ WaitBits group c ticks
        → is_wait ticks ≡ true → IsState app (begin_bits_wait i group c ticks s)
    unfolding begin_bits_wait wait_for_bits
    wait_begun group c ticks e range =
        let t : State = set_deadline i ticks begun in
        let u : State = want i c t in
        let called : CallProgress = record (call_at t i) { wants = Some c } in
        let wanting : Task = record (task_at t i) { progress = record (progress_at t i) { call = called } } in
        let there : i < length t.tasks = rw (keeps-set_deadline i ticks begun).tasks l in
        let at : task_at u i ≡ wanting = get_or-set_same t.tasks i wanting no_task there in
        let still : is_ready u i ≡ true = ap (λ (x : Task). is_some (ticket_if_ready x.status)) at ∙ dated_ready ticks in
        wait_started u (λ ticket. WaitingForBits group ticket (call_at u i).deadline) (for_bits group (call_at u i).deadline)
        (wanted app formed holding t i c (dated_sound ticks range))
        (keeps_both begun t u (keeps-set_deadline i ticks begun) (keeps-with_call i called t))
        (stays_both begun t u (stays-set_deadline i ticks begun) (stays-with_task i wanting t refl refl))
        still (rw e refl)

    pub begun_held : (group mask : ℕ) → (begin_set i group mask s).call_hold ≡ true
    unfolding begin_set
    begun_held group mask = ap (λ (x : Hold). x.held) (keeps-set group mask begun).hold

    pub waits_held : (group : ℕ) (c : Condition) (ticks : Option ℕ) → (begin_bits_wait i group c ticks s).call_hold ≡ true
    unfolding begin_bits_wait wait_for_bits set_deadline
    waits_held group c ticks = refl

-- ---- the phase Leave

-- a task whose op waits in no list waits in none
pub listless : (op : Option Op) (until : Option ℕ) (o : Option Wait)
    → list_of_op op ≡ None → IfSome o (λ w. IsWaitOf op until w) → o ≡ None
listless op until None e h = refl
listless op until (Some w) e h = let f = h.list in absurd (cc)

module _ (app : Application) (formed : IsWellFormed app) (s : State) (i : ℕ) (h : IsState app s)
    (runs : s.current ≡ Some i) (l : i < length s.tasks) (unlocked : s.locked ≡ None) where
  -- the task that ends a set, which is Ready
  abbrev pub ended_task : Task
  ended_task =
      record (task_at s i)
      { progress = record (progress_at s i) { call = record (call_at s i) { phase = Start; waits = false } } }

  -- is as it was also when the held ticks have been applied
  pub ended_at : is_ready s i ≡ true → task_at (end_hold i Start s) i ≡ ended_task
  ended_at r =
      let at : task_at (let_go i Start s) i ≡ ended_task = get_or-set_same s.tasks i ended_task no_task l in
      let ready : is_ready (let_go i Start s) i ≡ true = ap (λ (u : Task). is_some (ticket_if_ready u.status)) at ∙ r in
      applied_apart s.held_ticks (let_go i Start s) i ready ∙ at

  pub set_ended : (group mask : ℕ) → op_at app i (progress_at s i).op_index ≡ Some (SetBits group mask)
      → is_ready s i ≡ true → IsSound app free (answer app i (call_at s i).kept (end_hold i Start s))
  set_ended group mask is r =
      let ended : State = end_hold i Start s in
      let at : task_at ended i ≡ ended_task = ended_at r in
      let none : wait_of (status_at s i) ≡ None =
      listless (op_at app i (progress_at s i).op_index) (call_at s i).deadline
      (wait_of (status_at s i)) (ap list_of_op is) (h.sound.calls i).wait in
      answered app formed free ended i (SetBits group mask) (hold_ended app formed s i h runs l unlocked Start tt)
      (ap (λ (u : Task). wait_of u.status) at ∙ none)
      (ap (λ (u : Task). op_at app i u.progress.op_index) at ∙ is) (call_at s i).kept refl

  pub wait_left : IsPhaseOf free (course (op_at app i (progress_at s i).op_index)) Try
      → IsSound app free (choose (end_hold i Try s))
  wait_left fits = chosen app formed free (end_hold i Try s) (hold_ended app formed s i h runs l unlocked Try fits)
