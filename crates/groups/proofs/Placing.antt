-- A task begins to wait for bits of a group, or for a notification.
use Rattle.std.proofs.Common.{◌≡◌, ◌≢◌, ℕ, ◌<◌, ◌+◌, inl, inr, Bool, true, Option, Some, None, List, [], ◌∷◌, ◌++◌, set}
use Rattle.std.proofs.Common.{length, refl}
use Rattle.std.proofs.Common.{ap, sym, ◌∙◌, subst, arith, get_or}
use Rattle.std.specs.Prelude.{◌==◌, ◌||◌, filter, IfSome}
use Rattle.std.specs.Option.{option_map}
use Rattle.std.proofs.lemmas.Bool.{cases_eq}
use Rattle.std.proofs.lemmas.List.{get_or-set_other, get_or-set_same, map-append}
use Rattle.std.proofs.Math.ListN.{length-set}
use Rattle.model.specs.declared.call.Condition.{Condition}
use Rattle.model.specs.declared.call.CallProgress.{CallProgress}
use Rattle.model.specs.declared.call.Phase.TheVariants.{Leave}
use Rattle.model.specs.State.{State, Status, WaitingForBits, WaitingForNotification, Task, no_task, status_at, task_at, call_at}
use Rattle.model.specs.State.{progress_at, take_ticket, with_call}
use Rattle.model.specs.Order.{entry, put, key, tasks_of}
use Rattle.model.specs.Waiting.{set_deadline}
use Rattle.model.specs.Groups.{begin_bits_wait, wait_for_bits, want}
use Rattle.model.specs.Notifications.{begin_notification_wait, wait_for_notification}
use Rattle.model.proofs.Lists.{filter-without, list-entered, list-gone, list_below, list_without, other}
use Rattle.model.proofs.Tables.{table-taken}
use Rattle.lists.specs.Lists.{IsSound, has_node, place_of}
use Rattle.lists.proofs.Entries.{has_node-other}
use Rattle.lists.proofs.Laws.{entries_of-set_other, entries_of-set_same}
use Rattle.groups.specs.EventGroups.{EventGroups, for_notifications, no_condition, waiting_in, wanted_by}
use Rattle.task_lists.specs.Tasks.{tasks_in}
use Rattle.groups.specs.StandsFor.{IsApart, StandsFor, event_wait, list_key, waiters_in}
use Rattle.groups.proofs.Keys.{IsIn, below_apart, bits_in_group, key_none, keys_below, notification_in_list}
use Rattle.groups.proofs.Waiters.{tasks_of-put}
use Rattle.groups.proofs.Standing.{absent, free_waits, stands_same}
use Rattle.groups.proofs.Kept.{same_parts, stands_progressed, stands_progressed_free}

has_before : (i j : ℕ) (es : List (ℕ × ℕ)) → j ≢ i → has_node j (es ++ (i, 0) ∷ []) ≡ has_node j es
has_before i j [] ne = has_node-other j (i, 0) [] (λ e. ne (sym e))
has_before i j (e ∷ es) ne = ap (λ (b : Bool). e.0 == j || b) (has_before i j es ne)

-- the lists, with a task after the others of one
abbrev lined_up : EventGroups → (list task : ℕ) → List (List (ℕ × ℕ))
lined_up v list task = set v.waiting list (waiting_in v list ++ (task, 0) ∷ [])

-- The task takes a ticket, and is in this list by its new status.
module _ (v : EventGroups) (s : State) (h : StandsFor v s) (i list : ℕ) (status : ℕ → Status)
    (is : IsIn list s.next_ticket (status s.next_ticket)) (l : i < length s.tasks) (sound : IsSound 17 32 v.waiting)
    (free : place_of v.waiting i ≡ None) (known : list < 17) where
  none : event_wait (status_at s i) ≡ None
  none = free_waits v s h i sound free

  now : Task
  now = record (task_at s i) { status = status s.next_ticket }

  below : list < length v.waiting
  below = let many = sound.as_many in omega (arith, many, known)

  others : (k : ℕ) → filter (other i) (waiters_in s k) ≡ waiters_in s k
  others k = filter-without i (waiters_in s k) (list_without (list_key k) i s.tasks (key_none k (task_at s i) none))

  here : waiters_in (take_ticket i status s) list ≡ put (entry i (key 0 s.next_ticket)) (waiters_in s list)
  unfolding now
  here =
      list-entered (list_key list) (key 0 s.next_ticket) i now s.tasks l is.own
      (keys_below s.next_ticket list s.tasks h.table.tickets)
      ∙ ap (put (entry i (key 0 s.next_ticket))) (others list)

  elsewhere : (k : ℕ) → k ≢ list → waiters_in (take_ticket i status s) k ≡ waiters_in s k
  unfolding now
  elsewhere k ne = list-gone (list_key k) i now s.tasks l (is.elsewhere k ne) ∙ others k

  pub tasks-placed : (k : ℕ) → tasks_in (get_or (lined_up v list i) k []) ≡ tasks_of (waiters_in (take_ticket i status s) k)
  tasks-placed k = elim (cases_eq k list) [
    | inl same ↦
        let at : tasks_in (get_or (lined_up v list i) list []) ≡ tasks_of (waiters_in (take_ticket i status s) list) =
        ap tasks_in (entries_of-set_same v.waiting list (waiting_in v list ++ (i, 0) ∷ []) below)
        ∙ map-append (λ (e : ℕ × ℕ). e.0) (waiting_in v list) ((i, 0) ∷ [])
        ∙ ap (λ (ts : List ℕ). ts ++ i ∷ []) (h.tasks list)
        ∙ sym (tasks_of-put s.next_ticket i (waiters_in s list)
        (list_below (list_key list) s.next_ticket s.tasks (keys_below s.next_ticket list s.tasks h.table.tickets)))
        ∙ sym (ap tasks_of here) in
        subst (λ (k : ℕ). tasks_in (get_or (lined_up v list i) k []) ≡ tasks_of (waiters_in (take_ticket i status s) k)) (sym same)
        at
    | inr ne ↦
        ap tasks_in (entries_of-set_other v.waiting list k (waiting_in v list ++ (i, 0) ∷ []) ne)
        ∙ h.tasks k
        ∙ sym (ap tasks_of (elsewhere k ne))
  ]

  -- another is in a list if it was
  pub still_has : (k j : ℕ) → j ≢ i → has_node j (get_or (lined_up v list i) k []) ≡ true → has_node j (waiting_in v k) ≡ true
  still_has k j ne has = elim (cases_eq k list) [
    | inl same ↦
        let at : has_node j (get_or (lined_up v list i) list []) ≡ has_node j (waiting_in v list) =
        ap (has_node j) (entries_of-set_same v.waiting list (waiting_in v list ++ (i, 0) ∷ []) below)
        ∙ has_before i j (waiting_in v list) ne in
        let all : has_node j (get_or (lined_up v list i) k []) ≡ has_node j (waiting_in v k) =
        subst (λ (k : ℕ). has_node j (get_or (lined_up v list i) k []) ≡ has_node j (waiting_in v k)) (sym same) at in
        sym all ∙ has
    | inr ne ↦ sym (ap (has_node j) (entries_of-set_other v.waiting list k (waiting_in v list ++ (i, 0) ∷ []) ne)) ∙ has
  ]

  pub apart-placed : (j : ℕ) → IfSome (event_wait (status_at (take_ticket i status s) j)) IsApart
  unfolding now
  apart-placed j = elim (cases_eq j i) [
    | inl same ↦
        subst (λ (k : ℕ). IfSome (event_wait (status_at (take_ticket i status s) k)) IsApart) (sym same)
        (subst (λ (t : Task). IfSome (event_wait t.status) IsApart) (sym (get_or-set_same s.tasks i now no_task l)) is.apart)
    | inr ne ↦
        subst (λ (t : Task). IfSome (event_wait t.status) IsApart) (sym (get_or-set_other s.tasks i j now no_task ne)) (h.apart j)
  ]

  -- the call of another wants what it did
  pub others_want : (k j : ℕ) → k ≢ for_notifications → j ≢ i → has_node j (get_or (lined_up v list i) k []) ≡ true
      → (call_at (take_ticket i status s) j).wants ≡ Some (wanted_by v.wants j)
  unfolding now
  others_want k j away ne has =
      ap (λ (t : Task). t.progress.call.wants) (get_or-set_other s.tasks i j now no_task ne)
      ∙ h.conditions k j away (still_has k j ne has)

-- A task whose call wants these bits is put after the others.
begins : (v : EventGroups) (s : State) → StandsFor v s → (i group : ℕ) (c : Condition) (deadline : Option ℕ)
    → i < length s.tasks → IsSound 17 32 v.waiting → place_of v.waiting i ≡ None → length v.wants ≡ 32 → i < 32 → group < 16
    → (call_at s i).wants ≡ Some c
    → StandsFor (record v { waiting = lined_up v group i; wants = set v.wants i c })
    (take_ticket i (λ ticket. WaitingForBits group ticket deadline) s)
begins v s h i group c deadline l sound free many task_known group_known wanted =
    let status : ℕ → Status = λ ticket. WaitingForBits group ticket deadline in
    let now : Task = record (task_at s i) { status = status s.next_ticket } in
    let is = bits_in_group group s.next_ticket deadline (below_apart group group_known) in
    let known : group < 17 = omega (arith, group_known) in
    record {
      bits = h.bits;
      tasks = tasks-placed v s h i group status is l sound free known;
      conditions = λ k j away has. elim (cases_eq j i) [
        | inl same ↦
            let own : (call_at (take_ticket i status s) i).wants ≡ Some (wanted_by (set v.wants i c) i) =
            ap (λ (t : Task). t.progress.call.wants) (get_or-set_same s.tasks i now no_task l)
            ∙ wanted
            ∙ ap Some (sym (get_or-set_same v.wants i c no_condition (omega (arith, many, task_known)))) in
            subst (λ (j : ℕ). (call_at (take_ticket i status s) j).wants ≡ Some (wanted_by (set v.wants i c) j)) (sym same) own
        | inr ne ↦
            others_want v s h i group status is l sound free known k j away ne has
            ∙ ap Some (sym (get_or-set_other v.wants i j c no_condition ne))
      ];
      apart = apart-placed v s h i group status is l sound free known;
      table = table-taken s i status h.table (is.below (s.next_ticket + 1) (omega arith));
    }

-- A task is put after those that wait for a notification.
begins_notified : (v : EventGroups) (s : State) → StandsFor v s → (i : ℕ) (deadline : Option ℕ)
    → i < length s.tasks → IsSound 17 32 v.waiting → place_of v.waiting i ≡ None
    → StandsFor (record v { waiting = lined_up v for_notifications i })
    (take_ticket i (λ ticket. WaitingForNotification ticket deadline) s)
begins_notified v s h i deadline l sound free =
    let status : ℕ → Status = λ ticket. WaitingForNotification ticket deadline in
    let is = notification_in_list s.next_ticket deadline in
    let known : for_notifications < 17 = omega arith in
    record {
      bits = h.bits;
      tasks = tasks-placed v s h i for_notifications status is l sound free known;
      conditions = λ k j away has. elim (cases_eq j i) [
        | inl same ↦
            absurd
            (let there : has_node i (waiting_in v k) ≡ true =
            sym (ap (has_node i) (entries_of-set_other v.waiting for_notifications k (waiting_in v for_notifications ++ (i, 0) ∷ [])
            away))
            ∙ subst (λ (j : ℕ). has_node j (get_or (lined_up v for_notifications i) k []) ≡ true) same has in
            let away = absent v s h i k (free_waits v s h i sound free) in
            cc (there, away))
        | inr ne ↦ others_want v s h i for_notifications status is l sound free known k j away ne has
      ];
      apart = apart-placed v s h i for_notifications status is l sound free known;
      table = table-taken s i status h.table (is.below (s.next_ticket + 1) (omega arith));
    }

module _ (v : EventGroups) (s : State) (h : StandsFor v s) (i : ℕ) (l : i < length s.tasks) (sound : IsSound 17 32 v.waiting)
    (free : place_of v.waiting i ≡ None) where
  pub stands_placed : (group : ℕ) (c : Condition) → length v.wants ≡ 32 → i < 32 → group < 16
      → StandsFor (record v { waiting = lined_up v group i; wants = set v.wants i c }) (wait_for_bits i group (want i c s))
  unfolding wait_for_bits
  stands_placed group c many task_known group_known =
      let wanting : CallProgress = record (call_at s i) { wants = Some c } in
      let s1 : State = with_call i wanting s in
      let at1 : call_at s1 i ≡ wanting =
      ap (λ (t : Task). t.progress.call)
      (get_or-set_same s.tasks i (record (task_at s i) { progress = record (progress_at s i) { call = wanting } }) no_task l) in
      let h1 : StandsFor v s1 =
      stands_progressed_free v s i (record (progress_at s i) { call = wanting }) h (free_waits v s h i sound free) in
      let l1 : i < length s1.tasks = rw length-set l in
      begins v s1 h1 i group c (call_at s1 i).deadline l1 sound free many
      task_known group_known (ap (λ (call : CallProgress). call.wants) at1)

  pub stands_notified : StandsFor (record v { waiting = lined_up v for_notifications i }) (wait_for_notification i s)
  unfolding wait_for_notification
  stands_notified = begins_notified v s h i (call_at s i).deadline l sound free

-- when the deadline of the call has been set, and the scheduler is held
timed : (v : EventGroups) (s : State) (i : ℕ) (ticks : Option ℕ) → StandsFor v s
    → StandsFor v (set_deadline i ticks (record s { call_hold = true }))
unfolding set_deadline
timed v s i ticks h =
    let held : State = record s { call_hold = true } in
    let h0 : StandsFor v held =
    stands_same v s held h (same_parts s held refl refl)
    (record { tickets = h.table.tickets; few = h.table.few; current = h.table.current; holders = h.table.holders }) in
    let due : CallProgress = record (call_at held i) { deadline = option_map (λ n. held.time + n) ticks } in
    stands_progressed v held i (record (progress_at held i) { call = due }) h0 refl

leaves : (w : EventGroups) (s : State) (i : ℕ) → StandsFor w s
    → StandsFor w (with_call i (record (call_at s i) { phase = Leave }) s)
leaves w s i h = stands_progressed w s i (record (progress_at s i) { call = record (call_at s i) { phase = Leave } }) h refl

pub stands_begun : (v : EventGroups) (s : State) (i group : ℕ) (c : Condition) (ticks : Option ℕ) (w : EventGroups)
    → StandsFor v s → i < length s.tasks
    → ((t : State) → StandsFor v t → i < length t.tasks → StandsFor w (wait_for_bits i group (want i c t)))
    → StandsFor w (begin_bits_wait i group c ticks s)
unfolding begin_bits_wait set_deadline
stands_begun v s i group c ticks w h l places =
    let due : State = set_deadline i ticks (record s { call_hold = true }) in
    leaves w (wait_for_bits i group (want i c due)) i (places due (timed v s i ticks h) (rw length-set l))

pub stands_notice_begun : (v : EventGroups) (s : State) (i : ℕ) (ticks : Option ℕ) (w : EventGroups)
    → StandsFor v s → i < length s.tasks
    → ((t : State) → StandsFor v t → i < length t.tasks → StandsFor w (wait_for_notification i t))
    → StandsFor w (begin_notification_wait i ticks s)
unfolding begin_notification_wait set_deadline
stands_notice_begun v s i ticks w h l places =
    let due : State = set_deadline i ticks (record s { call_hold = true }) in
    leaves w (wait_for_notification i due) i (places due (timed v s i ticks h) (rw length-set l))
