-- What a change of a state is to the groups that represent it.
use Rattle.std.proofs.Common.{◌≡◌, ℕ, ◌<◌, inl, inr, true, false, Option, Some, None, List, [], ◌∷◌, set, length, map, refl, ap}
use Rattle.std.proofs.Common.{sym, ◌∙◌, subst, get_or}
use Rattle.std.specs.List.{AllByRecursion}
use Rattle.std.specs.Option.{is_some}
use Rattle.std.proofs.lemmas.Bool.{cases_eq}
use Rattle.std.proofs.lemmas.List.{get_or-set_other, get_or-set_same}
use Rattle.std.specs.Prelude.{IfSome}
use Rattle.model.specs.State.{State, Status, Task, Ready, Suspended, no_task, status_at, task_at, waits_for_notification}
use Rattle.model.specs.State.{with_status}
use Rattle.model.specs.Order.{Entry, tasks_of}
use Rattle.model.specs.Switching.{make_ready}
use Rattle.model.specs.Invariant.{IsTable}
use Rattle.model.proofs.Lists.{HasKey, list-gone, list_has}
use Rattle.model.proofs.Members.{has_task, has_task-key, has_task-none}
use Rattle.model.proofs.Sorting.{by_test}
use Rattle.model.proofs.Tables.{table-make_ready, table-set}
use Rattle.lists.specs.Lists.{IsSound, entries_of, has_node, place_of, without}
use Rattle.lists.proofs.Entries.{apart_from_test, has_node-without_it, has_node-without_other}
use Rattle.lists.proofs.Laws.{entries_of-without, place_of-None}
use Rattle.groups.specs.EventGroups.{EventGroups, waiting_in, wanted_by}
use Rattle.task_lists.specs.Tasks.{tasks_in}
use Rattle.groups.specs.StandsFor.{IsApart, SameEventWaits, StandsFor, event_wait, list_key, waiters_in}
use Rattle.std.specs.Prelude.{◌==◌}
use Rattle.std.proofs.lemmas.Option.{same_Some}
use Rattle.groups.specs.EventGroups.{for_notifications}
use Rattle.groups.proofs.Keys.{key_none, key_same, waits_at}
use Rattle.groups.proofs.Waiters.{InList, among, but, has_node-among, has_task-among, in_list, list_alike, tasks_in-without}
use Rattle.groups.proofs.Waiters.{tasks_of-other}

-- ---- which tasks are in a list

module _ (v : EventGroups) (s : State) (h : StandsFor v s) where
  pub listed : (i group : ℕ) → has_node i (waiting_in v group) ≡ has_task i (waiters_in s group)
  listed i group =
      has_node-among i (waiting_in v group) ∙ ap (among i) (h.tasks group) ∙ sym (has_task-among i (waiters_in s group))

  -- a task in a list is in the table, and has a key
  pub waiter : (i group : ℕ) → has_node i (waiting_in v group) ≡ true → InList (list_key group) s.tasks i
  waiter i group has = in_list (list_key group) s.tasks i (sym (listed i group) ∙ has)

  -- who doesn't wait for bits is in none
  pub absent : (i group : ℕ) → event_wait (status_at s i) ≡ None → has_node i (waiting_in v group) ≡ false
  absent i group none = listed i group ∙ has_task-none (list_key group) i s.tasks (key_none group (task_at s i) none)

  pub free : (i : ℕ) → event_wait (status_at s i) ≡ None → place_of v.waiting i ≡ None
  free i none = place_of-None i v.waiting (λ l below. apart_from_test i (entries_of v.waiting l) (absent i l none))

  -- and who does is in one
  pub waiting_is : (i : ℕ) → IsSound 17 32 v.waiting → is_some (place_of v.waiting i) ≡ is_some (event_wait (status_at s i))
  waiting_is i sound = by_test (is_some (event_wait (status_at s i)))
      (λ some.
      let w = waits_at (status_at s i) some (h.apart i) in
      let has : has_node i (waiting_in v w.list) ≡ true =
      listed i w.list ∙ has_task-key (list_key w.list) (key_none w.list no_task refl) i w.key s.tasks w.is in
      ap is_some (sound.one_place i w.list has) ∙ sym some)
      (λ t.
      let none : event_wait (status_at s i) ≡ None = none_if (event_wait (status_at s i)) t in
      ap is_some (free i none) ∙ sym t) where
        none_if : {A : Type 0} (o : Option A) → is_some o ≡ false → o ≡ None
        none_if None e = refl
        none_if (Some x) e = absurd cc

  -- a task in no list doesn't wait for bits
  pub free_waits : (i : ℕ) → IsSound 17 32 v.waiting → place_of v.waiting i ≡ None → event_wait (status_at s i) ≡ None
  free_waits i sound free = none_of (event_wait (status_at s i)) (sym (waiting_is i sound) ∙ ap is_some free) where
    none_of : {A : Type 0} (o : Option A) → is_some o ≡ false → o ≡ None
    none_of None e = refl
    none_of (Some x) e = absurd cc

  -- a task in the last list waits for a notification
  pub notified_by : (i l : ℕ) → IsSound 17 32 v.waiting → place_of v.waiting i ≡ Some l
      → (l == for_notifications) ≡ waits_for_notification (status_at s i)
  notified_by i l sound there =
      let some : is_some (event_wait (status_at s i)) ≡ true = sym (waiting_is i sound) ∙ ap is_some there in
      let w = waits_at (status_at s i) some (h.apart i) in
      let has : has_node i (waiting_in v w.list) ≡ true =
      listed i w.list ∙ has_task-key (list_key w.list) (key_none w.list no_task refl) i w.key s.tasks w.is in
      let same : l ≡ w.list = same_Some l w.list (sym there ∙ sound.one_place i w.list has) in
      ap (λ (k : ℕ). k == for_notifications) same ∙ w.notified

-- ---- changes that the groups don't see

-- a task in a list waits for bits
waits_for_bits : (v : EventGroups) (s : State) (h : StandsFor v s) (i group : ℕ)
    → has_node i (waiting_in v group) ≡ true → is_some (event_wait (status_at s i)) ≡ true
waits_for_bits v s h i group has = by_wait (event_wait (status_at s i)) refl where
  by_wait : (o : Option _) → event_wait (status_at s i) ≡ o → is_some o ≡ true
  by_wait None none = absurd (let away = absent v s h i group none in cc (has, away))
  by_wait (Some w) is = refl

pub stands_same : (v : EventGroups) (s t : State) → StandsFor v s → SameEventWaits s t → IsTable t → StandsFor v t
stands_same v s t h same table = record {
  bits = λ group. h.bits group ∙ sym (same.bits group);
  tasks = λ group.
      h.tasks group
      ∙ ap tasks_of
      (list_alike (list_key group) (key_none group no_task refl) s.tasks t.tasks
      (λ i. sym (key_same group (task_at t i) (task_at s i) (same.waits i))));
  conditions = λ group i away has. same.wants i (waits_for_bits v s h i group has) ∙ h.conditions group i away has;
  apart = λ i. subst (λ o. IfSome o IsApart) (sym (same.waits i)) (h.apart i);
  table = table;
}

-- ---- groups that are the same, whatever somebody waited for last

pub stands_alike : (v w : EventGroups) (s : State) → IsSound 17 32 v.waiting → v.bits ≡ w.bits → v.waiting ≡ w.waiting
    → ((task : ℕ) → is_some (place_of v.waiting task) ≡ true → wanted_by w.wants task ≡ wanted_by v.wants task)
    → StandsFor v s → StandsFor w s
stands_alike v w s sound bits waiting wants h = record {
  bits = λ group. ap (λ (bs : List ℕ). get_or bs group 0) (sym bits) ∙ h.bits group;
  tasks = λ group. ap (λ (ls : List (List (ℕ × ℕ))). tasks_in (entries_of ls group)) (sym waiting) ∙ h.tasks group;
  conditions = λ group i away has.
      let here : has_node i (waiting_in v group) ≡ true =
      ap (λ (ls : List (List (ℕ × ℕ))). has_node i (entries_of ls group)) waiting ∙ has in
      h.conditions group i away here ∙ ap Some (sym (wants i (ap is_some (sound.one_place i group here))));
  apart = h.apart;
  table = h.table;
}

-- ---- a task leaves its list

pub stands_left : (v : EventGroups) (s t : State) (i : ℕ) (u : Task) → StandsFor v s → i < length s.tasks
    → t.tasks ≡ set s.tasks i u → t.group_bits ≡ s.group_bits → event_wait u.status ≡ None → IsTable t
    → StandsFor (record v { waiting = map (without i) v.waiting }) t
stands_left v s t i u h l is bits none table = record {
  bits = λ group. h.bits group ∙ ap (λ (bs : ℕ → ℕ). bs group) (sym bits);
  tasks = λ group.
      ap tasks_in (entries_of-without i group v.waiting)
      ∙ tasks_in-without i (waiting_in v group)
      ∙ ap (but i) (h.tasks group)
      ∙ sym (tasks_of-other i (waiters_in s group))
      ∙ ap tasks_of (sym (list-gone (list_key group) i u s.tasks l (key_none group u none)))
      ∙ ap (λ (ts : List Task). tasks_of (waiters_in (record s { tasks = ts }) group)) (sym is);
  conditions = λ group j away has.
      let left : has_node j (without i (waiting_in v group)) ≡ true =
      ap (has_node j) (sym (entries_of-without i group v.waiting)) ∙ has in
      elim (cases_eq j i) [
        | inl same ↦
            absurd (let gone : has_node j (without i (waiting_in v group)) ≡ false =
            subst (λ (k : ℕ). has_node k (without i (waiting_in v group)) ≡ false)
            (sym same) (has_node-without_it i (waiting_in v group)) in
            cc (left, gone))
        | inr other ↦
            ap (λ (ts : List Task). (get_or ts j no_task).progress.call.wants) is
            ∙ ap (λ (w : Task). w.progress.call.wants) (get_or-set_other s.tasks i j u no_task other)
            ∙ h.conditions group j away (sym (has_node-without_other i j (waiting_in v group) other) ∙ left)
      ];
  apart = λ j. elim (cases_eq j i) [
    | inl same ↦
        let now : status_at t i ≡ u.status = ap (λ (ts : List Task). (get_or ts i no_task).status) is
        ∙ ap (λ (w : Task). w.status) (get_or-set_same s.tasks i u no_task l) in
        let gone : event_wait (status_at t i) ≡ None = ap event_wait now ∙ none in
        subst (λ (k : ℕ). IfSome (event_wait (status_at t k)) IsApart) (sym same) (rw gone tt)
    | inr other ↦
        let stays : status_at t j ≡ status_at s j = ap (λ (ts : List Task). (get_or ts j no_task).status) is
        ∙ ap (λ (w : Task). w.status) (get_or-set_other s.tasks i j u no_task other) in
        subst (λ (v : Status). IfSome (event_wait v) IsApart) (sym stays) (h.apart j)
  ];
  table = table;
}

pub stands_readied : (v : EventGroups) (s : State) (i : ℕ) → StandsFor v s → i < length s.tasks
    → StandsFor (record v { waiting = map (without i) v.waiting }) (make_ready i s)
stands_readied v s i h l =
    stands_left v s (make_ready i s) i (record (task_at s i) { status = Ready s.next_ticket })
    h l refl refl refl (table-make_ready s i h.table)

pub stands_suspended : (v : EventGroups) (s : State) (i : ℕ) → StandsFor v s → i < length s.tasks
    → StandsFor (record v { waiting = map (without i) v.waiting }) (with_status i Suspended s)
stands_suspended v s i h l =
    let u : Task = record (task_at s i) { status = Suspended } in
    stands_left v s (with_status i Suspended s) i u h l refl refl refl (table-set s i u h.table tt)

-- if no task waits for bits, none is in a list
pub nobody_listed : (s : State) → ((task : ℕ) → event_wait (status_at s task) ≡ None)
    → (group : ℕ) → tasks_of (waiters_in s group) ≡ []
nobody_listed s none group = nobody (waiters_in s group) (list_has (list_key group) s.tasks) where
  nobody : (es : List Entry) → AllByRecursion (HasKey (list_key group) s.tasks) es → tasks_of es ≡ []
  nobody [] h = refl
  nobody (e ∷ es) h = absurd (let k = h.0.key in let n = key_none group (task_at s e.task) (none e.task) in cc)
