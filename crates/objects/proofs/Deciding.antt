-- A task that begins to wait, while its object is locked: the objects stay until it is placed.
use Rattle.std.proofs.Common.{◌≡◌, ◌≢◌, ℕ, ◌<◌, true, false, Bool, Option, Some, None, List, [], ◌∷◌, length, set, sym, ◌∙◌, ap}
use Rattle.std.proofs.Common.{subst, refl, eqb}
use Rattle.std.proofs.Math.ListN.{length-set}
use Rattle.std.proofs.lemmas.List.{get_or-set_other, get_or-set_same}
use Rattle.std.specs.List.{AllByRecursion}
use Rattle.std.specs.Option.{IfSome, is_some, option_and_then}
use Rattle.model.specs.declared.call.Phase.{Phase}
use Rattle.model.specs.declared.call.Phase.TheVariants.{Place, Unlock}
use Rattle.model.specs.declared.call.WaitList.{WaitList}
use Rattle.model.specs.declared.call.WaitList.TheVariants.{ToReceive, ToSend}
use Rattle.model.specs.declared.event.End.{End}
use Rattle.model.specs.declared.event.Event.{Event}
use Rattle.model.specs.declared.op.Access.{Access}
use Rattle.model.specs.State.{State, Progress, Task, no_task, wait_if_awake, call_at, go_on, progress_at, status_at, task_at}
use Rattle.model.specs.State.{with_progress}
use Rattle.model.specs.Invariant.{wait_of}
use Rattle.model.specs.Order.{Entry}
use Rattle.model.specs.Objects.{list_for}
use Rattle.model.specs.Calls.{lock}
use Rattle.model.specs.Waiting.{awaken, wait_in, wait_key}
use Rattle.model.proofs.Sorting.{by_test}
use Rattle.model.proofs.Lists.{HasKey, eqb-refl, eqb-same, list_has}
use Rattle.model.proofs.Members.{has_task, has_task-key}
use Rattle.model.proofs.Tables.{table-set, ticket_at}
use Rattle.objects.specs.declared.lock.Lock.{Lock}
use Rattle.objects.specs.Items.{object_in}
use Rattle.objects.specs.WaitersStand.{Decider, FirstAwake, is_awake, standing}
use Rattle.objects.specs.Objects.{Counts, CountsNobody, Objects, StandsFor}
use Rattle.objects.proofs.Free.{absent}
use Rattle.objects.proofs.Keys.{standing_key}
use Rattle.objects.proofs.Kept.{same_progress, stands_same}
use Rattle.objects.proofs.Placing.{stands_decided}
use Rattle.objects.proofs.Standing.{stands_awakened}

-- ---- what the objects don't see

pub stands_unseen : (v : Objects) (d : Option Decider) (s : State)
    (time elapsed steps : ℕ) (held : Bool) (stopped : Option End) (log : List Event)
    → StandsFor v d s
    → StandsFor v d (record s { time = time; elapsed = elapsed; call_hold = held; steps = steps; stopped = stopped; log = log })
stands_unseen v d s time elapsed steps held stopped log h =
    stands_same s (record s { time = time; elapsed = elapsed; call_hold = held; steps = steps; stopped = stopped; log = log })
    (record { objects = refl; waits = λ i. refl; awake = λ i. refl; locked = refl }) v d h
    (record {
      tickets = h.waiters.table.tickets;
      few = h.waiters.table.few;
      current = h.waiters.table.current;
      holders = h.waiters.table.holders;
    })

-- A task goes on with its call, or in its script.
pub stands_staying : (v : Objects) (d : Option Decider) (s : State) (i : ℕ) (p : Progress)
    → StandsFor v d s → StandsFor v d (with_progress i p s)
stands_staying v d s i p h =
    stands_same s (with_progress i p s) (same_progress i p s) v d h
    (table-set s i (record (task_at s i) { progress = p }) h.waiters.table
    (ticket_at s.next_ticket i s.tasks h.waiters.table.tickets))

pub stands_gone_on : (v : Objects) (d : Option Decider) (s : State) (i : ℕ) (phase : Phase)
    → StandsFor v d s → StandsFor v d (go_on i phase s)
stands_gone_on v d s i phase h =
    stands_staying v d s i (record (progress_at s i) { call = record (call_at s i) { phase = phase } }) h

-- A woken task stays in its list.
pub stands_awaken : (v : Objects) (d : Option Decider) (s : State) (i : ℕ)
    → StandsFor v d s → IfSome v.lock (Counts (awaken i s)) → StandsFor v d (awaken i s)
stands_awaken v d s i h counts =
    record {
      number = h.number;
      objects = h.objects;
      waiters = stands_awakened v.waiting d s i h.waiters;
      locked = h.locked;
      counts = counts;
    }

-- ---- nobody is counted

found : (P : ℕ → Type 0) (i : ℕ) (es : List Entry) → AllByRecursion (λ (e : Entry). P e.task) es → has_task i es ≡ true → P i
found P i [] h t = absurd cc
found P i (e ∷ es) h t = by_test (eqb e.task i)
    (λ u. subst P (eqb-same e.task i u) h.0)
    (λ u. found P i es h.1 (rw u at t))

none_first : (s : State) (es : List Entry) → FirstAwake s 0 es → AllByRecursion (λ (e : Entry). is_awake s e.task ≡ false) es
none_first s [] h = tt
none_first s (e ∷ es) h = (h.0, none_first s es h.1)

-- Another task than this one is as it was, and this one isn't Awake: then nobody in a list is, if nobody was.
module _ (s t : State) (i : ℕ) (others : (j : ℕ) → j ≢ i → status_at t j ≡ status_at s j)
    (own : wait_if_awake (status_at t i) ≡ None) (list : WaitList) (h : FirstAwake s 0 (standing s list)) where
  not_awake : (e : Entry) → HasKey (standing_key list) t.tasks e → is_awake t e.task ≡ false
  not_awake e k = by_test (eqb e.task i)
      (λ u. ap is_some (subst (λ (j : ℕ). wait_if_awake (status_at t j) ≡ None) (sym (eqb-same e.task i u)) own))
      (λ u.
      let ne : e.task ≢ i = λ q. let w : eqb e.task i ≡ true = rw q (eqb-refl i) in absurd cc in
      let same : status_at t e.task ≡ status_at s e.task = others e.task ne in
      let there : standing_key list (task_at s e.task) ≡ Some e.key =
      ap (λ u. option_and_then (wait_key list) (wait_of u)) (sym same) ∙ k.key in
      ap (λ u. is_some (wait_if_awake u)) same
      ∙ found (λ j. is_awake s j ≡ false) e.task (standing s list) (none_first s (standing s list) h)
      (has_task-key (standing_key list) refl e.task e.key s.tasks there))

  none_awake : (es : List Entry) → AllByRecursion (HasKey (standing_key list) t.tasks) es → FirstAwake t 0 es
  none_awake [] k = tt
  none_awake (e ∷ es) k = (not_awake e k.0, none_awake es k.1)

  none_awake_then : FirstAwake t 0 (standing t list)
  none_awake_then = none_awake (standing t list) (list_has (standing_key list) t.tasks)

-- ---- a task begins to wait

module _ (s : State) (i : ℕ) (q : WaitList) where
  pub others_as_before : (j : ℕ) → j ≢ i → status_at (wait_in i q s) j ≡ status_at s j
  unfolding wait_in
  others_as_before j ne =
      ap (λ (t : Task). t.status) (get_or-set_other _ i j _ no_task ne ∙ get_or-set_other s.tasks i j _ no_task ne)

  pub waits_now : i < length s.tasks → wait_if_awake (status_at (wait_in i q s) i) ≡ None
  unfolding wait_in
  waits_now l =
      let u : Task =
      record (task_at s i) { progress = record (progress_at s i) { call = record (call_at s i) { waits = true } } } in
      ap (λ (t : Task). wait_if_awake t.status) (get_or-set_same (set s.tasks i u) i _ no_task (rw length-set l))

  counts_begun : (lock : Option Lock) → i < length s.tasks → IfSome lock (λ (l : Lock). (l.receivers ≡ 0) × (l.senders ≡ 0))
      → IfSome lock (Counts s) → IfSome lock (Counts (wait_in i q s))
  counts_begun None l zeros h = tt
  counts_begun (Some m) l zeros h =
      let t : State = wait_in i q s in
      let P : WaitList → ℕ → Type 0 = λ list k. FirstAwake s k (standing s list) in
      let Q : WaitList → ℕ → Type 0 = λ list k. FirstAwake t k (standing t list) in
      let one : (list : WaitList) (k : ℕ) → k ≡ 0 → P list k → Q list k = λ list k e p.
      subst (Q list) (sym e) (none_awake_then s t i others_as_before (waits_now l) list (subst (P list) e p)) in
      (one (ToReceive m.object) m.receivers zeros.0 h.0, one (ToSend m.object) m.senders zeros.1 h.1)

objects_begun : (s : State) (i : ℕ) (q : WaitList) → (wait_in i q s).objects ≡ s.objects
unfolding wait_in
objects_begun s i q = refl

locked_begun : (s : State) (i : ℕ) (q : WaitList) → (wait_in i q s).locked ≡ s.locked
unfolding wait_in
locked_begun s i q = refl

pub stands_begins : (v : Objects) (s : State) (i : ℕ) (q : WaitList) → StandsFor v None s
    → i < length s.tasks → wait_of (status_at s i) ≡ None → CountsNobody v
    → StandsFor v (Some (record { task = i; list = q; priority = (task_at s i).priority })) (wait_in i q s)
stands_begins v s i q h l none nobody = record {
  number = ap length (objects_begun s i q) ∙ h.number;
  objects = λ o. h.objects o ∙ sym (ap (λ os. object_in os o) (objects_begun s i q));
  waiters = stands_decided v.waiting i (absent v s h i none) s q h.waiters l;
  locked = h.locked ∙ sym (locked_begun s i q);
  counts = counts_begun s i q v.lock l nobody h.counts;
}

-- ---- the decision

module _ (v : Objects) (s : State) (i o : ℕ) (h : StandsFor v None (record s { locked = Some o })) where
  -- to wait
  pub stands_deciding : (a : Access ℕ) → i < length s.tasks → wait_of (status_at s i) ≡ None → CountsNobody v
      → StandsFor v (Some (record { task = i; list = list_for o a; priority = (task_at s i).priority }))
      (lock i o Place (wait_in i (list_for o a) s))
  unfolding wait_in
  stands_deciding a l none nobody =
      let d : Option Decider = Some (record { task = i; list = list_for o a; priority = (task_at s i).priority }) in
      let shut : State = record s { locked = Some o } in
      let w : State = wait_in i (list_for o a) shut in
      let begun : StandsFor v d w = stands_begins v shut i (list_for o a) h l none nobody in
      stands_gone_on v d (record w { call_hold = true }) i Place
      (stands_unseen v d w w.time w.elapsed w.steps true w.stopped w.log begun)

  -- or not
  pub stands_declining : StandsFor v None (lock i o Unlock s)
  stands_declining =
      let w : State = record s { locked = Some o } in
      stands_gone_on v None (record w { call_hold = true }) i Unlock
      (stands_unseen v None w w.time w.elapsed w.steps true w.stopped w.log h)
