-- The best waiter of a list is woken, if its object isn't locked, and another one may be.
use Rattle.std.proofs.Common.{◌≡◌, ◌≢◌, ℕ, ◌<◌, true, false, Option, Some, None, List, [], ◌∷◌, map, length, sym, ◌∙◌, ap, subst}
use Rattle.std.proofs.Common.{refl}
use Rattle.std.specs.Prelude.{nat_lt}
use Rattle.std.specs.List.{AllByRecursion}
use Rattle.std.specs.Option.{IfSome, is_some}
use Rattle.std.proofs.lemmas.List.{get_or-set_other}
use Rattle.std.proofs.lemmas.Option.{same_Some}
use Rattle.lists.specs.Lists.{Apart, first_of, without}
use Rattle.lists.proofs.Entries.{has_node-apart}
use Rattle.model.specs.declared.call.WaitList.{WaitList}
use Rattle.model.specs.declared.call.WaitList.TheVariants.{ToReceive, ToSend}
use Rattle.model.specs.State.{State, Task, Ready, no_task, wait_if_awake, task_at, status_at, for_one}
use Rattle.model.specs.Order.{Entry, first, task_of}
use Rattle.model.specs.Switching.{make_ready}
use Rattle.model.specs.Waiting.{is_locked, same_list, waiters, wake_best, wake_one}
use Rattle.model.proofs.Sorting.{by_test}
use Rattle.model.proofs.Lists.{eqb-refl, filter-without, list-gone, list_without}
use Rattle.task_lists.specs.Priorities.{with_priorities}
use Rattle.objects.specs.WaitingLists.{waiting_in}
use Rattle.task_lists.specs.Tasks.{insert_by_priority}
use Rattle.objects.specs.WaitersStand.{AtLocked, Decider, FirstAwake, StandLocked, WaitersStand, joined_by, standing}
use Rattle.objects.proofs.Keys.{same_list-refl, same_list-true, standing_key}
use Rattle.objects.proofs.Standing.{best_is, head_key, head_within, stands_readied}
use Rattle.objects.proofs.Placing.{stands_readied_but}
use Rattle.objects.proofs.Counting.{awake_apart, stands_once}

-- a list of the locked object is another one
other_list : (s : State) (list q : WaitList) → is_locked s.locked list ≡ false
    → is_locked s.locked q ≡ true → same_list list q ≡ false
other_list s list q shut shown = by_test (same_list list q)
    (λ t.
    absurd (let e : is_locked s.locked list ≡ is_locked s.locked q = ap (is_locked s.locked) (same_list-true list q t) in
    cc (e, shown, shut)))
    (λ t. t)

unjoined : (s : State) (d : Option Decider) (list : WaitList) (es : List (ℕ × ℕ))
    → IfSome d (λ d. is_locked s.locked d.list ≡ true) → is_locked s.locked list ≡ false → joined_by d list es ≡ es
unjoined s None list es a shut = refl
unjoined s (Some d) list es a shut = by_test (same_list d.list list)
    (λ t.
    absurd (let e : is_locked s.locked d.list ≡ is_locked s.locked list = ap (is_locked s.locked) (same_list-true d.list list t) in
    cc (e, a, shut)))
    (λ t. rw t refl)

pub apart_priorities : (i : ℕ) (es : List Entry) → AllByRecursion (λ e. e.task ≡ i → ⊥) es → Apart (Some i) (with_priorities es)
apart_priorities i [] h = tt
apart_priorities i (e ∷ es) h = ((λ q. h.0 (sym (same_Some i e.task q))), apart_priorities i es h.1)

pub apart_inserted : (i : ℕ) (e : ℕ × ℕ) (xs : List (ℕ × ℕ))
    → Apart (Some i) (insert_by_priority e xs) → (Some i ≢ Some e.0) × Apart (Some i) xs
apart_inserted i e [] h = (h.0, tt)
apart_inserted i e (x ∷ xs) h = by_test (nat_lt x.1 e.1)
    (λ t. let k = rw t at h in (k.0, k.1))
    (λ t. let k = rw t at h in let r = apart_inserted i e xs k.1 in (r.0, (k.0, r.1)))

-- The first task of a list becomes Ready, also while another isn't placed yet at the locked object.
stands_taken : (v : List (List (ℕ × ℕ))) (s : State) (d : Option Decider) (list : WaitList) (i : ℕ)
    → WaitersStand v d s → IfSome d (λ d. is_locked s.locked d.list ≡ true) → is_locked s.locked list ≡ false
    → waiting_in v list ≡ with_priorities (standing s list) → Some i ≡ first_of (waiting_in v list)
    → WaitersStand (map (without i) v) d (make_ready i s)
stands_taken v s None list i h a shut here e = stands_readied v s i h (head_within v s list here i e)
stands_taken v s (Some d) list i h a shut here e =
    let key = head_key v s list here i e in
    let none : standing_key d.list (task_at s i) ≡ None =
    stands_once list d.list key.0 (status_at s i) key.1 (other_list s list d.list shut a) in
    let was = h.lists d.list in
    let own : insert_by_priority (d.task, d.priority) (waiting_in v d.list) ≡ with_priorities (standing s d.list) =
    rw (same_list-refl d.list) at was in
    let apart =
    subst (Apart (Some i)) (sym own) (apart_priorities i (standing s d.list) (list_without (standing_key d.list) i s.tasks none)) in
    let both = apart_inserted i (d.task, d.priority) (waiting_in v d.list) apart in
    stands_readied_but v s d i h (head_within v s list here i e)
    (λ q. both.0 (ap Some q)) (has_node-apart i (waiting_in v d.list) both.1)

-- In a list without it, the same ones are Awake.
awake_elsewhere : (s : State) (i k : ℕ) (q : WaitList) → i < length s.tasks → standing_key q (task_at s i) ≡ None
    → FirstAwake s k (standing s q) → FirstAwake (make_ready i s) k (standing (make_ready i s) q)
awake_elsewhere s i k q l none h =
    let t : Task = record (task_at s i) { status = Ready s.next_ticket } in
    let away = list_without (standing_key q) i s.tasks none in
    let same : standing (make_ready i s) q ≡ standing s q =
    list-gone (standing_key q) i t s.tasks l refl ∙ filter-without i (standing s q) away in
    subst (FirstAwake (make_ready i s) k) (sym same)
    (awake_apart s (make_ready i s) i k (standing s q)
    (λ j n. ap (λ (u : Task). is_some (wait_if_awake u.status)) (get_or-set_other s.tasks i j t no_task n)) away h)

module _ (v : List (List (ℕ × ℕ))) (s : State) (d : Option Decider) (list : WaitList)
    (h : WaitersStand v d s) (at : AtLocked d s) (shut : is_locked s.locked list ≡ false) where
  here : waiting_in v list ≡ with_priorities (standing s list)
  here = sym (unjoined s d list (waiting_in v list) at.to_place shut) ∙ h.lists list

  pub best_waiter : first_of (waiting_in v list) ≡ task_of (first (waiters s list))
  best_waiter = best_is v s list here at.awake shut

  pub stands_woken : (i : ℕ) → Some i ≡ first_of (waiting_in v list) → WaitersStand (map (without i) v) d (wake_best list s)
  unfolding wake_best
  stands_woken i e =
      subst (λ (o : Option ℕ). WaitersStand (map (without i) v) d (for_one (λ task. wake_one task list) o s)) (e ∙ best_waiter)
      (rw shut (stands_taken v s d list i h at.to_place shut here e))

  pub stands_unwoken : None ≡ first_of (waiting_in v list) → WaitersStand v d (wake_best list s)
  unfolding wake_best
  stands_unwoken e = subst (λ (o : Option ℕ). WaitersStand v d (for_one (λ task. wake_one task list) o s)) (e ∙ best_waiter) h

  -- The counts of the locked object stay.
  module _ (o receivers senders : ℕ) (locked : StandLocked v d o receivers senders s) where
    is_shown : (q : WaitList) → is_locked (Some o) q ≡ true → is_locked s.locked q ≡ true
    is_shown q e = ap (λ x. is_locked x q) locked.locked ∙ e

    pub counts_woken : (i : ℕ) → Some i ≡ first_of (waiting_in v list)
        → StandLocked (map (without i) v) d o receivers senders (wake_best list s)
    unfolding wake_best
    counts_woken i e =
        let key = head_key v s list here i e in
        let within = head_within v s list here i e in
        let none : (q : WaitList) → is_locked (Some o) q ≡ true → standing_key q (task_at s i) ≡ None = λ q shown.
        stands_once list q key.0 (status_at s i) key.1 (other_list s list q shut (is_shown q shown)) in
        let ready : StandLocked (map (without i) v) d o receivers senders (make_ready i s) = record {
          stand = stands_taken v s d list i h at.to_place shut here e;
          locked = locked.locked;
          to_receive = awake_elsewhere s i receivers (ToReceive o) within (none (ToReceive o) (eqb-refl o)) locked.to_receive;
          to_send = awake_elsewhere s i senders (ToSend o) within (none (ToSend o) (eqb-refl o)) locked.to_send;
        } in
        subst (λ (x : Option ℕ). StandLocked (map (without i) v) d o receivers senders (for_one (λ task. wake_one task list) x s))
        (e ∙ best_waiter)
        (rw shut ready)

    pub counts_unwoken : None ≡ first_of (waiting_in v list) → StandLocked v d o receivers senders (wake_best list s)
    unfolding wake_best
    counts_unwoken e =
        subst (λ (x : Option ℕ). StandLocked v d o receivers senders (for_one (λ task. wake_one task list) x s))
        (e ∙ best_waiter) locked
