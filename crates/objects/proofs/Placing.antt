-- A task that has begun to wait, from then until it is placed.
use Rattle.std.proofs.Common.{◌≡◌, ◌≢◌, ℕ, ◌<◌, true, false, Option, Some, None, List, [], ◌∷◌, map, length, set, sym, ◌∙◌, ap}
use Rattle.std.proofs.Common.{subst, arith, refl}
use Rattle.std.specs.Prelude.{nat_lt}
use Rattle.std.proofs.Math.ListN.{length-set}
use Rattle.std.proofs.lemmas.Option.{same_Some}
use Rattle.lists.specs.Lists.{Apart, IsSound, has_node, place_of, without}
use Rattle.lists.proofs.Laws.{entries_of-set_other, entries_of-set_same, entries_of-without, has_node-None}
use Rattle.lists.proofs.Entries.{apart_from_test, without-apart}
use Rattle.model.specs.declared.call.WaitList.{WaitList}
use Rattle.model.specs.State.{State, Status, Task, Ready, Waiting, call_at, progress_at, take_ticket, task_at, with_task}
use Rattle.model.specs.Switching.{make_ready}
use Rattle.model.specs.Waiting.{same_list, wait_in}
use Rattle.model.proofs.Sorting.{by_test}
use Rattle.model.proofs.Tables.{table-taken, ticket_at}
use Rattle.task_lists.specs.Priorities.{with_priorities}
use Rattle.objects.specs.Places.{list_places}
use Rattle.objects.specs.WaitingLists.{number_of, waiting_in}
use Rattle.task_lists.specs.Tasks.{insert_by_priority}
use Rattle.objects.specs.WaitersStand.{Decider, WaitersStand, joined_by, standing}
use Rattle.objects.proofs.Keys.{other_number, same_list-refl, same_list-true}
use Rattle.objects.proofs.Standing.{stands_kept, standing-joined, standing-left}

-- It begins to wait: the lists stay.
module _ (v : List (List (ℕ × ℕ))) (i : ℕ) (absent : (list : WaitList) → Apart (Some i) (waiting_in v list)) where
  without_free : (list : WaitList) → without i (waiting_in v list) ≡ waiting_in v list
  without_free list = without-apart i (waiting_in v list) (absent list)

  takes : (s : State) (q : WaitList) (p : ℕ) (deadline : Option ℕ) → WaitersStand v None s → i < length s.tasks
      → WaitersStand v (Some (record { task = i; list = q; priority = p }))
      (take_ticket i (λ ticket. Waiting (record { list = q; priority = p; ticket = ticket; deadline = deadline })) s)
  takes s q p deadline h l =
      let status : ℕ → Status = λ ticket. Waiting (record { list = q; priority = p; ticket = ticket; deadline = deadline }) in
      let d : Decider = record { task = i; list = q; priority = p } in
      let new : State = take_ticket i status s in
      record {
        lists = λ list. by_test (same_list q list)
            (λ t.
            let same : q ≡ list = same_list-true q list t in
            subst (λ (w : WaitList). joined_by (Some d) w (waiting_in v w) ≡ with_priorities (standing new w)) same
            (rw (same_list-refl q)
            (ap (insert_by_priority (i, p)) (sym (without_free q) ∙ ap (without i) (h.lists q))
            ∙ sym (standing-joined s i status h.table l q p (rw (same_list-refl q) refl)))))
            (λ t.
            rw t (sym (without_free list) ∙ ap (without i) (h.lists list)
            ∙ sym (standing-left s i status h.table l list (rw t refl))));
        table = table-taken s i status h.table (omega arith);
      }

  pub stands_decided : (s : State) (q : WaitList) → WaitersStand v None s → i < length s.tasks
      → WaitersStand v (Some (record { task = i; list = q; priority = (task_at s i).priority })) (wait_in i q s)
  unfolding wait_in
  stands_decided s q h l =
      let call = record (call_at s i) { waits = true } in
      let u : Task = record (task_at s i) { progress = record (progress_at s i) { call = call } } in
      let t : State = with_task i u s in
      let before : WaitersStand v None t =
      stands_kept v None s i u h (λ list. refl) (ticket_at s.next_ticket i s.tasks h.table.tickets) in
      takes t q (task_at s i).priority (call_at s i).deadline before (subst (λ (k : ℕ). i < k) (sym (length-set s.tasks i u)) l)

-- It is placed: the lists become what they were counted as.
pub stands_placed : (v : List (List (ℕ × ℕ))) (s : State) (q : WaitList) (p i : ℕ) → length v ≡ list_places
    → number_of q < list_places → WaitersStand v (Some (record { task = i; list = q; priority = p })) s
    → WaitersStand (set v (number_of q) (insert_by_priority (i, p) (waiting_in v q))) None s
stands_placed v s q p i many known h =
    let new : List (ℕ × ℕ) = insert_by_priority (i, p) (waiting_in v q) in
    record {
      lists = λ list. by_test (same_list q list)
          (λ t.
          let same : q ≡ list = same_list-true q list t in
          let was = h.lists list in
          let now : insert_by_priority (i, p) (waiting_in v list) ≡ with_priorities (standing s list) = rw t at was in
          let there : new ≡ with_priorities (standing s q) =
          subst (λ (w : WaitList). insert_by_priority (i, p) (waiting_in v w) ≡ with_priorities (standing s w)) (sym same) now in
          subst (λ (w : WaitList). waiting_in (set v (number_of q) new) w ≡ with_priorities (standing s w)) same
          (entries_of-set_same v (number_of q) new (omega (arith, many, known)) ∙ there))
          (λ t. let was = h.lists list in
          let now = rw t at was in
          entries_of-set_other v (number_of q) (number_of list) new (other_number q list t) ∙ now);
      table = h.table;
    }

-- Both at once.
pub stands_begun : (v : List (List (ℕ × ℕ))) (s : State) (q : WaitList) (p i : ℕ) → IsSound list_places 32 v
    → place_of v i ≡ None → number_of q < list_places → WaitersStand v None s → i < length s.tasks → (task_at s i).priority ≡ p
    → WaitersStand (set v (number_of q) (insert_by_priority (i, p) (waiting_in v q))) None (wait_in i q s)
stands_begun v s q p i sound free known h l priority =
    stands_placed v (wait_in i q s) q p i sound.as_many known
    (subst (λ (k : ℕ). WaitersStand v (Some (record { task = i; list = q; priority = k })) (wait_in i q s)) priority
    (stands_decided v i (λ list. apart_from_test i (waiting_in v list) (has_node-None sound i (number_of list) free)) s q h l))

-- Meanwhile a task may be woken through another object: it leaves its list.

insert_by_priority-apart : (i : ℕ) (e : ℕ × ℕ) (xs : List (ℕ × ℕ)) → Some i ≢ Some e.0
    → Apart (Some i) xs → Apart (Some i) (insert_by_priority e xs)
insert_by_priority-apart i e [] n h = (n, tt)
insert_by_priority-apart i e (x ∷ xs) n h =
    by_test (nat_lt x.1 e.1) (λ t. rw t (n, h)) (λ t. rw t (h.0, insert_by_priority-apart i e xs n h.1))

pub stands_readied_but : (v : List (List (ℕ × ℕ))) (s : State) (d : Decider) (i : ℕ)
    → WaitersStand v (Some d) s → i < length s.tasks → i ≢ d.task → has_node i (waiting_in v d.list) ≡ false
    → WaitersStand (map (without i) v) (Some d) (make_ready i s)
stands_readied_but v s d i h l other away = record {
  lists = λ list.
      let ready : with_priorities (standing (make_ready i s) list) ≡ without i (with_priorities (standing s list)) =
      standing-left s i Ready h.table l list refl in
      by_test (same_list d.list list)
      (λ t.
      let same : d.list ≡ list = same_list-true d.list list t in
      let absent : Apart (Some i) (waiting_in v list) =
      apart_from_test i (waiting_in v list) (subst (λ (w : WaitList). has_node i (waiting_in v w) ≡ false) same away) in
      let was = h.lists list in
      let now : insert_by_priority (d.task, d.priority) (waiting_in v list) ≡ with_priorities (standing s list) = rw t at was in
      rw t (
      ap (insert_by_priority (d.task, d.priority))
      (entries_of-without i (number_of list) v ∙ without-apart i (waiting_in v list) absent)
      ∙ sym (without-apart i (insert_by_priority (d.task, d.priority) (waiting_in v list))
      (insert_by_priority-apart i (d.task, d.priority) (waiting_in v list) (λ q. other (same_Some i d.task q)) absent))
      ∙ ap (without i) now ∙ sym ready
      ))
      (λ t. let was = h.lists list in
      let now : waiting_in v list ≡ with_priorities (standing s list) = rw t at was in
      rw t (entries_of-without i (number_of list) v ∙ ap (without i) now ∙ sym ready));
  table = table-taken s i Ready h.table (omega arith);
}
