-- What the calls make of the lists, and of the schedule that they spell.
use Rattle.std.proofs.Common.{◌≡◌, ◌≢◌, ℕ, ◌<◌, inl, inr, Bool, true, false, Option, List, [], ◌∷◌, ◌++◌, length, map, set, sym}
use Rattle.std.proofs.Common.{◌∙◌, ap, arith}
use Rattle.std.proofs.lemmas.Bool.{cases_eq}
use Rattle.lists.specs.Lists.{IsSound, entries_of, has_node, without}
use Rattle.lists.proofs.Entries.{has_node-without_it, has_node-without_other}
use Rattle.sched.specs.Schedule.{Schedule, block, make_ready, priority_in, to_back}
use Rattle.task_lists.specs.Tasks.{insert_by_priority, is_among, without_task}
use Rattle.sched.specs.ReadyLists.{AreByPriority, IsSched, ready_list_of, schedule_of}
use Rattle.sched.proofs.ReadyList.{AtHome-push, AtHome-without, ready_list_of-push, ready_list_of-without}
use Rattle.sched.proofs.LinedUp.{among-more, among-without, has_node-added}

abbrev pub with_ready : Schedule → List (ℕ × ℕ) → Schedule
with_ready v ready = record v { ready = ready }

-- a task is blocked

pub listed_without : {lists : List (List (ℕ × ℕ))} {priorities : List ℕ} → AreByPriority lists priorities
    → (task : ℕ) → IsSound 32 32 (map (without task) lists) → AreByPriority (map (without task) lists) priorities
listed_without {lists} {priorities} h task sound =
    record { sound = sound; at_home = AtHome-without task 0 lists h.at_home; known = h.known }

-- who isn't in a list isn't in it once another has left
still_out : (i task : ℕ) (es : List (ℕ × ℕ)) → has_node i es ≡ false → has_node i (without task es) ≡ false
still_out i task es out = elim (cases_eq i task) [
  | inl same ↦ ap (λ (j : ℕ). has_node j (without task es)) same ∙ has_node-without_it task es
  | inr other ↦ has_node-without_other task i es other ∙ out
]

pub sched_block : {lists : List (List (ℕ × ℕ))} {pending priorities base : List ℕ} {depth : ℕ}
    → IsSched lists pending priorities base depth → (task : ℕ) → IsSound 32 32 (map (without task) lists)
    → IsSched (map (without task) lists) (without_task task pending) priorities base depth
sched_block {lists} {pending} {priorities} {base} {depth} h task sound = record {
  lists_are = listed_without h.lists_are task sound;
  base_known = h.base_known;
  apart = λ i among.
      ap (has_node i) (ready_list_of-without task lists)
      ∙ still_out i task (ready_list_of lists) (h.apart i (among-without i task pending among).1);
  calm = λ free. ap (without_task task) (h.calm free);
}

pub schedule_block : (lists : List (List (ℕ × ℕ))) (pending : List ℕ) (current : Option ℕ)
    (priorities base : List ℕ) (depth suspensions : ℕ) (suspended : List Bool) (task : ℕ)
    → schedule_of (map (without task) lists) (without_task task pending) current priorities base depth suspensions suspended
    ≡ block task (schedule_of lists pending current priorities base depth suspensions suspended)
schedule_block lists pending current priorities base depth suspensions suspended task =
    ap (with_ready (schedule_of lists (without_task task pending) current priorities base depth suspensions suspended))
    (ready_list_of-without task lists)

-- a task is made Ready, in the list of its priority

abbrev pub push : ℕ → ℕ → List (List (ℕ × ℕ)) → List (List (ℕ × ℕ))
push task p lists = set lists p (entries_of lists p ++ (task, p) ∷ [])

pub listed_push : {lists : List (List (ℕ × ℕ))} {priorities : List ℕ} → AreByPriority lists priorities
    → (task p : ℕ) → IsSound 32 32 (push task p lists) → AreByPriority (push task p lists) priorities
listed_push {lists} {priorities} h task p sound =
    record { sound = sound; at_home = AtHome-push task p 0 p lists h.at_home (omega arith); known = h.known }

pub ready_push : {lists : List (List (ℕ × ℕ))} {priorities : List ℕ} → AreByPriority lists priorities → (task p : ℕ)
    → p ≡ priority_in priorities task → p < length lists
    → ready_list_of (push task p lists) ≡ insert_by_priority (task, priority_in priorities task) (ready_list_of lists)
ready_push {lists} {priorities} h task p is below =
    ready_list_of-push task p 0 p lists h.at_home (omega arith) below
    ∙ ap (λ (k : ℕ). insert_by_priority (task, k) (ready_list_of lists)) is

pub sched_push : {lists : List (List (ℕ × ℕ))} {pending priorities base : List ℕ} {depth : ℕ}
    → IsSched lists pending priorities base depth → (task p : ℕ) → p ≡ priority_in priorities task → p < length lists
    → is_among task pending ≡ false → IsSound 32 32 (push task p lists) → IsSched (push task p lists) pending priorities base depth
sched_push {lists} {pending} {priorities} {base} {depth} h task p is below free sound = record {
  lists_are = listed_push h.lists_are task p sound;
  base_known = h.base_known;
  apart = λ i among.
      let ne : task ≢ i = λ same. let f : is_among i pending ≡ false = ap (λ (j : ℕ). is_among j pending) (sym same) ∙ free in cc in
      ap (has_node i) (ready_push h.lists_are task p is below)
      ∙ has_node-added i (task, priority_in priorities task) (ready_list_of lists) ne ∙ h.apart i among;
  calm = h.calm;
}

pub schedule_push : {lists : List (List (ℕ × ℕ))} {priorities : List ℕ} → AreByPriority lists priorities
    → (pending : List ℕ) (current : Option ℕ) (base : List ℕ) (depth suspensions : ℕ) (suspended : List Bool) (task p : ℕ)
    → p ≡ priority_in priorities task → p < length lists
    → schedule_of (push task p lists) pending current priorities base depth suspensions suspended
    ≡ make_ready task (schedule_of lists pending current priorities base depth suspensions suspended)
schedule_push {lists} {priorities} h pending current base depth suspensions suspended task p is below =
    ap (with_ready (schedule_of lists pending current priorities base depth suspensions suspended)) (ready_push h task p is below)

-- a task is pending

pub sched_pend : {lists : List (List (ℕ × ℕ))} {pending priorities base : List ℕ} {depth : ℕ}
    → IsSched lists pending priorities base depth → (task : ℕ) → has_node task (ready_list_of lists) ≡ false
    → 0 < depth → IsSched lists (pending ++ task ∷ []) priorities base depth
sched_pend {lists} {pending} {priorities} {base} {depth} h task free held = record {
  lists_are = h.lists_are;
  base_known = h.base_known;
  apart = λ i among.
      among-more i task pending among (λ same. ap (λ (j : ℕ). has_node j (ready_list_of lists)) same ∙ free) (h.apart i);
  calm = λ none. absurd (omega (arith, held, none));
}

-- a task of a ready list goes to the back of it

-- who wasn't in a ready list still isn't
pub still_apart : (lists new : List (List (ℕ × ℕ))) (task k : ℕ)
    → ready_list_of new ≡ insert_by_priority (task, k) (without task (ready_list_of lists))
    → has_node task (ready_list_of lists) ≡ true → (i : ℕ)
    → has_node i (ready_list_of lists) ≡ false → has_node i (ready_list_of new) ≡ false
still_apart lists new task k moved listed i out =
    let ne : i ≢ task = λ same.
    let there : has_node task (ready_list_of lists) ≡ false = ap (λ (j : ℕ). has_node j (ready_list_of lists)) (sym same) ∙ out in
    cc in
    ap (has_node i) moved ∙ has_node-added i (task, k) (without task (ready_list_of lists)) (λ same. ne (sym same))
    ∙ has_node-without_other task i (ready_list_of lists) ne ∙ out

module _ {lists : List (List (ℕ × ℕ))} {priorities : List ℕ} (h : AreByPriority lists priorities) (task p : ℕ)
    (is : p ≡ priority_in priorities task) (known : p < 32) (listed : has_node task (ready_list_of lists) ≡ true)
    (sound : IsSound 32 32 (map (without task) lists)) where
  left : AreByPriority (map (without task) lists) priorities
  left = listed_without h task sound

  below : p < length (map (without task) lists)
  below = let many = sound.as_many in omega (arith, many, known)

  ready_moved : ready_list_of (push task p (map (without task) lists))
      ≡ insert_by_priority (task, priority_in priorities task) (without task (ready_list_of lists))
  ready_moved =
      ready_push left task p is below
      ∙ ap (insert_by_priority (task, priority_in priorities task)) (ready_list_of-without task lists)

  pub schedule_moved : (pending : List ℕ) (current : Option ℕ) (base : List ℕ) (depth suspensions : ℕ) (suspended : List Bool)
      → schedule_of (push task p (map (without task) lists)) pending current priorities base depth suspensions suspended
      ≡ to_back task (schedule_of lists pending current priorities base depth suspensions suspended)
  schedule_moved pending current base depth suspensions suspended =
      rw listed (ap (with_ready (schedule_of lists pending current priorities base depth suspensions suspended)) ready_moved)

  pub sched_moved : {pending base : List ℕ} {depth : ℕ} → IsSched lists pending priorities base depth
      → IsSound 32 32 (push task p (map (without task) lists))
      → IsSched (push task p (map (without task) lists)) pending priorities base depth
  sched_moved {pending} {base} {depth} all after = record {
    lists_are = listed_push left task p after;
    base_known = all.base_known;
    apart = λ i among.
        still_apart lists (push task p (map (without task) lists)) task
        (priority_in priorities task) ready_moved listed i (all.apart i among);
    calm = all.calm;
  }
