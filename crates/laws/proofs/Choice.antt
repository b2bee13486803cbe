-- The choice, in words.
use Rattle.std.proofs.Common.{◌≡◌, ◌+◌, ℕ, zero, suc, true, false, List, [], ◌∷◌, get_or, Option, Some, None, refl, ap, sym, subst}
use Rattle.std.proofs.Common.{arith, ◌++◌}
use Rattle.std.specs.List.{AllByRecursion}
use Rattle.std.specs.Option.{option_map, is_some, option_to_list}
use Rattle.model.specs.State.{State, Task, Status, Ready, Awake, Waiting, Asleep, WaitingForBits, WaitingForNotification, Suspended}
use Rattle.model.specs.State.{Ended, ticket_if_ready}
use Rattle.model.specs.State.{task_at, no_task}
use Rattle.model.specs.Order.{Key, Entry, key, put, in_order, entry, keyed, first, before, task_of}
use Rattle.model.specs.Switching.{ready_list, ready_key, is_ready, choice}
use Rattle.laws.specs.Choice.{IsBestReady, IsChoice}
use Rattle.model.proofs.Sorting.{by_test, Falls, Falls-in_order, IsAfter}
use Rattle.model.proofs.Lists.{HasKey, list_has}

-- what holds of all of a list holds of each task that has a key
All-from_put : (P : Entry → Type 0) (e : Entry) (xs : List Entry) → AllByRecursion P (put e xs) → P e × AllByRecursion P xs
All-from_put P e [] h = (h.0, tt)
All-from_put P e (f ∷ fs) h = by_test (before e.key f.key)
    (λ t. rw t at h)
    (λ t. let all = rw t at h in let more = All-from_put P e fs all.1 in (more.0, (all.0, more.1)))

pub All-from_in_order : (P : Entry → Type 0) (xs : List Entry) → AllByRecursion P (in_order xs) → AllByRecursion P xs
All-from_in_order P [] h = tt
All-from_in_order P (x ∷ xs) h = let both = All-from_put P x (in_order xs) h in (both.0, All-from_in_order P xs both.1)

rest : (P : Entry → Type 0) (o : ℕ) (xs : List Entry) (r : Option Key)
    → AllByRecursion P (option_to_list (option_map (entry o) r) ++ xs) → AllByRecursion P xs
rest P o xs None h = h
rest P o xs (Some k) h = h.1

pub at_index : (f : Task → Option Key) (P : Entry → Type 0) (o i : ℕ) (k : Key) (ts : List Task)
    → f no_task ≡ None → f (get_or ts i no_task) ≡ Some k → AllByRecursion P (keyed f o ts) → P (entry (o + i) k)
at_index f P o i k [] n e h = absurd (cc)
at_index f P o zero k (t ∷ ts) n e h =
    let z : o + 0 ≡ o = omega arith in
    let Q : Option Key → Type 0 = λ r. AllByRecursion P (option_to_list (option_map (entry o) r) ++ keyed f (o + 1) ts) in
    rw z (subst Q e h).0
at_index f P o (suc i) k (t ∷ ts) n e h =
    let later : AllByRecursion P (keyed f (o + 1) ts) = rest P o (keyed f (o + 1) ts) (f t) h in
    let z : (o + 1) + i ≡ o + suc i = omega arith in
    rw z at (at_index f P (o + 1) i k ts n e later)

-- the key of a Ready task
ready_is : (u : Status) → is_some (ticket_if_ready u) ≡ true → (n : ℕ) × (u ≡ Ready n)
ready_is (Ready n) h = (n, refl)
ready_is (Awake w) h = absurd (cc)
ready_is (Waiting w) h = absurd (cc)
ready_is (Asleep w n) h = absurd (cc)
ready_is (WaitingForBits g n d) h = absurd (cc)
ready_is (WaitingForNotification n d) h = absurd (cc)
ready_is Suspended h = absurd (cc)
ready_is Ended h = absurd (cc)

pub key_is : (p : ℕ) (u : Status) (k : Key) → option_map (key p) (ticket_if_ready u) ≡ Some k
    → (u ≡ Ready k.ticket) × (k.priority ≡ p)
key_is p (Ready n) k h = let e : key p n ≡ k = cc in (ap (λ (j : Key). Ready j.ticket) e, sym (ap (λ (j : Key). j.priority) e))
key_is p (Awake w) k h = absurd (cc)
key_is p (Waiting w) k h = absurd (cc)
key_is p (Asleep w n) k h = absurd (cc)
key_is p (WaitingForBits g n d) k h = absurd (cc)
key_is p (WaitingForNotification n d) k h = absurd (cc)
key_is p Suspended k h = absurd (cc)
key_is p Ended k h = absurd (cc)

module _ (s : State) where
  ready_key_is : (i : ℕ) → is_ready s i ≡ true
      → (n : ℕ) × ((task_at s i).status ≡ Ready n) × (ready_key (task_at s i) ≡ Some (key (task_at s i).priority n))
  ready_key_is i h =
      let r = ready_is (task_at s i).status h in
      (r.0, r.1, ap (λ (u : Status). option_map (key (task_at s i).priority) (ticket_if_ready u)) r.1)

  -- whatever holds of the ready list
  each_ready : (P : Entry → Type 0) → AllByRecursion P (ready_list s) → (i n : ℕ)
      → ready_key (task_at s i) ≡ Some (key (task_at s i).priority n) → P (entry i (key (task_at s i).priority n))
  each_ready P h i n e =
      let z : 0 + i ≡ i = omega arith in
      rw z at (at_index ready_key P 0 i (key (task_at s i).priority n)
      s.tasks refl e (All-from_in_order P (keyed ready_key 0 s.tasks) h))

  pub none_ready : ready_list s ≡ [] → (i : ℕ) → is_ready s i ≡ false
  none_ready e i = by_test (is_ready s i)
      (λ t.
      let r = ready_key_is i t in
      let Q : List Entry → Type 0 = λ es. AllByRecursion (λ _. ⊥) es in
      absurd (each_ready (λ _. ⊥) (subst Q (sym e) tt) i r.0 r.2))
      (λ t. t)

  best : (e : Entry) (es : List Entry) → ready_list s ≡ e ∷ es → IsBestReady s e.task
  best e es h =
      let H : List Entry → Type 0 = λ xs. AllByRecursion (HasKey ready_key s.tasks) xs in
      let F : List Entry → Type 0 = λ xs. Falls xs in
      let has = (subst H h (list_has ready_key s.tasks)).0 in
      let falls = subst F h (Falls-in_order (keyed ready_key 0 s.tasks)) in
      let is = key_is (task_at s e.task).priority (task_at s e.task).status e.key has.key in
      let here : IsAfter e.key e.key = record { low = omega arith; late = λ _. omega arith } in
      let A : List Entry → Type 0 = λ xs. AllByRecursion (λ (f : Entry). IsAfter f.key e.key) xs in
      let all : AllByRecursion (λ (f : Entry). IsAfter f.key e.key) (ready_list s) = subst A (sym h) (here, falls.0) in
      record {
        ready = rw is.0 refl;
        highest = λ i t.
            let r = ready_key_is i t in
            let after = each_ready (λ (f : Entry). IsAfter f.key e.key) all i r.0 r.2 in
            let low = after.low in let rank = is.1 in omega arith;
        first = λ i t same.
            let r = ready_key_is i t in
            let after = each_ready (λ (f : Entry). IsAfter f.key e.key) all i r.0 r.2 in
            let late = after.late in let rank = is.1 in
            rw (is.0, r.1) (late (omega arith));
      }

  by_list : (es : List Entry) → ready_list s ≡ es → IsChoice s (task_of (first es))
  by_list [] h = none_ready h
  by_list (e ∷ es) h = best e es h

pub choice_is : (s : State) → IsChoice s (choice s)
choice_is s = by_list s (ready_list s) refl
