-- The tasks that wait in a list and those that are Awake are parts of those that are there.
use Rattle.std.proofs.Common.{◌≡◌, ℕ, ◌+◌, zero, suc, Bool, not, cond, List, [], ◌∷◌, ◌++◌, Option, Some, None, refl, ap, sym, ◌∙◌}
use Rattle.std.proofs.Common.{arith, get_or, length, take, drop, append_assoc, length-append}
use Rattle.std.specs.List.{filter}
use Rattle.std.specs.Option.{is_some, option_and_then, option_map, option_to_list}
use Rattle.model.specs.declared.call.WaitList.{WaitList}
use Rattle.model.specs.State.{State, Status, Ready, Awake, Waiting, Asleep, WaitingForBits, WaitingForNotification, Suspended}
use Rattle.model.specs.State.{Ended, Task, no_task}
use Rattle.model.specs.State.{wait_if_waiting, wait_if_awake}
use Rattle.model.specs.Invariant.{wait_of}
use Rattle.model.specs.Order.{Key, Entry, entry, in_order, keyed, list_by, tasks_of}
use Rattle.model.specs.Waiting.{awakened, wait_key, waiters}
use Rattle.model.proofs.Sorting.{Falls-in_order, by_test, filter-put}
use Rattle.task_lists.specs.Priorities.{with_priorities}
use Rattle.task_lists.specs.Tasks.{tasks_in}
use Rattle.objects.specs.WaitersStand.{FirstAwake, is_awake, standing}
use Rattle.objects.proofs.Keys.{standing_key, waiting_key}

filter-in_order : (p : Entry → Bool) (xs : List Entry) → filter p (in_order xs) ≡ in_order (filter p xs)
filter-in_order p [] = refl
filter-in_order p (x ∷ xs) = filter-put p x (in_order xs) (Falls-in_order xs) ∙ by_test (p x)
    (λ t. rw (t, filter-in_order p xs) refl)
    (λ t. rw (t, filter-in_order p xs) refl)

get_or-middle : (pre : List Task) (t : Task) (ts : List Task) (o : ℕ) → length pre ≡ o → get_or (pre ++ t ∷ ts) o no_task ≡ t
get_or-middle [] t ts o e = rw (← e) refl
get_or-middle (p ∷ pre) t ts o e = rw (← e) (get_or-middle pre t ts (length pre) refl)

-- a list that is part of another
abbrev pub has : (Task → Bool) → List Task → Entry → Bool
has p ts e = p (get_or ts e.task no_task)

part_first : (f g : Task → Option Key) (p : Task → Bool) → ((t : Task) → f t ≡ cond (p t) (g t) None)
    → (q : Entry → Bool) (t : Task) (o : ℕ) (xs : List Entry) → ((k : Key) → q (entry o k) ≡ p t)
    → option_to_list (option_map (entry o) (f t)) ++ filter q xs ≡ filter q (option_to_list (option_map (entry o) (g t)) ++ xs)
part_first f g p h q u o xs e = rw (h u) (by_test (p u)
    (λ t.
    rw t (elim (g
    u) as (λ r. option_to_list (option_map (entry o) r) ++ filter q xs ≡ filter q (option_to_list (option_map (entry o) r) ++ xs)) [
      | None ↦ refl
      | Some k ↦ let y = e k ∙ t in rw y refl
    ]))
    (λ t.
    rw t (elim (g u) as (λ r. filter q xs ≡ filter q (option_to_list (option_map (entry o) r) ++ xs)) [
      | None ↦ refl
      | Some k ↦ let y = e k ∙ t in rw y refl
    ])))

module _ (f g : Task → Option Key) (p : Task → Bool) (h : (t : Task) → f t ≡ cond (p t) (g t) None) where
  keyed-part : (o : ℕ) (pre ts : List Task) → length pre ≡ o → keyed f o ts ≡ filter (has p (pre ++ ts)) (keyed g o ts)
  keyed-part o pre [] e = refl
  keyed-part o pre (t ∷ ts) e =
      let same : (pre ++ t ∷ []) ++ ts ≡ pre ++ t ∷ ts = append_assoc pre (t ∷ []) ts in
      let later = keyed-part (o + 1) (pre ++ t ∷ []) ts (omega (arith, length-append pre (t ∷ []))) in
      let again : keyed f (o + 1) ts ≡ filter (has p (pre ++ t ∷ ts)) (keyed g (o + 1) ts) =
      later ∙ ap (λ us. filter (has p us) (keyed g (o + 1) ts)) same in
      ap (λ (es : List Entry). option_to_list (option_map (entry o) (f t)) ++ es) again
      ∙ part_first f g p h (has p (pre ++ t ∷ ts)) t o (keyed g (o + 1) ts)
      (λ k. ap (λ (u : Task). p u) (get_or-middle pre t ts o e))

  pub list_by-part : (ts : List Task) → list_by f ts ≡ filter (has p ts) (list_by g ts)
  list_by-part ts = ap in_order (keyed-part 0 [] ts refl) ∙ sym (filter-in_order (has p ts) (keyed g 0 ts))

-- those that are Awake, and the others

awake-part : (list : WaitList) (u : Status)
    → option_and_then (wait_key list) (wait_if_awake u)
    ≡ cond (is_some (wait_if_awake u)) (option_and_then (wait_key list) (wait_of u)) None
awake-part list (Ready m) = refl
awake-part list (Awake w) = refl
awake-part list (Waiting w) = refl
awake-part list (Asleep m b) = refl
awake-part list (WaitingForBits g m d) = refl
awake-part list (WaitingForNotification m d) = refl
awake-part list Suspended = refl
awake-part list Ended = refl

waiting-part : (list : WaitList) (u : Status)
    → option_and_then (wait_key list) (wait_if_waiting u)
    ≡ cond (not (is_some (wait_if_awake u))) (option_and_then (wait_key list) (wait_of u)) None
waiting-part list (Ready m) = refl
waiting-part list (Awake w) = refl
waiting-part list (Waiting w) = refl
waiting-part list (Asleep m b) = refl
waiting-part list (WaitingForBits g m d) = refl
waiting-part list (WaitingForNotification m d) = refl
waiting-part list Suspended = refl
waiting-part list Ended = refl

filter-awake : (s : State) (k : ℕ) (es : List Entry) → FirstAwake s k es → filter (λ e. is_awake s e.task) es ≡ take k es
filter-awake s zero [] h = refl
filter-awake s (suc k) [] h = refl
filter-awake s zero (e ∷ es) h = rw h.0 (filter-awake s zero es h.1)
filter-awake s (suc k) (e ∷ es) h = rw h.0 (ap (λ l. e ∷ l) (filter-awake s k es h.1))

filter-not_awake : (s : State) (k : ℕ) (es : List Entry) → FirstAwake s k es → filter (λ e. not (is_awake s e.task)) es ≡ drop k es
filter-not_awake s zero [] h = refl
filter-not_awake s (suc k) [] h = refl
filter-not_awake s zero (e ∷ es) h = rw h.0 (ap (λ l. e ∷ l) (filter-not_awake s zero es h.1))
filter-not_awake s (suc k) (e ∷ es) h = rw h.0 (filter-not_awake s k es h.1)

-- Of those that are there this many, the first ones, are Awake, and the others wait.
pub awakened_first : (s : State) (list : WaitList) (k : ℕ)
    → FirstAwake s k (standing s list) → awakened s list ≡ take k (standing s list)
awakened_first s list k h =
    list_by-part (λ t. option_and_then (wait_key list) (wait_if_awake t.status)) (standing_key list)
    (λ t. is_some (wait_if_awake t.status)) (λ t. awake-part list t.status) s.tasks
    ∙ filter-awake s k (standing s list) h

pub waiters_rest : (s : State) (list : WaitList) (k : ℕ)
    → FirstAwake s k (standing s list) → waiters s list ≡ drop k (standing s list)
waiters_rest s list k h =
    list_by-part (waiting_key list) (standing_key list)
    (λ t. not (is_some (wait_if_awake t.status))) (λ t. waiting-part list t.status) s.tasks
    ∙ filter-not_awake s k (standing s list) h

tasks_of-take : (k : ℕ) (es : List Entry) → tasks_of (take k es) ≡ take k (tasks_in (with_priorities es))
tasks_of-take zero [] = refl
tasks_of-take (suc k) [] = refl
tasks_of-take zero (e ∷ es) = refl
tasks_of-take (suc k) (e ∷ es) = ap (λ (is : List ℕ). e.task ∷ is) (tasks_of-take k es)

pub awakened_tasks : (s : State) (list : WaitList) (k : ℕ) → FirstAwake s k (standing s list)
    → tasks_of (awakened s list) ≡ take k (tasks_in (with_priorities (standing s list)))
awakened_tasks s list k h = ap tasks_of (awakened_first s list k h) ∙ tasks_of-take k (standing s list)
