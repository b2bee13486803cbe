-- The entries of a list are tasks, and so are the choice and the tasks that are due.
use Rattle.std.proofs.Common.{◌≡◌, ◌<◌, ℕ, Bool, List, [], ◌∷◌, ◌++◌, length, Option, refl, true, Some, None, ap}
use Rattle.std.specs.List.{filter, AllByRecursion}
use Rattle.std.specs.Option.{IfSome}
use Rattle.model.specs.State.{State, Task, for_each}
use Rattle.model.specs.Order.{Key, Entry, list_by, first, task_of, tasks_of}
use Rattle.model.specs.Switching.{ready_list, ready_key, choice, is_same}
use Rattle.model.specs.Time.{due}
use Rattle.model.proofs.Sorting.{by_test}
use Rattle.model.proofs.Lists.{HasKey, list_has, eqb-same}

within_list : (f : Task → Option Key) (ts : List Task) (es : List Entry)
    → AllByRecursion (HasKey f ts) es → AllByRecursion (λ (e : Entry). e.task < length ts) es
within_list f ts [] h = tt
within_list f ts (e ∷ es) h = (h.0.within, within_list f ts es h.1)

pub list_within : (f : Task → Option Key) (ts : List Task) → AllByRecursion (λ (e : Entry). e.task < length ts) (list_by f ts)
list_within f ts = within_list f ts (list_by f ts) (list_has f ts)

first_within : (n : ℕ) (es : List Entry) → AllByRecursion (λ (e : Entry). e.task < n) es
    → IfSome (task_of (first es)) (λ task. task < n)
first_within n [] h = tt
first_within n (e ∷ es) h = h.0

pub choice_within : (s : State) → IfSome (choice s) (λ task. task < length s.tasks)
choice_within s = first_within (length s.tasks) (ready_list s) (list_within ready_key s.tasks)

due_within_list : (n : ℕ) (q : Entry → Bool) (es : List Entry)
    → AllByRecursion (λ (e : Entry). e.task < n) es → AllByRecursion (λ i. i < n) (tasks_of (filter q es))
due_within_list n q [] h = tt
due_within_list n q (e ∷ es) h =
    by_test (q e) (λ t. rw t (h.0, due_within_list n q es h.1)) (λ t. rw t (due_within_list n q es h.1))

-- one more
pub each-end : {A : Type 0} (deed : A → State → State) (s : State) (xs : List A) (x : A)
    → for_each deed (xs ++ x ∷ []) s ≡ deed x (for_each deed xs s)
each-end deed s [] x = refl
each-end deed s (y ∷ xs) x = each-end deed (deed y s) xs x

pub same_eq : (a b : Option ℕ) → is_same a b ≡ true → a ≡ b
same_eq None None t = refl
same_eq None (Some j) t = absurd (cc)
same_eq (Some i) None t = absurd (cc)
same_eq (Some i) (Some j) t = ap Some (eqb-same i j t)
