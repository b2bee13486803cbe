-- Lists of entries, by their tasks alone.
use Rattle.std.proofs.Common.{◌≡◌, ℕ, ◌+◌, ◌<◌, suc, Bool, true, false, not, Option, Some, None, List, [], ◌∷◌, ◌++◌, refl, ap, sym}
use Rattle.std.proofs.Common.{◌∙◌, subst, arith, get_or, length, eqb}
use Rattle.std.specs.Prelude.{◌==◌, ◌||◌}
use Rattle.std.specs.List.{AllByRecursion, filter}
use Rattle.model.specs.State.{Task, no_task}
use Rattle.model.specs.Order.{Key, Entry, entry, in_order, key, keyed, list_by, put, tasks_of}
use Rattle.model.proofs.Lists.{HasKey, eqb-same, list_has, other}
use Rattle.model.proofs.Members.{has_task}
use Rattle.model.proofs.Sorting.{IsAfterEntry, by_test, put_last}
use Rattle.lists.specs.Lists.{has_node, without}
use Rattle.task_lists.specs.Tasks.{tasks_in}

-- tasks but this one
abbrev pub but : ℕ → List ℕ → List ℕ
but i ts = filter (λ t. not (eqb t i)) ts

-- whether a task is among tasks
abbrev pub among : ℕ → List ℕ → Bool
among i [] = false
among i (t ∷ ts) = eqb t i || among i ts

pub tasks_of-other : (i : ℕ) (xs : List Entry) → tasks_of (filter (other i) xs) ≡ but i (tasks_of xs)
tasks_of-other i [] = refl
tasks_of-other i (x ∷ xs) =
    by_test (eqb x.task i) (λ t. rw t (tasks_of-other i xs)) (λ t. rw t (ap (λ (ts : List ℕ). x.task ∷ ts) (tasks_of-other i xs)))

pub tasks_in-without : (i : ℕ) (es : List (ℕ × ℕ)) → tasks_in (without i es) ≡ but i (tasks_in es)
tasks_in-without i [] = refl
tasks_in-without i (e ∷ es) =
    by_test (eqb e.0 i) (λ t. rw t (tasks_in-without i es)) (λ t. rw t (ap (λ (ts : List ℕ). e.0 ∷ ts) (tasks_in-without i es)))

pub has_node-among : (i : ℕ) (es : List (ℕ × ℕ)) → has_node i es ≡ among i (tasks_in es)
has_node-among i [] = refl
has_node-among i (e ∷ es) = ap (λ (b : Bool). e.0 == i || b) (has_node-among i es)

pub has_task-among : (i : ℕ) (xs : List Entry) → has_task i xs ≡ among i (tasks_of xs)
has_task-among i [] = refl
has_task-among i (x ∷ xs) = ap (λ (b : Bool). eqb x.task i || b) (has_task-among i xs)

tasks_of-append : (xs : List Entry) (e : Entry) → tasks_of (xs ++ e ∷ []) ≡ tasks_of xs ++ e.task ∷ []
tasks_of-append [] e = refl
tasks_of-append (x ∷ xs) e = ap (λ (ts : List ℕ). x.task ∷ ts) (tasks_of-append xs e)

all_after : (n i : ℕ) (xs : List Entry) → AllByRecursion (λ e. e.key.ticket < n) xs
    → AllByRecursion (IsAfterEntry (entry i (key 0 n))) xs
all_after n i [] h = tt
all_after n i (x ∷ xs) h = (record { low = omega arith; late = λ le. let lt = h.0 in omega (arith, lt) }, all_after n i xs h.1)

-- one of priority 0, whose ticket is above all, comes last
pub tasks_of-put : (n i : ℕ) (xs : List Entry) → AllByRecursion (λ e. e.key.ticket < n) xs
    → tasks_of (put (entry i (key 0 n)) xs) ≡ tasks_of xs ++ i ∷ []
tasks_of-put n i xs h = ap tasks_of (put_last (entry i (key 0 n)) xs (all_after n i xs h)) ∙ tasks_of-append xs (entry i (key 0 n))

-- a task in a list has a key there

pub record InList (f : Task → Option Key) (ts : List Task) (i : ℕ) : Type 0 where
  pub within : i < length ts
  pub key : Key
  pub is : f (get_or ts i no_task) ≡ Some key

in_entries : (f : Task → Option Key) (ts : List Task) (i : ℕ) (es : List Entry)
    → AllByRecursion (HasKey f ts) es → has_task i es ≡ true → InList f ts i
in_entries f ts i [] h e = absurd cc
in_entries f ts i (x ∷ es) h e = by_test (eqb x.task i)
    (λ t.
    let same : x.task ≡ i = eqb-same x.task i t in
    record {
      within = subst (λ (n : ℕ). n < length ts) same h.0.within;
      key = x.key;
      is = subst (λ (n : ℕ). f (get_or ts n no_task) ≡ Some x.key) same h.0.key;
    })
    (λ t. in_entries f ts i es h.1 (rw t at e))

pub in_list : (f : Task → Option Key) (ts : List Task) (i : ℕ) → has_task i (list_by f ts) ≡ true → InList f ts i
in_list f ts i e = in_entries f ts i (list_by f ts) (list_has f ts) e

-- two tables whose tasks have the same keys
keyed_alike : (f : Task → Option Key) → f no_task ≡ None → (o : ℕ) (ts us : List Task)
    → ((i : ℕ) → f (get_or ts i no_task) ≡ f (get_or us i no_task)) → keyed f o ts ≡ keyed f o us
keyed_alike f none o [] [] h = refl
keyed_alike f none o [] (u ∷ us) h =
    let e : f u ≡ None = sym (h 0) ∙ none in
    rw e (keyed_alike f none (o + 1) [] us (λ i. h (suc i)))
keyed_alike f none o (t ∷ ts) [] h = let e : f t ≡ None = h 0 ∙ none in rw e (keyed_alike f none (o + 1) ts [] (λ i. h (suc i)))
keyed_alike f none o (t ∷ ts) (u ∷ us) h = let e : f t ≡ f u = h 0 in rw (e, keyed_alike f none (o + 1) ts us (λ i. h (suc i))) refl

pub list_alike : (f : Task → Option Key) → f no_task ≡ None → (ts us : List Task)
    → ((i : ℕ) → f (get_or ts i no_task) ≡ f (get_or us i no_task)) → list_by f ts ≡ list_by f us
list_alike f none ts us h = ap in_order (keyed_alike f none 0 ts us h)
