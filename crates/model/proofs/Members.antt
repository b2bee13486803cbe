-- The members of a list: the tasks that have a key.
use Rattle.std.proofs.Common.{◌≡◌, ℕ, ◌+◌, zero, suc, Bool, true, false, List, [], ◌∷◌, Option, Some, None, refl, ap, ◌∙◌, arith}
use Rattle.std.proofs.Common.{eqb, get_or, ◌++◌}
use Rattle.std.specs.Prelude.{◌||◌}
use Rattle.std.specs.List.{AllByRecursion}
use Rattle.std.specs.Option.{option_map, option_to_list}
use Rattle.std.proofs.lemmas.Bool.{eq-eqb}
use Rattle.model.specs.State.{Task, no_task}
use Rattle.model.specs.Order.{Key, Entry, before, put, in_order, entry, keyed, list_by}
use Rattle.model.proofs.Sorting.{by_test}
use Rattle.model.proofs.Lists.{eqb-apart, list_without}

-- The task has an entry.
abbrev pub has_task : ℕ → List Entry → Bool
has_task i [] = false
has_task i (e ∷ es) = eqb e.task i || has_task i es

or-swap : (a b c : Bool) → (a || (b || c)) ≡ (b || (a || c))
or-swap true true c = refl
or-swap true false c = refl
or-swap false true c = refl
or-swap false false c = refl

or-true : (b : Bool) → (b || true) ≡ true
or-true true = refl
or-true false = refl

has_task-put : (i : ℕ) (e : Entry) (xs : List Entry) → has_task i (put e xs) ≡ (eqb e.task i || has_task i xs)
has_task-put i e [] = refl
has_task-put i e (x ∷ xs) = by_test (before e.key x.key)
    (λ t. rw t refl)
    (λ t. rw t (ap (λ (b : Bool). eqb x.task i || b) (has_task-put i e xs) ∙ or-swap (eqb x.task i) (eqb e.task i) (has_task i xs)))

has_task-in_order : (i : ℕ) (xs : List Entry) → has_task i (in_order xs) ≡ has_task i xs
has_task-in_order i [] = refl
has_task-in_order i (x ∷ xs) = has_task-put i x (in_order xs) ∙ ap (λ (b : Bool). eqb x.task i || b) (has_task-in_order i xs)

has_task-later : (i o : ℕ) (key : Option Key) (xs : List Entry) → has_task i xs ≡ true
    → has_task i (option_to_list (option_map (entry o) key) ++ xs) ≡ true
has_task-later i o None xs h = h
has_task-later i o (Some k) xs h = ap (λ (b : Bool). eqb o i || b) h ∙ or-true (eqb o i)

has_task-first : (i o : ℕ) (key : Option Key) (k : Key) (xs : List Entry) → key ≡ Some k
    → o ≡ i → has_task i (option_to_list (option_map (entry o) key) ++ xs) ≡ true
has_task-first i o key k xs is same = rw is (let t : eqb o i ≡ true = eq-eqb o i same in rw t refl)

module _ (f : Task → Option Key) (none : f no_task ≡ None) where
  has_task-keyed : (i o n : ℕ) (k : Key) (ts : List Task) → o + n ≡ i
      → f (get_or ts n no_task) ≡ Some k → has_task i (keyed f o ts) ≡ true
  has_task-keyed i o n k [] at is = absurd (cc)
  has_task-keyed i o zero k (t ∷ ts) at is = has_task-first i o (f t) k (keyed f (o + 1) ts) is (omega (arith, at))
  has_task-keyed i o (suc n) k (t ∷ ts) at is =
      has_task-later i o (f t) (keyed f (o + 1) ts) (has_task-keyed i (o + 1) n k ts (omega (arith, at)) is)

  -- a task with a key is in the list
  pub has_task-key : (i : ℕ) (k : Key) (ts : List Task) → f (get_or ts i no_task) ≡ Some k → has_task i (list_by f ts) ≡ true
  has_task-key i k ts is = has_task-in_order i (keyed f 0 ts) ∙ has_task-keyed i 0 i k ts (omega arith) is

no_entry : (i : ℕ) (xs : List Entry) → AllByRecursion (λ e. e.task ≡ i → ⊥) xs → has_task i xs ≡ false
no_entry i [] h = refl
no_entry i (x ∷ xs) h = rw (eqb-apart x.task i h.0) (no_entry i xs h.1)

-- and one without isn't
pub has_task-none : (f : Task → Option Key) (i : ℕ) (ts : List Task)
    → f (get_or ts i no_task) ≡ None → has_task i (list_by f ts) ≡ false
has_task-none f i ts is = no_entry i (list_by f ts) (list_without f i ts is)
