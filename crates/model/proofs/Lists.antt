-- What a change of one task does to a list.
use Rattle.std.proofs.Common.{◌≡◌, ℕ, ◌+◌, ◌<◌, ◌≤◌, zero, suc, Bool, true, false, not, List, [], ◌∷◌, ◌++◌, Option, Some, None}
use Rattle.std.proofs.Common.{refl, ap, sym, ◌∙◌, arith, eqb, length, get_or, set, append_assoc, length-append}
use Rattle.std.specs.List.{filter, cons_option, AllByRecursion}
use Rattle.std.specs.Option.{option_map, option_to_list}
use Rattle.std.proofs.lemmas.Bool.Decides.{nat_tests}
use Rattle.model.specs.State.{Task, no_task}
use Rattle.model.specs.Order.{Key, Entry, put, in_order, entry, keyed, list_by}
use Rattle.model.proofs.Sorting.{by_before, put-put, All-in_order, All-weaker, Falls, Falls-in_order, filter-put}

abbrev pub other : ℕ → Entry → Bool
other k e = not (eqb e.task k)

pub eqb-refl : (k : ℕ) → eqb k k ≡ true
eqb-refl k = grind (arith, nat_tests)

pub eqb-apart : (j k : ℕ) → (j ≡ k → ⊥) → eqb j k ≡ false
eqb-apart j k h = grind (arith, nat_tests)

pub eqb-same : (j k : ℕ) → eqb j k ≡ true → j ≡ k
eqb-same j k h = grind (arith, nat_tests)

-- the tasks from the ith on have places from i on
places : (f : Task → Option Key) (i : ℕ) (ts : List Task) → AllByRecursion (λ e. i ≤ e.task) (keyed f i ts)
places f i [] = tt
places f i (t ∷ ts) =
    let later =
    All-weaker (λ e. i + 1 ≤ e.task) (λ e. i ≤ e.task) (λ e le. omega arith) (keyed f (i + 1) ts) (places f (i + 1) ts) in
    elim (f t) as (λ o. AllByRecursion (λ e. i ≤ e.task) (option_to_list (option_map (entry i) o) ++ keyed f (i + 1) ts)) [
      | None ↦ later
      | Some n ↦ (omega arith, later)
    ]

pub none_left_out : (k : ℕ) (xs : List Entry) → AllByRecursion (λ e. k + 1 ≤ e.task) xs → filter (other k) xs ≡ xs
none_left_out k [] h = refl
none_left_out k (x ∷ xs) h = rw (eqb-apart x.task k (λ e. omega arith)) (ap (λ l. x ∷ l) (none_left_out k xs h.1))

-- what the first of a list adds to it in order
abbrev first_in : Option Key → ℕ → List Entry → List Entry
first_in None i xs = xs
first_in (Some k) i xs = put (entry i k) xs

in_order-first : (o : Option Key) (i : ℕ) (xs : List Entry)
    → in_order (option_to_list (option_map (entry i) o) ++ xs) ≡ first_in o i (in_order xs)
in_order-first None i xs = refl
in_order-first (Some k) i xs = refl

filter-first_same : (o : Option Key) (i : ℕ) (xs : List Entry) → Falls xs
    → AllByRecursion (λ e. i + 1 ≤ e.task) xs → filter (other i) (first_in o i xs) ≡ xs
filter-first_same None i xs r h = none_left_out i xs h
filter-first_same (Some k) i xs r h = filter-put (other i) (entry i k) xs r ∙ rw (eqb-refl i) (none_left_out i xs h)

filter-first_other : (o : Option Key) (i k : ℕ) (xs : List Entry) → (i ≡ k → ⊥)
    → Falls xs → filter (other k) (first_in o i xs) ≡ first_in o i (filter (other k) xs)
filter-first_other None i k xs ne r = refl
filter-first_other (Some n) i k xs ne r = filter-put (other k) (entry i n) xs r ∙ rw (eqb-apart i k ne) refl

-- two of different tickets
put-put_apart : (e m : Entry) (xs : List Entry) → e.key.ticket < m.key.ticket → put e (put m xs) ≡ put m (put e xs)
put-put_apart e m xs h = by_before e.key m.key
    (λ t b. put-put e m xs b)
    (λ t a. let low = a.low in let late = a.late in
    sym (put-put m e xs (record { high = low; early = λ le. let p = late le in absurd (omega arith) })))

first-put : (o : Option Key) (i : ℕ) (m : Entry) (xs : List Entry)
    → AllByRecursion (λ (k : Key). k.ticket < m.key.ticket) (cons_option o []) → first_in o i (put m xs) ≡ put m (first_in o i xs)
first-put None i m xs h = refl
first-put (Some k) i m xs h = put-put_apart (entry i k) m xs h.0

-- each ticket that f gives of a task is below n
abbrev pub Below : (Task → Option Key) → ℕ → List Task → Type 0
Below f n ts = AllByRecursion (λ (t : Task). AllByRecursion (λ (k : Key). k.ticket < n) (cons_option (f t) [])) ts

-- A task that gets a key with the next ticket is put in.
entered : (f : Task → Option Key) (n : Key) (i k o : ℕ) (t : Task) (ts : List Task) → i < length ts → k ≡ o + i → f t ≡ Some n
    → Below f n.ticket ts → in_order (keyed f o (set ts i t)) ≡ put (entry k n) (filter (other k) (in_order (keyed f o ts)))
entered f n i k o t [] l e s h = absurd (omega arith)
entered f n zero k o t (u ∷ us) l e s h =
    let xs = in_order (keyed f (o + 1) us) in
    let same : k ≡ o = omega arith in
    let here : AllByRecursion (λ e. o + 1 ≤ e.task) xs =
    All-in_order (λ e. o + 1 ≤ e.task) (keyed f (o + 1) us) (places f (o + 1) us) in
    rw (s, same) (ap (put (entry o n)) (sym (ap (filter (other o)) (in_order-first (f u) o (keyed f (o + 1) us))
    ∙ filter-first_same (f u) o xs (Falls-in_order (keyed f (o + 1) us)) here)))
entered f n (suc i) k o t (u ∷ us) l e s h =
    let again = entered f n i k (o + 1) t us (omega arith) (omega arith) s h.1 in
    in_order-first (f u) o (keyed f (o + 1) (set us i t))
    ∙ ap (first_in (f u) o) again
    ∙ first-put (f u) o (entry k n) (filter (other k) (in_order (keyed f (o + 1) us))) h.0
    ∙ ap (put (entry k n)) (sym (ap (filter (other k)) (in_order-first (f u) o (keyed f (o + 1) us))
    ∙ filter-first_other (f u) o k (in_order (keyed f (o + 1) us)) (λ q. omega arith) (Falls-in_order (keyed f (o + 1) us))))

-- A task that has no key any more is gone from it.
gone : (f : Task → Option Key) (i k o : ℕ) (t : Task) (ts : List Task) → i < length ts → k ≡ o + i
    → f t ≡ None → in_order (keyed f o (set ts i t)) ≡ filter (other k) (in_order (keyed f o ts))
gone f i k o t [] l e s = absurd (omega arith)
gone f zero k o t (u ∷ us) l e s =
    let xs = in_order (keyed f (o + 1) us) in
    let same : k ≡ o = omega arith in
    let here : AllByRecursion (λ e. o + 1 ≤ e.task) xs =
    All-in_order (λ e. o + 1 ≤ e.task) (keyed f (o + 1) us) (places f (o + 1) us) in
    rw (s, same) (sym (ap (filter (other o)) (in_order-first (f u) o (keyed f (o + 1) us))
    ∙ filter-first_same (f u) o xs (Falls-in_order (keyed f (o + 1) us)) here))
gone f (suc i) k o t (u ∷ us) l e s =
    let again = gone f i k (o + 1) t us (omega arith) (omega arith) s in
    in_order-first (f u) o (keyed f (o + 1) (set us i t))
    ∙ ap (first_in (f u) o) again
    ∙ sym (ap (filter (other k)) (in_order-first (f u) o (keyed f (o + 1) us))
    ∙ filter-first_other (f u) o k (in_order (keyed f (o + 1) us)) (λ q. omega arith) (Falls-in_order (keyed f (o + 1) us)))

-- A task that keeps its key, or its having none, changes nothing.
kept : (f : Task → Option Key) (i o : ℕ) (t : Task) (ts : List Task)
    → f t ≡ f (get_or ts i no_task) → keyed f o (set ts i t) ≡ keyed f o ts
kept f i o t [] s = refl
kept f zero o t (u ∷ us) s = rw s refl
kept f (suc i) o t (u ∷ us) s =
    ap (λ (es : List Entry). option_to_list (option_map (entry o) (f u)) ++ es) (kept f i (o + 1) t us s)

pub list-entered : (f : Task → Option Key) (n : Key) (i : ℕ) (t : Task) (ts : List Task) → i < length ts
    → f t ≡ Some n → Below f n.ticket ts → list_by f (set ts i t) ≡ put (entry i n) (filter (other i) (list_by f ts))
list-entered f n i t ts l s h = entered f n i i 0 t ts l (omega arith) s h

pub list-gone : (f : Task → Option Key) (i : ℕ) (t : Task) (ts : List Task) → i < length ts
    → f t ≡ None → list_by f (set ts i t) ≡ filter (other i) (list_by f ts)
list-gone f i t ts l s = gone f i i 0 t ts l (omega arith) s

pub list-kept : (f : Task → Option Key) (i : ℕ) (t : Task) (ts : List Task)
    → f t ≡ f (get_or ts i no_task) → list_by f (set ts i t) ≡ list_by f ts
list-kept f i t ts s = ap in_order (kept f i 0 t ts s)

-- Each entry of a list is a task with that key.
pub record HasKey (f : Task → Option Key) (ts : List Task) (e : Entry) : Type 0 where
  pub within : e.task < length ts
  pub key : f (get_or ts e.task no_task) ≡ Some e.key

get_or-middle : (pre : List Task) (t : Task) (ts : List Task) (o : ℕ) → length pre ≡ o → get_or (pre ++ t ∷ ts) o no_task ≡ t
get_or-middle [] t ts o e = rw (← e) refl
get_or-middle (p ∷ pre) t ts o e = rw (← e) (get_or-middle pre t ts (length pre) refl)

has_first : (f : Task → Option Key) (all : List Task) (o : ℕ) (r : Option Key) (xs : List Entry)
    → o < length all → f (get_or all o no_task) ≡ r → AllByRecursion (HasKey f all) xs
    → AllByRecursion (HasKey f all) (option_to_list (option_map (entry o) r) ++ xs)
has_first f all o None xs l e h = h
has_first f all o (Some k) xs l e h = (record { within = l; key = e }, h)

keyed_has : (f : Task → Option Key) (o : ℕ) (pre ts : List Task)
    → length pre ≡ o → AllByRecursion (HasKey f (pre ++ ts)) (keyed f o ts)
keyed_has f o pre [] e = tt
keyed_has f o pre (t ∷ ts) e =
    let same : (pre ++ t ∷ []) ++ ts ≡ pre ++ t ∷ ts = append_assoc pre (t ∷ []) ts in
    let later = keyed_has f (o + 1) (pre ++ t ∷ []) ts (omega (arith, length-append pre (t ∷ []))) in
    let again : AllByRecursion (HasKey f (pre ++ t ∷ ts)) (keyed f (o + 1) ts) = rw same at later in
    has_first f (pre ++ t ∷ ts) o (f t) (keyed f (o + 1) ts) (omega (arith, length-append pre (t ∷ ts)))
    (ap (λ (u : Task). f u) (get_or-middle pre t ts o e)) again

pub list_has : (f : Task → Option Key) (ts : List Task) → AllByRecursion (HasKey f ts) (list_by f ts)
list_has f ts = All-in_order (HasKey f ts) (keyed f 0 ts) (keyed_has f 0 [] ts refl)

-- One who has no key isn't in the list.
apart : (f : Task → Option Key) (i : ℕ) (ts : List Task) → f (get_or ts i no_task) ≡ None
    → (xs : List Entry) → AllByRecursion (HasKey f ts) xs → AllByRecursion (λ e. e.task ≡ i → ⊥) xs
apart f i ts n [] h = tt
apart f i ts n (x ∷ xs) h =
    ((λ e. let k = h.0.key in let m : f (get_or ts x.task no_task) ≡ None = rw e n in absurd (cc)), apart f i ts n xs h.1)

pub list_without : (f : Task → Option Key) (i : ℕ) (ts : List Task)
    → f (get_or ts i no_task) ≡ None → AllByRecursion (λ e. e.task ≡ i → ⊥) (list_by f ts)
list_without f i ts n = apart f i ts n (list_by f ts) (list_has f ts)

pub filter-without : (i : ℕ) (xs : List Entry) → AllByRecursion (λ e. e.task ≡ i → ⊥) xs → filter (other i) xs ≡ xs
filter-without i [] h = refl
filter-without i (x ∷ xs) h = rw (eqb-apart x.task i h.0) (ap (λ l. x ∷ l) (filter-without i xs h.1))

-- the tickets of a list
below_all : (f : Task → Option Key) (n i : ℕ) (ts : List Task)
    → Below f n ts → AllByRecursion (λ e. e.key.ticket < n) (keyed f i ts)
below_all f n i [] h = tt
below_all f n i (t ∷ ts) h =
    let later = below_all f n (i + 1) ts h.1 in
    (elim (f
    t) as (λ r.
    AllByRecursion (λ (k : Key). k.ticket < n) (cons_option r [])
    → AllByRecursion (λ e. e.key.ticket < n) (option_to_list (option_map (entry i) r) ++ keyed f (i + 1) ts)) [
      | None ↦ λ _. later
      | Some m ↦ λ b. (b.0, later)
    ])
    h.0

pub list_below : (f : Task → Option Key) (n : ℕ) (ts : List Task)
    → Below f n ts → AllByRecursion (λ e. e.key.ticket < n) (list_by f ts)
list_below f n ts h = All-in_order (λ e. e.key.ticket < n) (keyed f 0 ts) (below_all f n 0 ts h)
