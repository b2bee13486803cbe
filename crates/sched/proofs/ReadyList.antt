-- The Ready tasks in order, as the lists spell them, after a change of a list.
use Rattle.std.proofs.Common.{◌≡◌, ◌≢◌, ℕ, zero, suc, ◌+◌, ◌<◌, ◌≤◌, inl, inr, Bool, true, false, not, Option, Some, None, List, []}
use Rattle.std.proofs.Common.{◌∷◌, ◌++◌, get_or, set, length, map, sym, ◌∙◌, ap, ap₂, subst, arith, refl, append_assoc, append-nil}
use Rattle.std.specs.Prelude.{◌==◌, ◌||◌, ◌&&◌, nat_lt}
use Rattle.std.specs.List.{list_any}
use Rattle.std.specs.Option.{is_some, option_map}
use Rattle.std.proofs.lemmas.Bool.{cases_lt, ne_eqb, eq-eqb, le-ltb, lt-ltb}
use Rattle.std.proofs.lemmas.List.Folds.{list_any-append}
use Rattle.lists.specs.Lists.{Each, IsSound, entries_of, first_of, has_node, place_of, without}
use Rattle.lists.proofs.Entries.{Each-append, Each-imp, Each-without, apart_from_test, has_node-append, has_node-left, has_or_not}
use Rattle.lists.proofs.Entries.{without-append}
use Rattle.lists.proofs.Laws.{place_of-None}
use Rattle.sched.specs.Schedule.{is_above, is_beside, priority_in}
use Rattle.task_lists.specs.Tasks.{insert_by_priority}
use Rattle.lists.specs.declared.ids.ListId.{ListId}
use Rattle.sched.specs.ReadyLists.{is_below, AtHome, IsHighest, ready_list_of}

-- the lists from this priority on have no task of a lower one
pub none_lower : (k : ℕ) (ls : List (List (ℕ × ℕ))) → AtHome k ls → Each (λ e. k ≤ e.1) (ready_list_of ls)
none_lower k [] h = tt
none_lower k (l ∷ ls) h =
    Each-append (λ e. k ≤ e.1) (ready_list_of ls) l
    (Each-imp (λ e. suc k ≤ e.1) (λ e. k ≤ e.1) (ready_list_of ls) (λ e le. omega (arith, le)) (none_lower (suc k) ls h.1))
    (Each-imp (λ e. e.1 ≡ k) (λ e. k ≤ e.1) l (λ e is. omega (arith, is)) h.0)

-- a task that is added

pub add-before : (e f : ℕ × ℕ) (fs : List (ℕ × ℕ)) → f.1 < e.1 → insert_by_priority e (f ∷ fs) ≡ e ∷ f ∷ fs
add-before e f fs less = let b : nat_lt f.1 e.1 ≡ true = lt-ltb f.1 e.1 less in rw b refl

pub add-after : (e f : ℕ × ℕ) (fs : List (ℕ × ℕ)) → e.1 ≤ f.1 → insert_by_priority e (f ∷ fs) ≡ f ∷ insert_by_priority e fs
add-after e f fs le = let b : nat_lt f.1 e.1 ≡ false = le-ltb f.1 e.1 le in rw b refl

-- after entries that are not of lower priority
add-last : (e : ℕ × ℕ) (fs : List (ℕ × ℕ)) → Each (λ f. e.1 ≤ f.1) fs → insert_by_priority e fs ≡ fs ++ e ∷ []
add-last e [] h = refl
add-last e (f ∷ fs) h = add-after e f fs h.0 ∙ ap (λ (gs : List (ℕ × ℕ)). f ∷ gs) (add-last e fs h.1)

-- and before those of lower priority
add-left : (e : ℕ × ℕ) (fs gs : List (ℕ × ℕ)) → Each (λ g. g.1 < e.1) gs
    → insert_by_priority e (fs ++ gs) ≡ insert_by_priority e fs ++ gs
add-left e [] [] h = refl
add-left e [] (g ∷ gs) h = add-before e g gs h.0
add-left e (f ∷ fs) gs h = elim (cases_lt f.1 e.1) [
  | inl less ↦ add-before e f (fs ++ gs) less ∙ ap (λ (hs : List (ℕ × ℕ)). hs ++ gs) (sym (add-before e f fs less))
  | inr more ↦
      add-after e f (fs ++ gs) more ∙ ap (λ (hs : List (ℕ × ℕ)). f ∷ hs) (add-left e fs gs h)
      ∙ ap (λ (hs : List (ℕ × ℕ)). hs ++ gs) (sym (add-after e f fs more))
]

-- after a task was put last into the list of its priority
pub ready_list_of-push : (task p k i : ℕ) (ls : List (List (ℕ × ℕ))) → AtHome k ls → p ≡ k + i → i < length ls
    → ready_list_of (set ls i (get_or ls i [] ++ (task, p) ∷ [])) ≡ insert_by_priority (task, p) (ready_list_of ls)
ready_list_of-push task p k i [] h is below = absurd (omega (arith, below))
ready_list_of-push task p k zero (l ∷ ls) h is below =
    sym (append_assoc (ready_list_of ls) l ((task, p) ∷ []))
    ∙ sym (add-last (task, p) (ready_list_of (l ∷ ls))
    (Each-imp (λ e. k ≤ e.1) (λ e. p ≤ e.1) (ready_list_of (l ∷ ls)) (λ e le. omega (arith, le, is)) (none_lower k (l ∷ ls) h)))
ready_list_of-push task p k (suc i) (l ∷ ls) h is below =
    let lower : Each (λ e. e.1 < p) l = Each-imp (λ e. e.1 ≡ k) (λ e. e.1 < p) l (λ e at. omega (arith, at, is)) h.0 in
    ap (λ (es : List (ℕ × ℕ)). es ++ l) (ready_list_of-push task p (suc k) i ls h.1 (omega (arith, is)) (omega (arith, below)))
    ∙ sym (add-left (task, p) (ready_list_of ls) l lower)

pub AtHome-push : (task p k i : ℕ) (ls : List (List (ℕ × ℕ))) → AtHome k ls
    → p ≡ k + i → AtHome k (set ls i (get_or ls i [] ++ (task, p) ∷ []))
AtHome-push task p k i [] h is = tt
AtHome-push task p k zero (l ∷ ls) h is = (Each-append (λ e. e.1 ≡ k) l ((task, p) ∷ []) h.0 (omega (arith, is), tt), h.1)
AtHome-push task p k (suc i) (l ∷ ls) h is = (h.0, AtHome-push task p (suc k) i ls h.1 (omega (arith, is)))

-- a task that leaves

pub ready_list_of-without : (task : ℕ) (ls : List (List (ℕ × ℕ)))
    → ready_list_of (map (without task) ls) ≡ without task (ready_list_of ls)
ready_list_of-without task [] = refl
ready_list_of-without task (l ∷ ls) =
    ap (λ (es : List (ℕ × ℕ)). es ++ without task l) (ready_list_of-without task ls)
    ∙ sym (without-append task (ready_list_of ls) l)

pub AtHome-without : (task k : ℕ) (ls : List (List (ℕ × ℕ))) → AtHome k ls → AtHome k (map (without task) ls)
AtHome-without task k [] h = tt
AtHome-without task k (l ∷ ls) h = (Each-without (λ e. e.1 ≡ k) task l h.0, AtHome-without task (suc k) ls h.1)

-- whether a task is in any list

in_some_list : (task : ℕ) (ls : List (List (ℕ × ℕ))) → has_node task (ready_list_of ls) ≡ true
    → (l : ℕ) × (has_node task (get_or ls l []) ≡ true)
in_some_list task [] e = absurd cc
in_some_list task (l ∷ ls) e = elim (has_or_not task (ready_list_of ls)) [
  | inl found ↦ let r = in_some_list task ls found in (suc r.0, r.1)
  | inr none ↦ (0, sym (has_node-append task (ready_list_of ls) l none) ∙ e)
]

in_no_list : (task : ℕ) (ls : List (List (ℕ × ℕ))) → has_node task (ready_list_of ls) ≡ false
    → (i : ℕ) → has_node task (get_or ls i []) ≡ false
in_no_list task [] e i = refl
in_no_list task (l ∷ ls) e i = elim (has_or_not task (ready_list_of ls)) [
  | inl found ↦ absurd (let left = has_node-left task (ready_list_of ls) l found in cc)
  | inr none ↦ at (in_no_list task ls none) i (sym (has_node-append task (ready_list_of ls) l none) ∙ e)
] where
  at : ((j : ℕ) → has_node task (get_or ls j []) ≡ false) → (j : ℕ)
      → has_node task l ≡ false → has_node task (get_or (l ∷ ls) j []) ≡ false
  at later zero here = here
  at later (suc j) here = later j

pub any_in_ready_list : {L N : ℕ} {ls : List (List (ℕ × ℕ))} → IsSound L N ls
    → (task : ℕ) → is_some (place_of ls task) ≡ has_node task (ready_list_of ls)
any_in_ready_list {L} {N} {ls} sound task = elim (has_or_not task (ready_list_of ls)) [
  | inl found ↦ let r = in_some_list task ls found in ap is_some (sound.one_place task r.0 r.1) ∙ sym found
  | inr none ↦
      ap is_some (place_of-None task ls (λ l hl. apart_from_test task (entries_of ls l) (in_no_list task ls none l))) ∙ sym none
]

pub none_of : (o : Option ℕ) → is_some o ≡ false → o ≡ None
none_of None t = refl
none_of (Some l) t = absurd cc

-- a task that isn't Ready is in no list
pub in_no_place : {L N : ℕ} {ls : List (List (ℕ × ℕ))} → IsSound L N ls → (task : ℕ)
    → has_node task (ready_list_of ls) ≡ false → place_of ls task ≡ None
in_no_place {L} {N} {ls} sound task t = none_of (place_of ls task) (any_in_ready_list sound task ∙ t)

-- the first of all, in the highest list

ready_list_of-empty : (ls : List (List (ℕ × ℕ))) → ((p : ℕ) → get_or ls p [] ≡ []) → ready_list_of ls ≡ []
ready_list_of-empty [] h = refl
ready_list_of-empty (l ∷ ls) h = ap₂ (λ (es fs : List (ℕ × ℕ)). es ++ fs) (ready_list_of-empty ls (λ p. h (suc p))) (h 0)

-- the Ready tasks begin with the highest list
record Headed (ls : List (List (ℕ × ℕ))) (p : ℕ) : Type 0 where
  pub rest : List (ℕ × ℕ)
  pub whole : ready_list_of ls ≡ get_or ls p [] ++ rest

headed : (ls : List (List (ℕ × ℕ))) (p : ℕ) → ((q : ℕ) → p < q → get_or ls q [] ≡ []) → Headed ls p
headed [] p above = record { rest = []; whole = refl }
headed (l ∷ ls) zero above =
    let none : ready_list_of ls ≡ [] = ready_list_of-empty ls (λ q. above (suc q) (omega arith)) in
    record { rest = []; whole = ap (λ (es : List (ℕ × ℕ)). es ++ l) none ∙ sym (append-nil l) }
headed (l ∷ ls) (suc p) above =
    let h = headed ls p (λ q lt. above (suc q) (omega (arith, lt))) in
    record { rest = h.rest ++ l; whole = ap (λ (es : List (ℕ × ℕ)). es ++ l) h.whole ∙ append_assoc (get_or ls p []) h.rest l }

first_of-append : (es fs : List (ℕ × ℕ)) → es ≢ [] → first_of (es ++ fs) ≡ first_of es
first_of-append [] fs some = absurd (some refl)
first_of-append (e ∷ es) fs some = refl

pub first_of_highest : (ls : List (List (ℕ × ℕ))) (p : ℕ) → IsHighest ls (Some p)
    → first_of (ready_list_of ls) ≡ first_of (entries_of ls p)
first_of_highest ls p h =
    let l = headed ls p h.2 in
    ap first_of l.whole ∙ first_of-append (entries_of ls p) l.rest h.1

pub first_of_none : (ls : List (List (ℕ × ℕ))) → IsHighest ls None → first_of (ready_list_of ls) ≡ None
first_of_none ls h = ap first_of (ready_list_of-empty ls h)

some_first : (es : List (ℕ × ℕ)) → es ≢ [] → is_some (first_of es) ≡ true
some_first [] n = absurd (n refl)
some_first (e ∷ es) n = refl

pub first_where_any : (ls : List (List (ℕ × ℕ))) (o : Option ListId)
    → IsHighest ls (option_map (λ l. l.number) o) → is_some o ≡ is_some (first_of (ready_list_of ls))
first_where_any ls None h = rw (first_of_none ls h) refl
first_where_any ls (Some list) h = rw (first_of_highest ls list.number h) (sym (some_first (entries_of ls list.number) h.1))

-- whether a Ready task is above or beside the running one

any_none : (p : ℕ × ℕ → Bool) (es : List (ℕ × ℕ)) → Each (λ e. p e ≡ false) es → list_any p es ≡ false
any_none p [] h = refl
any_none p (e ∷ es) h = ap₂ (λ (a b : Bool). a || b) h.0 (any_none p es h.1)

any_first : (p : ℕ × ℕ → Bool) (es fs : List (ℕ × ℕ)) → es ≢ [] → Each (λ e. p e ≡ true) es → list_any p (es ++ fs) ≡ true
any_first p [] fs some h = absurd (some refl)
any_first p (e ∷ es) fs some h = ap (λ (b : Bool). b || list_any p (es ++ fs)) h.0

-- list i has the tasks of priority k + i
pub home_at : (k i : ℕ) (ls : List (List (ℕ × ℕ))) → AtHome k ls → Each (λ e. e.1 ≡ k + i) (get_or ls i [])
home_at k i [] h = tt
home_at k zero (l ∷ ls) h = Each-imp (λ e. e.1 ≡ k) (λ e. e.1 ≡ k + 0) l (λ e at. omega (arith, at)) h.0
home_at k (suc i) (l ∷ ls) h =
    Each-imp (λ e. e.1 ≡ suc k + i) (λ e. e.1 ≡ k + suc i) (get_or ls i []) (λ e at. omega (arith, at)) (home_at (suc k) i ls h.1)

-- no Ready task is above the highest list
none_higher : (k p : ℕ) (ls : List (List (ℕ × ℕ))) → AtHome k ls
    → ((q : ℕ) → p < q → get_or ls q [] ≡ []) → Each (λ e. e.1 ≤ k + p) (ready_list_of ls)
none_higher k p [] h above = tt
none_higher k zero (l ∷ ls) h above =
    let none : ready_list_of ls ≡ [] = ready_list_of-empty ls (λ q. above (suc q) (omega arith)) in
    subst (Each (λ e. e.1 ≤ k + 0)) (ap (λ (es : List (ℕ × ℕ)). es ++ l) (sym none))
    (Each-imp (λ e. e.1 ≡ k) (λ e. e.1 ≤ k + 0) l (λ e at. omega (arith, at)) h.0)
none_higher k (suc p) (l ∷ ls) h above =
    Each-append (λ e. e.1 ≤ k + suc p) (ready_list_of ls) l
    (Each-imp (λ e. e.1 ≤ suc k + p) (λ e. e.1 ≤ k + suc p) (ready_list_of ls) (λ e le. omega (arith, le))
    (none_higher (suc k) p ls h.1 (λ q lt. above (suc q) (omega (arith, lt)))))
    (Each-imp (λ e. e.1 ≡ k) (λ e. e.1 ≤ k + suc p) l (λ e at. omega (arith, at)) h.0)

any_in_highest : (test : ℕ × ℕ → Bool) (ls : List (List (ℕ × ℕ))) (p : ℕ) → AtHome 0 ls → IsHighest ls (Some p)
    → ((e : ℕ × ℕ) → e.1 ≡ p → test e ≡ true) → list_any test (ready_list_of ls) ≡ true
any_in_highest test ls p h highest passes =
    let l = headed ls p highest.2 in
    ap (list_any test) l.whole
    ∙ any_first test (entries_of ls p) l.rest highest.1 (Each-imp (λ e. e.1 ≡ 0 + p) (λ e. test e ≡ true)
    (entries_of ls p) (λ e at. passes e (omega (arith, at))) (home_at 0 p ls h))

-- a Ready task is above the running one if the highest list is
pub any_above : (priorities : List ℕ) (ls : List (List (ℕ × ℕ))) (p task : ℕ) → AtHome 0 ls → IsHighest ls (Some p)
    → list_any (is_above priorities (Some task)) (ready_list_of ls) ≡ nat_lt (priority_in priorities task) p
any_above priorities ls p task h highest = elim (cases_lt (priority_in priorities task) p) [
  | inl less ↦
      any_in_highest (is_above priorities (Some task)) ls p h highest
      (λ e at. lt-ltb (priority_in priorities task) e.1 (omega (arith, at, less)))
      ∙ sym (lt-ltb (priority_in priorities task) p less)
  | inr more ↦
      any_none (is_above priorities (Some task)) (ready_list_of ls)
      (Each-imp (λ e. e.1 ≤ 0 + p) (λ e. is_above priorities (Some task) e ≡ false) (ready_list_of ls)
      (λ e le. le-ltb (priority_in priorities task) e.1 (omega (arith, le, more))) (none_higher 0 p ls h highest.2))
      ∙ sym (le-ltb (priority_in priorities task) p more)
]

pub any_above_idle : (priorities : List ℕ) (ls : List (List (ℕ × ℕ))) (p : ℕ) → AtHome 0 ls
    → IsHighest ls (Some p) → list_any (is_above priorities None) (ready_list_of ls) ≡ true
any_above_idle priorities ls p h highest = any_in_highest (is_above priorities None) ls p h highest (λ e at. refl)

pub none_in_ready_list : (test : ℕ × ℕ → Bool) (ls : List (List (ℕ × ℕ)))
    → IsHighest ls None → list_any test (ready_list_of ls) ≡ false
none_in_ready_list test ls h = ap (list_any test) (ready_list_of-empty ls h)

-- the same, whatever the highest list is
pub any_above_top : (priorities : List ℕ) (ls : List (List (ℕ × ℕ))) (task : ℕ) (top : Option ℕ) → AtHome 0 ls → IsHighest ls top
    → is_below (priority_in priorities task) top ≡ list_any (is_above priorities (Some task)) (ready_list_of ls)
any_above_top priorities ls task None h highest = sym (none_in_ready_list (is_above priorities (Some task)) ls highest)
any_above_top priorities ls task (Some p) h highest = sym (any_above priorities ls p task h highest)

pub any_where_idle : (priorities : List ℕ) (ls : List (List (ℕ × ℕ))) (o : Option ListId) → AtHome 0 ls
    → IsHighest ls (option_map (λ l. l.number) o) → is_some o ≡ list_any (is_above priorities None) (ready_list_of ls)
any_where_idle priorities ls None h highest = sym (none_in_ready_list (is_above priorities None) ls highest)
any_where_idle priorities ls (Some list) h highest = sym (any_above_idle priorities ls list.number h highest)

-- a Ready task is beside the running one if the list of its priority has another

and-true : (b : Bool) → (b && true) ≡ b
and-true true = refl
and-true false = refl

and-false : (b : Bool) → (b && false) ≡ false
and-false true = refl
and-false false = refl

pub or-false : (b : Bool) → (b || false) ≡ b
or-false true = refl
or-false false = refl

beside_here : (priorities : List ℕ) (task : ℕ) (es : List (ℕ × ℕ)) → Each (λ e. e.1 ≡ priority_in priorities task) es
    → list_any (is_beside priorities (Some task)) es ≡ list_any (λ e. not (e.0 == task)) es
beside_here priorities task [] h = refl
beside_here priorities task (e ∷ es) h =
    ap₂ (λ (a b : Bool). a || b)
    (ap (λ (b : Bool). not (e.0 == task) && b) (eq-eqb e.1 (priority_in priorities task) h.0) ∙ and-true (not (e.0 == task)))
    (beside_here priorities task es h.1)

not_beside : (priorities : List ℕ) (task : ℕ) (e : ℕ × ℕ)
    → e.1 ≢ priority_in priorities task → is_beside priorities (Some task) e ≡ false
not_beside priorities task e ne =
    ap (λ (b : Bool). not (e.0 == task) && b) (ne_eqb e.1 (priority_in priorities task) ne) ∙ and-false (not (e.0 == task))

pub any_beside : (priorities : List ℕ) (task k i : ℕ) (ls : List (List (ℕ × ℕ))) → AtHome k ls → priority_in priorities task ≡ k + i
    → list_any (is_beside priorities (Some task)) (ready_list_of ls) ≡ list_any (λ e. not (e.0 == task)) (get_or ls i [])
any_beside priorities task k i [] h is = refl
any_beside priorities task k zero (l ∷ ls) h is =
    let higher : list_any (is_beside priorities (Some task)) (ready_list_of ls) ≡ false =
    any_none (is_beside priorities (Some task)) (ready_list_of ls)
    (Each-imp (λ e. suc k ≤ e.1) (λ e. is_beside priorities (Some task) e ≡ false) (ready_list_of ls)
    (λ e le. not_beside priorities task e (omega (arith, le, is))) (none_lower (suc k) ls h.1)) in
    list_any-append (is_beside priorities (Some task)) (ready_list_of ls) l
    ∙ ap₂ (λ (a b : Bool). a || b) higher (beside_here priorities task l
    (Each-imp (λ e. e.1 ≡ k) (λ e. e.1 ≡ priority_in priorities task) l (λ e at. omega (arith, at, is)) h.0))
any_beside priorities task k (suc i) (l ∷ ls) h is =
    let lower : list_any (is_beside priorities (Some task)) l ≡ false =
    any_none (is_beside priorities (Some task)) l (Each-imp (λ e. e.1 ≡ k) (λ e. is_beside priorities (Some task) e ≡ false)
    l (λ e at. not_beside priorities task e (omega (arith, at, is))) h.0) in
    list_any-append (is_beside priorities (Some task)) (ready_list_of ls) l
    ∙ ap₂ (λ (a b : Bool). a || b) (any_beside priorities task (suc k) i ls h.1 (omega (arith, is))) lower
    ∙ or-false (list_any (λ e. not (e.0 == task)) (get_or ls i []))

pub none_beside_idle : (priorities : List ℕ) (es : List (ℕ × ℕ)) → list_any (is_beside priorities None) es ≡ false
none_beside_idle priorities [] = refl
none_beside_idle priorities (e ∷ es) = none_beside_idle priorities es
