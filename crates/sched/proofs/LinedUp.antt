-- The pending tasks, put in turn into the ready list.
use Rattle.std.proofs.Common.{◌≡◌, ◌≢◌, ℕ, suc, ◌<◌, ◌≤◌, inl, inr, Bool, true, false, ltb, Option, Some, None, List, [], ◌∷◌, ◌++◌}
use Rattle.std.proofs.Common.{set, sym, ◌∙◌, ap, ap₂, subst, arith, refl}
use Rattle.std.specs.Prelude.{◌==◌, ◌||◌, slice_get}
use Rattle.std.specs.Option.{IfSome, is_some}
use Rattle.std.proofs.lemmas.Bool.{cases_eq, cases_lt, eq-eqb, ne_eqb}
use Rattle.std.proofs.lemmas.Option.{same_Some}
use Rattle.model.proofs.Lists.{eqb-same}
use Rattle.model.proofs.Sorting.{by_test}
use Rattle.lists.specs.Lists.{Each, first_of, has_node, without}
use Rattle.lists.proofs.Entries.{Each-append, Each-imp, Each-without, has_node-same, has_node-other, has_node-without_other}
use Rattle.lists.proofs.Entries.{without-same, without-other}
use Rattle.sched.specs.Schedule.{Schedule, block, is_ready, line_up, lined_up, make_ready, pend_ready, priority_in, set_priority}
use Rattle.sched.specs.Schedule.{to_back, wake}
use Rattle.task_lists.specs.Tasks.{insert_by_priority, is_among, without_task}
use Rattle.sched.specs.ReadyLists.{AtHome, ready_list_of}
use Rattle.sched.proofs.ReadyList.{add-after, add-before, none_lower, or-false}

-- ---- priorities that don't rise along a list

abbrev pub IsFalling : List (ℕ × ℕ) → Type 0
IsFalling [] = Unit {0}
IsFalling (e ∷ es) = Each (λ f. f.1 ≤ e.1) es × IsFalling es

falling-append : (es fs : List (ℕ × ℕ)) → IsFalling es → IsFalling fs
    → Each (λ e. Each (λ f. f.1 ≤ e.1) fs) es → IsFalling (es ++ fs)
falling-append [] fs h k a = k
falling-append (e ∷ es) fs h k a = (Each-append (λ f. f.1 ≤ e.1) es fs h.0 a.0, falling-append es fs h.1 k a.1)

all_equal : (k : ℕ) (es : List (ℕ × ℕ)) → Each (λ e. e.1 ≡ k) es → IsFalling es
all_equal k [] h = tt
all_equal k (e ∷ es) h =
    (Each-imp (λ f. f.1 ≡ k) (λ f. f.1 ≤ e.1) es (λ f is. let top = h.0 in omega (arith, is, top)) h.1, all_equal k es h.1)

-- the tasks of lists by priority
pub falling_at_home : (k : ℕ) (ls : List (List (ℕ × ℕ))) → AtHome k ls → IsFalling (ready_list_of ls)
falling_at_home k [] h = tt
falling_at_home k (l ∷ ls) h =
    falling-append (ready_list_of ls) l (falling_at_home (suc k) ls h.1) (all_equal k l h.0)
    (Each-imp (λ e. suc k ≤ e.1) (λ e. Each (λ f. f.1 ≤ e.1) l) (ready_list_of ls)
    (λ e le. Each-imp (λ f. f.1 ≡ k) (λ f. f.1 ≤ e.1) l (λ f is. omega (arith, is, le)) h.0)
    (none_lower (suc k) ls h.1))

-- ---- a task that is added

-- what is true of it and of each other
Each-added : (P : ℕ × ℕ → Type 0) (e : ℕ × ℕ) (fs : List (ℕ × ℕ)) → P e → Each P fs → Each P (insert_by_priority e fs)
Each-added P e [] p h = (p, tt)
Each-added P e (f ∷ fs) p h = elim (cases_lt f.1 e.1) [
  | inl less ↦ subst (Each P) (sym (add-before e f fs less)) (p, h)
  | inr more ↦ subst (Each P) (sym (add-after e f fs more)) (h.0, Each-added P e fs p h.1)
]

Each-under : (P : ℕ × ℕ → Type 0) (e : ℕ × ℕ) (fs : List (ℕ × ℕ)) → Each P (insert_by_priority e fs) → Each P fs
Each-under P e [] h = tt
Each-under P e (f ∷ fs) h = elim (cases_lt f.1 e.1) [
  | inl less ↦ let k : Each P (e ∷ f ∷ fs) = subst (Each P) (add-before e f fs less) h in k.1
  | inr more ↦
      let k : Each P (f ∷ insert_by_priority e fs) = subst (Each P) (add-after e f fs more) h in
      (k.0, Each-under P e fs k.1)
]

falling-added : (e : ℕ × ℕ) (fs : List (ℕ × ℕ)) → IsFalling fs → IsFalling (insert_by_priority e fs)
falling-added e [] h = (tt, tt)
falling-added e (f ∷ fs) h = elim (cases_lt f.1 e.1) [
  | inl less ↦
      subst IsFalling (sym (add-before e f fs less))
      ((omega (arith, less), Each-imp (λ g. g.1 ≤ f.1) (λ g. g.1 ≤ e.1) fs (λ g le. omega (arith, le, less)) h.0), h)
  | inr more ↦ subst IsFalling (sym (add-after e f fs more)) (Each-added (λ g. g.1 ≤ f.1) e fs more h.0, falling-added e fs h.1)
]

falling-under : (e : ℕ × ℕ) (fs : List (ℕ × ℕ)) → IsFalling (insert_by_priority e fs) → IsFalling fs
falling-under e [] h = tt
falling-under e (f ∷ fs) h = elim (cases_lt f.1 e.1) [
  | inl less ↦ let k : IsFalling (e ∷ f ∷ fs) = subst IsFalling (add-before e f fs less) h in k.1
  | inr more ↦
      let k : IsFalling (f ∷ insert_by_priority e fs) = subst IsFalling (add-after e f fs more) h in
      (Each-under (λ g. g.1 ≤ f.1) e fs k.0, falling-under e fs k.1)
]

-- before those of lower priority
add-first : (e : ℕ × ℕ) (fs : List (ℕ × ℕ)) → Each (λ f. f.1 < e.1) fs → insert_by_priority e fs ≡ e ∷ fs
add-first e [] h = refl
add-first e (f ∷ fs) h = add-before e f fs h.0

pub without-added_it : (i p : ℕ) (fs : List (ℕ × ℕ)) → without i (insert_by_priority (i, p) fs) ≡ without i fs
without-added_it i p [] = without-same i (i, p) [] refl
without-added_it i p (f ∷ fs) = elim (cases_lt f.1 p) [
  | inl less ↦ ap (without i) (add-before (i, p) f fs less) ∙ without-same i (i, p) (f ∷ fs) refl
  | inr more ↦ ap (without i) (add-after (i, p) f fs more) ∙ elim (cases_eq f.0 i) [
    | inl same ↦ without-same i f (insert_by_priority (i, p) fs) same ∙ without-added_it i p fs ∙ sym (without-same i f fs same)
    | inr other ↦
        without-other i f (insert_by_priority (i, p) fs) other ∙ ap (λ (gs : List (ℕ × ℕ)). f ∷ gs) (without-added_it i p fs)
        ∙ sym (without-other i f fs other)
  ]
]

pub without-added : (i : ℕ) (e : ℕ × ℕ) (fs : List (ℕ × ℕ)) → e.0 ≢ i → IsFalling fs
    → without i (insert_by_priority e fs) ≡ insert_by_priority e (without i fs)
without-added i e [] ne h = without-other i e [] ne
without-added i e (f ∷ fs) ne h = elim (cases_lt f.1 e.1) [
  | inl less ↦
      let lower : Each (λ g. g.1 < e.1) (f ∷ fs) =
      (less, Each-imp (λ g. g.1 ≤ f.1) (λ g. g.1 < e.1) fs (λ g le. omega (arith, le, less)) h.0) in
      ap (without i) (add-before e f fs less) ∙ without-other i e (f ∷ fs) ne
      ∙ sym (add-first e (without i (f ∷ fs)) (Each-without (λ g. g.1 < e.1) i (f ∷ fs) lower))
  | inr more ↦ ap (without i) (add-after e f fs more) ∙ elim (cases_eq f.0 i) [
    | inl same ↦
        without-same i f (insert_by_priority e fs) same ∙ without-added i e fs ne h.1
        ∙ ap (insert_by_priority e) (sym (without-same i f fs same))
    | inr other ↦
        without-other i f (insert_by_priority e fs) other ∙ ap (λ (gs : List (ℕ × ℕ)). f ∷ gs) (without-added i e fs ne h.1)
        ∙ sym (add-after e f (without i fs) more)
        ∙ ap (insert_by_priority e) (sym (without-other i f fs other))
  ]
]

pub has_node-added_it : (i p : ℕ) (fs : List (ℕ × ℕ)) → has_node i (insert_by_priority (i, p) fs) ≡ true
has_node-added_it i p [] = has_node-same i (i, p) [] refl
has_node-added_it i p (f ∷ fs) = elim (cases_lt f.1 p) [
  | inl less ↦ ap (has_node i) (add-before (i, p) f fs less) ∙ has_node-same i (i, p) (f ∷ fs) refl
  | inr more ↦ ap (has_node i) (add-after (i, p) f fs more) ∙ elim (cases_eq f.0 i) [
    | inl same ↦ has_node-same i f (insert_by_priority (i, p) fs) same
    | inr other ↦ has_node-other i f (insert_by_priority (i, p) fs) other ∙ has_node-added_it i p fs
  ]
]

pub has_node-added : (i : ℕ) (e : ℕ × ℕ) (fs : List (ℕ × ℕ)) → e.0 ≢ i → has_node i (insert_by_priority e fs) ≡ has_node i fs
has_node-added i e [] ne = has_node-other i e [] ne
has_node-added i e (f ∷ fs) ne = elim (cases_lt f.1 e.1) [
  | inl less ↦ ap (has_node i) (add-before e f fs less) ∙ has_node-other i e (f ∷ fs) ne
  | inr more ↦ ap (has_node i) (add-after e f fs more) ∙ elim (cases_eq f.0 i) [
    | inl same ↦ has_node-same i f (insert_by_priority e fs) same ∙ sym (has_node-same i f fs same)
    | inr other ↦
        has_node-other i f (insert_by_priority e fs) other ∙ has_node-added i e fs ne ∙ sym (has_node-other i f fs other)
  ]
]

-- ---- tasks among others

pub among-same : (i t : ℕ) (ts : List ℕ) → t ≡ i → is_among i (t ∷ ts) ≡ true
among-same i t ts e = let eq : (t == i) ≡ true = eq-eqb t i e in rw eq refl

pub among-other : (i t : ℕ) (ts : List ℕ) → t ≢ i → is_among i (t ∷ ts) ≡ is_among i ts
among-other i t ts ne = let eq : (t == i) ≡ false = ne_eqb t i ne in rw eq refl

pub among-later : (i t : ℕ) (ts : List ℕ) → is_among i ts ≡ true → is_among i (t ∷ ts) ≡ true
among-later i t ts h = elim (cases_eq t i) [ inl same ↦ among-same i t ts same | inr other ↦ among-other i t ts other ∙ h ]

pub without_task-same : (i t : ℕ) (ts : List ℕ) → t ≡ i → without_task i (t ∷ ts) ≡ without_task i ts
without_task-same i t ts e = let eq : (t == i) ≡ true = eq-eqb t i e in rw eq refl

pub without_task-other : (i t : ℕ) (ts : List ℕ) → t ≢ i → without_task i (t ∷ ts) ≡ t ∷ without_task i ts
without_task-other i t ts ne = let eq : (t == i) ≡ false = ne_eqb t i ne in rw eq refl

-- a task among the tasks without one is another
pub among-without : (i t : ℕ) (ts : List ℕ) → is_among i (without_task t ts) ≡ true → (i ≢ t) × (is_among i ts ≡ true)
among-without i t [] h = absurd (cc)
among-without i t (u ∷ us) h = elim (cases_eq u t) [
  | inl same ↦
      let r = among-without i t us (sym (ap (is_among i) (without_task-same t u us same)) ∙ h) in
      (r.0, among-later i u us r.1)
  | inr other ↦ elim (cases_eq u i) [
    | inl here ↦ ((λ e. other (here ∙ e)), among-same i u us here)
    | inr there ↦
        let r =
        among-without i t us
        (sym (ap (is_among i) (without_task-other t u us other) ∙ among-other i u (without_task t us) there) ∙ h) in
        (r.0, among-later i u us r.1)
  ]
]

-- a task among tasks and one more is that one, or among them
pub among-more : {X : Type 0} (i t : ℕ) (ts : List ℕ)
    → is_among i (ts ++ t ∷ []) ≡ true → (i ≡ t → X) → (is_among i ts ≡ true → X) → X
among-more i t [] h f g = f (sym (eqb-same t i (sym (or-false (t == i)) ∙ h)))
among-more i t (u ∷ us) h f g = elim (cases_eq u i) [
  | inl here ↦ g (among-same i u us here)
  | inr there ↦ among-more i t us (sym (among-other i u (us ++ t ∷ []) there) ∙ h) f (λ later. g (among-later i u us later))
]

-- ---- the tasks lined up

pub line_up-append : (ts : List ℕ) (t : ℕ) (ps : List ℕ) (es : List (ℕ × ℕ))
    → line_up (ts ++ t ∷ []) ps es ≡ insert_by_priority (t, priority_in ps t) (line_up ts ps es)
line_up-append [] t ps es = refl
line_up-append (u ∷ us) t ps es = line_up-append us t ps (insert_by_priority (u, priority_in ps u) es)

pub line_up-falling : (ts ps : List ℕ) (es : List (ℕ × ℕ)) → IsFalling es → IsFalling (line_up ts ps es)
line_up-falling [] ps es h = h
line_up-falling (t ∷ ts) ps es h =
    line_up-falling ts ps (insert_by_priority (t, priority_in ps t) es) (falling-added (t, priority_in ps t) es h)

pub line_up-under : (ts ps : List ℕ) (es : List (ℕ × ℕ)) → IsFalling (line_up ts ps es) → IsFalling es
line_up-under [] ps es h = h
line_up-under (t ∷ ts) ps es h =
    falling-under (t, priority_in ps t) es (line_up-under ts ps (insert_by_priority (t, priority_in ps t) es) h)

pub line_up-without : (i : ℕ) (ts ps : List ℕ) (es : List (ℕ × ℕ)) → IsFalling es
    → line_up (without_task i ts) ps (without i es) ≡ without i (line_up ts ps es)
line_up-without i [] ps es h = refl
line_up-without i (t ∷ ts) ps es h =
    let e : ℕ × ℕ = (t, priority_in ps t) in
    let rest = line_up-without i ts ps (insert_by_priority e es) (falling-added e es h) in
    elim (cases_eq t i) [
      | inl same ↦
          let gone : without i (insert_by_priority e es) ≡ without i es =
          subst (λ (j : ℕ). without j (insert_by_priority e es) ≡ without j es) same (without-added_it t (priority_in ps t) es) in
          ap (λ (us : List ℕ). line_up us ps (without i es)) (without_task-same i t ts same)
          ∙ ap (line_up (without_task i ts) ps) (sym gone) ∙ rest
      | inr other ↦
          ap (λ (us : List ℕ). line_up us ps (without i es)) (without_task-other i t ts other)
          ∙ ap (line_up (without_task i ts) ps) (sym (without-added i e es other h)) ∙ rest
    ]

pub lined_up-block : (i : ℕ) (v : Schedule) → IsFalling v.ready → lined_up (block i v) ≡ without i (lined_up v)
lined_up-block i v h = line_up-without i v.pending v.priorities v.ready h

-- ---- which tasks are Ready

pub listed_ready : (i : ℕ) (ts ps : List ℕ) (es : List (ℕ × ℕ)) → has_node i es ≡ true → has_node i (line_up ts ps es) ≡ true
listed_ready i [] ps es h = h
listed_ready i (t ∷ ts) ps es h = listed_ready i ts ps (insert_by_priority (t, priority_in ps t) es) (elim (cases_eq t i) [
  | inl same ↦
      ap (λ (j : ℕ). has_node j (insert_by_priority (t, priority_in ps t) es)) (sym same)
      ∙ has_node-added_it t (priority_in ps t) es
  | inr other ↦ has_node-added i (t, priority_in ps t) es other ∙ h
])

or-true : (b : Bool) → (b || true) ≡ true
or-true true = refl
or-true false = refl

pub has_node-line_up : (i : ℕ) (ts ps : List ℕ) (es : List (ℕ × ℕ))
    → has_node i (line_up ts ps es) ≡ (has_node i es || is_among i ts)
has_node-line_up i [] ps es = sym (or-false (has_node i es))
has_node-line_up i (t ∷ ts) ps es =
    let e : ℕ × ℕ = (t, priority_in ps t) in
    has_node-line_up i ts ps (insert_by_priority e es) ∙ elim (cases_eq t i) [
      | inl same ↦
          let here : has_node i (insert_by_priority e es) ≡ true =
          ap (λ (j : ℕ). has_node j (insert_by_priority e es)) (sym same) ∙ has_node-added_it t (priority_in ps t) es in
          ap (λ (b : Bool). b || is_among i ts) here
          ∙ sym (ap (λ (b : Bool). has_node i es || b) (among-same i t ts same) ∙ or-true (has_node i es))
      | inr other ↦
          ap (λ (b : Bool). b || is_among i ts) (has_node-added i e es other)
          ∙ ap (λ (b : Bool). has_node i es || b) (sym (among-other i t ts other))
    ]

-- who isn't Ready is in no ready list, and not pending
pub unready : (i : ℕ) (v : Schedule) → is_ready v i ≡ false → (has_node i v.ready ≡ false) × (is_among i v.pending ≡ false)
unready i v h = both (has_node i v.ready) (is_among i v.pending) (sym (has_node-line_up i v.pending v.priorities v.ready) ∙ h) where
  both : (a b : Bool) → (a || b) ≡ false → (a ≡ false) × (b ≡ false)
  both true b e = absurd (cc)
  both false b e = (refl, e)

pub is_unready : (i : ℕ) (v : Schedule) → has_node i v.ready ≡ false → is_among i v.pending ≡ false → is_ready v i ≡ false
is_unready i v a b = has_node-line_up i v.pending v.priorities v.ready ∙ rw (a, b) refl

pub ready_if_listed : (i : ℕ) (v : Schedule) → has_node i v.ready ≡ true → is_ready v i ≡ true
ready_if_listed i v h = listed_ready i v.pending v.priorities v.ready h

-- ---- what another place in line, or another priority, leaves as it is

module _ {A : Type 0} (part : Schedule → A) where
  back_keeps : ((v : Schedule) (ready : List (ℕ × ℕ)) → part (record v { ready = ready }) ≡ part v)
      → (v : Schedule) (i : ℕ) → part (to_back i v) ≡ part v
  back_keeps same v i = by_test (has_node i v.ready)
      (λ t. rw t (same v (insert_by_priority (i, priority_in v.priorities i) (without i v.ready))))
      (λ t. rw t refl)

-- which tasks are Ready after another task has become Ready, or is Ready no more

pub ready_made : (v : Schedule) (i j : ℕ) → j ≢ i → is_ready (make_ready i v) j ≡ is_ready v j
ready_made v i j ne =
    has_node-line_up j v.pending v.priorities (make_ready i v).ready
    ∙ ap (λ (b : Bool). b || is_among j v.pending)
    (has_node-added j (i, priority_in v.priorities i) v.ready (λ same. ne (sym same)))
    ∙ sym (has_node-line_up j v.pending v.priorities v.ready)

pub ready_pended : (v : Schedule) (i j : ℕ) → j ≢ i → is_ready (pend_ready i v) j ≡ is_ready v j
ready_pended v i j ne =
    ap (has_node j) (line_up-append v.pending i v.priorities v.ready)
    ∙ has_node-added j (i, priority_in v.priorities i) (lined_up v) (λ same. ne (sym same))

pub ready_woken : (v : Schedule) (i j : ℕ) → j ≢ i → is_ready (wake i v) j ≡ is_ready v j
ready_woken v i j ne = by_test (v.depth == 0) (λ t. rw t (ready_made v i j ne)) (λ t. rw t (ready_pended v i j ne))

-- nobody is Ready, or not, by another priority

listed_back : (v : Schedule) (i j : ℕ) → has_node j (to_back i v).ready ≡ has_node j v.ready
listed_back v i j =
    let e : ℕ × ℕ = (i, priority_in v.priorities i) in
    by_test (has_node i v.ready)
    (λ t. rw t (elim (cases_eq j i) [
      | inl same ↦ rw same (has_node-added_it i (priority_in v.priorities i) (without i v.ready) ∙ sym t)
      | inr other ↦ has_node-added j e (without i v.ready) (λ same. other (sym same)) ∙ has_node-without_other i j v.ready other
    ]))
    (λ t. rw t refl)

pub ready_prioritised : (v : Schedule) (i p j : ℕ) → is_ready (set_priority i p v) j ≡ is_ready v j
ready_prioritised v i p j =
    let w : Schedule = record v { priorities = set v.priorities i p } in
    by_test (priority_in v.priorities i == p)
    (λ t. rw t refl)
    (λ t. rw t (
    has_node-line_up j (to_back i w).pending (to_back i w).priorities (to_back i w).ready
    ∙ ap₂ (λ (a b : Bool). a || b) (listed_back w i j)
    (ap (is_among j) (back_keeps (λ (x : Schedule). x.pending) (λ x ready. refl) w i))
    ∙ sym (has_node-line_up j v.pending v.priorities v.ready)))

-- The first of the pending tasks, taken out of them, isn't Ready.
pub first_free : (old : List ℕ) (first : Option ℕ) (v : Schedule)
    → ((i : ℕ) → is_among i old ≡ true → has_node i v.ready ≡ false) → first ≡ slice_get old 0
    → IfSome first (λ task. is_among task v.pending ≡ false) → IfSome first (λ task. is_ready v task ≡ false)
first_free old None v apart is once = tt
first_free [] (Some task) v apart is once = absurd (cc)
first_free (t ∷ ts) (Some task) v apart is once =
    is_unready task v (apart task (among-same task t ts (sym (same_Some task t is)))) once

-- if no task is pending, the Ready tasks are those in the ready lists
pub lined_up_calm : (v : Schedule) → v.pending ≡ [] → lined_up v ≡ v.ready
lined_up_calm v none = ap (λ (ts : List ℕ). line_up ts v.priorities v.ready) none

-- ---- whether any task is Ready

pub added_some : (e : ℕ × ℕ) (es : List (ℕ × ℕ)) → is_some (first_of (insert_by_priority e es)) ≡ true
added_some e [] = refl
added_some e (f ∷ fs) = by_test (ltb f.1 e.1) (λ t. rw t refl) (λ t. rw t refl)

still_some : (ts ps : List ℕ) (es : List (ℕ × ℕ)) → is_some (first_of es) ≡ true → is_some (first_of (line_up ts ps es)) ≡ true
still_some [] ps es h = h
still_some (t ∷ ts) ps es h = still_some ts ps (insert_by_priority (t, priority_in ps t) es) (added_some (t, priority_in ps t) es)

pub some_ready : (v : Schedule) → is_some (first_of v.ready) ≡ true → true ≡ is_some (first_of (lined_up v))
some_ready v h = sym (still_some v.pending v.priorities v.ready h)

pub some_pending : (v : Schedule) → (v.pending ≡ [] → ⊥) → true ≡ is_some (first_of (lined_up v))
some_pending v h = by_pending v.pending refl where
  by_pending : (ts : List ℕ) → v.pending ≡ ts → true ≡ is_some (first_of (lined_up v))
  by_pending [] e = absurd (h e)
  by_pending (t ∷ ts) e =
      rw e (sym (still_some ts v.priorities (insert_by_priority (t, priority_in v.priorities t) v.ready)
      (added_some (t, priority_in v.priorities t) v.ready)))
