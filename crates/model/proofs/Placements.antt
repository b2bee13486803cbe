-- What is had by recursion over the steps are all placements.
use Rattle.std.proofs.Common.{◌≡◌, ◌≢◌, ◌<◌, ◌≤◌, ◌+◌, ◌-◌, ℕ, zero, suc, Bool, true, false, eqb, ltb, List, [], ◌∷◌, ◌++◌, length}
use Rattle.std.proofs.Common.{map, Option, Some, None}
use Rattle.std.proofs.Common.{refl, ap, sym, subst, ◌∙◌, arith, inl, inr}
use Rattle.std.specs.Prelude.{Contains}
use Rattle.std.specs.List.{AllByRecursion, filter, flat_map}
use Rattle.std.proofs.lemmas.Bool.{cases_lt, eq-eqb, eqb-true, ne_eqb, lt-ltb, ltb-true, le-ltb, ltb-false}
use Rattle.std.proofs.lemmas.List.{map-append}
use Rattle.std.proofs.Common.{length-append, append-nil}
use Rattle.std.proofs.lemmas.List.Elements.{Contains-append_left, Contains-append_right, filter-append}
use Rattle.model.specs.declared.event.End.{End}
use Rattle.model.specs.declared.plan.Injection.{Injection}
use Rattle.model.specs.Points.{AreInOrder}
use Rattle.model.specs.Application.{Application, Limits}
use Rattle.model.specs.State.{State}
use Rattle.model.specs.Step.{step}
use Rattle.model.specs.Run.{end_of, events_after, injected, state_after}
use Rattle.model.specs.Placements.{AreAll, AreDistinct, IsPlacement, Placed, before_this, begun, choices, ended, extensions}
use Rattle.model.specs.Placements.{can_all_come, placed_at, possible, sequences, unless_ended}
use Rattle.model.proofs.Sorting.{by_test}
use Rattle.model.proofs.Among.{all_append, all_filter, all_flat, all_if, all_map}
use Rattle.model.proofs.Among.{all_weaker}
use Rattle.model.proofs.Among.{among_filter, among_flat, among_map, distinct_append, distinct_filter, distinct_flat, distinct_map}
use Rattle.model.proofs.Among.{first_is, map_flat, none_is}

-- ---- lists of handlers

-- each is of so many of these
pub sequences_are : (handlers : List ℕ) (count : ℕ)
    → AllByRecursion (λ now. (length now ≡ count) × AllByRecursion (Contains handlers) now) (sequences handlers count)
sequences_are handlers zero = ((refl, tt), tt)
sequences_are handlers (suc count) =
    all_flat (λ now. (length now ≡ suc count) × AllByRecursion (Contains handlers) now)
    (λ handler. map (λ others. handler ∷ others) (sequences handlers count)) handlers
    (all_if (λ handler. AllByRecursion (λ now. (length now ≡ suc count) × AllByRecursion (Contains handlers) now)
    (map (λ others. handler ∷ others) (sequences handlers count))) handlers
    (λ handler is.
    all_map (λ now. (length now ≡ suc count) × AllByRecursion (Contains handlers) now) (λ others. handler ∷ others)
    (sequences handlers count)
    (all_weaker (λ now. (length now ≡ count) × AllByRecursion (Contains handlers) now)
    (λ now. (length (handler ∷ now) ≡ suc count) × AllByRecursion (Contains handlers) (handler ∷ now))
    (λ now h. (ap suc h.0, (is, h.1)))
    (sequences handlers count) (sequences_are handlers count))))

pub choices_are : (handlers : List ℕ) (most : ℕ)
    → AllByRecursion (λ now. (length now ≤ most) × AllByRecursion (Contains handlers) now) (choices handlers most)
choices_are handlers zero = ((omega arith, tt), tt)
choices_are handlers (suc most) =
    all_append (λ now. (length now ≤ suc most) × AllByRecursion (Contains handlers) now) (choices handlers most)
    (sequences handlers (suc most))
    (all_weaker (λ now. (length now ≤ most) × AllByRecursion (Contains handlers) now)
    (λ now. (length now ≤ suc most) × AllByRecursion (Contains handlers) now)
    (λ now h. ((let few = h.0 in omega arith), h.1)) (choices handlers most) (choices_are handlers most))
    (all_weaker (λ now. (length now ≡ suc most) × AllByRecursion (Contains handlers) now)
    (λ now. (length now ≤ suc most) × AllByRecursion (Contains handlers) now)
    (λ now h. ((let few = h.0 in omega arith), h.1)) (sequences handlers (suc most)) (sequences_are handlers (suc most)))

-- each list of so many is there
sequences_have : (handlers : List ℕ) (now : List ℕ)
    → AllByRecursion (Contains handlers) now → Contains (sequences handlers (length now)) now
sequences_have handlers [] h = first_is [] []
sequences_have handlers (first ∷ now) h =
    among_flat (λ handler. map (λ others. handler ∷ others) (sequences handlers (length now))) handlers first (first ∷ now) h.0
    (among_map (λ (others : List ℕ). first ∷ others) (sequences handlers (length now)) now (sequences_have handlers now h.1))

pub choices_have : (handlers : List ℕ) (now : List ℕ) (most : ℕ)
    → AllByRecursion (Contains handlers) now → length now ≤ most → Contains (choices handlers most) now
choices_have handlers now zero h few =
    let none : length now ≡ 0 = omega arith in
    subst (λ (n : ℕ). Contains (sequences handlers n) now) none (sequences_have handlers now h)
choices_have handlers now (suc most) h few = by_test (eqb (length now) (suc most))
    (λ t.
    Contains-append_right (choices handlers most) (sequences handlers (suc most)) now
    (subst (λ (n : ℕ). Contains (sequences handlers n) now) (eqb-true (length now) (suc most) t) (sequences_have handlers now h)))
    (λ t.
    let apart : length now ≢ suc most = (λ e. let u = eq-eqb (length now) (suc most) e in absurd (cc)) in
    Contains-append_left (choices handlers most) (sequences handlers (suc most)) now
    (choices_have handlers now most h (omega arith)))

-- none is there twice

abbrev first_of : List ℕ → ℕ
first_of [] = 0
first_of (x ∷ xs) = x

abbrev rest_of : List ℕ → List ℕ
rest_of [] = []
rest_of (x ∷ xs) = xs

always : {X : Type 0} (P : X → Type 0) → ((x : X) → P x) → (xs : List X) → AllByRecursion P xs
always P f xs = all_if P xs (λ x is. f x)

sequences_differ : (handlers : List ℕ) → AreDistinct handlers → (count : ℕ) → AreDistinct (sequences handlers count)
sequences_differ handlers differ zero = (tt, tt)
sequences_differ handlers differ (suc count) =
    distinct_flat (λ (handler : ℕ). map (λ (others : List ℕ). handler ∷ others) (sequences handlers count)) first_of handlers
    (always (λ handler. AllByRecursion (λ now. first_of now ≡ handler)
    (map (λ others. handler ∷ others) (sequences handlers count)))
    (λ handler. all_map (λ now. first_of now ≡ handler) (λ others. handler ∷ others) (sequences handlers count)
    (always (λ others. handler ≡ handler) (λ others. refl) (sequences handlers count))) handlers)
    (always (λ handler. AreDistinct (map (λ others. handler ∷ others) (sequences handlers count)))
    (λ handler. distinct_map (λ (others : List ℕ). handler ∷ others) rest_of (sequences handlers count)
    (always (λ others. others ≡ others) (λ others. refl) (sequences handlers count))
    (sequences_differ handlers differ count)) handlers)
    differ

pub choices_differ : (handlers : List ℕ) → AreDistinct handlers → (most : ℕ) → AreDistinct (choices handlers most)
choices_differ handlers differ zero = (tt, tt)
choices_differ handlers differ (suc most) =
    distinct_append (choices handlers most) (sequences handlers (suc most))
    (choices_differ handlers differ most) (sequences_differ handlers differ (suc most))
    (all_weaker (λ now. (length now ≤ most) × AllByRecursion (Contains handlers) now)
    (λ now. AllByRecursion (λ longer. longer ≢ now) (sequences handlers (suc most)))
    (λ now few.
    all_weaker (λ longer. (length longer ≡ suc most) × AllByRecursion (Contains handlers) longer) (λ longer. longer ≢ now)
    (λ longer many e. let short = few.0 in let long = many.0 in let same = ap length e in absurd (omega (arith, short, long, same)))
    (sequences handlers (suc most)) (sequences_are handlers (suc most)))
    (choices handlers most) (choices_are handlers most))

-- ---- injections before a step, and at it

-- those before this step
abbrev pub until : ℕ → List Injection → List Injection
until n plan = filter (λ (i : Injection). ltb i.step n) plan

abbrev pub AreBelow : ℕ → List Injection → Type 0
AreBelow n plan = AllByRecursion (λ (i : Injection). i.step < n) plan

at_this : (n : ℕ) (now : List ℕ) → injected (before_this n now) n ≡ now
at_this n [] = refl
at_this n (handler ∷ now) = rw (eq-eqb n n refl) (ap (λ (hs : List ℕ). handler ∷ hs) (at_this n now))

at_other : (n m : ℕ) (now : List ℕ) → n ≢ m → injected (before_this n now) m ≡ []
at_other n m [] apart = refl
at_other n m (handler ∷ now) apart = rw (ne_eqb n m apart) (at_other n m now apart)

pub none_from : (n m : ℕ) (plan : List Injection) → AreBelow n plan → n ≤ m → injected plan m ≡ []
none_from n m [] below l = refl
none_from n m (i ∷ plan) below l =
    let before = below.0 in
    rw (ne_eqb i.step m (λ e. absurd (omega (arith, before, e, l)))) (none_from n m plan below.1 l)

injected-append : (a b : List Injection) (n : ℕ) → injected (a ++ b) n ≡ injected a n ++ injected b n
injected-append a b n =
    ap (map (λ (i : Injection). i.handler)) (filter-append (λ (i : Injection). eqb i.step n) a b)
    ∙ map-append (λ (i : Injection). i.handler)
    (filter (λ (i : Injection). eqb i.step n) a) (filter (λ (i : Injection). eqb i.step n) b)

pub extended_at : (plan : List Injection) (n : ℕ) (now : List ℕ) → AreBelow n plan → injected (plan ++ before_this n now) n ≡ now
extended_at plan n now below =
    injected-append plan (before_this n now) n
    ∙ ap (λ (hs : List ℕ). hs ++ injected (before_this n now) n) (none_from n n plan below (omega arith)) ∙ at_this n now

pub extended_before : (plan : List Injection) (n : ℕ) (now : List ℕ) (m : ℕ) → m < n
    → injected (plan ++ before_this n now) m ≡ injected plan m
extended_before plan n now m l =
    injected-append plan (before_this n now) m
    ∙ ap (λ (hs : List ℕ). injected plan m ++ hs) (at_other n m now (λ e. absurd (omega (arith, e, l))))
    ∙ append-nil (injected plan m)

-- Plans that agree before a step have one state there.
pub same_before : (app : Application) (limits : Limits) (p q : List Injection) (n : ℕ)
    → ((m : ℕ) → m < n → injected p m ≡ injected q m) → state_after app limits p n ≡ state_after app limits q n
same_before app limits p q zero agree = refl
same_before app limits p q (suc n) agree =
    ap (λ (handlers : List ℕ). step app limits handlers (state_after app limits p n)) (agree n (omega arith))
    ∙ ap (λ (s : State). step app limits (injected q n) s) (same_before app limits p q n (λ m l. agree m (omega arith)))

all_below : (n m : ℕ) (plan : List Injection) → n ≤ m → AreBelow n plan → AreBelow m plan
all_below n m plan l below = all_weaker (λ i. i.step < n) (λ i. i.step < m) (λ i b. omega (arith, b, l)) plan below

pub length_these : (n : ℕ) (now : List ℕ) → length (before_this n now) ≡ length now
length_these n [] = refl
length_these n (handler ∷ now) = ap suc (length_these n now)

these_below : (n : ℕ) (now : List ℕ) → AreBelow (suc n) (before_this n now)
these_below n now = all_map (λ i. i.step < suc n) (λ handler. record { step = n; handler = handler }) now
    (always (λ handler. n < suc n) (λ handler. omega arith) now)

order_append : (n : ℕ) (plan more : List Injection) → AreInOrder plan → AreBelow n plan → AreInOrder more
    → AllByRecursion (λ (i : Injection). n ≤ i.step) more → AreInOrder (plan ++ more)
order_append n [] more order below later from = later
order_append n (i ∷ plan) more order below later from = (
  all_append (λ (j : Injection). i.step ≤ j.step) plan more order.0
      (all_weaker (λ (j : Injection). n ≤ j.step) (λ (j : Injection). i.step ≤ j.step)
      (λ j b. let before = below.0 in omega (arith, b, before)) more from),
  order_append n plan more order.1 below.1 later from,
)

these_from : (n : ℕ) (now : List ℕ) → AllByRecursion (λ (i : Injection). n ≤ i.step) (before_this n now)
these_from n now = all_map (λ i. n ≤ i.step) (λ handler. record { step = n; handler = handler }) now
    (always (λ handler. n ≤ n) (λ handler. omega arith) now)

these_in_order : (n : ℕ) (now : List ℕ) → AreInOrder (before_this n now)
these_in_order n [] = tt
these_in_order n (handler ∷ now) = (these_from n now, these_in_order n now)

-- ---- the same of the beginning of a plan

until_all : (n : ℕ) (plan : List Injection) → AreBelow n plan → until n plan ≡ plan
until_all n [] below = refl
until_all n (i ∷ plan) below = rw (lt-ltb i.step n below.0) (ap (λ (is : List Injection). i ∷ is) (until_all n plan below.1))

until_none : (n : ℕ) (plan : List Injection) → AllByRecursion (λ (i : Injection). n ≤ i.step) plan → until n plan ≡ []
until_none n [] from = refl
until_none n (i ∷ plan) from = rw (le-ltb i.step n from.0) (until_none n plan from.1)

pub until_extended : (n : ℕ) (plan : List Injection) (now : List ℕ) → AreBelow n plan → until n (plan ++ before_this n now) ≡ plan
until_extended n plan now below =
    filter-append (λ (i : Injection). ltb i.step n) plan (before_this n now)
    ∙ ap (λ (is : List Injection). until n plan ++ is) (until_none n (before_this n now) (these_from n now))
    ∙ append-nil (until n plan) ∙ until_all n plan below

-- one step more
until_more : (n : ℕ) (plan : List Injection) → AreInOrder plan → until (suc n) plan ≡ until n plan ++ before_this n
    (injected plan n)
until_more n [] order = refl
until_more n (i ∷ plan) order = by_test (ltb i.step n)
    (λ t.
    let before : i.step < n = ltb-true i.step n t in
    let early : ltb i.step (suc n) ≡ true = lt-ltb i.step (suc n) (omega arith) in
    let apart : eqb i.step n ≡ false = ne_eqb i.step n (λ e. absurd (omega (arith, e, before))) in
    rw (t, early, apart) (ap (λ (is : List Injection). i ∷ is) (until_more n plan order.1)))
    (λ t.
    let from : n ≤ i.step = ltb-false i.step n t in
    by_test (eqb i.step n)
    (λ u.
    let here : i.step ≡ n = eqb-true i.step n u in
    let early : ltb i.step (suc n) ≡ true = lt-ltb i.step (suc n) (omega arith) in
    let rest : AllByRecursion (λ (j : Injection). n ≤ j.step) plan =
    all_weaker (λ (j : Injection). i.step ≤ j.step) (λ (j : Injection). n ≤ j.step) (λ j l. omega (arith, l, here)) plan order.0 in
    let none : until n plan ≡ [] = until_none n plan rest in
    let more : until (suc n) plan ≡ until n plan ++ before_this n (injected plan n) = until_more n plan order.1 in
    rw (t, u, early) (
    ap (λ (is : List Injection). i ∷ is) more
    ∙ ap (λ (is : List Injection). i ∷ is ++ before_this n (injected plan n)) none
    ∙ ap (λ (m : ℕ). record i { step = m } ∷ before_this n (injected plan n)) here
    ∙ ap (λ (is : List Injection). is ++ (record i { step = n } ∷ before_this n (injected plan n))) (sym none)
    ))
    (λ u.
    let apart : i.step ≢ n = λ e. (let w = eq-eqb i.step n e in absurd (cc)) in
    let late : ltb i.step (suc n) ≡ false = le-ltb i.step (suc n) (omega (arith, from, apart)) in
    rw (t, u, late) (until_more n plan order.1)))

until_few : (n : ℕ) (plan : List Injection) → length (until n plan) ≤ length plan
until_few n [] = omega arith
until_few n (i ∷ plan) = let rest = until_few n plan in by_test (ltb i.step n) (λ t. rw t (omega arith)) (λ t. rw t (omega arith))

all_until : (P : Injection → Type 0) (n : ℕ) (plan : List Injection) → AllByRecursion P plan → AllByRecursion P (until n plan)
all_until P n [] h = tt
all_until P n (i ∷ plan) h = by_test (ltb i.step n) (λ t. rw t (h.0, all_until P n plan h.1)) (λ t. rw t (all_until P n plan h.1))

injected_until : (n m : ℕ) (plan : List Injection) → m < n → injected (until n plan) m ≡ injected plan m
injected_until n m [] l = refl
injected_until n m (i ∷ plan) l = by_test (ltb i.step n)
    (λ t. by_test (eqb i.step m)
    (λ u. rw (t, u) (ap (λ (hs : List ℕ). i.handler ∷ hs) (injected_until n m plan l)))
    (λ u. rw (t, u) (injected_until n m plan l)))
    (λ t.
    let from : n ≤ i.step = ltb-false i.step n t in
    let apart : eqb i.step m ≡ false = ne_eqb i.step m (λ e. absurd (omega (arith, e, from, l))) in
    rw (t, apart) (injected_until n m plan l))

all_injected : (handlers : List ℕ) (n : ℕ) (plan : List Injection) → AllByRecursion
    (λ (i : Injection). Contains handlers i.handler) plan
    → AllByRecursion (Contains handlers) (injected plan n)
all_injected handlers n [] h = tt
all_injected handlers n (i ∷ plan) h = by_test (eqb i.step n)
    (λ t. rw t (h.0, all_injected handlers n plan h.1)) (λ t. rw t (all_injected handlers n plan h.1))

-- ---- runs that get so far

module _ (app : Application) (limits : Limits) (handlers : List ℕ) (most : ℕ) where
  -- the end before this step, with these injections
  abbrev pub end_at : List Injection → ℕ → Option End
  end_at plan n = end_of app limits (state_after app limits plan n)

  -- The injections before this step can come there.
  abbrev pub can_come_at : List Injection → ℕ → Bool
  can_come_at plan n = can_all_come app (injected plan n) (state_after app limits plan n)

  -- injections before this step, in a run that gets so far
  pub record IsBegun (n : ℕ) (plan : List Injection) : Type 0 where
    pub few : length plan ≤ most
    pub in_order : AreInOrder plan
    pub named : AllByRecursion (λ (i : Injection). Contains handlers i.handler) plan
    pub below : AreBelow n plan
    pub goes_on : (m : ℕ) → m < n → end_at plan m ≡ None
    pub can : (m : ℕ) → m < n → can_come_at plan m ≡ true

  same_end : (p q : List Injection) (n : ℕ) → ((m : ℕ) → m < n → injected p m ≡ injected q m) → end_at p n ≡ end_at q n
  same_end p q n agree = ap (λ (s : State). end_of app limits s) (same_before app limits p q n agree)

  -- plans that agree up to a step and at it
  same_can : (p q : List Injection) (n : ℕ) → ((m : ℕ) → m < n → injected p m ≡ injected q m)
      → injected p n ≡ injected q n → can_come_at p n ≡ can_come_at q n
  same_can p q n agree here =
      ap (λ (s : State). can_all_come app (injected p n) s) (same_before app limits p q n agree)
      ∙ ap (λ (now : List ℕ). can_all_come app now (state_after app limits q n)) here

  pub extended : (n : ℕ) (plan : List Injection) (now : List ℕ) → IsBegun n plan → end_at plan n ≡ None
      → length now ≤ most - length plan → AllByRecursion (Contains handlers) now
      → can_all_come app now (state_after app limits plan n) ≡ true → IsBegun (suc n) (plan ++ before_this n now)
  extended n plan now h goes few named can =
      let before : (m k : ℕ) → m ≤ n → k < m → injected (plan ++ before_this n now) k ≡ injected plan k =
      λ m k l less. extended_before plan n now k (omega (arith, l, less)) in
      record {
        few =
            (let room = h.few in
            let long : length (before_this n now) ≡ length now = length_these n now in
            omega (arith, length-append plan (before_this n now)));
        in_order = order_append n plan (before_this n now) h.in_order h.below (these_in_order n now) (these_from n now);
        named =
            all_append (λ (i : Injection). Contains handlers i.handler) plan (before_this n now) h.named
            (all_map (λ (i : Injection). Contains handlers i.handler) (λ x. record { step = n; handler = x }) now named);
        below =
            all_append (λ (i : Injection). i.step < suc n) plan (before_this n now)
            (all_below n (suc n) plan (omega arith) h.below) (these_below n now);
        goes_on = λ m l. by_test (eqb m n)
            (λ t.
            let here : m ≡ n = eqb-true m n t in
            subst (λ (k : ℕ). end_at (plan ++ before_this n now) k ≡ None) (sym here)
            (same_end (plan ++ before_this n now) plan n (λ k less. before n k (omega arith) less) ∙ goes))
            (λ t.
            let apart : m ≢ n = λ e. (let w = eq-eqb m n e in absurd (cc)) in
            same_end (plan ++ before_this n now) plan m (λ k less. before m k (omega arith) less) ∙ h.goes_on m (omega arith));
        can = λ m l. by_test (eqb m n)
            (λ t.
            let here : m ≡ n = eqb-true m n t in
            subst (λ (k : ℕ). can_come_at (plan ++ before_this n now) k ≡ true) (sym here)
            (ap (λ (s : State). can_all_come app (injected (plan ++ before_this n now) n) s)
            (same_before app limits (plan ++ before_this n now) plan n (λ k less. before n k (omega arith) less))
            ∙ ap (λ (all : List ℕ). can_all_come app all (state_after app limits plan n)) (extended_at plan n now h.below) ∙ can))
            (λ t.
            let apart : m ≢ n = λ e. (let w = eq-eqb m n e in absurd (cc)) in
            let less : m < n = omega arith in
            same_can (plan ++ before_this n now) plan m (λ k low. before m k (omega arith) low) (before n m (omega arith) less)
            ∙ h.can m less);
      }

  all_extended : (n : ℕ) (plan : List Injection) → IsBegun n plan → (o : Option End) → end_at plan n ≡ o
      → AllByRecursion (IsBegun (suc n)) (unless_ended o (extensions app limits handlers most n plan))
  all_extended n plan h (Some end) goes = tt
  all_extended n plan h None goes =
      let all = choices handlers (most - length plan) in
      let s : State = state_after app limits plan n in
      all_map (IsBegun (suc n)) (λ now. plan ++ before_this n now) (possible app s all)
      (all_weaker
      (λ now. ((length now ≤ most - length plan) × AllByRecursion (Contains handlers) now) × (can_all_come app now s ≡ true))
      (λ now. IsBegun (suc n) (plan ++ before_this n now)) (λ now is. extended n plan now h goes is.0.0 is.0.1 is.1)
      (possible app s all)
      (all_filter (λ now. (length now ≤ most - length plan) × AllByRecursion (Contains handlers) now)
      (λ now. can_all_come app now s) all (choices_are handlers (most - length plan))))

  pub all_begun : (n : ℕ) → AllByRecursion (IsBegun n) (begun app limits handlers most n)
  all_begun zero = (
    record {
      few = omega arith;
      in_order = tt;
      named = tt;
      below = tt;
      goes_on = λ m l. absurd (omega arith);
      can = λ m l. absurd (omega arith);
    },
    tt,
  )
  all_begun (suc n) =
      all_flat (IsBegun (suc n)) (λ plan. unless_ended (end_at plan n) (extensions app limits handlers most n plan))
      (begun app limits handlers most n)
      (all_weaker (IsBegun n)
      (λ plan. AllByRecursion (IsBegun (suc n)) (unless_ended (end_at plan n) (extensions app limits handlers most n plan)))
      (λ plan h. all_extended n plan h (end_at plan n) refl) (begun app limits handlers most n) (all_begun n))

  -- ---- each placement is had

  until_begun : (n : ℕ) (plan : List Injection) → length plan ≤ most → AreInOrder plan
      → AllByRecursion (λ (i : Injection). Contains handlers i.handler) plan → ((m : ℕ) → m < n → end_at plan m ≡ None)
      → ((m : ℕ) → m < n → can_come_at plan m ≡ true) → Contains (begun app limits handlers most n) (until n plan)
  until_begun zero plan few order named goes can =
      subst (λ (is : List Injection). Contains ([] ∷ []) is)
      (sym (until_none 0 plan (all_if (λ (i : Injection). 0 ≤ i.step) plan (λ i is. omega arith)))) (first_is [] [])
  until_begun (suc n) plan few order named goes can =
      let first = until n plan in
      let now = injected plan n in
      let here : Contains (begun app limits handlers most n) first =
      until_begun n plan few order named (λ m l. goes m (omega arith)) (λ m l. can m (omega arith)) in
      let none : end_at first n ≡ None =
      same_end first plan n (λ m l. injected_until n m plan l) ∙ goes n (omega arith) in
      let more : until (suc n) plan ≡ first ++ before_this n now = until_more n plan order in
      let room : length now ≤ most - length first =
      (let all = until_few (suc n) plan in
      let long = ap length more in
      omega (arith, all, long, few, length-append first (before_this n now), length_these n now)) in
      let chosen : Contains (extensions app limits handlers most n first) (first ++ before_this n now) =
      among_map (λ (hs : List ℕ). first ++ before_this n hs)
      (possible app (state_after app limits first n) (choices handlers (most - length first))) now
      (among_filter (λ hs. can_all_come app hs (state_after app limits first n)) (choices handlers (most - length first)) now
      (choices_have handlers now (most - length first) (all_injected handlers n plan named) room)
      (ap (λ (s : State). can_all_come app now s) (same_before app limits first plan n (λ m l. injected_until n m plan l))
      ∙ can n (omega arith))) in
      let there : Contains (unless_ended (end_at first n) (extensions app limits handlers most n first))
      (first ++ before_this n now) =
      subst (λ (o : Option End). Contains (unless_ended o (extensions app limits handlers most n first))
      (first ++ before_this n now))
      (sym none) chosen in
      subst (Contains (begun app limits handlers most (suc n))) (sym more)
      (among_flat (λ (p : List Injection). unless_ended (end_at p n) (extensions app limits handlers most n p))
      (begun app limits handlers most n) first (first ++ before_this n now) here there)

  abbrev placed : ℕ → List Injection → List Placed
  placed n plan = placed_at plan n (state_after app limits plan n) (end_at plan n)

  later_ended : (n m : ℕ) (p : Placed) → n ≤ m
      → Contains (ended app limits handlers most n) p → Contains (ended app limits handlers most m) p
  later_ended n zero p l h =
      let none : n ≡ 0 = omega arith in subst (λ (k : ℕ). Contains (ended app limits handlers most k) p) none h
  later_ended n (suc m) p l h = by_test (eqb n (suc m))
      (λ t. subst (λ (k : ℕ). Contains (ended app limits handlers most k) p) (eqb-true n (suc m) t) h)
      (λ t.
      let apart : n ≢ suc m = λ e. (let w = eq-eqb n (suc m) e in absurd (cc)) in
      Contains-append_left (ended app limits handlers most m) (flat_map (placed m) (begun app limits handlers most m)) p
      (later_ended n m p (omega arith) h))

  placement_at : (p : Placed) (h : IsPlacement app limits handlers most p) → (o : Option End)
      → o ≡ Some h.run.end → Contains (placed_at p.injections h.run.steps (state_after app limits p.injections h.run.steps) o) p
  placement_at p h o e =
      let run = h.run in
      let q : Placed = record {
        injections = p.injections;
        steps = run.steps;
        ticks = (state_after app limits p.injections run.steps).elapsed;
        end = run.end;
      } in
      let same : q ≡ p =
      ap (λ (e : End). record q { end = e }) (sym h.end)
      ∙ ap (λ (n : ℕ). record q { ticks = n; end = p.end }) (sym h.is_run.elapsed ∙ sym h.ticks)
      ∙ ap (λ (n : ℕ). record p { steps = n }) (sym h.steps) in
      subst (λ (o : Option End). Contains (placed_at p.injections run.steps (state_after app limits p.injections run.steps) o) p)
      (sym e) (subst (Contains (q ∷ [])) same (first_is q []))

  had : (n : ℕ) → begun app limits handlers most n ≡ [] → (p : Placed) → IsPlacement app limits handlers most p
      → Contains (ended app limits handlers most n) p
  had n none p h =
      let run = h.run in
      elim (cases_lt run.steps n) [
        | inl l ↦
            (let all : until run.steps p.injections ≡ p.injections = until_all run.steps p.injections h.come in
            let here : Contains (begun app limits handlers most run.steps) p.injections =
            subst (Contains (begun app limits handlers most run.steps)) all
            (until_begun run.steps p.injections h.few h.in_order h.named h.is_run.goes_on h.can) in
            later_ended (suc run.steps) n p (omega arith)
            (Contains-append_right (ended app limits handlers most run.steps)
            (flat_map (placed run.steps) (begun app limits handlers most run.steps)) p
            (among_flat (placed run.steps) (begun app limits handlers most run.steps) p.injections p here
            (placement_at p h (end_at p.injections run.steps) h.is_run.ends))))
        | inr m ↦
            none_is (until n p.injections)
            (subst (λ (plans : List (List Injection)). Contains plans (until n p.injections)) none
            (until_begun n p.injections h.few h.in_order h.named
            (λ k l. h.is_run.goes_on k (let le : n ≤ run.steps = m in omega arith))
            (λ k l. h.can k (let le : n ≤ run.steps = m in omega arith))))
      ]

  -- ---- each that is had is a placement

  is_placement : (n : ℕ) (plan : List Injection) → IsBegun n plan → (o : Option End) → end_at plan n ≡ o
      → AllByRecursion (IsPlacement app limits handlers most) (placed_at plan n (state_after app limits plan n) o)
  is_placement n plan h None e = tt
  is_placement n plan h (Some end) e = (
    record {
      few = h.few;
      in_order = h.in_order;
      named = h.named;
      run = record {
        events = events_after app limits plan n;
        steps = n;
        ticks = (state_after app limits plan n).elapsed;
        end = end;
      };
      is_run = record { goes_on = h.goes_on; ends = e; trace = refl; elapsed = refl };
      come = h.below;
      can = h.can;
      steps = refl;
      ticks = refl;
      end = refl;
    },
    tt,
  )

  each_ended : (n : ℕ) → AllByRecursion (IsPlacement app limits handlers most) (ended app limits handlers most n)
  each_ended zero = tt
  each_ended (suc n) =
      all_append (IsPlacement app limits handlers most) (ended app limits handlers most n)
      (flat_map (placed n) (begun app limits handlers most n)) (each_ended n)
      (all_flat (IsPlacement app limits handlers most) (placed n) (begun app limits handlers most n)
      (all_weaker (IsBegun n) (λ plan. AllByRecursion (IsPlacement app limits handlers most) (placed n plan))
      (λ plan h. is_placement n plan h (end_at plan n) refl) (begun app limits handlers most n) (all_begun n)))

  -- ---- none is had twice

  -- the choices that can come before this step
  abbrev can_now : ℕ → List Injection → List (List ℕ)
  can_now n plan = possible app (state_after app limits plan n) (choices handlers (most - length plan))

  extensions_differ : AreDistinct handlers → (n : ℕ) (plan : List Injection) → AreBelow n plan → (o : Option End)
      → AreDistinct (unless_ended o (extensions app limits handlers most n plan))
  extensions_differ differ n plan below (Some end) = tt
  extensions_differ differ n plan below None =
      distinct_map (λ (now : List ℕ). plan ++ before_this n now) (λ (longer : List Injection). injected longer n)
      (can_now n plan)
      (all_if (λ now. injected (plan ++ before_this n now) n ≡ now) (can_now n plan) (λ now is. extended_at plan n now below))
      (distinct_filter (λ now. can_all_come app now (state_after app limits plan n)) (choices handlers (most - length plan))
      (choices_differ handlers differ (most - length plan)))

  lead_back : (n : ℕ) (plan : List Injection) → AreBelow n plan → (o : Option End)
      → AllByRecursion (λ longer. until n longer ≡ plan) (unless_ended o (extensions app limits handlers most n plan))
  lead_back n plan below (Some end) = tt
  lead_back n plan below None =
      all_map (λ longer. until n longer ≡ plan) (λ now. plan ++ before_this n now) (can_now n plan)
      (all_if (λ now. until n (plan ++ before_this n now) ≡ plan) (can_now n plan) (λ now is. until_extended n plan now below))

  begun_differ : AreDistinct handlers → (n : ℕ) → AreDistinct (begun app limits handlers most n)
  begun_differ differ zero = (tt, tt)
  begun_differ differ (suc n) =
      distinct_flat (λ (plan : List Injection). unless_ended (end_at plan n) (extensions app limits handlers most n plan)) (until n)
      (begun app limits handlers most n)
      (all_weaker (IsBegun n)
      (λ plan. AllByRecursion (λ longer. until n longer ≡ plan)
      (unless_ended (end_at plan n) (extensions app limits handlers most n plan)))
      (λ plan h. lead_back n plan h.below (end_at plan n)) (begun app limits handlers most n) (all_begun n))
      (all_weaker (IsBegun n) (λ plan. AreDistinct (unless_ended (end_at plan n) (extensions app limits handlers most n plan)))
      (λ plan h. extensions_differ differ n plan h.below (end_at plan n)) (begun app limits handlers most n) (all_begun n))
      (begun_differ differ n)

  abbrev plans_of : List Placed → List (List Injection)
  plans_of ps = map (λ (p : Placed). p.injections) ps

  placed_by : (P : List Injection → Type 0) (n : ℕ) (plan : List Injection) (o : Option End) → P plan
      → AllByRecursion P (plans_of (placed_at plan n (state_after app limits plan n) o))
  placed_by P n plan None h = tt
  placed_by P n plan (Some end) h = (h, tt)

  placed_once : (n : ℕ) (plan : List Injection) (o : Option End)
      → AreDistinct (plans_of (placed_at plan n (state_after app limits plan n) o))
  placed_once n plan None = tt
  placed_once n plan (Some end) = (tt, tt)

  ends_of : (n : ℕ) → AllByRecursion (λ (p : Placed). (p.steps < n) × (end_at p.injections p.steps ≡ Some p.end))
      (ended app limits handlers most n)
  ends_of zero = tt
  ends_of (suc n) =
      all_append (λ (p : Placed). (p.steps < suc n) × (end_at p.injections p.steps ≡ Some p.end))
      (ended app limits handlers most n) (flat_map (placed n) (begun app limits handlers most n))
      (all_weaker (λ (p : Placed). (p.steps < n) × (end_at p.injections p.steps ≡ Some p.end))
      (λ (p : Placed). (p.steps < suc n) × (end_at p.injections p.steps ≡ Some p.end))
      (λ p h. ((let l = h.0 in omega arith), h.1)) (ended app limits handlers most n) (ends_of n))
      (all_flat (λ (p : Placed). (p.steps < suc n) × (end_at p.injections p.steps ≡ Some p.end)) (placed n)
      (begun app limits handlers most n)
      (all_if (λ plan. AllByRecursion (λ (p : Placed). (p.steps < suc n) × (end_at p.injections p.steps ≡ Some p.end))
      (placed n plan))
      (begun app limits handlers most n) (λ plan is. one plan (end_at plan n) refl))) where
        one : (plan : List Injection) (o : Option End) → end_at plan n ≡ o
            → AllByRecursion (λ (p : Placed). (p.steps < suc n) × (end_at p.injections p.steps ≡ Some p.end))
            (placed_at plan n (state_after app limits plan n) o)
        one plan None e = tt
        one plan (Some end) e = ((omega arith, e), tt)

  ended_differ : AreDistinct handlers → (n : ℕ) → AreDistinct (plans_of (ended app limits handlers most n))
  ended_differ differ zero = tt
  ended_differ differ (suc n) =
      let now = flat_map (placed n) (begun app limits handlers most n) in
      let split : plans_of (ended app limits handlers most (suc n))
      ≡ plans_of (ended app limits handlers most n) ++ flat_map (λ plan. plans_of (placed n plan))
      (begun app limits handlers most n) =
      map-append (λ (p : Placed). p.injections) (ended app limits handlers most n) now
      ∙ ap (λ (plans : List (List Injection)). plans_of (ended app limits handlers most n) ++ plans)
      (map_flat (λ (p : Placed). p.injections) (placed n) (begun app limits handlers most n)) in
      subst AreDistinct (sym split)
      (distinct_append (plans_of (ended app limits handlers most n))
      (flat_map (λ plan. plans_of (placed n plan)) (begun app limits handlers most n))
      (ended_differ differ n)
      (distinct_flat (λ (plan : List Injection). plans_of (placed n plan)) (λ (plan : List Injection). plan)
      (begun app limits handlers most n)
      (all_if (λ plan. AllByRecursion (λ z. z ≡ plan) (plans_of (placed n plan))) (begun app limits handlers most n)
      (λ plan is. placed_by (λ z. z ≡ plan) n plan (end_at plan n) refl))
      (all_if (λ plan. AreDistinct (plans_of (placed n plan))) (begun app limits handlers most n)
      (λ plan is. placed_once n plan (end_at plan n)))
      (begun_differ differ n))
      (all_map (λ z. AllByRecursion (λ w. w ≢ z) (flat_map (λ plan. plans_of (placed n plan)) (begun app limits handlers most n)))
      (λ (p : Placed). p.injections) (ended app limits handlers most n)
      (all_weaker (λ (p : Placed). (p.steps < n) × (end_at p.injections p.steps ≡ Some p.end))
      (λ (p : Placed). AllByRecursion (λ w. w ≢ p.injections)
      (flat_map (λ plan. plans_of (placed n plan)) (begun app limits handlers most n)))
      (λ p over.
      all_flat (λ w. w ≢ p.injections) (λ plan. plans_of (placed n plan)) (begun app limits handlers most n)
      (all_weaker (IsBegun n) (λ plan. AllByRecursion (λ w. w ≢ p.injections) (plans_of (placed n plan)))
      (λ plan h. placed_by (λ w. w ≢ p.injections) n plan (end_at plan n)
      (λ e.
      let none : end_at plan p.steps ≡ None = h.goes_on p.steps over.0 in
      let some : end_at plan p.steps ≡ Some p.end = ap (λ (is : List Injection). end_at is p.steps) e ∙ over.1 in
      absurd (cc)))
      (begun app limits handlers most n) (all_begun n)))
      (ended app limits handlers most n) (ends_of n))))

  -- If no run gets beyond a step, those that end before it are all placements.
  pub all_ended : AreDistinct handlers → (n : ℕ) → begun app limits handlers most n ≡ []
      → AreAll app limits handlers most (ended app limits handlers most n)
  all_ended differ n none = record {
    each = each_ended n;
    once = ended_differ differ n;
    whole = had n none;
  }
