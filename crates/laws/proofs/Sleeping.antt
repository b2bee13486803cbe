-- Idle sleeps past no wake time, and past no base interrupt; and up to the first of them.
use Rattle.std.proofs.Common.{max, min, fold, ap, sym, subst, ◌≡◌, ◌-◌, ◌<◌, ◌≤◌, ◌+◌, ℕ, zero, suc, true, ltb, List, [], ◌∷◌, ◌++◌}
use Rattle.std.proofs.Common.{get_or, inl, inr, ◌⊎◌, leb, leb-false, Option, Some, None, refl, ◌∙◌, arith}
use Rattle.std.specs.List.{AllByRecursion, Contains, cons_option, filter, filter_map}
use Rattle.std.specs.Prelude.{map}
use Rattle.std.specs.Option.{IfSome, option_map}
use Rattle.std.proofs.lemmas.Bool.{leb-true, lt-ltb, ltb-true}
use Rattle.std.proofs.lemmas.List.{append_assoc}
use Rattle.std.proofs.lemmas.List.Elements.{Contains-append_cases}
use Rattle.model.specs.Application.{Application, Interrupt, Limits}
use Rattle.model.specs.State.{State, Source, source_at, no_source, Task, wake_time_of, status_at, no_task}
use Rattle.model.specs.Switching.{slice, unless_held, holds_ticks}
use Rattle.model.specs.Time.{advance, increment_tick, jump}
use Rattle.model.specs.Handlers.{interrupt, tick_interrupt, idle, ticks_ahead, ticks_to_wake, ticks_to_interrupt, ticks_to_raised}
use Rattle.model.proofs.Sorting.{by_test}
use Rattle.soundness.proofs.Frames.{keeps-interrupt}
use Rattle.soundness.proofs.Keeping.{Keeps, keeps_both, keeps-slice, keeps-unless_held, keeps-wake_due}
use Rattle.soundness.proofs.Ticking.{either_way, elapsed-tick, idle_jumps, jumped, jump_come}

-- ---- who wakes later, and when

-- Whoever wakes by itself after now does so no sooner than this many ticks from now.
abbrev pub NoneBetween : ℕ → State → Type 0
NoneBetween n s = (i : ℕ) → IfSome (wake_time_of (status_at s i)) (λ w. s.time < w → s.time + n ≤ w)

pub none_in_one : (s : State) → NoneBetween 1 s
none_in_one s i = by_time (wake_time_of (status_at s i)) where
  by_time : (o : Option ℕ) → IfSome o (λ w. s.time < w → s.time + 1 ≤ w)
  by_time None = tt
  by_time (Some w) = λ l. omega arith

least : (a : ℕ) (xs : List ℕ) → fold min a xs ≤ a
least a [] = omega arith
least a (x ∷ xs) = let l = least (min a x) xs in omega arith

-- how many ticks it is to each wake time
abbrev to_wakes : ℕ → List Task → List ℕ
to_wakes now ts = filter_map (λ (t : Task). option_map (λ time. time - now) (wake_time_of t.status)) ts

-- The least of these is no more than any task's.
abbrev IsLeast : ℕ → ℕ → Option ℕ → List ℕ → Type 0
IsLeast now a wake ds = IfSome wake (λ w. fold min a ds ≤ w - now)

least_first : (now a : ℕ) (o : Option ℕ) (ds ys : List ℕ)
    → IsLeast now a o (cons_option (option_map (λ time. time - now) o) ds ++ ys)
least_first now a None ds ys = tt
least_first now a (Some w) ds ys = let l = least (min a (w - now)) (ds ++ ys) in omega arith

least_rest : (now a : ℕ) (o wake : Option ℕ) (ds ys : List ℕ) → ((b : ℕ) → IsLeast now b wake (ds ++ ys))
    → IsLeast now a wake (cons_option (option_map (λ time. time - now) o) ds ++ ys)
least_rest now a None wake ds ys h = h a
least_rest now a (Some w) wake ds ys h = h (min a (w - now))

least_wake : (now : ℕ) (ts : List Task) (ys : List ℕ) (i a : ℕ)
    → IsLeast now a (wake_time_of (get_or ts i no_task).status) (to_wakes now ts ++ ys)
least_wake now [] ys i a = tt
least_wake now (t ∷ ts) ys zero a = least_first now a (wake_time_of t.status) (to_wakes now ts) ys
least_wake now (t ∷ ts) ys (suc i) a =
    least_rest now a (wake_time_of t.status) (wake_time_of (get_or ts i no_task).status)
    (to_wakes now ts) ys (λ b. least_wake now ts ys i b)

-- how many ticks it is until something happens, or none
abbrev first_ahead : Application → Limits → State → ℕ
first_ahead app limits s =
    fold min (limits.ticks - s.elapsed) (ticks_to_wake s ++ (ticks_to_interrupt app s ++ ticks_to_raised s))

-- Idle sleeps for so many, or for one.
ahead : (app : Application) (limits : Limits) (s : State) → ticks_ahead app limits s ≡ max 1 (first_ahead app limits s)
ahead app limits s =
    ap (λ (ds : List ℕ). max 1 (fold min (limits.ticks - s.elapsed) ds))
    (append_assoc (ticks_to_wake s) (ticks_to_interrupt app s) (ticks_to_raised s))

-- Idle jumps over nobody's wake time.
pub none_ahead : (app : Application) (limits : Limits) (s : State) → NoneBetween (ticks_ahead app limits s) s
none_ahead app limits s i =
    by_time (wake_time_of (status_at s i))
    (least_wake s.time s.tasks (ticks_to_interrupt app s ++ ticks_to_raised s) i (limits.ticks - s.elapsed)) where
      by_time : (o : Option ℕ) → IfSome o (λ w. first_ahead app limits s ≤ w - s.time)
          → IfSome o (λ w. s.time < w → s.time + ticks_ahead app limits s ≤ w)
      by_time None h = tt
      by_time (Some w) h = λ l. let e = ahead app limits s in omega arith

-- ---- base interrupts

least_appended : (a : ℕ) (xs ys : List ℕ) (n : ℕ) → ((b : ℕ) → fold min b ys ≤ n) → fold min a (xs ++ ys) ≤ n
least_appended a [] ys n h = h a
least_appended a (x ∷ xs) ys n h = least_appended (min a x) xs ys n h

-- how many ticks it is to each of these interrupts that is still to come
abbrev to_come : ℕ → List Interrupt → List ℕ
to_come elapsed is = map (λ (i : Interrupt). i.tick - elapsed) (filter (λ (i : Interrupt). ltb elapsed i.tick) is)

-- This many are no more than to any.
abbrev NonePast : ℕ → ℕ → List Interrupt → Type 0
NonePast n elapsed is = AllByRecursion (λ (i : Interrupt). elapsed < i.tick → n ≤ i.tick - elapsed) is

-- the same of the least of them, and of others before them
abbrev IsLeastPast : ℕ → List ℕ → List Interrupt → Type 0
IsLeastPast elapsed ds is = AllByRecursion (λ (i : Interrupt). elapsed < i.tick → (a : ℕ) → fold min a ds ≤ i.tick - elapsed) is

past_more : (elapsed d : ℕ) (ds : List ℕ) (is : List Interrupt) → IsLeastPast elapsed ds is → IsLeastPast elapsed (d ∷ ds) is
past_more elapsed d ds [] h = tt
past_more elapsed d ds (i ∷ is) h = ((λ l a. h.0 l (min a d)), past_more elapsed d ds is h.1)

least_past : (elapsed : ℕ) (is : List Interrupt) (ys : List ℕ) → IsLeastPast elapsed (to_come elapsed is ++ ys) is
least_past elapsed [] ys = tt
least_past elapsed (i ∷ is) ys = by_test (ltb elapsed i.tick)
    (λ t.
    let more : to_come elapsed (i ∷ is) ++ ys ≡ (i.tick - elapsed) ∷ (to_come elapsed is ++ ys) = rw t refl in
    subst (λ (ds : List ℕ). IsLeastPast elapsed ds (i ∷ is)) (sym more) (
      (λ l a. least_to (min a (i.tick - elapsed)) (i.tick - elapsed) (to_come elapsed is ++ ys) (below a (i.tick - elapsed))),
      past_more elapsed (i.tick - elapsed) (to_come elapsed is ++ ys) is (least_past elapsed is ys),
    ))
    (λ t.
    let same : to_come elapsed (i ∷ is) ++ ys ≡ to_come elapsed is ++ ys = rw t refl in
    subst (λ (ds : List ℕ). IsLeastPast elapsed ds (i ∷ is)) (sym same) (
      (λ l a. absurd (let u = lt-ltb elapsed i.tick l in cc)),
      least_past elapsed is ys,
    )) where
      below : (a d : ℕ) → min a d ≤ d
      below a d = omega arith

      least_to : (a d : ℕ) (xs : List ℕ) → a ≤ d → fold min a xs ≤ d
      least_to a d xs l = let m = least a xs in omega arith

none_past : (a elapsed : ℕ) (xs ys : List ℕ) (is : List Interrupt)
    → IsLeastPast elapsed ys is → NonePast (fold min a (xs ++ ys)) elapsed is
none_past a elapsed xs ys [] h = tt
none_past a elapsed xs ys (i ∷ is) h =
    ((λ l. least_appended a xs ys (i.tick - elapsed) (λ b. h.0 l b)), none_past a elapsed xs ys is h.1)

-- ---- raised handlers

-- how many ticks it is to each tick for which a source is raised
abbrev to_raised : ℕ → List Source → List ℕ
to_raised elapsed xs = filter_map (λ (x : Source). option_map (λ tick. tick - elapsed) x.raised) xs

raised_first : (elapsed a : ℕ) (o : Option ℕ) (ds : List ℕ)
    → IsLeast elapsed a o (cons_option (option_map (λ tick. tick - elapsed) o) ds)
raised_first elapsed a None ds = tt
raised_first elapsed a (Some r) ds = let l = least (min a (r - elapsed)) ds in omega arith

raised_rest : (elapsed a : ℕ) (o raised : Option ℕ) (ds : List ℕ) → ((b : ℕ) → IsLeast elapsed b raised ds)
    → IsLeast elapsed a raised (cons_option (option_map (λ tick. tick - elapsed) o) ds)
raised_rest elapsed a None raised ds h = h a
raised_rest elapsed a (Some r) raised ds h = h (min a (r - elapsed))

least_raised : (elapsed : ℕ) (xs : List Source) (i a : ℕ) → IsLeast elapsed a (get_or xs i no_source).raised (to_raised elapsed xs)
least_raised elapsed [] i a = tt
least_raised elapsed (x ∷ xs) zero a = raised_first elapsed a x.raised (to_raised elapsed xs)
least_raised elapsed (x ∷ xs) (suc i) a =
    raised_rest elapsed a x.raised (get_or xs i no_source).raised (to_raised elapsed xs) (λ b. least_raised elapsed xs i b)

-- also after others
least_behind : (elapsed a : ℕ) (raised : Option ℕ) (xs ys : List ℕ) → ((b : ℕ) → IsLeast elapsed b raised ys)
    → IsLeast elapsed a raised (xs ++ ys)
least_behind elapsed a raised [] ys h = h a
least_behind elapsed a raised (x ∷ xs) ys h = least_behind elapsed (min a x) raised xs ys h

-- A tick for which a handler is raised, and which is still to come, does so no sooner than this many ticks from now.
abbrev pub NoneRaisedBetween : ℕ → State → Type 0
NoneRaisedBetween n s = (handler : ℕ) → IfSome (source_at s handler).raised (λ r. s.elapsed < r → s.elapsed + n ≤ r)

least_ahead : (app : Application) (limits : Limits) (s : State) (handler : ℕ)
    → IfSome (source_at s handler).raised (λ r. first_ahead app limits s ≤ r - s.elapsed)
least_ahead app limits s handler =
    least_behind s.elapsed (limits.ticks - s.elapsed) (source_at s handler).raised (ticks_to_wake s)
    (ticks_to_interrupt app s ++ ticks_to_raised s)
    (λ b. least_behind s.elapsed b (source_at s handler).raised (ticks_to_interrupt app s) (ticks_to_raised s)
    (λ c. least_raised s.elapsed s.sources handler c))

-- Idle jumps over none.
pub none_raised_ahead : (app : Application) (limits : Limits) (s : State) → NoneRaisedBetween (ticks_ahead app limits s) s
none_raised_ahead app limits s handler = by_tick (source_at s handler).raised (least_ahead app limits s handler) where
  by_tick : (o : Option ℕ) → IfSome o (λ r. first_ahead app limits s ≤ r - s.elapsed)
      → IfSome o (λ r. s.elapsed < r → s.elapsed + ticks_ahead app limits s ≤ r)
  by_tick None h = tt
  by_tick (Some r) h = λ l. let e = ahead app limits s in omega arith

-- ---- idle

come-time : (s : State) → (increment_tick s).time ≤ s.time + 1
unfolding increment_tick advance
come-time s = by_test (holds_ticks s)
    (λ t. rw t (omega arith))
    (λ t. rw t (let e = (keeps-wake_due (record s { time = s.time + 1; elapsed = s.elapsed + 1 })).time in omega arith))

-- base interrupts, and a switch, let no time pass
keeps-end : (app : Application) (s : State) → Keeps s (unless_held slice (interrupt app s))
keeps-end app s =
    let told : State = interrupt app s in
    keeps_both s told (unless_held slice told) (keeps-interrupt app s) (keeps-unless_held slice told keeps-slice)

time-tick : (app : Application) (s : State) → (tick_interrupt app s).time ≤ s.time + 1
unfolding tick_interrupt
time-tick app s = let e = (keeps-end app (increment_tick s)).time in let l = come-time s in omega arith

keeps-jumped : (app : Application) (n : ℕ) (s : State) → Keeps (jump_come n s) (jumped app n s)
unfolding jump
keeps-jumped app n s =
    keeps_both (jump_come n s) (jump n s) (jumped app n s) (keeps-wake_due (jump_come n s)) (keeps-end app (jump n s))

module _ (app : Application) (limits : Limits) (s : State) where
  time-idle : (w : ℕ) → s.time + 1 ≤ w → s.time + ticks_ahead app limits s ≤ w → (idle app limits s).time ≤ w
  unfolding idle
  time-idle w one many =
      let n : ℕ = ticks_ahead app limits s in
      either_way (λ (t : State). t.time ≤ w) app.tickless (jumped app n s) (tick_interrupt app s)
      (let e : (jumped app n s).time ≡ s.time + n = (keeps-jumped app n s).time in omega arith)
      (let l = time-tick app s in omega arith)

  elapsed_within : (most : ℕ) → s.elapsed + 1 ≤ most
      → s.elapsed + ticks_ahead app limits s ≤ most → (idle app limits s).elapsed ≤ most
  unfolding idle
  elapsed_within most one many =
      let n : ℕ = ticks_ahead app limits s in
      either_way (λ (t : State). t.elapsed ≤ most) app.tickless (jumped app n s) (tick_interrupt app s)
      (let e : (jumped app n s).elapsed ≡ s.elapsed + n = (keeps-jumped app n s).elapsed in omega arith)
      (let e = elapsed-tick app s in omega arith)

  pub idle_before_wake : (task : ℕ) → IfSome (wake_time_of (status_at s task)) (λ w. s.time < w → (idle app limits s).time ≤ w)
  idle_before_wake task = by_time (wake_time_of (status_at s task)) (none_ahead app limits s task) where
    by_time : (o : Option ℕ) → IfSome o (λ w. s.time < w → s.time + ticks_ahead app limits s ≤ w)
        → IfSome o (λ w. s.time < w → (idle app limits s).time ≤ w)
    by_time None h = tt
    by_time (Some w) h = λ l. time-idle w (omega arith) (h l)

  before_each : (is : List Interrupt) → NonePast (first_ahead app limits s) s.elapsed is
      → AllByRecursion (λ (i : Interrupt). s.elapsed < i.tick → (idle app limits s).elapsed ≤ i.tick) is
  before_each [] h = tt
  before_each (i ∷ is) h =
      ((λ l. let m = h.0 l in let e = ahead app limits s in elapsed_within i.tick (omega arith) (omega arith)), before_each is h.1)

  pub idle_before_interrupts : AllByRecursion
      (λ (i : Interrupt). s.elapsed < i.tick → (idle app limits s).elapsed ≤ i.tick) app.interrupts
  idle_before_interrupts =
      before_each app.interrupts (none_past (limits.ticks - s.elapsed) s.elapsed (ticks_to_wake s)
      (ticks_to_interrupt app s ++ ticks_to_raised s) app.interrupts (least_past s.elapsed app.interrupts (ticks_to_raised s)))

  pub idle_before_raised : (handler : ℕ) → IfSome (source_at s handler).raised
      (λ tick. s.elapsed < tick → (idle app limits s).elapsed ≤ tick)
  idle_before_raised handler = by_tick (source_at s handler).raised (none_raised_ahead app limits s handler) where
    by_tick : (o : Option ℕ) → IfSome o (λ r. s.elapsed < r → s.elapsed + ticks_ahead app limits s ≤ r)
        → IfSome o (λ r. s.elapsed < r → (idle app limits s).elapsed ≤ r)
    by_tick None h = tt
    by_tick (Some r) h = λ l. elapsed_within r (omega arith) (h l)

-- ---- what it sleeps up to

-- who is in a list, one by one
here : (x : ℕ) (xs : List ℕ) → Contains (x ∷ xs) x
here x xs = (0, omega arith, refl)

there : (y x : ℕ) (xs : List ℕ) → Contains xs x → Contains (y ∷ xs) x
there y x xs (k, l, e) = (suc k, omega arith, e)

here_or_there : (y x : ℕ) (xs : List ℕ) → Contains (y ∷ xs) x → (y ≡ x) ⊎ Contains xs x
here_or_there y x xs (zero, l, e) = inl e
here_or_there y x xs (suc k, l, e) = inr (k, omega arith, e)

nowhere : (x : ℕ) → Contains [] x → ⊥
nowhere x (k, l, e) = omega arith

reached : (a : ℕ) (xs : List ℕ) → (fold min a xs ≡ a) ⊎ Contains xs (fold min a xs)
reached a [] = inl refl
reached a (x ∷ xs) = elim (reached (min a x) xs) [
  | inl e ↦ by_test (leb a x)
      (λ t. inl (let l = leb-true a x t in omega arith))
      (λ t.
      inr (let l = leb-false a x t in let f : x ≡ fold min (min a x) xs = omega arith in subst (Contains (x ∷ xs)) f (here x xs)))
  | inr c ↦ inr (there x (fold min (min a x) xs) xs c)
]

-- the times at which tasks wake by themselves
abbrev pub wake_times : List Task → List ℕ
wake_times ts = filter_map (λ (t : Task). wake_time_of t.status) ts

one_wake : (now d : ℕ) (o : Option ℕ) (ds ws : List ℕ) → IfSome o (λ w. now < w) → (Contains ds d → Contains ws (now + d))
    → Contains (cons_option (option_map (λ time. time - now) o) ds) d → Contains (cons_option o ws) (now + d)
one_wake now d None ds ws later k c = k c
one_wake now d (Some w) ds ws later k c = elim (here_or_there (w - now) d ds c) [
  | inl e ↦ let f : w ≡ now + d = omega arith in subst (Contains (w ∷ ws)) f (here w ws)
  | inr more ↦ there w (now + d) ws (k more)
]

hits_wake : (now d : ℕ) (ts : List Task) → ((i : ℕ) → IfSome (wake_time_of (get_or ts i no_task).status) (λ w. now < w))
    → Contains (to_wakes now ts) d → Contains (wake_times ts) (now + d)
hits_wake now d [] later c = absurd (nowhere d c)
hits_wake now d (t ∷ ts) later c =
    one_wake now d (wake_time_of t.status) (to_wakes now ts) (wake_times ts)
    (later 0) (λ more. hits_wake now d ts (λ i. later (suc i)) more) c

hits_interrupt : (elapsed d : ℕ) (is : List Interrupt) → Contains (to_come elapsed is) d
    → Contains (map (λ (i : Interrupt). i.tick) is) (elapsed + d)
hits_interrupt elapsed d [] c = absurd (nowhere d c)
hits_interrupt elapsed d (i ∷ is) c = by_test (ltb elapsed i.tick)
    (λ t.
    let more : to_come elapsed (i ∷ is) ≡ (i.tick - elapsed) ∷ to_come elapsed is = rw t refl in
    let l = ltb-true elapsed i.tick t in
    let ticks : List ℕ = map (λ (i : Interrupt). i.tick) is in
    elim (here_or_there (i.tick - elapsed) d (to_come elapsed is) (subst (λ (ds : List ℕ). Contains ds d) more c)) [
      | inl e ↦ let f : i.tick ≡ elapsed + d = omega arith in subst (Contains (i.tick ∷ ticks)) f (here i.tick ticks)
      | inr rest ↦ there i.tick (elapsed + d) ticks (hits_interrupt elapsed d is rest)
    ])
    (λ t.
    let same : to_come elapsed (i ∷ is) ≡ to_come elapsed is = rw t refl in
    there i.tick (elapsed + d) (map (λ (i : Interrupt). i.tick) is)
    (hits_interrupt elapsed d is (subst (λ (ds : List ℕ). Contains ds d) same c)))

-- They are ahead.
one_far : (now d : ℕ) (o : Option ℕ) (ds : List ℕ) → IfSome o (λ w. now < w) → (Contains ds d → 1 ≤ d)
    → Contains (cons_option (option_map (λ time. time - now) o) ds) d → 1 ≤ d
one_far now d None ds later k c = k c
one_far now d (Some w) ds later k c = elim (here_or_there (w - now) d ds c) [ inl e ↦ omega arith | inr more ↦ k more ]

far_wake : (now d : ℕ) (ts : List Task) → ((i : ℕ) → IfSome (wake_time_of (get_or ts i no_task).status) (λ w. now < w))
    → Contains (to_wakes now ts) d → 1 ≤ d
far_wake now d [] later c = absurd (nowhere d c)
far_wake now d (t ∷ ts) later c =
    one_far now d (wake_time_of t.status) (to_wakes now ts) (later 0) (λ more. far_wake now d ts (λ i. later (suc i)) more) c

far_interrupt : (elapsed d : ℕ) (is : List Interrupt) → Contains (to_come elapsed is) d → 1 ≤ d
far_interrupt elapsed d [] c = absurd (nowhere d c)
far_interrupt elapsed d (i ∷ is) c = by_test (ltb elapsed i.tick)
    (λ t.
    let more : to_come elapsed (i ∷ is) ≡ (i.tick - elapsed) ∷ to_come elapsed is = rw t refl in
    let l = ltb-true elapsed i.tick t in
    elim (here_or_there (i.tick - elapsed) d (to_come elapsed is) (subst (λ (ds : List ℕ). Contains ds d) more c)) [
      | inl e ↦ omega arith
      | inr rest ↦ far_interrupt elapsed d is rest
    ])
    (λ t.
    let same : to_come elapsed (i ∷ is) ≡ to_come elapsed is = rw t refl in
    far_interrupt elapsed d is (subst (λ (ds : List ℕ). Contains ds d) same c))

-- the ticks for which sources are raised
abbrev pub raised_ticks : List Source → List ℕ
raised_ticks xs = filter_map (λ (x : Source). x.raised) xs

hits_raised : (elapsed d : ℕ) (xs : List Source) → ((i : ℕ) → IfSome (get_or xs i no_source).raised (λ r. elapsed < r))
    → Contains (to_raised elapsed xs) d → Contains (raised_ticks xs) (elapsed + d)
hits_raised elapsed d [] later c = absurd (nowhere d c)
hits_raised elapsed d (x ∷ xs) later c =
    one_wake elapsed d x.raised (to_raised elapsed xs) (raised_ticks xs)
    (later 0) (λ more. hits_raised elapsed d xs (λ i. later (suc i)) more) c

far_raised : (elapsed d : ℕ) (xs : List Source) → ((i : ℕ) → IfSome (get_or xs i no_source).raised (λ r. elapsed < r))
    → Contains (to_raised elapsed xs) d → 1 ≤ d
far_raised elapsed d [] later c = absurd (nowhere d c)
far_raised elapsed d (x ∷ xs) later c =
    one_far elapsed d x.raised (to_raised elapsed xs) (later 0) (λ more. far_raised elapsed d xs (λ i. later (suc i)) more) c

module _ (app : Application) (limits : Limits) (s : State) (on : app.tickless ≡ true)
    (later : (i : ℕ) → IfSome (wake_time_of (status_at s i)) (λ w. s.time < w))
    (raised_later : (i : ℕ) → IfSome (source_at s i).raised (λ r. s.elapsed < r)) where
  abbrev slept : ℕ
  slept = ticks_ahead app limits s

  abbrev first : ℕ
  first = first_ahead app limits s

  slept_time : (idle app limits s).time ≡ s.time + slept
  slept_time = ap (λ (t : State). t.time) (idle_jumps app limits s on) ∙ (keeps-jumped app slept s).time

  slept_elapsed : (idle app limits s).elapsed ≡ s.elapsed + slept
  slept_elapsed = ap (λ (t : State). t.elapsed) (idle_jumps app limits s on) ∙ (keeps-jumped app slept s).elapsed

  -- It is no further than to what happens first.
  slept_first : 1 ≤ first → slept ≡ first
  slept_first some = let e = ahead app limits s in omega arith

  pub sleeps_until : Contains (wake_times s.tasks) (idle app limits s).time
      ⊎ (Contains (map (λ (i : Interrupt). i.tick) app.interrupts) (idle app limits s).elapsed
      ⊎ (Contains (raised_ticks s.sources) (idle app limits s).elapsed
      ⊎ ((idle app limits s).elapsed ≡ max limits.ticks (s.elapsed + 1))))
  sleeps_until = elim (reached (limits.ticks - s.elapsed) (ticks_to_wake s ++ (ticks_to_interrupt app s ++ ticks_to_raised s))) [
    | inl e ↦ inr (inr (inr (let t = slept_elapsed in let a = ahead app limits s in omega arith)))
    | inr c ↦ elim (Contains-append_cases (ticks_to_wake s) (ticks_to_interrupt app s ++ ticks_to_raised s) first c) [
      | inl w ↦
          let at : s.time + first ≡ (idle app limits s).time =
          (let t = slept_time in let n = slept_first (far_wake s.time first s.tasks later w) in omega arith) in
          inl (subst (Contains (wake_times s.tasks)) at (hits_wake s.time first s.tasks later w))
      | inr more ↦ elim (Contains-append_cases (ticks_to_interrupt app s) (ticks_to_raised s) first more) [
        | inl i ↦
            let at : s.elapsed + first ≡ (idle app limits s).elapsed =
            (let t = slept_elapsed in let n = slept_first (far_interrupt s.elapsed first app.interrupts i) in omega arith) in
            inr (inl (subst (Contains (map (λ (i : Interrupt). i.tick) app.interrupts)) at
            (hits_interrupt s.elapsed first app.interrupts i)))
        | inr r ↦
            let at : s.elapsed + first ≡ (idle app limits s).elapsed =
            (let t = slept_elapsed in let n = slept_first (far_raised s.elapsed first s.sources raised_later r) in omega arith) in
            inr (inr (inl (subst (Contains (raised_ticks s.sources)) at (hits_raised s.elapsed first s.sources raised_later r))))
      ]
    ]
  ]
