-- Nothing is pending after a step before which no critical section is open. And a step into which nothing is injected, before which
-- nothing is pending, begins with nothing.
use Rattle.std.proofs.Common.{arith, ◌+◌, true, eqb, ◌≡◌, ◌≢◌, ◌<◌, ◌≤◌, ◌∙◌, ℕ, zero, suc, Bool, false, List, [], ◌∷◌, ◌++◌, map}
use Rattle.std.proofs.Common.{get_or, refl, ap, sym, subst}
use Rattle.std.specs.List.{AllByRecursion, filter, range_with_len}
use Rattle.std.specs.Prelude.{length}
use Rattle.model.specs.declared.plan.Injection.{Injection}
use Rattle.model.specs.Application.{Application, Handler, Limits}
use Rattle.model.specs.State.{State, Source, no_source, source_at, for_each}
use Rattle.model.specs.Switching.{make_ready, settle, is_critical}
use Rattle.model.specs.Handlers.{serve, inject, pend, pending_of, none_pending, serve_pending}
use Rattle.model.specs.Step.{act_current, before_step, step, reset, ready_at_reset, nobody_ready, source_at_reset, with_ops}
use Rattle.model.specs.Run.{injected, state_after}
use Rattle.model.specs.Invariant.{IsNonePending}
use Rattle.model.proofs.Sorting.{by_test}
use Rattle.model.proofs.Lists.{eqb-refl, eqb-same}
use Rattle.soundness.proofs.Keeping.{pending_in, keeps-unless_held, keeps-settle, keeps-all_ready}
use Rattle.soundness.proofs.Coming.{comes-serve, comes-inject, ticks_before, ticks_in}
use Rattle.soundness.proofs.Moving.{pending-act_current}

-- ---- lists of sources

abbrev pub AreNonePending : List Source → Type 0
AreNonePending xs = AllByRecursion (λ (x : Source). x.pending ≡ false) xs

pub none_now : (xs : List Source) → AreNonePending (map (λ (x : Source). record x { pending = false }) xs)
none_now [] = tt
none_now (x ∷ xs) = (refl, none_now xs)

pub same_sources : (xs : List Source) → AreNonePending xs → map (λ (x : Source). record x { pending = false }) xs ≡ xs
same_sources [] h = refl
same_sources (x ∷ xs) h =
    ap (λ (b : Bool). record x { pending = b } ∷ map (λ (y : Source). record y { pending = false }) xs) (sym h.0)
    ∙ ap (λ (ys : List Source). x ∷ ys) (same_sources xs h.1)

pub not_pending : (xs : List Source) (i : ℕ) → AreNonePending xs → (get_or xs i no_source).pending ≡ false
not_pending [] i h = refl
not_pending (x ∷ xs) zero h = h.0
not_pending (x ∷ xs) (suc i) h = not_pending xs i h.1

none_left : (p : ℕ → Bool) (ks : List ℕ) → ((k : ℕ) → p k ≡ false) → filter p ks ≡ []
none_left p [] off = refl
none_left p (k ∷ ks) off = rw (off k) (none_left p ks off)

all_off : (xs : List Source) → AreNonePending xs → AllByRecursion (λ (b : Bool). b ≡ false) (map (λ (x : Source). x.pending) xs)
all_off [] h = tt
all_off (x ∷ xs) h = (h.0, all_off xs h.1)

off_all : (xs : List Source) → AllByRecursion (λ (b : Bool). b ≡ false) (map (λ (x : Source). x.pending) xs) → AreNonePending xs
off_all [] h = tt
off_all (x ∷ xs) h = (h.0, off_all xs h.1)

-- Where the same are pending, none is pending in both or in neither.
pub none_by : (s t : State) → pending_in t ≡ pending_in s → IsNonePending s → IsNonePending t
none_by s t same h =
    off_all t.sources (subst (AllByRecursion (λ (b : Bool). b ≡ false)) (sym same) (all_off s.sources h))

-- ---- a step begins with nothing

pub pending_none : (s : State) → IsNonePending s → pending_of s ≡ []
pending_none s h =
    none_left (λ source. (source_at s source).pending) (range_with_len 0 (length s.sources)) (λ i. not_pending s.sources i h)

-- So no tick comes either, if none is injected.
pub no_ticks_before : (app : Application) (s : State) → IsNonePending s → ticks_before app [] s ≡ 0
no_ticks_before app s h = ap (λ (sources : List ℕ). ticks_in app sources + 0) (pending_none s h)

pub served_none : (app : Application) (s : State) → IsNonePending s → serve_pending app s ≡ s
unfolding serve_pending
served_none app s h =
    ap (λ (handlers : List ℕ). for_each (serve app) handlers (none_pending s)) (pending_none s h)
    ∙ ap (λ (xs : List Source). record s { sources = xs }) (same_sources s.sources h)

pub begun_alone : (app : Application) (s : State) → IsNonePending s → before_step app [] s ≡ record s { log = [] }
unfolding before_step
begun_alone app s h =
    let r : State = record s { log = [] } in
    by_test (is_critical r) (λ t. rw t refl) (λ t. rw t (served_none app r h))

-- With handlers, and where no critical section is open, they come.
pub begun_with : (app : Application) (handlers : List ℕ) (s : State) → IsNonePending s → is_critical s ≡ false
    → before_step app handlers s ≡ for_each (inject app) handlers (record s { log = [] })
unfolding before_step
begun_with app handlers s h open_ =
    let r : State = record s { log = [] } in
    rw open_ (ap (λ (x : State). for_each (inject app) handlers x) (served_none app r h))

-- Where none is open, all that is pending comes, and then what is injected.
pub begun_open : (app : Application) (sources : List ℕ) (s : State) → is_critical s ≡ false → before_step app sources s
    ≡ for_each (inject app) sources (for_each (serve app) (pending_of s) (none_pending (record s { log = [] })))
unfolding before_step serve_pending
begun_open app sources s off = rw off refl

-- Where one is open, it becomes pending.
pub begun_critical : (app : Application) (sources : List ℕ) (s : State) → is_critical s ≡ true
    → before_step app sources s ≡ for_each (pend app) sources (record s { log = [] })
unfolding before_step
begun_critical app sources s on = rw on refl

-- ---- nothing is pending after a step

pending-served : (app : Application) (handlers : List ℕ) (s : State) → pending_in (for_each (serve app) handlers s) ≡ pending_in s
pending-served app [] s = refl
pending-served app (handler ∷ handlers) s =
    pending-served app handlers (serve app handler s) ∙ (comes-serve app handler s).pending

pub pending-injected : (app : Application) (handlers : List ℕ) (s : State)
    → pending_in (for_each (inject app) handlers s) ≡ pending_in s
pending-injected app [] s = refl
pending-injected app (handler ∷ handlers) s =
    pending-injected app handlers (inject app handler s) ∙ (comes-inject app handler s).pending

none_begun : (app : Application) (handlers : List ℕ) (s : State) → is_critical s ≡ false
    → IsNonePending (before_step app handlers s)
unfolding before_step serve_pending
none_begun app handlers s open_ =
    let r : State = none_pending (record s { log = [] }) in
    let served : State = for_each (serve app) (pending_of s) r in
    let t : State = for_each (inject app) handlers served in
    let same : pending_in t ≡ pending_in r = pending-injected app handlers served ∙ pending-served app (pending_of s) r in
    rw open_ (none_by r t same (none_now s.sources))

-- What a step does behind its handlers leaves those pending that are so.
pub pending-step : (app : Application) (limits : Limits) (handlers : List ℕ) (s : State)
    → pending_in (step app limits handlers s) ≡ pending_in (before_step app handlers s)
unfolding step
pending-step app limits handlers s =
    let begun : State = before_step app handlers s in
    let acted : State = act_current app limits begun.current begun in
    (keeps-unless_held settle acted keeps-settle).pending ∙ pending-act_current app limits begun.current begun

pub none_after : (app : Application) (limits : Limits) (handlers : List ℕ) (s : State) → is_critical s ≡ false
    → IsNonePending (step app limits handlers s)
none_after app limits handlers s open_ =
    none_by (before_step app handlers s) (step app limits handlers s) (pending-step app limits handlers s)
    (none_begun app handlers s open_)

-- Where nothing is pending, and nothing is injected, nothing is pending behind the step.
pub none_still : (app : Application) (limits : Limits) (s : State) → IsNonePending s → IsNonePending (step app limits [] s)
none_still app limits s h =
    let same : pending_in (step app limits [] s) ≡ pending_in s =
    pending-step app limits [] s ∙ ap pending_in (begun_alone app s h) in
    none_by s (step app limits [] s) same h

-- ---- at reset

pub none_listed : (handlers : List Handler) → AreNonePending (map source_at_reset handlers ++ no_source ∷ [])
none_listed [] = (refl, tt)
none_listed (handler ∷ handlers) = (refl, none_listed handlers)

none_ready : (app : Application) (is : List ℕ) (s : State) → IsNonePending s → IsNonePending (for_each make_ready is s)
none_ready app is s h = none_by s (for_each make_ready is s) (keeps-all_ready is s).pending h

pub none_at_reset : (app : Application) → IsNonePending (reset app)
unfolding reset ready_at_reset nobody_ready
none_at_reset app = none_ready app (with_ops 0 app.tasks) (nobody_ready app) (none_listed app.handlers)

-- ---- nor between two steps of a run, where nothing is injected in between

pub none_between : (app : Application) (limits : Limits) (plan : List Injection) (n m : ℕ) → n ≤ m
    → ((k : ℕ) → n ≤ k → k < m → injected plan k ≡ []) → IsNonePending (state_after app limits plan n)
    → IsNonePending (state_after app limits plan m)
none_between app limits plan n zero le none before =
    let z : n ≡ 0 = omega arith in subst (λ (k : ℕ). IsNonePending (state_after app limits plan k)) z before
none_between app limits plan n (suc m) le none before = by_test (eqb n (suc m))
    (λ t. subst (λ (k : ℕ). IsNonePending (state_after app limits plan k)) (eqb-same n (suc m) t) before)
    (λ t.
    let apart : n ≢ suc m = (λ q. let w : eqb n (suc m) ≡ true = rw q (eqb-refl (suc m)) in absurd (cc)) in
    let s : State = state_after app limits plan m in
    let at : IsNonePending s = none_between app limits plan n m (omega arith) (λ k from l. none k from (omega arith)) before in
    subst (λ (handlers : List ℕ). IsNonePending (step app limits handlers s)) (sym (none m (omega arith) (omega arith)))
    (none_still app limits s at))
