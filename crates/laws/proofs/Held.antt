-- While the scheduler is held an interrupt switches nothing, and a tick wakes nobody.
use Rattle.std.proofs.Common.{◌≡◌, ◌+◌, ◌-◌, ◌++◌, ℕ, zero, suc, true, false, List, [], ◌∷◌, length, ap, ap₂, ◌∙◌, refl, arith}
use Rattle.std.specs.List.{filter, range_with_len}
use Rattle.model.specs.declared.call.Phase.{Phase}
use Rattle.model.specs.Application.{Application, interrupts_at}
use Rattle.model.specs.State.{State, for_each, source_at}
use Rattle.model.specs.Switching.{holds_ticks, is_held, preempt, slice, unless_held}
use Rattle.model.specs.Time.{advance, increment_tick, apply_one, apply_held}
use Rattle.model.specs.Waiting.{let_go, end_hold}
use Rattle.model.specs.Handlers.{can_come, come, is_raised_for, none_raised_now, interrupt, is_tick, serve, inject, tick_interrupt}
use Rattle.soundness.proofs.Settled.{when_held, held_as_it_was}
use Rattle.soundness.proofs.Keeping.{keeps-wake_due}
use Rattle.soundness.proofs.Ticking.{applies, held-told}
use Rattle.soundness.proofs.Going.{spares-interrupt}
use Rattle.soundness.proofs.Ticked.{current-wake_due}
use Rattle.model.proofs.Lists.{eqb-refl}
use Rattle.model.proofs.Sorting.{by_test}
use Rattle.soundness.proofs.Handled.{spares-come}

handler_runs : (app : Application) (handler : ℕ) (s : State) → is_held s ≡ true
    → (unless_held preempt (come app handler s)).current ≡ s.current
handler_runs app handler s held =
    let sp = spares-come app handler s in
    let same : is_held (come app handler s) ≡ is_held s =
    held_as_it_was s (come app handler s) sp.kept.hold sp.kept.suspension in
    ap (λ (t : State). t.current) (when_held preempt (come app handler s) (same ∙ held)) ∙ sp.current

current-increment : (s : State) → (increment_tick s).current ≡ s.current
unfolding increment_tick advance
current-increment s = by_test (holds_ticks s)
    (λ t. rw t refl)
    (λ t. rw t (current-wake_due (record s { time = s.time + 1; elapsed = s.elapsed + 1 })))

tick_runs : (app : Application) (s : State) → is_held s ≡ true → (tick_interrupt app s).current ≡ s.current
unfolding tick_interrupt
tick_runs app s held =
    let come : State = increment_tick s in
    ap (λ (t : State). t.current) (when_held slice (interrupt app come) (held-told app s ∙ held))
    ∙ (spares-interrupt app 0 come).current ∙ current-increment s

pub same_runs : (app : Application) (source : ℕ) (s : State) → is_held s ≡ true → (inject app source s).current ≡ s.current
unfolding inject serve
same_runs app source s held = by_test (can_come s source)
    (λ can. rw can (by_test (is_tick app source)
    (λ t. rw t (tick_runs app s held))
    (λ t. rw t (handler_runs app source s held))))
    (λ not. rw not refl)

-- ---- held ticks

-- If no handler is raised for this tick, none is among those that come.
none_among : (s : State) (sources : List ℕ) → ((handler : ℕ) → is_raised_for s.elapsed (source_at s handler) ≡ false)
    → filter (λ source. is_raised_for s.elapsed (source_at s source)) sources ≡ []
none_among s [] none = refl
none_among s (source ∷ sources) none = rw (none source) (none_among s sources none)

uninterrupted_at : (app : Application) (s : State) → interrupts_at app s.elapsed ≡ []
    → ((handler : ℕ) → is_raised_for s.elapsed (source_at s handler) ≡ false) → interrupt app s ≡ none_raised_now s
unfolding interrupt
uninterrupted_at app s none lowered =
    ap₂ (λ (base raised : List ℕ). for_each (come app) (base ++ raised) (none_raised_now s)) none
    (none_among s (range_with_len 0 (length s.sources)) lowered)

is_held_tick : (s : State) → holds_ticks s ≡ true
    → increment_tick s ≡ record s { elapsed = s.elapsed + 1; held_ticks = s.held_ticks + 1 }
unfolding increment_tick
is_held_tick s on = rw on refl

pub tick_waits : (s : State) → holds_ticks s ≡ true
    → ((increment_tick s).elapsed ≡ s.elapsed + 1) × ((increment_tick s).time ≡ s.time) × ((increment_tick s).tasks ≡ s.tasks)
unfolding increment_tick
tick_waits s held = rw held (refl, refl, refl)

-- one that is injected, with which no base interrupt comes, and no raised handler
pub tick_wakes_nobody : (app : Application) (s : State) → holds_ticks s ≡ true → interrupts_at app (s.elapsed + 1) ≡ []
    → ((handler : ℕ) → is_raised_for (s.elapsed + 1) (source_at s handler) ≡ false)
    → (inject app (length app.handlers) s).tasks ≡ s.tasks
unfolding inject serve tick_interrupt
tick_wakes_nobody app s on none lowered =
    let held_tick : State = record s { elapsed = s.elapsed + 1; held_ticks = s.held_ticks + 1 } in
    let same : increment_tick s ≡ held_tick = is_held_tick s on in
    let quiet : interrupt app (increment_tick s) ≡ none_raised_now held_tick =
    ap (interrupt app) same ∙ uninterrupted_at app held_tick none lowered in
    let held : is_held (interrupt app (increment_tick s)) ≡ true = held-told app s ∙ rw on refl in
    by_test (can_come s (length app.handlers))
    (λ can.
    rw (can, eqb-refl (length app.handlers))
    (ap (λ (t : State). t.tasks) (when_held slice (interrupt app (increment_tick s)) held ∙ quiet)))
    (λ not. rw not refl)

time-applied : (n : ℕ) (s : State) → (apply_held n s).time ≡ s.time + n
unfolding apply_one advance
time-applied zero s = omega arith
time-applied (suc n) s =
    let one = (keeps-wake_due (record s { time = s.time + 1; held_ticks = s.held_ticks - 1 })).time in
    let more = time-applied n (apply_one s) in
    omega arith

pub time_released : (i : ℕ) (phase : Phase) (s : State)
    → ((end_hold i phase s).elapsed ≡ s.elapsed) × ((end_hold i phase s).time ≡ s.time + s.held_ticks)
    × ((end_hold i phase s).held_ticks ≡ 0)
time_released i phase s =
    let k = applies s.held_ticks (let_go i phase s) in
    (k.elapsed, time-applied s.held_ticks (let_go i phase s), let e = k.held in omega arith)
