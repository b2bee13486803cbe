-- Interrupts that come before a step: after each of them the next one can come.
use Rattle.std.proofs.Common.{◌≡◌, ◌≤◌, ◌+◌, ◌*◌, ◌∙◌, ℕ, Bool, true, false, ltb, eqb, List, length, Option, ap, arith}
use Rattle.std.proofs.Common.{refl, sym, subst}
use Rattle.std.specs.Prelude.{if◌then◌else◌}
use Rattle.std.proofs.lemmas.Bool.Decides.{nat_tests}
use Rattle.model.specs.declared.event.Event.{Event}
use Rattle.model.specs.Application.{Application}
use Rattle.model.specs.Scripts.{IsWellFormed}
use Rattle.model.specs.declared.call.WaitList.{WaitList}
use Rattle.model.specs.State.{State, call_at}
use Rattle.model.specs.Switching.{holds_ticks, is_critical, is_held, slice}
use Rattle.model.specs.Time.{increment_tick}
use Rattle.model.specs.Handlers.{interrupt, is_tick, none_pending, serve, inject, tick_interrupt}
use Rattle.model.specs.Invariant.{IsState}
use Rattle.model.proofs.Lists.{eqb-same}
use Rattle.model.proofs.Sorting.{by_test}
use Rattle.soundness.proofs.Begun.{served_between, injected_between, none_pending_between}
use Rattle.soundness.proofs.Coming.{comes-serve, comes-inject}
use Rattle.soundness.proofs.Settled.{unlike, when_held}
use Rattle.soundness.proofs.Ticking.{held-told}
use Rattle.soundness.proofs.Stepped.{told}
use Rattle.clock.specs.Timeline.{Timeline}
use Rattle.clock.specs.StandsFor as clock
use Rattle.machine.specs.declared.machine.Machine.{Machine}
use Rattle.machine.specs.Logged.{Logged}
use Rattle.machine.specs.Can.{StandsForSome}
use Rattle.machine.specs.Sources.{Sources, is_pending}
use Rattle.machine.specs.StandsFor.{StandsFor, StandsBefore, Stands, At, AtAny, DoesAny, MovesAny}
use Rattle.machine.specs.StandsFor.Stands.{Placed, Placing}
use Rattle.machine.proofs.Either.{steps_are}
use Rattle.machine.proofs.Renewed.{renewed}
use Rattle.ops.specs.Can.{HasObjects}
use Rattle.ops.proofs.Before.{before_with_ticks}
use Rattle.ops.proofs.Held.{with_ticks}
use Rattle.kernel.specs.Can.{CanCome, most_elapsed, room_for}
use Rattle.kernel.proofs.Bounds.{rooms}
use Rattle.kernel.proofs.Handling.{serve_if}

-- ---- a deed after which they can

module _ (app : Application) (formed : IsWellFormed app) where
  -- where they can come, the kernel represents some state, and its objects have room
  pub come_stands : (n : ℕ) (k : Machine) → CanCome app n k → StandsForSome k
  come_stands n k c = (c.state, c.stands)

  pub come_objects : (n : ℕ) (k : Machine) → CanCome app n k → HasObjects app k
  come_objects n k c = rooms app formed k c.state c.sound c.stands (let l = c.early in omega arith)

  pub come_fewer : (n m : ℕ) (k : Machine) → m ≤ n → CanCome app n k → CanCome app m k
  come_fewer n m k le c = record {
    state = c.state;
    stands = c.stands;
    sound = c.sound;
    closed = c.closed;
    early = let l = c.early in omega arith;
  }

  -- A deed that lets this many ticks pass at most, leaves the critical sections closed, and keeps states sound.
  module _ (deed : State → State) (ticks : ℕ)
      (sound : (s : State) → is_critical s ≡ false → IsState app s → IsState app (deed s))
      (few : (s : State) → (deed s).elapsed ≤ s.elapsed + ticks) (closed : (s : State) → (deed s).sections ≡ s.sections) where
    after_state : (n m : ℕ) → m + ticks ≤ n → (new : Machine) (s : State) → s.elapsed + n ≤ most_elapsed → is_critical s ≡ false
        → IsState app s → Stands new (deed s) → CanCome app m new
    after_state n m le new s early shut h stands =
        let more = few s in
        record {
          state = deed s;
          stands = stands;
          sound = sound s shut h;
          closed = ap (λ (k : ℕ). ltb 0 k) (closed s) ∙ shut;
          early = omega arith;
        }

    pub come_after : (n m : ℕ) → m + ticks ≤ n → (count : ℕ) (old new : Machine) (old_log new_log : Logged)
        → CanCome app n old → DoesAny count old old_log new new_log deed → CanCome app m new
    come_after n m le count old new old_log new_log c does =
        let s : State = record c.state { log = old_log.told } in
        after_state n m le new s c.early c.closed (told app formed c.state old_log.told c.state.steps c.state.stopped c.sound)
        (does.at s (record {
          stands = renewed old c.state c.stands old_log.told c.state.steps old.steps (steps_are old c.state c.stands);
          log = refl;
        })).stands

    pub come_moved : (n m : ℕ) → m + ticks ≤ n → (old new : Machine) → CanCome app n old → MovesAny old new deed → CanCome app m new
    come_moved n m le old new c moves =
        after_state n m le new c.state c.early c.closed c.sound
        (moves c.state.log c.state (record { stands = c.stands; log = refl })).stands

  one_at_most : (b : Bool) → (if b then 1 else 0) ≤ 1
  one_at_most true = omega arith
  one_at_most false = omega arith

  few_served : (source : ℕ) (s : State) → (serve app source s).elapsed ≤ s.elapsed + 1
  few_served source s =
      let e = (comes-serve app source s).elapsed in let one = one_at_most (is_tick app source) in omega arith

  few_injected : (source : ℕ) (s : State) → (inject app source s).elapsed ≤ s.elapsed + 1
  few_injected source s =
      let e = (comes-inject app source s).elapsed in let one = one_at_most (is_tick app source) in omega arith

  -- one that is injected
  pub come_after_injected : (source n m : ℕ) → m + 1 ≤ n → (count : ℕ) (old new : Machine) (old_log new_log : Logged)
      → CanCome app n old → DoesAny count old old_log new new_log (inject app source) → CanCome app m new
  come_after_injected source =
      come_after (inject app source) 1 (injected_between app formed source) (few_injected source)
      (λ s. (comes-inject app source s).sections)

  -- one that comes if it is among those that were pending
  module _ (pending : Sources) (source : ℕ) where
    sound_if : (s : State) → is_critical s ≡ false → IsState app s → IsState app (serve_if app pending source s)
    sound_if s shut h = by_test (is_pending pending source)
        (λ t. rw t (served_between app formed source s shut h))
        (λ t. rw t h)

    few_if : (s : State) → (serve_if app pending source s).elapsed ≤ s.elapsed + 1
    few_if s = by_test (is_pending pending source) (λ t. rw t (few_served source s)) (λ t. rw t (omega arith))

    closed_if : (s : State) → (serve_if app pending source s).sections ≡ s.sections
    closed_if s = by_test (is_pending pending source) (λ t. rw t (comes-serve app source s).sections) (λ t. rw t refl)

    pub come_after_if : (n m : ℕ) → m + 1 ≤ n → (count : ℕ) (old new : Machine) (old_log new_log : Logged)
        → CanCome app n old → DoesAny count old old_log new new_log (serve_if app pending source) → CanCome app m new
    come_after_if = come_after (serve_if app pending source) 1 sound_if few_if closed_if

  -- nothing is pending any more
  pub come_after_taken : (n : ℕ) (old new : Machine) → CanCome app n old → MovesAny old new none_pending → CanCome app n new
  come_after_taken n =
      come_moved none_pending 0 (λ s shut h. none_pending_between app formed s h) (λ s. omega arith) (λ s. refl) n n (omega arith)

-- ---- how much they report

-- what interrupts of the numbers below this one report at most
abbrev pub room_below : Application → ℕ → ℕ
room_below app n = 17 * n + (if ltb (length app.handlers) n then 320 else 0)

pub one_more_room : (app : Application) (n : ℕ) → room_below app n + room_for app n ≡ room_below app (n + 1)
one_more_room app n = by_test (eqb n (length app.handlers))
    (λ t.
    let same : n ≡ length app.handlers = eqb-same n (length app.handlers) t in
    let before : ltb (length app.handlers) n ≡ false = grind (arith, nat_tests) in
    let after : ltb (length app.handlers) (n + 1) ≡ true = grind (arith, nat_tests) in
    rw (t, before, after) (omega arith))
    (λ t. by_test (ltb (length app.handlers) n)
    (λ l. let after : ltb (length app.handlers) (n + 1) ≡ true = grind (arith, nat_tests) in rw (t, l, after) (omega arith))
    (λ l. let after : ltb (length app.handlers) (n + 1) ≡ false = grind (arith, nat_tests) in rw (t, l, after) (omega arith)))

pub all_room : (app : Application) (n : ℕ) → room_below app n ≤ 17 * n + 320
all_room app n = by_test (ltb (length app.handlers) n) (λ t. rw t (omega arith)) (λ t. rw t (omega arith))

pub most_room : (app : Application) (source : ℕ) → room_for app source ≤ 337
most_room app source = by_test (is_tick app source) (λ t. rw t (omega arith)) (λ t. rw t (omega arith))

-- ---- a tick that is held

module _ (k : Machine) (s : State) (on : holds_ticks s ≡ true) (t : Timeline) where
  pub tick_held : (log : List Event) → At k log s → clock.StandsFor t (increment_tick s)
      → At (record k { clock = t }) log (increment_tick s)
  unfolding increment_tick
  tick_held log h come = rw on (with_ticks k log s h t (s.elapsed + 1) (s.held_ticks + 1) (omega arith) (rw on at come))

  tick_held_before : (task : ℕ) (list : WaitList) → StandsBefore task list k s
      → clock.StandsBefore task (call_at s task).deadline t (increment_tick s)
      → StandsBefore task list (record k { clock = t }) (increment_tick s)
  unfolding increment_tick
  tick_held_before task list b come =
      rw on (before_with_ticks k s task list b t (s.elapsed + 1) (s.held_ticks + 1) (omega arith) (rw on at come))

  log_held : (increment_tick s).log ≡ s.log
  unfolding increment_tick
  log_held = rw on refl

  pub tick_held_any : (log : List Event) → AtAny k log s
      → (clock.StandsFor k.clock s → clock.StandsFor t (increment_tick s))
      → ((task : ℕ) (deadline : Option ℕ) → clock.StandsBefore task deadline k.clock s
      → clock.StandsBefore task deadline t (increment_tick s)) → AtAny (record k { clock = t }) log (increment_tick s)
  tick_held_any log h placed placing = record { stands = by_stands h.stands; log = h.log ∙ sym log_held } where
    by_stands : Stands k s → Stands (record k { clock = t }) (increment_tick s)
    by_stands (Placed p) = Placed (tick_held s.log (record { stands = p; log = refl }) (placed p.rest.clock)).stands
    by_stands (Placing task list b) =
        Placing task list (tick_held_before task list b (placing task (call_at s task).deadline b.clock))

-- Where ticks are held, nothing switches.
pub interrupted_held : (P : State → Type 0) (app : Application) (s : State) → holds_ticks s ≡ true
    → P (interrupt app (increment_tick s)) → P (tick_interrupt app s)
unfolding tick_interrupt
interrupted_held P app s on h =
    let held : is_held (interrupt app (increment_tick s)) ≡ true = held-told app s ∙ rw on refl in
    subst P (sym (when_held slice (interrupt app (increment_tick s)) held)) h

-- Where something holds the scheduler and no critical section is open, ticks are held.
pub held_alone : (s : State) → is_critical s ≡ false → is_held s ≡ true → holds_ticks s ≡ true
held_alone s shut on = by_test (holds_ticks s) (λ t. t) (λ t. unlike (sym on ∙ rw (t, shut) refl))
