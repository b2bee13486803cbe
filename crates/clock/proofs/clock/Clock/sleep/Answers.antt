use Rattle.std.proofs.Common.{◌≡◌, ℕ, ◌<◌, ◌≤◌, ◌+◌, ◌*◌, ◌^◌, ◌%◌, List, sym, ◌∙◌, ap, subst, arith, rules}
use Rattle.lists.specs.Lists.{IsSound, insert_sorted}
use Rattle.clock.specs.Timeline.{Timeline, IsClock, delayed_list_of, is_asleep}
use Rattle.clock.proofs.Sleeping.{no_place, into_current, into_overflow, delayed-current, delayed-overflow}
use Rattle.clock.proofs.Sleepers.{stands_placed, stands_slept}
use Rattle.clock.proofs.clock.Clock.sleep.Goals as goal

pub insert_sorted_from_back-requires : goal.insert_sorted_from_back-requires
insert_sorted_from_back-requires c = (
  search rules,
  (
    c.self.invariant.current_known,
    (
      no_place c.self.invariant c.args.task (ap (λ (t : Timeline). is_asleep t c.args.task) c.self.view_is ∙ c.requires.awake),
      c.self.invariant.sorted,
    ),
  ),
)

pub insert_sorted_from_back-requires-in-None : goal.insert_sorted_from_back-requires-in-None
insert_sorted_from_back-requires-in-None c = (
  search rules,
  (
    c.self.invariant.overflow_known,
    (
      no_place c.self.invariant c.args.task (ap (λ (t : Timeline). is_asleep t c.args.task) c.self.view_is ∙ c.requires.awake),
      c.self.invariant.overflow_sorted,
    ),
  ),
)

pub invariant_of-self : goal.invariant_of-self
invariant_of-self c =
    let q = c.self.inside in
    let some = c.requires.some in
    let put = c.insert_sorted_from_back.ensures.put in
    let later : q.tick < c.in-Some.wake_tick = omega (arith, some, c.in-Some.ensures.1) in
    let fits : c.in-Some.wake_tick < 2 ^ 32 = omega (arith, c.in-Some.ensures.0, c.in-Some.ensures.1) in
    let P : List (List (ℕ × ℕ)) → Type 0 = λ ls.
    IsClock ls q.age (2 ^ 32 * q.overflows) q.tick q.current.number q.overflow.number in
    subst P (sym put) (into_current c.self.invariant c.args.task c.in-Some.wake_tick
    later fits (subst (IsSound 2 32) put c.insert_sorted_from_back.ensures.sound))

pub invariant_of-self-in-None : goal.invariant_of-self-in-None
invariant_of-self-in-None c =
    let q = c.self.inside in
    let w = (q.tick + c.args.ticks) % 2 ^ 32 in
    let put = c.insert_sorted_from_back-in-None.ensures.put in
    let fits : w < 2 ^ 32 = omega arith in
    let past : 2 ^ 32 ≤ q.tick + c.args.ticks = omega (arith, c.in-None.ensures) in
    let soon : w < q.tick = omega (arith, past) in
    let P : List (List (ℕ × ℕ)) → Type 0 = λ ls.
    IsClock ls q.age (2 ^ 32 * q.overflows) q.tick q.current.number q.overflow.number in
    subst P (sym put) (into_overflow c.self.invariant c.args.task w fits soon
    (subst (IsSound 2 32) put c.insert_sorted_from_back-in-None.ensures.sound))

pub returns-in-Some-clause-delayed : goal.returns-in-Some-clause-delayed
returns-in-Some-clause-delayed c =
    let q = c.self.inside in
    let base = 2 ^ 32 * q.overflows in
    let n = c.args.task in
    let fits : c.in-Some.wake_tick < 2 ^ 32 = omega (arith, c.in-Some.ensures.0, c.in-Some.ensures.1) in
    let now : base + q.tick ≡ c.args.self.now.now = ap (λ (t : Timeline). t.now) c.self.view_is in
    let wake_time : base + c.in-Some.wake_tick ≡ c.args.self.now.now + c.args.ticks = omega (arith, now, c.in-Some.ensures.1) in
    ap (λ (ls : List (List (ℕ × ℕ))). delayed_list_of ls base q.current.number q.overflow.number)
    c.insert_sorted_from_back.ensures.put
    ∙ delayed-current c.self.invariant n c.in-Some.wake_tick fits
    ∙ ap (λ (m : ℕ). insert_sorted (n, m) (delayed_list_of q.lists base q.current.number q.overflow.number)) wake_time
    ∙ ap (λ (t : Timeline). insert_sorted (n, c.args.self.now.now + c.args.ticks) t.delayed_list) c.self.view_is

pub returns-in-None-clause-delayed : goal.returns-in-None-clause-delayed
returns-in-None-clause-delayed c =
    let q = c.self.inside in
    let base = 2 ^ 32 * q.overflows in
    let n = c.args.task in
    let w = (q.tick + c.args.ticks) % 2 ^ 32 in
    let past : 2 ^ 32 ≤ q.tick + c.args.ticks = omega (arith, c.in-None.ensures) in
    let wrapped : 2 ^ 32 + w ≡ q.tick + c.args.ticks = omega (arith, past) in
    let now : base + q.tick ≡ c.args.self.now.now = ap (λ (t : Timeline). t.now) c.self.view_is in
    let wake_time : base + 2 ^ 32 + w ≡ c.args.self.now.now + c.args.ticks = omega (arith, now, wrapped) in
    ap (λ (ls : List (List (ℕ × ℕ))). delayed_list_of ls base q.current.number q.overflow.number)
    c.insert_sorted_from_back-in-None.ensures.put
    ∙ delayed-overflow c.self.invariant n w
    ∙ ap (λ (m : ℕ). insert_sorted (n, m) (delayed_list_of q.lists base q.current.number q.overflow.number)) wake_time
    ∙ ap (λ (t : Timeline). insert_sorted (n, c.args.self.now.now + c.args.ticks) t.delayed_list) c.self.view_is

pub returns-in-Some-clause-stands : goal.returns-in-Some-clause-stands
returns-in-Some-clause-stands c = λ s h l ready.
    let now = ap (λ (t : Timeline). t.now) c.self.view_is in
    let age = ap (λ (t : Timeline). t.age) c.self.view_is in
    let held = ap (λ (t : Timeline). t.held) c.self.view_is in
    stands_slept c.args.self.now _ s c.args.task c.args.ticks now age held
    (returns-in-Some-clause-delayed c) c.requires.awake h l ready

pub returns-in-None-clause-stands : goal.returns-in-None-clause-stands
returns-in-None-clause-stands c = λ s h l ready.
    let now = ap (λ (t : Timeline). t.now) c.self.view_is in
    let age = ap (λ (t : Timeline). t.age) c.self.view_is in
    let held = ap (λ (t : Timeline). t.held) c.self.view_is in
    stands_slept c.args.self.now _ s c.args.task c.args.ticks now age held
    (returns-in-None-clause-delayed c) c.requires.awake h l ready

pub returns-in-Some-clause-placed : goal.returns-in-Some-clause-placed
returns-in-Some-clause-placed c = λ s h.
    let now = ap (λ (t : Timeline). t.now) c.self.view_is in
    let age = ap (λ (t : Timeline). t.age) c.self.view_is in
    let held = ap (λ (t : Timeline). t.held) c.self.view_is in
    stands_placed c.args.self.now _ s c.args.task (c.args.self.now.now + c.args.ticks)
    now age held (returns-in-Some-clause-delayed c) c.requires.awake h

pub returns-in-None-clause-placed : goal.returns-in-None-clause-placed
returns-in-None-clause-placed c = λ s h.
    let now = ap (λ (t : Timeline). t.now) c.self.view_is in
    let age = ap (λ (t : Timeline). t.age) c.self.view_is in
    let held = ap (λ (t : Timeline). t.held) c.self.view_is in
    stands_placed c.args.self.now _ s c.args.task (c.args.self.now.now + c.args.ticks)
    now age held (returns-in-None-clause-delayed c) c.requires.awake h
