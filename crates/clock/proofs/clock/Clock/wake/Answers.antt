use Rattle.std.proofs.Common.{ℕ, List, subst, sym, ◌*◌, ◌^◌, ◌∙◌, ap}
use Rattle.lists.specs.Lists.{IsSound, without}
use Rattle.clock.specs.Timeline.{Timeline, IsClock, delayed_list_of, timeline_of}
use Rattle.clock.proofs.Sleeping.{delayed-without, out_of_lists}
use Rattle.clock.proofs.Standing.{stands_made_ready, stands_before_made_ready, stands_suspended}
use Rattle.clock.proofs.clock.Clock.wake.Goals as goal

pub invariant_of-self : goal.invariant_of-self
invariant_of-self c =
    let q = c.self.inside in
    let P : List (List (ℕ × ℕ)) → Type 0 = λ ls.
    IsClock ls q.age (2 ^ 32 * q.overflows) q.tick q.current.number q.overflow.number in
    let removed = c.remove.ensures.removed in
    subst P (sym removed) (out_of_lists c.self.invariant c.args.task (subst (IsSound 2 32) removed c.remove.ensures.sound))

pub returns-clause-delayed : goal.returns-clause-delayed
returns-clause-delayed c =
    let q = c.self.inside in
    let base = 2 ^ 32 * q.overflows in
    let n = c.args.task in
    ap (λ (ls : List (List (ℕ × ℕ))). delayed_list_of ls base q.current.number q.overflow.number) c.remove.ensures.removed
    ∙ delayed-without n base q.current.number q.overflow.number q.lists
    ∙ ap (λ (t : Timeline). without n t.delayed_list) c.self.view_is

pub returns-clause-stands : goal.returns-clause-stands
returns-clause-stands c = λ s h l.
    let q = c.self.inside in
    let new : Timeline =
    timeline_of c.remove.new.self q.age q.held (2 ^ 32 * q.overflows) q.tick q.current.number q.overflow.number in
    stands_made_ready c.args.self.now new s c.args.task (ap (λ (t : Timeline). t.now) c.self.view_is)
    (ap (λ (t : Timeline). t.age) c.self.view_is) (ap (λ (t : Timeline). t.held) c.self.view_is) (returns-clause-delayed c) h l

pub returns-clause-suspended : goal.returns-clause-suspended
returns-clause-suspended c = λ s h l.
    let q = c.self.inside in
    let new : Timeline =
    timeline_of c.remove.new.self q.age q.held (2 ^ 32 * q.overflows) q.tick q.current.number q.overflow.number in
    stands_suspended c.args.self.now new s c.args.task (ap (λ (t : Timeline). t.now) c.self.view_is)
    (ap (λ (t : Timeline). t.age) c.self.view_is) (ap (λ (t : Timeline). t.held) c.self.view_is) (returns-clause-delayed c) h l

pub returns-clause-placing : goal.returns-clause-placing
returns-clause-placing c = λ s other deadline h ne l.
    let q = c.self.inside in
    let new : Timeline =
    timeline_of c.remove.new.self q.age q.held (2 ^ 32 * q.overflows) q.tick q.current.number q.overflow.number in
    stands_before_made_ready c.args.self.now new s other c.args.task deadline
    (ap (λ (t : Timeline). t.now) c.self.view_is) (ap (λ (t : Timeline). t.age) c.self.view_is)
    (ap (λ (t : Timeline). t.held) c.self.view_is) (returns-clause-delayed c) h ne l
