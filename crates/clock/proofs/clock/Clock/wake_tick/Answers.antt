use Rattle.std.proofs.Common.{◌≡◌, rules, subst, sym, true, false}
use Rattle.clock.specs.Timeline.{Timeline, is_asleep}
use Rattle.clock.proofs.WakeTicks.{SleepsUntil, sleeps_until, wakes_not, wakes_with}
use Rattle.clock.proofs.clock.Clock.wake_tick.Goals as goal

pub returns-then-not-is_asleep : goal.returns-then-not-is_asleep
returns-then-not-is_asleep c =
    let awake : is_asleep c.args.self.now c.args.task ≡ false = search rules in
    record { stands = λ s h. wakes_not c.args.self.now s c.args.task h awake }

pub returns : goal.returns
returns c =
    let asleep : is_asleep c.args.self.now c.args.task ≡ true = search rules in
    let here = subst (λ (t : Timeline). is_asleep t c.args.task ≡ true) (sym c.self.view_is) asleep in
    let until : SleepsUntil c.args.self.now.delayed_list c.args.task c.value.result =
    subst (λ (t : Timeline). SleepsUntil t.delayed_list c.args.task c.value.result) c.self.view_is
    (sleeps_until c.self.inside.overflows c.self.invariant c.args.task c.value.result here c.value.ensures.value) in
    record { stands = λ s h. wakes_with c.args.self.now s c.args.task c.value.result h until }
