use Rattle.std.proofs.Common.{refl}
use Rattle.machine.specs.StandsFor.{At, AtAny}
use Rattle.machine.specs.StandsFor.Stands.{Placed}
use Rattle.kernel.proofs.Coming.{interrupted_held, tick_held, tick_held_any}
use Rattle.kernel.proofs.handlers.held_tick_interrupt.Goals as goal

pub interrupt-requires-clause-stands : goal.interrupt-requires-clause-stands
interrupt-requires-clause-stands g c =
    let s = c.requires.stands.0 in
    let h = c.requires.stands.1 in
    let on = c.requires.held s h in (
      _,
      (tick_held_any c.args.machine.now s on c.hold_tick.new.self s.log (record { stands = h; log = refl })
          (λ p. c.hold_tick.ensures.stands s p on) (λ task deadline b. c.hold_tick.ensures.placing s task deadline b on)).stands,
    )

pub returns-clause-does : goal.returns-clause-does
returns-clause-does g c = record {
  at = λ s h.
      let on = c.requires.held s (Placed h.stands) in
      interrupted_held (At c.interrupt.new.machine (g.L.Log.logged c.interrupt.new.log).told) c.args.app.now s on
      (c.interrupt.ensures.does.at _
      (tick_held c.args.machine.now s on c.hold_tick.new.self _ h (c.hold_tick.ensures.stands s h.stands.rest.clock on)));
  few = c.interrupt.ensures.does.few;
  before = c.interrupt.ensures.does.before;
}

pub returns-clause-any : goal.returns-clause-any
returns-clause-any g c = record {
  at = λ s h.
      let on = c.requires.held s h.stands in
      interrupted_held (AtAny c.interrupt.new.machine (g.L.Log.logged c.interrupt.new.log).told) c.args.app.now s on
      (c.interrupt.ensures.any.at _
      (tick_held_any c.args.machine.now s on c.hold_tick.new.self _ h (λ p. c.hold_tick.ensures.stands s p on)
      (λ task deadline b. c.hold_tick.ensures.placing s task deadline b on)));
  few = c.interrupt.ensures.any.few;
  before = c.interrupt.ensures.any.before;
}
