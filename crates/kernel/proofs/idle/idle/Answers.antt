use Rattle.std.proofs.Common.{sym, subst, ◌∙◌}
use Rattle.model.specs.State.{State}
use Rattle.machine.specs.StandsFor.{At}
use Rattle.soundness.proofs.Ticking.{idle_jumps, idle_ticks}
use Rattle.kernel.proofs.idle.idle.Goals as goal

pub returns-then-tickless : goal.returns-then-tickless
returns-then-tickless g c =
    let does = c.jump_ahead.ensures in
    record {
      at = λ s h.
          subst (λ (x : State). At c.jump_ahead.new.machine (g.L.Log.logged c.jump_ahead.new.log).told x)
          (sym (idle_jumps c.args.app.now c.args.limits.now s (sym c.tickless.ensures ∙ c.if-tickless.true))) (does.at s h);
      few = does.few;
      before = does.before;
    }

pub returns : goal.returns
returns g c =
    let does = c.tick_interrupt.ensures in
    record {
      at = λ s h.
          subst (λ (x : State). At c.tick_interrupt.new.machine (g.L.Log.logged c.tick_interrupt.new.log).told x)
          (sym (idle_ticks c.args.app.now c.args.limits.now s (sym c.tickless.ensures ∙ c.if-tickless.false))) (does.at s h);
      few = does.few;
      before = does.before;
    }
