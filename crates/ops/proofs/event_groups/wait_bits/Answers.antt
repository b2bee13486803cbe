use Rattle.std.proofs.Common.{ap, sym, subst, ◌∙◌, arith}
use Rattle.model.specs.declared.call.Phase.TheVariants.{Start, Leave}
use Rattle.model.specs.State.{Progress}
use Rattle.machine.proofs.Either.{does_any, does_more}
use Rattle.ops.specs.Can.{CanAwaitEvent}
use Rattle.ops.proofs.EventBits.{decides_at_last, wait_at_last, wait_in_phase}
use Rattle.ops.proofs.event_groups.wait_bits.Goals as goal

pub check_bits-requires : goal.check_bits-requires
check_bits-requires g c =
    let e = ap (λ (p : Progress). p.call.phase) (sym (c.behind-machine.view_is ∙ c.progress.ensures)) ∙ c.in-Start.is in
    let can = subst (CanAwaitEvent c.args.machine.now c.args.task c.args.ticks) e c.requires.can in
    record { room = omega (arith, c.requires.room); can = can.0; short = can.1; time = can.2 }

pub returns-in-Start-clause-does : goal.returns-in-Start-clause-does
returns-in-Start-clause-does g c =
    let e = ap (λ (p : Progress). p.call.phase) (sym (c.behind-machine.view_is ∙ c.progress.ensures)) ∙ c.in-Start.is in
    let can = subst (CanAwaitEvent c.args.machine.now c.args.task c.args.ticks) e c.requires.can in
    let old = c.args.machine.now in
    let new = c.check_bits.new.machine in
    let log = g.L.Log.logged c.args.log.now in
    let after = g.L.Log.logged c.check_bits.new.log in
    wait_in_phase c.args.app.now old new log after c.args.task c.args.group c.args.condition.now c.args.ticks Start e
    (does_more 1 2 old new log after _ (omega arith) (does_any 1 old new log after _ can.0.agrees c.check_bits.ensures.does))

pub leave_bits_wait-requires : goal.leave_bits_wait-requires
leave_bits_wait-requires g c =
    let e = ap (λ (p : Progress). p.call.phase) (sym (c.behind-machine.view_is ∙ c.progress.ensures)) ∙ c.in-Leave.is in
    record {
      room = omega (arith, c.requires.room);
      can = subst (CanAwaitEvent c.args.machine.now c.args.task c.args.ticks) e c.requires.can;
    }

pub returns-in-Leave-clause-does : goal.returns-in-Leave-clause-does
returns-in-Leave-clause-does g c =
    let e = ap (λ (p : Progress). p.call.phase) (sym (c.behind-machine.view_is ∙ c.progress.ensures)) ∙ c.in-Leave.is in
    let can = subst (CanAwaitEvent c.args.machine.now c.args.task c.args.ticks) e c.requires.can in
    let old = c.args.machine.now in
    let new = c.leave_bits_wait.new.machine in
    let log = g.L.Log.logged c.args.log.now in
    let after = g.L.Log.logged c.leave_bits_wait.new.log in
    wait_in_phase c.args.app.now old new log after c.args.task c.args.group c.args.condition.now c.args.ticks Leave e
    (does_more 1 2 old new log after _ (omega arith) (does_any 1 old new log after _ can.call.agrees c.leave_bits_wait.ensures))

pub finish_wait-requires : goal.finish_wait-requires
finish_wait-requires g c =
    let e = ap (λ (p : Progress). p.call.phase) (sym (c.behind-machine.view_is ∙ c.progress.ensures)) in
    let can = subst (CanAwaitEvent c.args.machine.now c.args.task c.args.ticks) e c.requires.can in
    record {
      room = omega (arith, c.requires.room);
      runs = (decides_at_last c.args.machine.now c.args.task c.args.ticks _ c.in_default.not-Start c.in_default.not-Leave can).runs;
    }

pub returns-in_default-clause-does : goal.returns-in_default-clause-does
returns-in_default-clause-does g c =
    let e = ap (λ (p : Progress). p.call.phase) (sym (c.behind-machine.view_is ∙ c.progress.ensures)) in
    let can = subst (CanAwaitEvent c.args.machine.now c.args.task c.args.ticks) e c.requires.can in
    let agrees =
    (decides_at_last c.args.machine.now c.args.task c.args.ticks _ c.in_default.not-Start c.in_default.not-Leave can).agrees in
    let old = c.args.machine.now in
    let new = c.finish_wait.new.machine in
    let log = g.L.Log.logged c.args.log.now in
    let after = g.L.Log.logged c.finish_wait.new.log in
    wait_at_last c.args.app.now old new log after c.args.task c.args.group
    c.args.condition.now c.args.ticks _ e c.in_default.not-Start c.in_default.not-Leave
    (does_more 1 2 old new log after _ (omega arith) (does_any 1 old new log after _ agrees c.finish_wait.ensures.does))

pub returns-in_default-clause-runs : goal.returns-in_default-clause-runs
returns-in_default-clause-runs g c = λ t.
    let e = ap (λ (p : Progress). p.call.phase) (sym (c.behind-machine.view_is ∙ c.progress.ensures)) in
    let can = subst (CanAwaitEvent c.args.machine.now c.args.task c.args.ticks) e c.requires.can in
    (decides_at_last c.args.machine.now c.args.task c.args.ticks _ c.in_default.not-Start c.in_default.not-Leave can).runs
