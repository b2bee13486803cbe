use Rattle.std.proofs.Common.{ℕ, [], None, ap, sym, subst, refl, ◌∙◌, arith}
use Rattle.model.specs.declared.op.Access.{Access}
use Rattle.model.specs.Calls.{decide, try}
use Rattle.model.specs.Values.{with_number}
use Rattle.model.specs.Waiting.{set_deadline}
use Rattle.machine.specs.StandsFor.{At, AtAny}
use Rattle.model.specs.declared.call.Phase.TheVariants.{Start, Try, Decide, Place, Unlock, Leave}
use Rattle.model.specs.State.{Progress, State, progress_at}
use Rattle.sched.specs.Schedule.{Schedule, is_ready}
use Rattle.objects.specs.Objects.{Objects}
use Rattle.ops.specs.Can.{CanGoOn}
use Rattle.machine.proofs.Acting.{agrees_after}
use Rattle.machine.proofs.Either.{all_placed, any, does_any, does_more, moves_any}
use Rattle.ops.proofs.Calling.{decided_alike, in_phase_by_value, same_number}
use Rattle.ops.proofs.calls.go_on_waiting.Goals as goal

pub set_deadline-requires-clause-can : goal.set_deadline-requires-clause-can
set_deadline-requires-clause-can g c =
    let e = ap (λ (p : Progress). p.call.phase) (sym (c.behind-machine.view_is ∙ c.progress.ensures)) ∙ c.in-Start.is in
    let can = subst (CanGoOn c.args.machine.now c.args.task c.args.object (with_number [] None c.args.access.now) c.args.ticks) e
    (c.requires.can [] None) in
    record { current = can.0.runs.current; agrees = can.0.agrees }

pub set_deadline-requires-clause-time : goal.set_deadline-requires-clause-time
set_deadline-requires-clause-time g c =
    let e = ap (λ (p : Progress). p.call.phase) (sym (c.behind-machine.view_is ∙ c.progress.ensures)) ∙ c.in-Start.is in
    let can = subst (CanGoOn c.args.machine.now c.args.task c.args.object (with_number [] None c.args.access.now) c.args.ticks) e
    (c.requires.can [] None) in
    can.2

pub try_call-requires-in-Try-clause-can : goal.try_call-requires-in-Try-clause-can
try_call-requires-in-Try-clause-can g c = λ variables answer.
    let e = ap (λ (p : Progress). p.call.phase) (sym (c.behind-machine.view_is ∙ c.progress.ensures)) ∙ c.in-Try.is in
    subst (CanGoOn c.args.machine.now c.args.task c.args.object (with_number variables answer c.args.access.now) c.args.ticks) e
    (c.requires.can variables answer)

pub decide-requires : goal.decide-requires
decide-requires g c =
    let e = ap (λ (p : Progress). p.call.phase) (sym (c.behind-machine.view_is ∙ c.progress.ensures)) ∙ c.in-Decide.is in
    let can = subst (CanGoOn c.args.machine.now c.args.task c.args.object (with_number [] None c.args.access.now) c.args.ticks) e
    (c.requires.can [] None) in
    can

pub place-requires : goal.place-requires
place-requires g c =
    let e = ap (λ (p : Progress). p.call.phase) (sym (c.behind-machine.view_is ∙ c.progress.ensures)) ∙ c.in-Place.is in
    let can = subst (CanGoOn c.args.machine.now c.args.task c.args.object (with_number [] None c.args.access.now) c.args.ticks) e
    (c.requires.can [] None) in
    can

pub unlock-requires : goal.unlock-requires
unlock-requires g c =
    let e = ap (λ (p : Progress). p.call.phase) (sym (c.behind-machine.view_is ∙ c.progress.ensures)) ∙ c.in-Unlock.is in
    let can = subst (CanGoOn c.args.machine.now c.args.task c.args.object (with_number [] None c.args.access.now) c.args.ticks) e
    (c.requires.can [] None) in
    can

pub leave_call-requires-clause-can : goal.leave_call-requires-clause-can
leave_call-requires-clause-can g c =
    let e = ap (λ (p : Progress). p.call.phase) (sym (c.behind-machine.view_is ∙ c.progress.ensures)) ∙ c.in-Leave.is in
    let can = subst (CanGoOn c.args.machine.now c.args.task c.args.object (with_number [] None c.args.access.now) c.args.ticks) e
    (c.requires.can [] None) in
    can

pub try_call-requires-clause-can : goal.try_call-requires-clause-can
try_call-requires-clause-can g c = λ variables answer.
    let e = ap (λ (p : Progress). p.call.phase) (sym (c.behind-machine.view_is ∙ c.progress.ensures)) ∙ c.in-Start.is in
    let access = with_number variables answer c.args.access.now in
    let can = subst (CanGoOn c.args.machine.now c.args.task c.args.object access c.args.ticks) e
    (c.requires.can variables answer) in
    let runs = can.0.runs in
    record {
      runs = record {
        current = ap (λ (v : Schedule). v.current) c.set_deadline.ensures.parts.0 ∙ runs.current;
        ready = ap (λ (v : Schedule). is_ready v c.args.task) c.set_deadline.ensures.parts.0 ∙ runs.ready;
        op_index = rw c.set_deadline.ensures.op_index runs.op_index;
      };
      agrees =
          agrees_after c.args.machine.now c.set_deadline.new.self [] [] can.0.agrees _ (λ s h. c.set_deadline.ensures.does [] s h);
      free = ap (λ (q : Objects). q.lock) c.set_deadline.ensures.parts.1 ∙ can.0.free;
      depth = ap (λ (v : Schedule). v.depth) c.set_deadline.ensures.parts.0 ∙ can.0.depth;
      room = rw c.set_deadline.ensures.parts.1 can.0.room;
    }

pub returns-in-Start : goal.returns-in-Start
returns-in-Start g c =
    let e = ap (λ (p : Progress). p.call.phase) (sym (c.behind-machine.view_is ∙ c.progress.ensures)) ∙ c.in-Start.is in
    let can = subst (CanGoOn c.args.machine.now c.args.task c.args.object (with_number [] None c.args.access.now) c.args.ticks) e
    (c.requires.can [] None) in
    in_phase_by_value c.args.app.now c.args.machine.now c.try_call.new.machine (g.L.Log.logged c.args.log.now)
    (g.L.Log.logged c.try_call.new.log) c.args.task c.args.object c.args.access.now c.args.ticks Start e
    (does_any 2 c.args.machine.now c.try_call.new.machine (g.L.Log.logged c.args.log.now)
    (g.L.Log.logged c.try_call.new.log) _ can.0.agrees (record {
      at = λ s h.
          subst (λ (a : Access ℕ).
          At c.try_call.new.machine (g.L.Log.logged c.try_call.new.log).told
          (try c.args.app.now c.args.task c.args.object a (set_deadline c.args.task c.args.ticks s)))
          (same_number s c.args.task c.args.ticks c.args.access.now)
          (c.try_call.ensures.at _ (c.set_deadline.ensures.does _ s h));
      few = c.try_call.ensures.few;
      before = c.try_call.ensures.before;
    }))

pub returns-in-Try : goal.returns-in-Try
returns-in-Try g c =
    let e = ap (λ (p : Progress). p.call.phase) (sym (c.behind-machine.view_is ∙ c.progress.ensures)) ∙ c.in-Try.is in
    let can = subst (CanGoOn c.args.machine.now c.args.task c.args.object (with_number [] None c.args.access.now) c.args.ticks) e
    (c.requires.can [] None) in
    in_phase_by_value c.args.app.now c.args.machine.now c.try_call-in-Try.new.machine (g.L.Log.logged c.args.log.now)
    (g.L.Log.logged c.try_call-in-Try.new.log) c.args.task c.args.object c.args.access.now c.args.ticks Try e
    (does_any 2 c.args.machine.now c.try_call-in-Try.new.machine (g.L.Log.logged c.args.log.now)
    (g.L.Log.logged c.try_call-in-Try.new.log) _ can.agrees c.try_call-in-Try.ensures)

pub returns-in-Decide : goal.returns-in-Decide
returns-in-Decide g c =
    let e = ap (λ (p : Progress). p.call.phase) (sym (c.behind-machine.view_is ∙ c.progress.ensures)) ∙ c.in-Decide.is in
    let can = subst (CanGoOn c.args.machine.now c.args.task c.args.object (with_number [] None c.args.access.now) c.args.ticks) e
    (c.requires.can [] None) in
    in_phase_by_value c.args.app.now c.args.machine.now c.decide.new.machine (g.L.Log.logged c.args.log.now)
    (g.L.Log.logged c.args.log.now) c.args.task c.args.object c.args.access.now c.args.ticks Decide e
    (record {
      at = λ s h.
          subst (λ (next : State). AtAny c.decide.new.machine (g.L.Log.logged c.args.log.now).told next)
          (ap (λ (a : Access ℕ). decide c.args.task c.args.object a s) c.without_item.ensures
          ∙ decided_alike c.args.task c.args.object s.variables (progress_at s c.args.task).answer c.args.access.now s)
          (c.decide.ensures.does _ s (all_placed c.args.machine.now can.agrees _ s h));
      few = omega arith;
      before = refl;
    })

pub returns-in-Place : goal.returns-in-Place
returns-in-Place g c =
    let e = ap (λ (p : Progress). p.call.phase) (sym (c.behind-machine.view_is ∙ c.progress.ensures)) ∙ c.in-Place.is in
    let can = subst (CanGoOn c.args.machine.now c.args.task c.args.object (with_number [] None c.args.access.now) c.args.ticks) e
    (c.requires.can [] None) in
    in_phase_by_value c.args.app.now c.args.machine.now c.place.new.machine (g.L.Log.logged c.args.log.now)
    (g.L.Log.logged c.args.log.now) c.args.task c.args.object c.args.access.now c.args.ticks Place e
    (record { at = λ s h. any c.place.new.machine _ _ (c.place.ensures.does _ s h); few = omega arith; before = refl })

pub returns-in-Unlock : goal.returns-in-Unlock
returns-in-Unlock g c =
    let e = ap (λ (p : Progress). p.call.phase) (sym (c.behind-machine.view_is ∙ c.progress.ensures)) ∙ c.in-Unlock.is in
    let can = subst (CanGoOn c.args.machine.now c.args.task c.args.object (with_number [] None c.args.access.now) c.args.ticks) e
    (c.requires.can [] None) in
    in_phase_by_value c.args.app.now c.args.machine.now c.unlock.new.machine (g.L.Log.logged c.args.log.now)
    (g.L.Log.logged c.args.log.now) c.args.task c.args.object c.args.access.now c.args.ticks Unlock e
    (moves_any 2 c.args.machine.now c.unlock.new.machine (g.L.Log.logged c.args.log.now) _ can.agrees c.unlock.ensures.does)

pub returns-in-Leave : goal.returns-in-Leave
returns-in-Leave g c =
    let e = ap (λ (p : Progress). p.call.phase) (sym (c.behind-machine.view_is ∙ c.progress.ensures)) ∙ c.in-Leave.is in
    let can = subst (CanGoOn c.args.machine.now c.args.task c.args.object (with_number [] None c.args.access.now) c.args.ticks) e
    (c.requires.can [] None) in
    in_phase_by_value c.args.app.now c.args.machine.now c.leave_call.new.machine (g.L.Log.logged c.args.log.now)
    (g.L.Log.logged c.leave_call.new.log) c.args.task c.args.object c.args.access.now c.args.ticks Leave e
    (does_more 1 2 c.args.machine.now c.leave_call.new.machine (g.L.Log.logged c.args.log.now) (g.L.Log.logged c.leave_call.new.log)
    _ (omega arith)
    (does_any 1 c.args.machine.now c.leave_call.new.machine (g.L.Log.logged c.args.log.now)
    (g.L.Log.logged c.leave_call.new.log) _ can.call.agrees c.leave_call.ensures))
