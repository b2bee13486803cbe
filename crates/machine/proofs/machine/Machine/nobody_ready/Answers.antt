use Rattle.std.proofs.Common.{◌+◌, length, map, get_or, refl, ap, sym, ◌∙◌}
use Rattle.sched.specs.Schedule.{Schedule, is_suspended, lined_up}
use Rattle.clock.specs.StandsFor.{tasks_at}
use Rattle.model.specs.State.{no_source}
use Rattle.model.specs.Step.{nobody_ready, source_at_reset}
use Rattle.soundness.proofs.Reached.{reached_nobody}
use Rattle.machine.proofs.Booting.{none_ready, none_due, priority_at, base_priority_at, objects_at_reset, nobody_awake-reset}
use Rattle.machine.proofs.Booting.{none_placing, ended_reset, nobody_suspended, sources_at_reset}
use Rattle.model.specs.Suspension.{can_resume}
use Rattle.groups.specs.StandsFor.{event_wait}
use Rattle.machine.proofs.machine.Machine.nobody_ready.Goals as goal

pub returns-clause-stands : goal.returns-clause-stands
unfolding nobody_ready
returns-clause-stands c =
    let table = (reached_nobody c.args.app.now c.well_formed-2.ensures).table in
    record {
      sched = record {
        ready = ap lined_up c.new.ensures.new ∙ sym (none_ready c.args.app.now.start c.args.app.now.tasks);
        current = ap (λ (v : Schedule). v.current) c.new.ensures.new;
        priorities = λ i.
            rw c.new.ensures.new (c.priorities_of.ensures.priorities i
            ∙ rw c.tasks-2.ensures (priority_at c.args.app.now.start c.args.app.now.tasks i));
        base_priorities = λ i.
            rw c.new.ensures.new (c.priorities_of.ensures.priorities i
            ∙ rw c.tasks-2.ensures (base_priority_at c.args.app.now.start c.args.app.now.tasks i));
        depth = ap (λ (v : Schedule). v.depth) c.new.ensures.new;
        suspensions = ap (λ (v : Schedule). v.suspensions) c.new.ensures.new;
        suspended = λ i.
            ap (λ (v : Schedule). is_suspended v i) c.new.ensures.new ∙ nobody_suspended i
            ∙ sym (ap can_resume (ended_reset c.args.app.now.start i c.args.app.now.tasks));
        table = table;
      };
      rest = record {
        progress = λ i. c.progress_of.ensures.progress i ∙ rw (c.tasks.ensures, c.start.ensures) refl;
        full = c.progress_of.ensures.full;
        clock = record {
          now = c.new-2.ensures.now ∙ c.start-2.ensures;
          age = rw (c.new-2.ensures.age, c.new-2.ensures.held) refl;
          held = c.new-2.ensures.held;
          sorted = rw c.new-2.ensures.nobody tt;
          once = rw c.new-2.ensures.nobody tt;
          delayed = λ m. ap (tasks_at m) c.new-2.ensures.nobody ∙ sym (none_due c.args.app.now m);
          table = table;
        };
        sources =
            sources_at_reset c.args.app.now c.well_formed-2.ensures.few_handlers c.new-7.result
            (c.new-7.ensures.number ∙ ap (λ hs. length hs + 1) c.handlers.ensures)
            (λ source.
            c.new-7.ensures.each source ∙ ap (λ hs. get_or (map source_at_reset hs) source no_source) c.handlers.ensures)
            c.new-7.ensures.full;
        notifications = record { same = c.new-5.ensures.none; full = c.new-5.ensures.full };
        variables = c.new-6.ensures ∙ c.variables.ensures;
        sections = refl;
        steps = refl;
        stopped = refl;
        objects =
            objects_at_reset c.args.app.now c.new-3.result
            (c.new-3.ensures.stands c.args.app.now (sym c.objects.ensures) c.well_formed-2.ensures.few) table;
        groups =
            c.new-4.ensures.stands _ table (λ group. refl)
            (λ i. ap event_wait (ended_reset c.args.app.now.start i c.args.app.now.tasks));
        awake = nobody_awake-reset c.args.app.now;
        placed =
            none_placing c.args.app.now c.progress_of.result
            (λ i. c.progress_of.ensures.progress i ∙ rw (c.tasks.ensures, c.start.ensures) refl);
      };
    }
