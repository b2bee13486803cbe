use Rattle.std.proofs.Common.{◌≡◌, ap, subst, length}
use Rattle.std.proofs.lemmas.List.{length-map}
use Rattle.model.specs.Application.{Definition}
use Rattle.std.specs.Prelude.{List}
use Rattle.model.specs.State.{for_each}
use Rattle.model.specs.Switching.{make_ready}
use Rattle.model.specs.Suspension.{can_resume}
use Rattle.model.specs.Step.{nobody_ready, task_at_reset, with_ops}
use Rattle.sched.specs.StandsFor.{StandsFor}
use Rattle.machine.specs.StandsFor.Stands.{Placed}
use Rattle.machine.proofs.Booting.{booted, ended_reset, begins, steps_begin}
use Rattle.machine.proofs.machine.Machine.boot.Goals as goal

pub returns : goal.returns
unfolding nobody_ready
returns c =
    let app = c.args.app.now in
    let P : List Definition → Type 0 = λ ds.
    StandsFor c.make_ready_at_reset.new.sched (for_each make_ready (with_ops 0 ds) (nobody_ready app)) in
    let many : length (nobody_ready app).tasks ≡ length c.tasks.result.now =
    rw c.tasks.ensures (length-map app.tasks (task_at_reset app.start)) in
    let ready =
    subst P c.tasks.ensures (c.make_ready_at_reset.ensures (nobody_ready app)
    c.nobody_ready-kernel.ensures.stands.sched many (λ i. ap can_resume (ended_reset app.start i app.tasks))) in
    let stands =
    booted app c.well_formed-2.ensures c.nobody_ready-kernel.result c.make_ready_at_reset.new.sched
    c.choose.new.self c.nobody_ready-kernel.ensures.stands ready c.choose.ensures.stands in
    record {
      stands = stands;
      steps = steps_begin app _ (Placed stands);
      way = λ plan limits. begins app plan limits _ (Placed stands);
    }
