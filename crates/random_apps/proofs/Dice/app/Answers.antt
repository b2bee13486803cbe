use Rattle.std.proofs.Common.{arith, ℕ, ◌-◌, ◌≤◌, refl, ap, subst, sym, length, Bool, List, ◌≡◌, ◌∙◌, eqb}
use Rattle.std.specs.List.{AllByRecursion}
use Rattle.std.specs.Option.{is_some}
use Rattle.model.specs.declared.object.ObjectKind.{ObjectKind}
use Rattle.model.specs.Application.{Application, Definition, Handler, Interrupt}
use Rattle.model.specs.declared.plan.PointEntry.{PointEntry}
use Rattle.model.specs.Scripts.{IsPointEntry, most_points}
use Rattle.random_apps.specs.Known.{AreInterrupts, AreTasks, IsKnownHandler, daemon_number}
use Rattle.random_apps.proofs.Known.{are_handlers, are_interrupts, few_at, of_ok}
use Rattle.random_apps.proofs.WithDaemon.{few_tasks, four_of_file, has_number, is_daemon, known_of_file}
use Rattle.random_apps.proofs.Dice.app.Goals as goal

pub new-requires-2 : goal.new-requires-2
new-requires-2 c =
    let kinds : List ObjectKind = c.in_ok-objects.objects.items in
    let handlers : List Handler = c.in_ok-handlers.handlers.items in
    let tasks : List Definition = c.in_ok-tasks.tasks.items in
    let variables : List ℕ = c.in_ok-variables.variables.items in
    let more : 4 ≤ length variables = c.in_ok-variables.ensures.some in
    let few_variables : length variables ≤ 32 = c.in_ok-variables.ensures.few in
    let has_daemon : Bool = eqb c.roll-has_daemon.result 0 in
    let app : Application = record {
      start = 4294967295 - c.roll-start.result;
      tickless = eqb c.roll-tickless.result 0;
      limits = c.in_ok-limits.limits;
      objects = kinds;
      group_count = 2;
      variables = variables;
      handlers = handlers;
      interrupts = c.in_ok-interrupts.interrupts;
      tasks = tasks;
      daemon = c.daemon_of-daemon.result;
      points = c.new-points.result.items;
    } in
    let is : app.daemon ≡ daemon_number has_daemon = c.daemon_of-daemon.ensures in
    let are : AreTasks has_daemon kinds tasks =
    subst (λ (objects : List ObjectKind). AreTasks has_daemon objects tasks) c.as_slice.ensures.value c.in_ok-tasks.ensures in
    let four = four_of_file app has_daemon is are in
    let has : is_some app.daemon ≡ has_daemon = ap is_some is ∙ has_number has_daemon in
    let tasks_few = few_tasks has_daemon kinds tasks are in
    let objects_few = c.in_ok-objects.ensures.few in
    let three = c.in_ok-handlers.ensures.three in
    let of_interrupts : app.interrupts ≡ c.in_ok-listed.listed.items =
    of_ok c.new.result (λ interrupts. interrupts ≡ c.as_slice-3.result.now)
    c.in_ok-interrupts.interrupts c.in_ok-interrupts.ensures.value c.new.ensures
    ∙ c.as_slice-3.ensures.value in
    let few : length app.interrupts ≤ 4 =
    subst (λ (is : List Interrupt). length is ≤ 4) (sym of_interrupts) c.in_ok-listed.ensures.few in
    let formed : AreInterrupts 800001 app.interrupts =
    subst (AreInterrupts 800001) (sym of_interrupts) c.in_ok-listed.ensures.formed in
    record {
      some = tasks_few.0;
      few = tasks_few.1;
      tasks = are.formed;
      objects = c.in_ok-objects.ensures.kinds;
      few_objects = omega arith;
      daemon = is_daemon app has_daemon is c.in_ok-objects.ensures.queue are;
      few_groups = omega arith;
      few_variables = few_variables;
      handlers =
          are_handlers app has_daemon kinds refl refl four more three has handlers
          (subst (λ (objects : List ObjectKind). AllByRecursion (IsKnownHandler has_daemon objects) handlers)
          c.as_slice-2.ensures.value c.in_ok-handlers.ensures.known);
      few_handlers = omega arith;
      interrupts = are_interrupts app three app.interrupts formed.first formed.last formed.known;
      few_interrupts = omega arith;
      few_at_once = λ tick. let here = few_at app tick in omega arith;
      known = known_of_file app has_daemon is refl more three are;
      points = subst (AllByRecursion (IsPointEntry app)) (sym c.new-points.ensures.items) tt;
      few_points = subst (λ (points : List PointEntry). length points ≤ most_points) (sym c.new-points.ensures.items) (omega arith);
      start = omega arith;
    }
