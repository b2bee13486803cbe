use Rattle.std.proofs.Common.{◌≡◌, ◌+◌, ◌≤◌, ℕ, [], ◌∷◌, Option, length, length-append, map, ap, subst, sym, arith, ◌∙◌}
use Rattle.std.specs.Prelude.{codes, is_some, if◌then◌else◌}
use Rattle.std.specs.List.{AllByRecursion}
use Rattle.std.proofs.lemmas.Grind.{common_steps}
use Rattle.std.proofs.lemmas.List.{length-map}
use Rattle.model.specs.Application.{Application, of_file}
use Rattle.model.specs.Scripts.{IsHandler, KnowsAll, most_objects}
use Rattle.toml.specs.View.{table_view}
use Rattle.script.specs.Entries.{VariableEntry, RawIsr, Entries, HasEntries, isr_names, source_names, raw_view, entries_view}
use Rattle.script.specs.Ops.{IsLimited, with_script, with_isr_ops, daemon_task}
use Rattle.script.specs.Interrupts.{interrupts_named}
use Rattle.script.specs.Points.{campaign_named}
use Rattle.script.proofs.Daemons.{tasks_of_file, has_entries, daemon_formed}
use Rattle.script.proofs.Known.{known_tasks, known_handlers}
use Rattle.script.proofs.Scripts.{tasks_nest}
use Rattle.script.proofs.Formed.{AreInterrupts, ArePoints, taken_interrupts, are_interrupts, few_come, taken_points, are_entries}
use Rattle.script.proofs.document.app_of.Goals as goal

pub parts_of-requires : goal.parts_of-requires
parts_of-requires c = record {
  nest = tasks_nest (entries_view c.args.entries.now) c.in_ok-check_scripts.ensures.0;
  room = c.requires.room;
}

pub new-requires : goal.new-requires
new-requires c =
    let entries : Entries = entries_view c.args.entries.now in
    let parts = c.in_ok-parts.ensures in
    let app : Application = record {
      start = c.args.start;
      tickless = c.args.tickless;
      limits = c.args.limits;
      objects = c.in_ok-parts.parts.objects.items;
      group_count = c.group_count.result;
      variables = c.in_ok-parts.parts.variables.items;
      handlers = c.in_ok-parts.parts.handlers.items;
      interrupts = c.in_ok-parts.parts.interrupts;
      tasks = c.in_ok-parts.parts.tasks.items;
      daemon = c.daemon_number.result;
      points = c.in_ok-points.points.items;
    } in
    let document = table_view c.args.document.now in
    let names = isr_names entries in
    let of_handlers : app.handlers ≡ map (with_isr_ops entries) entries.handlers = parts.handlers.0 in
    let of_file_tasks : of_file app.daemon app.tasks ≡ map (with_script entries) entries.tasks =
    tasks_of_file app entries parts.objects.0 parts.tasks.0 c.daemon_number.ensures in
    let of_interrupts : app.interrupts ≡ interrupts_named names document =
    parts.interrupts ∙ c.as_slice.ensures.value ∙ c.in_ok-listed.ensures.1 in
    let sources = source_names entries in
    let of_points : app.points ≡ campaign_named sources document = c.in_ok-points.ensures.1 in
    let count : length names ≡ length app.handlers =
    length-map entries.handlers (λ (h : RawIsr). h.name)
    ∙ sym (ap length of_handlers ∙ length-map entries.handlers (with_isr_ops entries)) in
    let has : HasEntries app entries =
    has_entries app entries parts.objects.0 parts.tasks.0 c.daemon_number.ensures c.group_count.ensures.count
    (ap length parts.variables.0 ∙ length-map entries.variables (λ (v : VariableEntry). v.initial))
    (ap length of_handlers ∙ length-map entries.handlers (with_isr_ops entries)) in
    let interrupts : AreInterrupts (length app.handlers) app.interrupts =
    subst (λ n. AreInterrupts n app.interrupts) count
    (subst (AreInterrupts (length names)) (sym of_interrupts) (taken_interrupts names document c.in_ok-listed.ensures.0)) in
    let source_count : length sources ≡ length app.handlers + 1 =
    length-append names (codes "tick" ∷ []) ∙ ap (λ n. n + 1) count in
    let points : ArePoints (length app.handlers + 1) app.points =
    subst (λ n. ArePoints n app.points) source_count
    (subst (ArePoints (length sources)) (sym of_points) (taken_points sources document c.in_ok-points.ensures.0)) in
    let few : AllByRecursion IsLimited (map (with_isr_ops entries) entries.handlers) =
    subst (AllByRecursion IsLimited) of_handlers parts.handlers.1 in
    let some : 1 ≤ length entries.tasks =
    subst (λ n. 1 ≤ n) (sym (length-map c.args.entries.now.tasks.items raw_view)) c.requires.some in
    let task_count : length app.tasks ≡ length entries.tasks + length (daemon_task (length entries.objects) entries.daemon) =
    ap length parts.tasks.0
    ∙ length-append (map (with_script entries) entries.tasks) (daemon_task (length entries.objects) entries.daemon)
    ∙ ap (λ n. n + length (daemon_task (length entries.objects) entries.daemon)) (length-map entries.tasks (with_script entries)) in
    record {
      some = omega (arith, task_count, some);
      few = parts.tasks.2;
      tasks = parts.tasks.1;
      objects = parts.objects.1;
      few_objects =
          subst (λ (o : Option ℕ). length app.objects ≤ most_objects + (if is_some o then 1 else 0))
          (sym c.daemon_number.ensures) parts.objects.2;
      daemon = daemon_formed app entries parts.objects.0 parts.tasks.0 c.daemon_number.ensures some;
      few_groups = c.group_count.ensures.few;
      few_variables = parts.variables.1;
      handlers =
          subst (AllByRecursion (IsHandler app)) (sym of_handlers)
          (known_handlers app entries has c.in_ok-check_handlers.ensures.0 few);
      few_handlers = parts.handlers.2;
      interrupts = are_interrupts app app.interrupts interrupts.first interrupts.last interrupts.known;
      few_interrupts = interrupts.few;
      few_at_once = λ tick. few_come app tick (interrupts.few_at_once tick);
      known =
          subst (AllByRecursion (KnowsAll app)) (sym of_file_tasks)
          (known_tasks app entries has c.in_ok-check_scripts.ensures.0);
      points = are_entries app app.points points.entries;
      few_points = points.few;
      start = grind (arith, common_steps);
    }
