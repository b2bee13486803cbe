use Rattle.std.proofs.Common.{ap, arith, map, ◌∙◌}
use Rattle.script.specs.Entries.{VariableEntry, variable_view}
use Rattle.script.proofs.document.parts_of.Goals as goal

pub returns : goal.returns
returns c = record {
  objects = (c.in_ok-objects.ensures.objects, c.in_ok-objects.ensures.formed, c.in_ok-objects.ensures.few);
  variables =
      let made = c.in_ok-variables.ensures in
      let fits = c.as_slice.ensures.fits in
      let count = made.count in (
        made.values ∙ ap (λ xs. map (λ (x : VariableEntry). x.initial) (map variable_view xs)) c.as_slice.ensures.value,
        omega arith,
      );
  handlers = (c.in_ok-handlers.ensures.handlers, c.in_ok-handlers.ensures.formed, c.in_ok-handlers.ensures.few);
  interrupts = c.in_ok-interrupts.ensures;
  tasks = (c.in_ok-tasks.ensures.tasks, c.in_ok-tasks.ensures.formed, c.in_ok-tasks.ensures.few);
}
