use Rattle.std.proofs.Common.{◌++◌, ◌∙◌, List, ap, take}
use Rattle.model.specs.State.{Progress}
use Rattle.machine.proofs.Fronts.{front_is}
use Rattle.machine.proofs.front.save_front.Goals as goal

pub returns-clause-front : goal.returns-clause-front
returns-clause-front c = λ behind.
    let none = c.in_ok-reserve_exact.ensures.items ∙ c.clear.ensures.items in
    front_is c.tasks_of-tasks.result c.args.progress.now c.extend_from_slice.new.self.items c.told-progress
    c.tasks_of-tasks.ensures.few (c.tasks_of-tasks.ensures.blank behind)
    (c.in_ok-extend_from_slice.ensures.items
    ∙ ap (λ (before : List Progress). before ++ take c.tasks_of-tasks.result c.args.progress.now) none)
