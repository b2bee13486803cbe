use Rattle.std.proofs.Common.{◌≡◌, ◌++◌, ◌∙◌, List, ap, arith, drop, length}
use Rattle.model.specs.State.{Progress}
use Rattle.machine.proofs.Fronts.{front_copied}
use Rattle.machine.proofs.machine.Machine.set_from_first.Goals as goal

pub returns : goal.returns
returns c = λ blank other.
    let old = c.args.self.now.progress in
    let new = c.args.other.now.progress in
    let full : length old ≡ 32 = omega arith in
    let as_full : length new ≡ 32 = omega arith in
    c.set_parts_from.ensures
    ∙ ap (λ (ps : List Progress). record c.args.other.now { progress = ps })
    (ap (λ (front : List Progress). front ++ drop c.min-tasks.result old) c.copy_from_slice.ensures.after
    ∙ front_copied c.args.tasks c.min-tasks.result old new c.min-tasks.ensures full as_full blank other)
