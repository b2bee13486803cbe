use Rattle.std.proofs.Common.{◌∙◌, ap, sym}
use Rattle.objects.specs.WaitingLists.{first_priority, waiting_in}
use Rattle.objects.specs.Objects.{Objects, locked_by}
use Rattle.objects.proofs.Locking.{best_priority_is}
use Rattle.objects.proofs.objects.Objects.best_priority.Goals as goal

pub returns-clause-stands : goal.returns-clause-stands
returns-clause-stands c = λ s h at free.
    c.best_priority.ensures.best ∙ ap (λ (v : Objects). first_priority (waiting_in v.waiting c.args.list)) c.self.view_is
    ∙ best_priority_is c.args.self.now.waiting s c.args.list h.waiters at (sym h.locked ∙ ap locked_by free)
