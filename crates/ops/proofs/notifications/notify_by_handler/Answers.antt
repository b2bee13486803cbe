use Rattle.std.proofs.Common.{ℕ, List, ap, subst, ◌∙◌}
use Rattle.model.specs.declared.notification.NotifyAction.{NotifyAction}
use Rattle.model.specs.Notifications.{notify, notify_with_number}
use Rattle.machine.specs.StandsFor.{At, AtAny}
use Rattle.machine.specs.StandsFor.Stands.{Placed}
use Rattle.machine.proofs.Either.{variables_are}
use Rattle.ops.proofs.notifications.notify_by_handler.Goals as goal

pub returns-clause-does : goal.returns-clause-does
returns-clause-does c = λ log s h.
    let number = c.with_number-action.ensures ∙ ap (λ (xs : List ℕ). notify_with_number xs c.args.last c.args.action)
    (c.values.ensures ∙ variables_are c.args.machine.now s (Placed h.stands)) in
    subst (λ (a : NotifyAction ℕ). At c.notify.new.machine log (notify c.args.task a s)) number (c.notify.ensures.does log s h)

pub returns-clause-any : goal.returns-clause-any
returns-clause-any c = λ log s h.
    let number = c.with_number-action.ensures ∙ ap (λ (xs : List ℕ). notify_with_number xs c.args.last c.args.action)
    (c.values.ensures ∙ variables_are c.args.machine.now s h.stands) in
    subst (λ (a : NotifyAction ℕ). AtAny c.notify.new.machine log (notify c.args.task a s)) number (c.notify.ensures.any log s h)
