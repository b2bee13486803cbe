use mathlib.Core.Bool.{beq}
use Rattle.std.proofs.Common.{◌≡◌, ◌∙◌, Bool, sym, arith}
use Rattle.std.specs.Prelude.{◌&&◌, nat_eq}
use Rattle.model.specs.declared.notification.Notification.{Notification}
use Rattle.lists.proofs.Compared.{TellsSame, same_list}
use Rattle.machine.proofs.notifications.Notifications.is_same.Goals as goal

-- the test of two notifications
abbrev notification_eq : Notification → Notification → Bool
notification_eq x y = nat_eq x.value y.value && beq x.pending y.pending

same_notification : TellsSame notification_eq
same_notification x y told = grind arith

pub returns-then-other : goal.returns-then-other
returns-then-other c = λ e.
    let kept : c.self.inside.of_tasks ≡ c.other.inside.of_tasks =
    same_list _ same_notification c.self.inside.of_tasks c.other.inside.of_tasks (sym c.eq.ensures ∙ e) in
    sym c.self.view_is ∙ kept ∙ c.other.view_is
