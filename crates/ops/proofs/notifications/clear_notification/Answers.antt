use Rattle.std.proofs.Common.{◌≡◌, ℕ, Option, Some, ap, subst, ◌∙◌}
use Rattle.model.specs.declared.notification.Notification.{Notification}
use Rattle.model.specs.State.{notification_at, with_notification}
use Rattle.model.specs.Notifications as definitions
use Rattle.model.specs.Notifications.{clear_answer, cleared}
use Rattle.model.specs.Ops.{answer}
use Rattle.machine.specs.StandsFor.{At}
use Rattle.machine.specs.StandsFor.Stands.{Placed}
use Rattle.ops.proofs.notifications.clear_notification.Goals as goal

pub returns : goal.returns
unfolding definitions.clear_notification
returns g c = record {
  at = λ s h.
      let app = c.args.app.now in
      let i = c.args.task in
      let what = c.args.what in
      let new = c.answer-2.new.self in
      let told = (g.L.Log.logged c.answer-2.new.log).told in
      let n : c.notification-notification.result ≡ notification_at s i =
      c.notification-notification.ensures.state s (Placed h.stands) in
      let left : c.cleared.result ≡ cleared what (notification_at s i) = c.cleared.ensures ∙ ap (cleared what) n in
      let answered : Some c.answer.result ≡ clear_answer what (notification_at s i) = c.answer.ensures ∙ ap (clear_answer what) n in
      subst (λ (a : Option ℕ). At new told (answer app i a (with_notification i (cleared what (notification_at s i)) s))) answered
      (subst (λ (x : Notification). At new told (answer app i (Some c.answer.result) (with_notification i x s))) left
      (c.answer-2.ensures.does.at _ (c.set_notification.ensures.does _ s h)));
  few = c.answer-2.ensures.does.few;
  before = c.answer-2.ensures.does.before;
}
