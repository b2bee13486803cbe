use Rattle.std.proofs.Common.{◌≡◌, ℕ, Option, ap, subst, ◌∙◌}
use Rattle.model.specs.declared.notification.Notification.{Notification}
use Rattle.model.specs.State.{notification_at, with_notification}
use Rattle.model.specs.Notifications as definitions
use Rattle.model.specs.Notifications.{left_by_wait, wait_answer}
use Rattle.model.specs.Ops.{answer}
use Rattle.machine.specs.StandsFor.{At}
use Rattle.machine.specs.StandsFor.Stands.{Placed}
use Rattle.ops.proofs.notifications.end_notification_wait.Goals as goal

pub returns : goal.returns
unfolding definitions.end_notification_wait
returns g c = record {
  at = λ s h.
      let app = c.args.app.now in
      let i = c.args.task in
      let wait = c.args.wait.now in
      let new = c.answer_given.new.self in
      let told = (g.L.Log.logged c.answer_given.new.log).told in
      let n : c.notification-notification.result ≡ notification_at s i =
      c.notification-notification.ensures.state s (Placed h.stands) in
      let left : c.left.result ≡ left_by_wait wait (notification_at s i) = c.left.ensures ∙ ap (left_by_wait wait) n in
      let answered : c.answer.result ≡ wait_answer wait (notification_at s i) = c.answer.ensures ∙ ap (wait_answer wait) n in
      subst (λ (a : Option ℕ). At new told (answer app i a (with_notification i (left_by_wait wait (notification_at s i)) s)))
      answered
      (subst (λ (x : Notification). At new told (answer app i c.answer.result (with_notification i x s))) left
      (c.answer_given.ensures.does.at _ (c.set_notification.ensures.does _ s h)));
  few = c.answer_given.ensures.does.few;
  before = c.answer_given.ensures.does.before;
}
