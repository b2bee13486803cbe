use Rattle.std.proofs.Common.{◌≡◌, None, Some, sym, ◌∙◌, subst, ap}
use Rattle.std.specs.Option.{option_map}
use Rattle.lists.specs.Lists.{place_of}
use Rattle.model.specs.State.{status_at}
use Rattle.groups.specs.EventGroups.{EventGroups}
use Rattle.groups.specs.StandsFor.{StandsFor}
use Rattle.groups.proofs.Keys.{unnotified}
use Rattle.groups.proofs.Standing.{free_waits, notified_by}
use Rattle.groups.proofs.groups.Groups.waits_for_notification.Goals as goal

pub returns-in-Some : goal.returns-in-Some
returns-in-Some c = record {
  stands = λ s h.
      let q = c.self.inside in
      let v : EventGroups = record { bits = q.bits; waiting = q.lists; wants = q.wants } in
      let there : place_of q.lists c.args.task ≡ Some c.in-Some.list.number =
      sym c.list_of.ensures.list ∙ ap (option_map (λ list. list.number)) c.in-Some.is in
      notified_by v s (subst (λ (w : EventGroups). StandsFor w s) (sym c.self.view_is) h) c.args.task c.in-Some.list.number
      c.self.invariant.0.sound there;
}

pub returns-in-None : goal.returns-in-None
returns-in-None c = record {
  stands = λ s h.
      let q = c.self.inside in
      let v : EventGroups = record { bits = q.bits; waiting = q.lists; wants = q.wants } in
      let away : place_of q.lists c.args.task ≡ None =
      sym c.list_of.ensures.list ∙ ap (option_map (λ list. list.number)) c.in-None.is in
      sym (unnotified (status_at s c.args.task)
      (free_waits v s (subst (λ (w : EventGroups). StandsFor w s) (sym c.self.view_is) h) c.args.task c.self.invariant.0.sound
      away));
}
