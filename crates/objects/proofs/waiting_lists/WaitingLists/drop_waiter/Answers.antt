use Rattle.std.proofs.Common.{ℕ, List, Some, None, map, sym, ◌∙◌, ap, subst}
use Rattle.lists.specs.Lists.{IsSound, without}
use Rattle.model.specs.State.{Suspended, with_status}
use Rattle.model.specs.Switching.{make_ready}
use Rattle.objects.specs.Places.{list_places}
use Rattle.objects.specs.WaitingLists.{AreWaitingLists, mirrored}
use Rattle.objects.specs.WaitersStand.{WaitersStand}
use Rattle.objects.proofs.Mirror.{are_waiting_without, mirrored-without, sound-mirrored}
use Rattle.objects.proofs.Standing.{stands_readied, stands_suspended}
use Rattle.objects.proofs.Placing.{stands_readied_but}
use Rattle.objects.proofs.waiting_lists.WaitingLists.drop_waiter.Goals as goal

pub invariant_of-self : goal.invariant_of-self
invariant_of-self c =
    let removed = c.remove.ensures.removed in
    subst AreWaitingLists (sym removed)
    (are_waiting_without c.self.invariant c.args.task (subst (IsSound list_places 32) removed c.remove.ensures.sound))

pub returns-clause-gone : goal.returns-clause-gone
returns-clause-gone c =
    let task = c.args.task in
    ap mirrored c.remove.ensures.removed ∙ mirrored-without task c.self.inside.lists ∙ ap (map (without task)) c.self.view_is

pub returns-clause-sound : goal.returns-clause-sound
returns-clause-sound c = sound-mirrored c.remove.ensures.sound

pub returns-clause-readied : goal.returns-clause-readied
returns-clause-readied c = λ s h l.
    subst (λ (v : List (List (ℕ × ℕ))). WaitersStand v None (make_ready c.args.task s)) (sym (returns-clause-gone c))
    (stands_readied c.args.self.now s c.args.task h l)

pub returns-clause-suspended : goal.returns-clause-suspended
returns-clause-suspended c = λ s h l.
    subst (λ (v : List (List (ℕ × ℕ))). WaitersStand v None (with_status c.args.task Suspended s)) (sym (returns-clause-gone c))
    (stands_suspended c.args.self.now s c.args.task h l)

pub returns-clause-readied_but : goal.returns-clause-readied_but
returns-clause-readied_but c = λ s d h l other away.
    subst (λ (v : List (List (ℕ × ℕ))). WaitersStand v (Some d) (make_ready c.args.task s)) (sym (returns-clause-gone c))
    (stands_readied_but c.args.self.now s d c.args.task h l other away)
