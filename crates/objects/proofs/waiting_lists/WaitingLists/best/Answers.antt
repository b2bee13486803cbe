use Rattle.std.proofs.Common.{ℕ, List, ◌∙◌, ap, subst}
use Rattle.lists.specs.Lists.{IsSound, entries_of, first_of}
use Rattle.objects.specs.Places.{list_places}
use Rattle.objects.proofs.Mirror.{first_mirrored, sound-mirrored}
use Rattle.objects.proofs.Waking.{best_waiter}
use Rattle.objects.proofs.waiting_lists.WaitingLists.best.Goals as goal

pub returns-clause-best : goal.returns-clause-best
returns-clause-best c =
    let l = c.list_id.result.number in
    c.first.ensures.first ∙ first_mirrored c.self.inside.lists l
    ∙ ap (λ (ls : List (List (ℕ × ℕ))). first_of (entries_of ls l)) c.self.view_is
    ∙ ap (λ (k : ℕ). first_of (entries_of c.args.self.now k)) c.list_id.ensures.number

pub returns-clause-waiter : goal.returns-clause-waiter
returns-clause-waiter c = λ s d h at shut. returns-clause-best c ∙ best_waiter c.args.self.now s d c.args.list h at shut

pub returns-clause-sound : goal.returns-clause-sound
returns-clause-sound c = subst (IsSound list_places 32) c.self.view_is (sound-mirrored c.self.invariant.sound)
