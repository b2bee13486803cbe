use Rattle.std.proofs.Common.{ℕ, List, sym, ◌∙◌, ap, subst}
use Rattle.std.specs.Option.{is_some}
use Rattle.lists.specs.Lists.{IsSound, place_of}
use Rattle.objects.specs.Places.{list_places}
use Rattle.objects.proofs.Mirror.{place_of-mirrored, sound-mirrored}
use Rattle.objects.proofs.waiting_lists.WaitingLists.is_waiting.Goals as goal

pub returns-clause-waiting : goal.returns-clause-waiting
returns-clause-waiting c =
    let task = c.args.task in
    c.contains.ensures.contains ∙ ap is_some (
    sym (place_of-mirrored task c.self.inside.lists)
    ∙ ap (λ (ls : List (List (ℕ × ℕ))). place_of ls task) c.self.view_is
    )

pub returns-clause-sound : goal.returns-clause-sound
returns-clause-sound c = subst (IsSound list_places 32) c.self.view_is (sound-mirrored c.self.invariant.sound)
