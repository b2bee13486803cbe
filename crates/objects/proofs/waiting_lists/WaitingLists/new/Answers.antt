use Rattle.std.proofs.Common.{◌≡◌, ℕ, List, zero, suc, [], replicate, refl, sym, ◌∙◌, ap, subst}
use Rattle.lists.specs.Lists.{IsSound, entries_of}
use Rattle.task_lists.specs.Priorities.{with_priorities}
use Rattle.objects.specs.Places.{list_places}
use Rattle.objects.specs.WaitingLists.{AreWaitingLists, mirrored, number_of, waiting_in}
use Rattle.objects.proofs.Mirror.{are_waiting_empty, mirrored-empty, sound-mirrored}
use Rattle.objects.proofs.waiting_lists.WaitingLists.new.Goals as goal

none : (m n : ℕ) → entries_of (replicate m []) n ≡ []
none zero n = refl
none (suc m) zero = refl
none (suc m) (suc n) = none m n

pub invariant_of-result : goal.invariant_of-result
invariant_of-result c =
    subst AreWaitingLists (sym c.new.ensures.empty)
    (are_waiting_empty list_places (subst (IsSound list_places 32) c.new.ensures.empty c.new.ensures.sound))

pub returns-clause-empty : goal.returns-clause-empty
returns-clause-empty c = ap mirrored c.new.ensures.empty ∙ mirrored-empty list_places

pub returns-clause-sound : goal.returns-clause-sound
returns-clause-sound c = sound-mirrored c.new.ensures.sound

pub returns-clause-stand : goal.returns-clause-stand
returns-clause-stand c = λ s table nobody. record {
  lists = λ list.
      ap (λ (ls : List (List (ℕ × ℕ))). waiting_in ls list) (returns-clause-empty c)
      ∙ none list_places (number_of list) ∙ sym (ap with_priorities (nobody list));
  table = table;
}
