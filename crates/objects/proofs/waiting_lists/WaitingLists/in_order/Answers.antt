use Rattle.std.proofs.Common.{subst}
use Rattle.lists.specs.Lists.{IsSound}
use Rattle.objects.specs.Places.{list_places}
use Rattle.objects.proofs.Mirror.{sound-mirrored}
use Rattle.objects.proofs.waiting_lists.WaitingLists.in_order.Goals as goal

pub returns : goal.returns
returns c = record { sound = subst (IsSound list_places 32) c.self.view_is (sound-mirrored c.self.invariant.sound) }
