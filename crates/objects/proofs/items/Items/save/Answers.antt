use Rattle.std.proofs.Common.{◌∙◌}
use Rattle.objects.proofs.Rings.{front_holds}
use Rattle.objects.proofs.items.Items.save.Goals as goal

pub returns : goal.returns
returns c = λ _. front_holds c.self.invariant c.copy_from_slice.new.self.items c.copy_from_slice.ensures.items ∙ c.self.view_is
