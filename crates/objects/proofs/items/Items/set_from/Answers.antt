use Rattle.std.proofs.Common.{◌∙◌, sym, subst}
use Rattle.objects.specs.Items.{IsSound}
use Rattle.objects.proofs.Rings.{copied, sound_is}
use Rattle.objects.proofs.items.Items.set_from.Goals as goal

pub returns-clause-same : goal.returns-clause-same
returns-clause-same c = copied c.other.invariant _ _ c.copy_from_slice.ensures.after ∙ c.other.view_is

pub returns-clause-sound : goal.returns-clause-sound
returns-clause-sound c =
    subst IsSound (sym (copied c.other.invariant _ _ c.copy_from_slice.ensures.after ∙ c.other.view_is))
    (sound_is c.other.invariant c.other.view_is)
