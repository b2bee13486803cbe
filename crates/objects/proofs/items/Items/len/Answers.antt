use Rattle.std.proofs.Common.{sym, ◌∙◌, ap, length}
use Rattle.std.specs.Prelude.{List}
use Rattle.model.specs.State.{Object}
use Rattle.objects.specs.Items.{object_in}
use Rattle.objects.proofs.Rings.{count-is, sound_is}
use Rattle.objects.proofs.items.Items.len.Goals as goal

pub returns-clause-len : goal.returns-clause-len
returns-clause-len c =
    sym (count-is _ c.args.queue c.requires) ∙ ap (λ (s : List Object). length (object_in s c.args.queue).items) c.self.view_is

pub returns-clause-sound : goal.returns-clause-sound
returns-clause-sound c = sound_is c.self.invariant c.self.view_is
