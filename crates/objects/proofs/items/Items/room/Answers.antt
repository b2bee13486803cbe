use Rattle.objects.proofs.Rings.{room_left, sound_is}
use Rattle.objects.proofs.items.Items.room.Goals as goal

pub returns-clause-room : goal.returns-clause-room
returns-clause-room c = room_left c.self.invariant c.self.view_is c.args.queue c.requires

pub returns-clause-sound : goal.returns-clause-sound
returns-clause-sound c = sound_is c.self.invariant c.self.view_is
