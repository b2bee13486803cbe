use Rattle.objects.proofs.Rings.{long_is, head_in, replaced}
use Rattle.objects.proofs.items.Items.replace.Goals as goal

pub bounds-self-inside-self-inside : goal.bounds-self-inside-self-inside
bounds-self-inside-self-inside c =
    head_in c.self.invariant c.self.view_is c.args.queue c.requires.known
    (long_is c.self.invariant c.self.view_is c.args.queue c.requires.known c.requires.long)

pub invariant_of-self : goal.invariant_of-self
invariant_of-self c = (replaced c.self.invariant c.self.view_is c.args.queue c.args.item c.requires.known c.requires.long).is

pub returns-clause-items : goal.returns-clause-items
returns-clause-items c = (replaced c.self.invariant c.self.view_is c.args.queue c.args.item c.requires.known c.requires.long).items

pub returns-clause-sound : goal.returns-clause-sound
returns-clause-sound c = (replaced c.self.invariant c.self.view_is c.args.queue c.args.item c.requires.known c.requires.long).sound
