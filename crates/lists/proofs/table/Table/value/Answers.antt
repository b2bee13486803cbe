use Rattle.lists.proofs.Spelled.{seen, value_is, sound}
use Rattle.lists.proofs.table.Table.value.Goals as goal

pub returns-clause-value : goal.returns-clause-value
returns-clause-value g c = value_is (seen c.self.invariant.rings.spells c.self.view_is) c.args.node.number

pub returns-clause-sound : goal.returns-clause-sound
returns-clause-sound g c = sound (seen c.self.invariant.rings.spells c.self.view_is)
