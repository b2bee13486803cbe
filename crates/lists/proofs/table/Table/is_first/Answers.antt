use Rattle.std.proofs.lemmas.Bool.{eqb-true, eq-eqb}
use Rattle.lists.proofs.Rings.{is_first_node, ring_seen}
use Rattle.lists.proofs.Spelled.{sound}
use Rattle.lists.proofs.table.Table.is_first.Goals as goal

pub returns-clause-first : goal.returns-clause-first
returns-clause-first g c =
    let h = ring_seen c.self.invariant.rings c.self.view_is in
    let first = is_first_node h c.args.list.number c.args.node.number c.requires.list c.requires.node in
    rw c.end.ensures (λ t. first.0 (eqb-true _ _ t), λ e. eq-eqb _ _ (first.1 e))

pub returns-clause-sound : goal.returns-clause-sound
returns-clause-sound g c =
    let h = ring_seen c.self.invariant.rings c.self.view_is in
    sound h.spells
