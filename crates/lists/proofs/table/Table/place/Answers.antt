use Rattle.std.proofs.Common.{sym, ◌∙◌, arith}
use Rattle.lists.proofs.Links.{read_link}
use Rattle.lists.proofs.Spelled.{seen, place_is, list_below, sound}
use Rattle.lists.proofs.table.Table.place.Goals as goal

pub list_of-requires : goal.list_of-requires
list_of-requires g c =
    let lists = c.self.invariant.lists_fit in
    λ l e.
    omega (
      arith,
      lists,
      list_below c.self.invariant.rings.spells c.args.node.number l
          (sym (read_link _ _ _ c.self.invariant.rings.spells.place_length c.requires) ∙ e),
    )

pub returns-clause-place : goal.returns-clause-place
returns-clause-place g c =
    c.list_of.ensures.list ∙ read_link _ _ _ c.self.invariant.rings.spells.place_length c.requires
    ∙ place_is (seen c.self.invariant.rings.spells c.self.view_is) c.args.node.number

pub returns-clause-sound : goal.returns-clause-sound
returns-clause-sound g c = sound (seen c.self.invariant.rings.spells c.self.view_is)
