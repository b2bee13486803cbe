use Rattle.std.proofs.Common.{◌≡◌, inl, inr, None, get_or, sym, ◌∙◌, arith}
use Rattle.std.proofs.lemmas.Bool.{cases_lt}
use Rattle.std.proofs.lemmas.List.{get_or_past}
use Rattle.lists.proofs.Spelled.{place_is, seen}
use Rattle.lists.proofs.table.Table.is_clear.Goals as goal

pub returns : goal.returns
returns g c = λ told node.
    let h = seen c.self.invariant.rings.spells c.self.view_is in
    let room = h.place_length in
    let end = c.loop-node-test.false in
    let unplaced : get_or c.self.inside.rings.place node None ≡ None = elim (cases_lt node g.row.N) [
      | inl below ↦ c.loop-node.invariant node (omega arith)
      | inr past ↦ get_or_past c.self.inside.rings.place node None (omega (arith, room, past))
    ] in
    sym (place_is h node) ∙ unplaced
