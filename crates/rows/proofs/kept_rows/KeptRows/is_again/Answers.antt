use Rattle.std.proofs.Common.{◌≡◌, ◌∙◌, slice_get, ap, sym, arith}
use Rattle.std.proofs.lemmas.Bool.{eqb-true}
use Rattle.rows.proofs.LookedUp.{as_many, its}
use Rattle.rows.proofs.kept_rows.KeptRows.is_again.Goals as goal

pub index-requires : goal.index-requires
index-requires c =
    let rows = c.self.inside in
    let many = as_many rows.different.items rows.places.items c.args.self.now c.self.view_is c.self.invariant in
    let long = rows.places.ok.0 in
    let low = c.requires.number in
    omega arith

pub index-requires-2 : goal.index-requires-2
index-requires-2 c =
    let rows = c.self.inside in
    let many = as_many rows.different.items rows.places.items c.args.self.now c.self.view_is c.self.invariant in
    let long = rows.places.ok.0 in
    let low = c.requires.other in
    omega arith

pub returns : goal.returns
returns c is =
    let different = c.self.inside.different.items in
    let places = c.self.inside.places.items in
    let rows = c.args.self.now in
    let same : c.index-2.result.now ≡ c.index.result.now = sym (eqb-true c.index.result.now c.index-2.result.now is) in
    its different places rows c.self.view_is c.self.invariant c.args.other c.index-2.result.now c.requires.other c.index-2.ensures
    ∙ ap (slice_get different) same
    ∙ sym (its different places rows c.self.view_is c.self.invariant
    c.args.number c.index.result.now c.requires.number c.index.ensures)
