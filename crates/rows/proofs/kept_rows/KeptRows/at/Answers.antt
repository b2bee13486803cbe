use Rattle.std.proofs.Common.{arith}
use Rattle.rows.proofs.LookedUp.{as_many, place_low, seen}
use Rattle.rows.proofs.kept_rows.KeptRows.at.Goals as goal

pub index-place-requires : goal.index-place-requires
index-place-requires c =
    let rows = c.self.inside in
    let many = as_many rows.different.items rows.places.items c.args.self.now c.self.view_is c.self.invariant in
    let long = rows.places.ok.0 in
    let low = c.requires in
    omega arith

pub index-requires : goal.index-requires
index-requires c =
    let rows = c.self.inside in
    let low =
    place_low rows.different.items rows.places.items c.args.self.now c.self.view_is
    c.self.invariant c.args.number c.index-place.result.now c.requires c.index-place.ensures in
    let long = rows.different.ok.0 in
    omega arith

pub returns : goal.returns
returns c =
    let rows = c.self.inside in
    seen rows.different.items rows.places.items c.args.self.now c.self.view_is c.self.invariant c.args.number
    c.index-place.result.now c.requires c.index-place.ensures c.index.result.now c.index.ensures
