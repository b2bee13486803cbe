use Rattle.std.proofs.Common.{◌++◌, ◌∷◌, [], ◌∙◌, ℕ, List, ap, subst, sym, arith}
use Rattle.rows.specs.declared.rows.KeptRow.{KeptRow}
use Rattle.rows.proofs.LookedUp.{AreThere, as_many, its, looked_up, one_found, one_there, place_low}
use Rattle.rows.proofs.kept_rows.KeptRows.repeat.Goals as goal

pub index-place-requires : goal.index-place-requires
index-place-requires c =
    let rows = c.self.inside in
    let many = as_many rows.different.items rows.places.items c.args.self.now c.self.view_is c.self.invariant in
    let long = rows.places.ok.0 in
    let low = c.requires in
    omega arith

pub invariant_of-self-2 : goal.invariant_of-self-2
invariant_of-self-2 c =
    let different = c.self.inside.different.items in
    let places = c.self.inside.places.items in
    let place = c.index-place.result.now in
    let low =
    place_low different places c.args.self.now c.self.view_is c.self.invariant
    c.args.number place c.requires c.index-place.ensures in
    subst (λ (ps : List ℕ). AreThere different ps) (sym c.in_ok-push.ensures.items)
    (one_there different places place c.self.invariant low)

pub returns : goal.returns
returns c row is =
    let different = c.self.inside.different.items in
    let places = c.self.inside.places.items in
    let place = c.index-place.result.now in
    let here =
    its different places c.args.self.now c.self.view_is c.self.invariant c.args.number place c.requires c.index-place.ensures in
    ap (looked_up different) c.in_ok-push.ensures.items
    ∙ one_found different places place row (sym here ∙ is)
    ∙ ap (λ (rows : List KeptRow). rows ++ row ∷ []) c.self.view_is
