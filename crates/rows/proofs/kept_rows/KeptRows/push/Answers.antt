use Rattle.std.proofs.Common.{◌≡◌, ◌++◌, ◌∷◌, [], ◌∙◌, ℕ, List, ap, ap₂, length, subst, sym}
use Rattle.rows.specs.declared.rows.KeptRow.{KeptRow}
use Rattle.rows.proofs.LookedUp.{AreThere, looked_up, more_there, new_found, new_there}
use Rattle.rows.proofs.kept_rows.KeptRows.push.Goals as goal

pub invariant_of-self : goal.invariant_of-self
invariant_of-self c =
    subst (λ (xs : List KeptRow). AreThere xs c.self.inside.places.items) (sym c.in_err-push.ensures.err) c.self.invariant

pub invariant_of-self-in_err-push-2 : goal.invariant_of-self-in_err-push-2
invariant_of-self-in_err-push-2 c =
    let different = c.self.inside.different.items in
    let places = c.self.inside.places.items in
    subst (λ (ps : List ℕ). AreThere c.push.new.rows.items ps) (sym c.in_err-push-2.ensures.items)
    (subst (λ (xs : List KeptRow). AreThere xs places) (sym c.in_ok-push.ensures.ok)
    (more_there different (c.args.row ∷ []) places c.self.invariant))

pub invariant_of-self-2 : goal.invariant_of-self-2
invariant_of-self-2 c =
    let different = c.self.inside.different.items in
    let places = c.self.inside.places.items in
    let place : c.len-place.result ≡ length different = c.len-place.ensures ∙ c.self.inside.different.ok.0 in
    subst (λ (ps : List ℕ). AreThere c.push.new.rows.items ps)
    (sym (c.in_ok-push-2.ensures.items ∙ ap (λ (n : ℕ). places ++ n ∷ []) place))
    (subst (λ (xs : List KeptRow). AreThere xs (places ++ length different ∷ []))
    (sym c.in_ok-push.ensures.ok) (new_there different places c.args.row c.self.invariant))

pub returns : goal.returns
returns c =
    let different = c.self.inside.different.items in
    let places = c.self.inside.places.items in
    let place : c.len-place.result ≡ length different = c.len-place.ensures ∙ c.self.inside.different.ok.0 in
    ap₂ (λ (xs : List KeptRow) (ps : List ℕ). looked_up xs ps) c.in_ok-push.ensures.ok
    (c.in_ok-push-2.ensures.items ∙ ap (λ (n : ℕ). places ++ n ∷ []) place)
    ∙ new_found different places c.args.row c.self.invariant
    ∙ ap (λ (rows : List KeptRow). rows ++ c.args.row ∷ []) c.self.view_is
