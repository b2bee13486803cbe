use Rattle.std.proofs.Common.{◌≡◌, ℕ, Option, None, Some, true, ◌∙◌, ap, subst, sym}
use Rattle.std.specs.Option.{is_some}
use Rattle.lists.specs.Lists.{place_of}
use Rattle.lists.proofs.Compared.{same_numbers}
use Rattle.groups.specs.EventGroups.{EventGroups, wanted_by}
use Rattle.groups.specs.StandsFor.{StandsFor}
use Rattle.groups.proofs.Standing.{stands_alike}
use Rattle.groups.proofs.groups.Groups.is_same.Goals as goal

not_some : (o : Option ℕ) → o ≡ None → is_some o ≡ true → ⊥
not_some None none some = cc
not_some (Some list) none some = cc

pub returns-then-is_clear : goal.returns-then-is_clear
returns-then-is_clear c = λ told s h.
    let q = c.self.inside in
    let o = c.other.inside in
    let v : EventGroups = record { bits = q.bits; waiting = q.lists; wants = q.wants } in
    let w : EventGroups = record { bits = o.bits; waiting = o.lists; wants = o.wants } in
    let bits : q.bits ≡ o.bits = same_numbers q.bits o.bits c.if-ne.ensures in
    let lists : q.lists ≡ o.lists = c.is_same.ensures c.if-not-is_same.false in
    subst (λ (x : EventGroups). StandsFor x s) c.other.view_is
    (stands_alike v w s c.self.invariant.0.sound bits lists
    (λ task some. absurd (not_some (place_of q.lists task) (c.is_clear.ensures told task) some))
    (subst (λ (x : EventGroups). StandsFor x s) (sym c.self.view_is) h))

pub returns-else-is_clear : goal.returns-else-is_clear
returns-else-is_clear c = λ told s h.
    let q = c.self.inside in
    let o = c.other.inside in
    let v : EventGroups = record { bits = q.bits; waiting = q.lists; wants = q.wants } in
    let w : EventGroups = record { bits = o.bits; waiting = o.lists; wants = o.wants } in
    let bits : q.bits ≡ o.bits = same_numbers q.bits o.bits c.if-ne.ensures in
    let lists : q.lists ≡ o.lists = c.is_same.ensures c.if-not-is_same.false in
    subst (λ (x : EventGroups). StandsFor x s) c.other.view_is
    (stands_alike v w s c.self.invariant.0.sound bits lists
    (λ task some.
    ap (λ (x : EventGroups). wanted_by x.wants task) c.other.view_is
    ∙ c.has_same_wants.ensures told task
    (ap (λ (x : EventGroups). is_some (place_of x.waiting task)) (sym c.self.view_is) ∙ some)
    ∙ sym (ap (λ (x : EventGroups). wanted_by x.wants task) c.self.view_is))
    (subst (λ (x : EventGroups). StandsFor x s) (sym c.self.view_is) h))
