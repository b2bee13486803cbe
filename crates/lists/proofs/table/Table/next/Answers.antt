use Rattle.std.proofs.Common.{◌≡◌, ℕ, get_or, refl, sym, ◌∙◌, None, Some, Option, true, false, Bool, ap}
use Rattle.std.specs.Option.{is_some}
use Rattle.lists.proofs.Entries.{none-some}
use Rattle.lists.proofs.Links.{read_link}
use Rattle.lists.proofs.Rings.{ring_seen}
use Rattle.lists.proofs.Spelled.{place_is, placed_here, sound}
use Rattle.lists.proofs.table.Table.next.Goals as goal

some_list : (o : Option ℕ) (b : Bool) → is_some o ≡ b → b ≡ true → (l : ℕ) × (o ≡ Some l)
some_list None b e t = absurd cc
some_list (Some l) b e t = (l, refl)

no_list : (o : Option ℕ) (b : Bool) (l : ℕ) → is_some o ≡ b → b ≡ false → o ≡ Some l → ⊥
no_list None b l e t i = none-some l i
no_list (Some k) b l e t i = absurd cc

pub returns-then-is_some-clause-next : goal.returns-then-is_some-clause-next
returns-then-is_some-clause-next g c = λ l has. c.next_in_list.ensures.next l has

pub returns-then-is_some-clause-outside : goal.returns-then-is_some-clause-outside
returns-then-is_some-clause-outside g c = λ outside.
    let h = ring_seen c.self.invariant.rings c.self.view_is in
    let place =
    some_list (get_or c.self.inside.rings.place c.args.node.number None) c.is_some.result
    (sym (ap is_some (read_link _ _ _ h.spells.place_length c.requires)) ∙ sym c.is_some.ensures) c.if-is_some.true in
    absurd (none-some place.0 (sym outside ∙ sym (place_is h.spells c.args.node.number) ∙ place.1))

pub returns-then-is_some-clause-sound : goal.returns-then-is_some-clause-sound
returns-then-is_some-clause-sound g c =
    let h = ring_seen c.self.invariant.rings c.self.view_is in
    sound h.spells

pub returns-else-is_some-clause-sound : goal.returns-else-is_some-clause-sound
returns-else-is_some-clause-sound g c =
    let h = ring_seen c.self.invariant.rings c.self.view_is in
    sound h.spells

pub returns-else-is_some-clause-next : goal.returns-else-is_some-clause-next
returns-else-is_some-clause-next g c = λ l has.
    let h = ring_seen c.self.invariant.rings c.self.view_is in
    let at_list = get_or c.self.inside.rings.place c.args.node.number None in
    absurd (no_list at_list c.is_some.result l
    (sym (ap is_some (read_link _ _ _ h.spells.place_length c.requires)) ∙ sym c.is_some.ensures)
    c.if-is_some.false (placed_here h.spells c.args.node.number l at_list refl has))
