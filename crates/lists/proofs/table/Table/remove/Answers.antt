use Rattle.std.proofs.Common.{rules, ◌≡◌, ℕ, Option, Some, None, Bool, true, false, get_or, refl, sym, ◌∙◌, ap}
use Rattle.std.specs.Option.{is_some}
use Rattle.lists.proofs.Links.{read_link}
use Rattle.lists.proofs.Rings.{around, is_free, ring_lists, ring_seen, ring_table, ring_taken, taken_free, within}
use Rattle.lists.proofs.Spelled.{sound, without_unplaced}
use Rattle.lists.proofs.table.Table.remove.Goals as goal

some_list : (o : Option ℕ) (b : Bool) → is_some o ≡ b → b ≡ true → (l : ℕ) × (o ≡ Some l)
some_list None b e t = absurd cc
some_list (Some l) b e t = (l, refl)

no_list : (o : Option ℕ) (b : Bool) → is_some o ≡ b → b ≡ false → o ≡ None
no_list None b e t = refl
no_list (Some k) b e t = absurd cc

pub bounds-self-inside-before : goal.bounds-self-inside-before
bounds-self-inside-before g c =
    let h = ring_seen c.self.invariant.rings c.self.view_is in
    let at =
    some_list (get_or c.self.inside.rings.place c.args.node.number None) c.is_some.result
    (sym (ap is_some (read_link _ _ _ h.spells.place_length c.requires)) ∙ sym c.is_some.ensures) c.if-is_some.true in
    let a = around h c.args.node.number at.0 c.requires at.1 in
    within h at.0 _ a.list a.before_end

pub bounds-self-inside-after : goal.bounds-self-inside-after
bounds-self-inside-after g c =
    let h = ring_seen c.self.invariant.rings c.self.view_is in
    let at =
    some_list (get_or c.self.inside.rings.place c.args.node.number None) c.is_some.result
    (sym (ap is_some (read_link _ _ _ h.spells.place_length c.requires)) ∙ sym c.is_some.ensures) c.if-is_some.true in
    let a = around h c.args.node.number at.0 c.requires at.1 in
    within h at.0 _ a.list a.after_end

pub forget-requires : goal.forget-requires
forget-requires g c =
    let h = ring_seen c.self.invariant.rings c.self.view_is in
    let at =
    some_list (get_or c.self.inside.rings.place c.args.node.number None) c.is_some.result
    (sym (ap is_some (read_link _ _ _ h.spells.place_length c.requires)) ∙ sym c.is_some.ensures) c.if-is_some.true in
    let free =
    is_free (ring_taken h c.args.node.number at.0 c.requires at.1) c.args.node.number
    (taken_free h c.args.node.number c.requires) in
    (search rules, (c.requires, free))

pub invariant_of-self : goal.invariant_of-self
invariant_of-self g c =
    let h = ring_seen c.self.invariant.rings c.self.view_is in
    let at =
    some_list (get_or c.self.inside.rings.place c.args.node.number None) c.is_some.result
    (sym (ap is_some (read_link _ _ _ h.spells.place_length c.requires)) ∙ sym c.is_some.ensures) c.if-is_some.true in
    rw c.none.ensures.none
    (ring_table (ring_taken h c.args.node.number at.0 c.requires at.1) c.self.invariant.lists_fit c.self.invariant.nodes_fit)

pub returns-then-is_some-clause-removed : goal.returns-then-is_some-clause-removed
returns-then-is_some-clause-removed g c =
    let h = ring_seen c.self.invariant.rings c.self.view_is in
    let at =
    some_list (get_or c.self.inside.rings.place c.args.node.number None) c.is_some.result
    (sym (ap is_some (read_link _ _ _ h.spells.place_length c.requires)) ∙ sym c.is_some.ensures) c.if-is_some.true in
    c.forget.ensures.same ∙ ring_lists (ring_taken h c.args.node.number at.0 c.requires at.1)

pub returns-then-is_some-clause-sound : goal.returns-then-is_some-clause-sound
returns-then-is_some-clause-sound g c =
    let h = ring_seen c.self.invariant.rings c.self.view_is in
    let at =
    some_list (get_or c.self.inside.rings.place c.args.node.number None) c.is_some.result
    (sym (ap is_some (read_link _ _ _ h.spells.place_length c.requires)) ∙ sym c.is_some.ensures) c.if-is_some.true in
    c.forget.ensures.sound

pub returns-else-is_some-clause-removed : goal.returns-else-is_some-clause-removed
returns-else-is_some-clause-removed g c =
    let h = ring_seen c.self.invariant.rings c.self.view_is in
    sym (without_unplaced h.spells c.args.node.number (no_list
    (get_or c.self.inside.rings.place c.args.node.number None) c.is_some.result
    (sym (ap is_some (read_link _ _ _ h.spells.place_length c.requires)) ∙ sym c.is_some.ensures) c.if-is_some.false))

pub returns-else-is_some-clause-sound : goal.returns-else-is_some-clause-sound
returns-else-is_some-clause-sound g c =
    let h = ring_seen c.self.invariant.rings c.self.view_is in
    sound h.spells
