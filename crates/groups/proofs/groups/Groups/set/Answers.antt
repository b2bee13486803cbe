use Rattle.std.proofs.Common.{◌<◌, arith, refl, ◌≡◌, ℕ, List, set, length, sym, ◌∙◌, subst, ap, bit_or}
use Rattle.std.proofs.lemmas.List.{get_or-set_same}
use Rattle.model.specs.declared.call.Condition.{Condition}
use Rattle.model.specs.State.{bits_at}
use Rattle.model.specs.Groups.{bits_set}
use Rattle.model.specs.Groups as definitions
use Rattle.lists.specs.Lists.{entries_of}
use Rattle.groups.specs.EventGroups.{EventGroups, left_by, met_of, waiting_in}
use Rattle.groups.specs.StandsFor.{StandsFor}
use Rattle.groups.proofs.Keys.{below_apart}
use Rattle.groups.proofs.Meeting.{left_is, met_is, set_is, stands_set}
use Rattle.groups.proofs.groups.Groups.set.Goals as goal

pub returns-clause-met : goal.returns-clause-met
returns-clause-met c = λ s h.
    let v = c.args.self.now in
    let g = c.args.group in
    let bits : bit_or c.bits.result c.args.mask ≡ bits_set g c.args.mask s =
    ap (λ (b : ℕ). bit_or b c.args.mask) c.bits.ensures.bits ∙ set_is v s h g c.args.mask in
    let wants : c.self.inside.wants ≡ v.wants = ap (λ (w : EventGroups). w.wants) c.self.view_is in
    let lists : entries_of c.self.inside.lists c.list_id.result.number ≡ waiting_in v g =
    ap (λ (w : EventGroups). entries_of w.waiting c.list_id.result.number) c.self.view_is
    ∙ ap (waiting_in v) c.list_id.ensures.number in
    c.take_met.ensures.tasks
    ∙ ap (λ (ws : List Condition).
    met_of ws (bit_or c.bits.result c.args.mask) (entries_of c.self.inside.lists c.list_id.result.number))
    wants
    ∙ ap (met_of v.wants (bit_or c.bits.result c.args.mask)) lists
    ∙ ap (λ (b : ℕ). met_of v.wants b (waiting_in v g)) bits
    ∙ met_is v s h g (below_apart g (subst (λ (k : ℕ). k < 16) c.list_id.ensures.number c.list_id.ensures.known))
    (bits_set g c.args.mask s)

pub returns-clause-after : goal.returns-clause-after
returns-clause-after c = λ s h.
    let v = c.args.self.now in
    let g = c.args.group in
    let bits : bit_or c.bits.result c.args.mask ≡ bits_set g c.args.mask s =
    ap (λ (b : ℕ). bit_or b c.args.mask) c.bits.ensures.bits ∙ set_is v s h g c.args.mask in
    let wants : c.self.inside.wants ≡ v.wants = ap (λ (w : EventGroups). w.wants) c.self.view_is in
    let met = returns-clause-met c s h ∙ sym (met_is v s h g
    (below_apart g (subst (λ (k : ℕ). k < 16) c.list_id.ensures.number c.list_id.ensures.known)) (bits_set g c.args.mask s)) in
    c.take_met.ensures.left
    ∙ ap (λ (ws : List Condition). left_by ws (bit_or c.bits.result c.args.mask) c.take_met.new.met.tasks.items) wants
    ∙ ap (λ (b : ℕ). left_by v.wants b c.take_met.new.met.tasks.items) bits
    ∙ ap (left_by v.wants (bits_set g c.args.mask s)) met
    ∙ left_is v s h g (below_apart g (subst (λ (k : ℕ). k < 16) c.list_id.ensures.number c.list_id.ensures.known))
    (bits_set g c.args.mask s)

pub returns-clause-stands : goal.returns-clause-stands
returns-clause-stands c = λ s h.
    let q = c.self.inside in
    let w : EventGroups = record { bits = q.bits; waiting = q.lists; wants = q.wants } in
    let h' : StandsFor w s = subst (λ (v : EventGroups). StandsFor v s) (sym c.self.view_is) h in
    let g = c.args.group in
    let bits : bit_or c.bits.result c.args.mask ≡ bits_set g c.args.mask s =
    ap (λ (b : ℕ). bit_or b c.args.mask) c.bits.ensures.bits ∙ set_is c.args.self.now s h g c.args.mask in
    let new = c.take_met.new.lists in
    let woken = c.take_met.ensures.woken w s refl h' in
    let told = c.self.told in
    let known : c.group.inside.number < 16 = c.group.invariant in
    let there : g < length q.bits = subst (λ (k : ℕ). k < length q.bits) c.group.view_is (omega (arith, told, known)) in
    subst (λ (k : ℕ).
    StandsFor (record { bits = set q.bits k c.take_met.new.met.left; waiting = new; wants = q.wants })
    (definitions.set g c.args.mask s))
    (sym c.group.view_is)
    (stands_set w s g c.args.mask (bit_or c.bits.result c.args.mask) c.take_met.new.met.left
    c.take_met.new.met.tasks.items new there bits (returns-clause-met c s h) (returns-clause-after c s h) woken)

pub returns-clause-kept : goal.returns-clause-kept
returns-clause-kept c = λ s h.
    let bits : List ℕ = c.self.inside.bits in
    let n = c.group.inside.number in
    let left = c.take_met.new.met.left in
    let told = c.self.told in
    let known : n < 16 = c.group.invariant in
    let stands = returns-clause-stands c s h in
    sym (get_or-set_same bits n left 0 (omega (arith, told, known)))
    ∙ stands.bits n
    ∙ ap (bits_at (definitions.set c.args.group c.args.mask s)) c.group.view_is
