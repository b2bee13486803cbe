use Rattle.std.proofs.Common.{◌≡◌, ℕ, ◌<◌, set, true, arith, sym, ◌∙◌, subst, ap}
use Rattle.model.specs.State.{bits_at, with_bits}
use Rattle.model.specs.Groups as definitions
use Rattle.groups.specs.EventGroups.{EventGroups}
use Rattle.groups.specs.StandsFor.{StandsFor}
use Rattle.groups.proofs.Meeting.{stands_with_bits}
use Rattle.groups.proofs.groups.Groups.final_bits.Goals as goal

pub returns-then-is_met-clause-stands : goal.returns-then-is_met-clause-stands
returns-then-is_met-clause-stands c = λ s h.
    let q = c.self.inside in
    let v : EventGroups = record { bits = q.bits; waiting = q.lists; wants = q.wants } in
    let h' : StandsFor v s = subst (λ (w : EventGroups). StandsFor w s) (sym c.self.view_is) h in
    let n = c.group.inside.number in
    let told = c.self.told in
    let known : n < 16 = c.group.invariant in
    let condition = c.args.condition.now in
    let bits : c.bits-bits.result ≡ bits_at s c.args.group = c.bits-bits.ensures.stands s h in
    let met : definitions.is_met (bits_at s c.args.group) condition ≡ true =
    ap (λ (b : ℕ). definitions.is_met b condition) (sym bits) ∙ sym c.is_met.ensures.met ∙ c.if-is_met.true in
    let left : c.bits_left.result ≡ definitions.bits_left (bits_at s c.args.group) condition =
    c.bits_left.ensures.left ∙ ap (λ (b : ℕ). definitions.bits_left b condition) bits in
    rw met
    (subst (λ (b : ℕ). StandsFor (record v { bits = set q.bits n c.bits_left.result }) (with_bits c.args.group b s)) left
    (subst (λ (g : ℕ). StandsFor (record v { bits = set q.bits n c.bits_left.result }) (with_bits g c.bits_left.result s))
    c.group.view_is
    (stands_with_bits v s n c.bits_left.result (omega (arith, told, known)) h')))
