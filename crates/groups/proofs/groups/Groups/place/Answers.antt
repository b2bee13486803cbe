use Rattle.std.proofs.Common.{None, ◌≡◌, ℕ, ◌<◌, List, ◌∷◌, [], ◌++◌, set, sym, ◌∙◌, subst, ap}
use Rattle.model.specs.State.{State}
use Rattle.model.specs.Groups.{wait_for_bits, want}
use Rattle.lists.specs.Lists.{entries_of, place_of}
use Rattle.groups.specs.EventGroups.{EventGroups}
use Rattle.groups.specs.StandsFor.{StandsFor}
use Rattle.groups.proofs.Placing.{stands_begun, stands_placed}
use Rattle.groups.proofs.groups.Groups.place.Goals as goal

pub returns-clause-stands : goal.returns-clause-stands
returns-clause-stands c = λ s h l.
    let q = c.self.inside in
    let i = c.args.task in
    let g = c.args.group in
    let v : EventGroups = record { bits = q.bits; waiting = q.lists; wants = q.wants } in
    let h' : StandsFor v s = subst (λ (w : EventGroups). StandsFor w s) (sym c.self.view_is) h in
    let free : place_of q.lists i ≡ None = ap (λ (w : EventGroups). place_of w.waiting i) c.self.view_is ∙ c.requires.free in
    let known : i < 32 = subst (λ (k : ℕ). k < 32) c.task.view_is c.task.invariant in
    let group_known : g < 16 = subst (λ (k : ℕ). k < 16) c.list_id.ensures.number c.list_id.ensures.known in
    let one =
    stands_placed v s h' i l c.self.invariant.0.sound free g c.args.condition c.self.invariant.0.as_many known group_known in
    let put : c.push_back.new.self ≡ set q.lists g (entries_of q.lists g ++ (i, 0) ∷ []) =
    c.push_back.ensures.put ∙ ap (λ (k : ℕ). set q.lists k (entries_of q.lists k ++ (i, 0) ∷ [])) c.list_id.ensures.number in
    let t : State = wait_for_bits i g (want i c.args.condition s) in
    subst
    (λ (k : ℕ). StandsFor (record { bits = q.bits; waiting = c.push_back.new.self; wants = set q.wants k c.args.condition }) t)
    (sym c.task.view_is)
    (subst
    (λ (ls : List (List (ℕ × ℕ))). StandsFor (record { bits = q.bits; waiting = ls; wants = set q.wants i c.args.condition }) t)
    (sym put) one)

pub returns-clause-begins : goal.returns-clause-begins
returns-clause-begins c = λ s ticks h l.
    stands_begun c.args.self.now s c.args.task c.args.group c.args.condition ticks _ h l (returns-clause-stands c)
