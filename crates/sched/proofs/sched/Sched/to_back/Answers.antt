use Rattle.std.proofs.Common.{◌≡◌, ℕ, List, true, false, map, sym, ◌∙◌, ap, subst, refl}
use Rattle.lists.specs.Lists.{IsSound, has_node, without}
use Rattle.lists.proofs.Entries.{has_node-without_it}
use Rattle.sched.specs.Schedule.{Schedule, priority_in, to_back}
use Rattle.sched.specs.ReadyLists.{IsSched, ready_list_of, schedule_of}
use Rattle.sched.proofs.Deeds.{push, sched_moved, schedule_moved}
use Rattle.sched.proofs.ReadyList.{any_in_ready_list, in_no_place, ready_list_of-without}
use Rattle.sched.proofs.Turning.{first_by, sched_turned, schedule_turned}
use Rattle.sched.proofs.sched.Sched.to_back.Goals as goal

pub invariant_of-self : goal.invariant_of-self
invariant_of-self c =
    let q = c.self.inside in
    let home = c.list_of-list.ensures.list ∙ ap (λ (s : Schedule). priority_in s.priorities c.args.task) (sym c.self.view_is) in
    let is = first_by (c.is_first.ensures.first.0 c.if-is_first.true) home c.list_of-list.ensures.known in
    let rotated = c.rotate.ensures.rotated in
    subst (λ (ls : List (List (ℕ × ℕ))). IsSched ls q.pending q.priorities q.base_priorities q.depth) (sym rotated)
    (sched_turned c.self.invariant.lists_are c.args.task c.list_of-list.result.number
    is c.self.invariant (subst (IsSound 32 32) rotated c.rotate.ensures.sound))

pub returns-then-is_first : goal.returns-then-is_first
returns-then-is_first c =
    let q = c.self.inside in
    let home = c.list_of-list.ensures.list ∙ ap (λ (s : Schedule). priority_in s.priorities c.args.task) (sym c.self.view_is) in
    let is = first_by (c.is_first.ensures.first.0 c.if-is_first.true) home c.list_of-list.ensures.known in
    record {
      schedule =
          ap (λ (ls : List (List (ℕ × ℕ))).
          schedule_of ls q.pending q.current q.priorities q.base_priorities q.depth q.suspensions q.suspended)
          c.rotate.ensures.rotated
          ∙ schedule_turned c.self.invariant.lists_are c.args.task c.list_of-list.result.number
          is q.pending q.current q.base_priorities q.depth q.suspensions q.suspended
          ∙ ap (to_back c.args.task) c.self.view_is;
    }

pub push_back-requires-clause-free : goal.push_back-requires-clause-free
push_back-requires-clause-free c =
    let q = c.self.inside in
    let task = c.args.task in
    let gone : has_node task (ready_list_of c.remove.new.self) ≡ false =
    ap (λ (ls : List (List (ℕ × ℕ))). has_node task (ready_list_of ls)) c.remove.ensures.removed
    ∙ ap (has_node task) (ready_list_of-without task q.ready) ∙ has_node-without_it task (ready_list_of q.ready) in
    in_no_place c.remove.ensures.sound task gone

pub invariant_of-self-then-contains : goal.invariant_of-self-then-contains
invariant_of-self-then-contains c =
    let q = c.self.inside in
    let task = c.args.task in
    let p = c.list_of-list.result.number in
    let home : p ≡ priority_in q.priorities task =
    c.list_of-list.ensures.list ∙ ap (λ (s : Schedule). priority_in s.priorities task) (sym c.self.view_is) in
    let listed : has_node task (ready_list_of q.ready) ≡ true =
    sym (any_in_ready_list c.contains.ensures.sound task) ∙ sym c.contains.ensures.contains ∙ c.if-contains.true in
    let removed = c.remove.ensures.removed in
    let put : c.push_back.new.self ≡ push task p (map (without task) q.ready) =
    c.push_back.ensures.put ∙ ap (push task p) removed in
    subst (λ (ls : List (List (ℕ × ℕ))). IsSched ls q.pending q.priorities q.base_priorities q.depth) (sym put)
    (sched_moved c.self.invariant.lists_are task p home c.list_of-list.ensures.known
    listed (subst (IsSound 32 32) removed c.remove.ensures.sound)
    c.self.invariant (subst (IsSound 32 32) put c.push_back.ensures.sound))

pub returns-then-contains : goal.returns-then-contains
returns-then-contains c =
    let q = c.self.inside in
    let task = c.args.task in
    let p = c.list_of-list.result.number in
    let home : p ≡ priority_in q.priorities task =
    c.list_of-list.ensures.list ∙ ap (λ (s : Schedule). priority_in s.priorities task) (sym c.self.view_is) in
    let listed : has_node task (ready_list_of q.ready) ≡ true =
    sym (any_in_ready_list c.contains.ensures.sound task) ∙ sym c.contains.ensures.contains ∙ c.if-contains.true in
    let removed = c.remove.ensures.removed in
    let put : c.push_back.new.self ≡ push task p (map (without task) q.ready) =
    c.push_back.ensures.put ∙ ap (push task p) removed in
    record {
      schedule =
          ap (λ (ls : List (List (ℕ × ℕ))).
          schedule_of ls q.pending q.current q.priorities q.base_priorities q.depth q.suspensions q.suspended)
          put
          ∙ schedule_moved c.self.invariant.lists_are task p home c.list_of-list.ensures.known listed
          (subst (IsSound 32 32) removed c.remove.ensures.sound) q.pending q.current q.base_priorities q.depth
          q.suspensions q.suspended
          ∙ ap (to_back task) c.self.view_is;
    }

pub returns-else-contains : goal.returns-else-contains
returns-else-contains c =
    let task = c.args.task in
    let unlisted : has_node task (ready_list_of c.self.inside.ready) ≡ false =
    sym (any_in_ready_list c.contains.ensures.sound task) ∙ sym c.contains.ensures.contains ∙ c.if-contains.false in
    let out : has_node task c.args.self.now.ready ≡ false =
    subst (λ (v : Schedule). has_node task v.ready ≡ false) c.self.view_is unlisted in
    record { schedule = rw out refl }
