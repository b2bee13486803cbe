use Rattle.std.proofs.Common.{◌≡◌, ℕ, Option, sym, ◌∙◌, ap, arith}
use Rattle.std.specs.List.{list_any}
use Rattle.sched.specs.Schedule.{Schedule, is_beside, is_sharing, priority_in}
use Rattle.sched.specs.ReadyLists.{ready_list_of}
use Rattle.sched.proofs.ReadyList.{any_beside, none_beside_idle}
use Rattle.sched.proofs.sched.Sched.is_sharing.Goals as goal

pub returns-in-None : goal.returns-in-None
returns-in-None c =
    let q = c.self.inside in
    record {
      sharing =
          sym (none_beside_idle q.priorities (ready_list_of q.ready))
          ∙ ap (λ (o : Option ℕ). list_any (is_beside q.priorities o) (ready_list_of q.ready)) (sym c.in-None.is)
          ∙ ap is_sharing c.self.view_is;
    }

pub returns-in-Some : goal.returns-in-Some
returns-in-Some c =
    let q = c.self.inside in
    let task = c.in-Some.task in
    let p = c.list_of.result.number in
    let home : priority_in q.priorities task ≡ p =
    ap (λ (s : Schedule). priority_in s.priorities task) c.self.view_is ∙ sym c.list_of.ensures.list in
    record {
      sharing =
          c.has_other.ensures.other
          ∙ sym (any_beside q.priorities task 0 p q.ready c.self.invariant.lists_are.at_home (omega (arith, home)))
          ∙ ap (λ (o : Option ℕ). list_any (is_beside q.priorities o) (ready_list_of q.ready)) (sym c.in-Some.is)
          ∙ ap is_sharing c.self.view_is;
    }
