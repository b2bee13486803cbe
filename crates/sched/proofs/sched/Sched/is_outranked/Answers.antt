use Rattle.std.proofs.Common.{ℕ, Option, sym, ◌∙◌, ap, subst}
use Rattle.std.specs.List.{list_any}
use Rattle.sched.specs.Schedule.{IsCalm, Schedule, is_above, is_outranked, priority_in}
use Rattle.sched.specs.ReadyLists.{is_below, ready_list_of}
use Rattle.sched.proofs.ReadyList.{any_above_top, any_where_idle}
use Rattle.sched.proofs.sched.Sched.is_outranked.Goals as goal

pub returns-in-None : goal.returns-in-None
returns-in-None c =
    let q = c.self.inside in
    record {
      outranked =
          c.is_some.ensures
          ∙ any_where_idle q.priorities q.ready c.highest.result c.self.invariant.lists_are.at_home c.highest.ensures.highest
          ∙ ap (λ (o : Option ℕ). list_any (is_above q.priorities o) (ready_list_of q.ready)) (sym c.in-None.is)
          ∙ ap is_outranked c.self.view_is;
      calm = subst IsCalm c.self.view_is c.self.invariant.calm;
    }

pub returns-in-Some : goal.returns-in-Some
returns-in-Some c =
    let q = c.self.inside in
    let task = c.in-Some.task in
    let above = c.has_above.ensures.above in
    let home = c.list_of.ensures.list ∙ ap (λ (s : Schedule). priority_in s.priorities task) (sym c.self.view_is) in
    record {
      outranked =
          above.2
          ∙ ap (λ (k : ℕ). is_below k above.0) home
          ∙ any_above_top q.priorities q.ready task above.0 c.self.invariant.lists_are.at_home above.1
          ∙ ap (λ (o : Option ℕ). list_any (is_above q.priorities o) (ready_list_of q.ready)) (sym c.in-Some.is)
          ∙ ap is_outranked c.self.view_is;
      calm = subst IsCalm c.self.view_is c.self.invariant.calm;
    }
