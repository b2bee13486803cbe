use Rattle.std.proofs.Common.{◌≡◌, ◌||◌, true, false, sym, ◌∙◌, ap}
use Rattle.lists.specs.Lists.{has_node}
use Rattle.sched.specs.Schedule.{Schedule, is_ready}
use Rattle.task_lists.specs.Tasks.{is_among}
use Rattle.sched.specs.ReadyLists.{ready_list_of}
use Rattle.sched.proofs.ReadyList.{any_in_ready_list}
use Rattle.sched.proofs.LinedUp.{has_node-line_up, listed_ready}
use Rattle.sched.proofs.sched.Sched.is_ready.Goals as goal

pub returns-then-contains : goal.returns-then-contains
returns-then-contains c =
    let q = c.self.inside in
    let task = c.args.task in
    let listed : has_node task (ready_list_of q.ready) ≡ true =
    sym (any_in_ready_list c.contains.ensures.sound task) ∙ sym c.contains.ensures.contains ∙ c.if-contains.true in
    record {
      ready =
          c.if-contains.true ∙ sym (listed_ready task q.pending q.priorities (ready_list_of q.ready) listed)
          ∙ ap (λ (s : Schedule). is_ready s task) c.self.view_is;
    }

pub returns-else-contains : goal.returns-else-contains
returns-else-contains c =
    let q = c.self.inside in
    let task = c.args.task in
    let unlisted : has_node task (ready_list_of q.ready) ≡ false =
    sym (any_in_ready_list c.contains.ensures.sound task) ∙ sym c.contains.ensures.contains ∙ c.if-contains.false in
    record {
      ready =
          c.contains-else-contains.ensures.contains ∙ sym (ap (λ b. b || is_among task q.pending) unlisted)
          ∙ sym (has_node-line_up task q.pending q.priorities (ready_list_of q.ready))
          ∙ ap (λ (s : Schedule). is_ready s task) c.self.view_is;
    }
