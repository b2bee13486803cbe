use Rattle.sched.specs.ReadyLists.{schedule_of}
use Rattle.sched.proofs.LinedUp.{first_free}
use Rattle.sched.proofs.sched.Sched.take_pending.Goals as goal

pub returns-clause-free : goal.returns-clause-free
returns-clause-free c =
    let q = c.self.inside in
    first_free q.pending c.pop_front.result
    (schedule_of q.ready c.pop_front.new.self q.current q.priorities q.base_priorities q.depth q.suspensions q.suspended)
    c.self.invariant.apart c.pop_front.ensures.first c.pop_front.ensures.once
