use Rattle.std.proofs.Common.{refl}
use Rattle.ops.proofs.Ranking.{ranked_at}
use Rattle.ops.proofs.mutexes.set_priority.Goals as goal

pub returns-clause-does : goal.returns-clause-does
returns-clause-does c = λ log s h l.
    ranked_at c.args.machine.now log s h c.args.task c.args.priority
    c.set_priority.new.self (c.set_priority.ensures.stands s h.stands.sched l)

pub returns-clause-reranks : goal.returns-clause-reranks
returns-clause-reranks c =
    record {
      depth = c.set_priority.ensures.depth;
      current = c.set_priority.ensures.current;
      ready = c.set_priority.ensures.ready;
      op_index = λ j. refl;
      clock = refl;
      objects = refl;
    }
