use Rattle.std.proofs.Common.{◌∙◌, take_all, refl}
use Rattle.std.proofs.Math.ListN.{length-set}
use Rattle.machine.proofs.Booting.{zeros, all_zero, priorities_more, known_more, priority_low}
use Rattle.machine.proofs.boot.priorities_of.Goals as goal

pub loop-index-init : goal.loop-index-init
loop-index-init c = record { priorities = λ i. zeros 32 i; known = all_zero 32; full = refl }

pub loop-index-preserved : goal.loop-index-preserved
loop-index-preserved c =
    let so = c.loop-index.invariant in
    record {
      priorities =
          rw c.priority.ensures (priorities_more c.args.tasks.now c.loop-index.index c.index-tasks-index.result
          c.requires.few c.loop-index-test.true c.index-tasks-index.is c.loop-index.priorities so.full so.priorities);
      known =
          known_more c.loop-index.priorities c.loop-index.index c.priority.result so.known
          (rw c.priority.ensures (priority_low c.args.tasks.now c.loop-index.index
          c.index-tasks-index.result c.requires.formed c.loop-index-test.true c.index-tasks-index.is));
      full = length-set _ _ _ ∙ so.full;
    }

pub returns-clause-priorities : goal.returns-clause-priorities
returns-clause-priorities c = rw (take_all _ _ c.loop-index-test.false) at c.loop-index.invariant.priorities

pub returns-clause-known : goal.returns-clause-known
returns-clause-known c = c.loop-index.invariant.known
