use Rattle.std.proofs.Common.{◌∙◌}
use Rattle.std.proofs.Math.ListN.{length-set}
use Rattle.machine.proofs.Booting.{progress_more}
use Rattle.machine.proofs.boot.progress_of.Goals as goal

pub loop-index-init : goal.loop-index-init
loop-index-init c = record { progress = c.without_tasks-progress.ensures.progress; full = c.without_tasks-progress.ensures.full }

pub loop-index-preserved : goal.loop-index-preserved
loop-index-preserved c = record {
  progress =
      progress_more c.args.tasks.now c.loop-index.index c.index-tasks-index.result c.requires
      c.loop-index-test.true c.index-tasks-index.is c.args.start c.loop-index.progress
      c.loop-index.invariant.full c.loop-index.invariant.progress c.new.result c.new.ensures;
  full = length-set _ _ _ ∙ c.loop-index.invariant.full;
}
