use Rattle.std.proofs.Common.{◌≡◌, ◌≤◌, ◌+◌, ◌*◌, take}
use Rattle.explorer.specs.Frontiers.{number_in}
use Rattle.explorer.specs.Questions.{GoOnBy}
use Rattle.explorer.proofs.advance.step_by_each.Given as goal

abbrev pub invariant-loop-now : goal.invariant-loop-now
invariant-loop-now l = record {
  base : l.stepper.base ≡ l.initial.stepper.base;
  takes : GoOnBy l.block l.initial.stepper.base l.batch (take l.now-index l.level) l.initial.frontier l.frontier;
  count : number_in l.frontier ≤ number_in l.initial.frontier + l.now-index * l.batch.count;
}
