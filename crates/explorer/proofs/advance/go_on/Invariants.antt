use Rattle.std.proofs.Common.{◌≡◌, ◌≤◌, ◌+◌, ◌*◌, length, take}
use Rattle.std.specs.List.{flat_map}
use Rattle.explorer.specs.Frontiers.{number_in}
use Rattle.explorer.specs.Questions.{GoOnBy}
use Rattle.explorer.proofs.advance.go_on.Given as goal

abbrev pub invariant-loop-level : goal.invariant-loop-level
invariant-loop-level l = record {
  base : l.stepper.base ≡ l.initial.stepper.base;
  takes : GoOnBy l.block l.initial.stepper.base l.batch (flat_map (λ level. level) (take l.level-index l.some))
      l.initial.frontier l.frontier;
  count : number_in l.frontier
      ≤ number_in l.initial.frontier + length (flat_map (λ level. level) (take l.level-index l.some)) * l.batch.count;
}
