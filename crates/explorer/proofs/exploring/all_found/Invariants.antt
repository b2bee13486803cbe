use Rattle.std.proofs.Common.{◌≤◌, length}
use Rattle.explorer.specs.Frontiers.{Holds, everything}
use Rattle.explorer.proofs.exploring.all_found.Given as goal

abbrev pub invariant-steps : goal.invariant-steps
invariant-steps g l =
    let app = l.question.app.now in
    let limits = l.question.limits.now in
    let handlers = l.question.choices.now.handlers.items in
    let levels = length l.question.choices.now.levels.items in
    record {
      holds : Holds app limits handlers levels l.step l.until l.frontier (everything app limits handlers levels);
      ahead : l.step ≤ l.until;
    }
