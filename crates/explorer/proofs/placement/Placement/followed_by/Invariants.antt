use Rattle.std.proofs.Common.{◌≡◌, ◌++◌, take}
use Rattle.model.specs.Placements.{before_this}
use Rattle.explorer.proofs.placement.Placement.followed_by.Given as goal

abbrev pub invariant-loop-handler : goal.invariant-loop-handler
invariant-loop-handler l = l.all.items ≡ l.initial.all.items ++ before_this l.step (take l.handler-index l.handlers)
