use Rattle.std.proofs.Common.{◌∙◌, ap}
use Rattle.clock.specs.Timeline.{Timeline, is_asleep}
use Rattle.clock.proofs.Sleeping.{asleep_is}
use Rattle.clock.proofs.clock.Clock.is_asleep.Goals as goal

pub returns : goal.returns
returns c =
    record {
      asleep =
          c.contains.ensures.contains ∙ asleep_is c.self.invariant c.args.task
          ∙ ap (λ (t : Timeline). is_asleep t c.args.task) c.self.view_is;
    }
