-- When a run is over, whatever its limits; but that of an application that is tickless also at the limit of its ticks.
use Rattle.std.specs.Prelude.{◌&&◌, ◌||◌, Bool, is_some, nat_le}
use Rattle.model.specs.Application.{Application, Limits}
use Rattle.model.specs.State.{State}
use Rattle.model.specs.Run.{are_all_ended, is_stuck}

-- The run is at the limit of its ticks, where a step may let any number of them pass.
abbrev pub is_at_tick_limit : Application → Limits → State → Bool
is_at_tick_limit app limits s = app.tickless && nat_le limits.ticks s.elapsed

-- An `expect` failed or a misuse came, every task but the endless ones has come to the end of its script, the run is at such a
-- limit, or it is stuck.
abbrev pub is_over : Application → Limits → State → Bool
is_over app limits s =
    is_some s.stopped || are_all_ended app s || is_at_tick_limit app limits s || is_stuck app s
