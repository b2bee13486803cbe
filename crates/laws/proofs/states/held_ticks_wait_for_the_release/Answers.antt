use Rattle.laws.proofs.Held.{tick_waits, tick_wakes_nobody, time_released}
use Rattle.laws.proofs.states.held_ticks_wait_for_the_release.Goals as goal

pub returns-clause-held : goal.returns-clause-held
returns-clause-held c = tick_waits

pub returns-clause-injected : goal.returns-clause-injected
returns-clause-injected c = tick_wakes_nobody

pub returns-clause-released : goal.returns-clause-released
returns-clause-released c = time_released
