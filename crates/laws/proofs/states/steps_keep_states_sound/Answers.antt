use Rattle.std.proofs.Common.{◌≤◌, ◌+◌, ℕ, List, arith}
use Rattle.model.specs.Application.{Application, Limits}
use Rattle.model.specs.State.{State}
use Rattle.model.specs.Step.{step}
use Rattle.soundness.proofs.Moving.{moves-step}
use Rattle.soundness.proofs.Begun.{reached_step}
use Rattle.laws.proofs.states.steps_keep_states_sound.Goals as goal

pub returns-clause-sound : goal.returns-clause-sound
returns-clause-sound c = reached_step

in_step : (app : Application) (limits : Limits) (handlers : List ℕ) (s : State) → s.suspensions ≤ s.steps
    → (step app limits handlers s).suspensions ≤ (step app limits handlers s).steps
unfolding step
in_step app limits handlers s few = let one = (moves-step app limits handlers s).suspensions in omega arith

pub returns-clause-suspended : goal.returns-clause-suspended
returns-clause-suspended c = in_step

held_in_step : (app : Application) (limits : Limits) (handlers : List ℕ) (s : State) → s.suspensions + s.sections ≤ s.steps
    → (step app limits handlers s).suspensions + (step app limits handlers s).sections ≤ (step app limits handlers s).steps
unfolding step
held_in_step app limits handlers s few = let one = (moves-step app limits handlers s).by_tasks in omega arith

pub returns-clause-held : goal.returns-clause-held
returns-clause-held c = held_in_step
