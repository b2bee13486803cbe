-- What is explored, and what the functions that explore it pass on to each other: no reader need believe it.
use Rattle.std.specs.Prelude.{◌<◌, ◌≤◌, ◌-◌, ℕ, List, length}
use Rattle.model.specs.declared.plan.Injection.{Injection}
use Rattle.model.specs.Application.{Application, Limits}
use Rattle.model.specs.Placements.{AreDistinct, Found}
use Rattle.machine.specs.declared.machine.Machine.{Machine}
use Rattle.explorer.specs.declared.batch.Batch.{Batch}
use Rattle.explorer.specs.declared.choices.Choices.{Choices}
use Rattle.explorer.specs.declared.frontier.Frontier.{Frontier}
use Rattle.explorer.specs.declared.layer.Node.{Node}
use Rattle.explorer.specs.declared.question.StepBlock.{StepBlock}
use Rattle.explorer.specs.declared.question.Question.{Question}
use Rattle.explorer.specs.Choosing.{AreLevels}
use Rattle.explorer.specs.Frontiers.{IsAdvanced, IsAtBlockEnd, IsReady, IsThrough, Passes, PassesSpent, Settles, Takes, TakesBy}
use Rattle.explorer.specs.Layers.{GoesOn, HasWay, nows_of}
use Rattle.explorer.specs.Tallies.{AreTallied}

-- ---- what is explored

abbrev pub app_in : StepBlock → Application
app_in block = block.question.now.app.now

abbrev pub limits_in : StepBlock → Limits
limits_in block = block.question.now.limits.now

abbrev pub handlers_in : StepBlock → List ℕ
handlers_in block = block.question.now.choices.now.handlers.items

abbrev pub levels_in : StepBlock → ℕ
levels_in block = length block.question.now.choices.now.levels.items

-- the choices that these injections have left
abbrev pub nows_in : StepBlock → List Injection → List (List ℕ)
nows_in block plan = nows_of (handlers_in block) (levels_in block) plan

-- These are all choices of some handlers, of three at most.
pub record AreChoices (choices : Choices) : Type 0 where
  pub levels : AreLevels choices.handlers.items choices.levels.items
  pub few : length choices.levels.items ≤ 4

-- They are of so few handlers that fewer placements come of them than the code's numbers.
pub record AreFewChoices (choices : Choices) : Type 0 where
  pub are : AreChoices choices
  pub some : 0 < length choices.levels.items
  pub once : AreDistinct choices.handlers.items
  pub few : length choices.handlers.items ≤ 17

-- ---- plans at a kernel

-- the plans of a node
abbrev pub batch_of : Node → Batch
batch_of node = record { count = node.count; least = node.least }

-- The run with the least of them is under way at this kernel, which is not past the block.
pub record AreWithin (block : StepBlock) (k : Machine) (batch : Batch) : Type 0 where
  pub way : HasWay (app_in block) (limits_in block) k batch.least
  pub ahead : k.steps ≤ block.until

-- It goes on from this kernel, which is before the end of the block.
pub record AreGoingOn (block : StepBlock) (k : Machine) (batch : Batch) : Type 0 where
  pub way : HasWay (app_in block) (limits_in block) k batch.least
  pub goes : GoesOn (app_in block) (limits_in block) k
  pub ahead : k.steps < block.until

-- what comes of them in the block, if they are put into a layer
abbrev pub AreSettled : StepBlock → Machine → Batch → (old new : List Node) → (old_found new_found : List Found) → Type 0
AreSettled block k batch old new old_found new_found =
    Settles (app_in block) (limits_in block) block.until k batch.count batch.least old new old_found
    new_found

-- They are added to those of the frontier.
abbrev pub AreKept : StepBlock → Machine → Batch → (old new : Frontier) → Type 0
AreKept block k batch old new =
    Takes (app_in block) (limits_in block) (levels_in block) block.until k batch.count batch.least old new

-- So are they after a step before which each of these choices comes, if it can.
abbrev pub GoOnBy : StepBlock → Machine → Batch → (nows : List (List ℕ)) → (old new : Frontier) → Type 0
GoOnBy block k batch nows old new =
    TakesBy (app_in block) (limits_in block) (levels_in block) block.until k batch.count batch.least nows
    old new

-- ---- the nodes of a layer

-- the plans of a node with injections left
abbrev pub IsPassed : StepBlock → Node → (old new : Frontier) → Type 0
IsPassed block node old new =
    Passes (app_in block) (limits_in block) (handlers_in block) (levels_in block) block.until node old new

-- the plans of a node without
abbrev pub IsPassedSpent : StepBlock → Node → (old new : Frontier) → Type 0
IsPassedSpent block node old new =
    PassesSpent (app_in block) (limits_in block) block.until node old new

-- ---- all of them

-- They are before a step of the block.
abbrev pub IsIn : StepBlock → Frontier → Type 0
IsIn block f =
    IsReady (app_in block) (limits_in block) (handlers_in block) (levels_in block) block.until f

-- They have done it.
abbrev pub IsStepped : StepBlock → (old new : Frontier) → Type 0
IsStepped block old new =
    IsAdvanced (app_in block) (limits_in block) (handlers_in block) (levels_in block) block.until old new

-- Those without an injection left are at this step, the end of a block.
abbrev pub IsAtEnd : Question → (end : ℕ) → Frontier → Type 0
IsAtEnd question end f = IsAtBlockEnd question.app.now question.limits.now end f

-- They have gone on to the end of the next one.
abbrev pub HasGoneOn : Question → (end until : ℕ) → (old new : Frontier) → Type 0
HasGoneOn question end until old new = IsThrough question.app.now question.limits.now end until old new

-- This is found among all placements, in any order.
abbrev pub HasTally : Question → List Found → Type 0
HasTally question found =
    AreTallied question.app.now question.limits.now question.choices.now.handlers.items
    (length question.choices.now.levels.items - 1) found
