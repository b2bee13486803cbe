-- The lines of the end state of a run.
use Rattle.std.specs.Prelude.{ℕ, ◌+◌, List, [], ◌∷◌, ◌++◌, codes, decimal, Option, Some, None}
use Rattle.std.specs.List.{flat_map}
use Rattle.model.specs.Application.{Application}
use Rattle.model.specs.Words.{name_of}
use Rattle.model.specs.declared.end_state.HeldMutex.{HeldMutex}
use Rattle.model.specs.declared.end_state.Situation.{Situation}
use Rattle.model.specs.declared.end_state.Situation.TheVariants as situation
use Rattle.model.specs.EndStates.{EndState}

-- until when a task waits
abbrev pub until_text : Option ℕ → List ℕ
until_text None = codes "forever"
until_text (Some tick) = decimal tick

-- what a task is doing
abbrev pub situation_text : Situation → List ℕ
situation_text (situation.Runs op_index) = codes "runs " ++ decimal op_index
situation_text (situation.Ready op_index) = codes "ready " ++ decimal op_index
situation_text (situation.Awake op_index) = codes "awake " ++ decimal op_index
situation_text (situation.Waits op_index until) = codes "waits " ++ decimal op_index ++ codes " " ++ until_text until
situation_text (situation.Sleeps op_index until) = codes "sleeps " ++ decimal op_index ++ codes " " ++ decimal until
situation_text (situation.Suspended op_index) = codes "suspended " ++ decimal op_index
situation_text situation.Ended = codes "ended"

-- the line of a task
abbrev pub task_line : Application → (task : ℕ) → Situation → List ℕ
task_line app task s = codes "state " ++ name_of app task ++ codes " " ++ situation_text s ++ codes "\n"

-- the line of a variable
abbrev pub variable_line : (variable value : ℕ) → List ℕ
variable_line variable value = codes "variable " ++ decimal variable ++ codes " = " ++ decimal value ++ codes "\n"

-- a line for each of these; the first of them has this number
abbrev pub numbered_lines : {X : Type 0} → (line : ℕ → X → List ℕ) → (number : ℕ) → List X → List ℕ
numbered_lines line number [] = []
numbered_lines line number (x ∷ xs) = line number x ++ numbered_lines line (number + 1) xs

-- the line of a mutex that is held
abbrev pub held_line : Application → HeldMutex → List ℕ
held_line app held = codes "held " ++ decimal held.object ++ codes " " ++ name_of app held.holder ++ codes "\n"

-- the end state of a run: a line for each task, one for each mutex that is held, and one for each variable
abbrev pub end_state_text : Application → EndState → List ℕ
end_state_text app s =
    numbered_lines (task_line app) 0 s.situations
    ++ flat_map (held_line app) s.held
    ++ numbered_lines variable_line 0 s.variables
