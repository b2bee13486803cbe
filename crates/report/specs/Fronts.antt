-- The front of a line: all that it reports except its number.
use Rattle.std.specs.Prelude.{◌≡◌, ℕ, ◌≤◌, ◌<◌, ◌==◌, List, ◌++◌, take, codes, slice_index_or, replicate}
use Rattle.model.specs.Application.{Application}
use Rattle.model.specs.Words.{name_of, handler_name_of}
use Rattle.report.specs.Text.{call_front, isr_front, obeyed_front}
use Rattle.report.specs.declared.label.Label.{Label}
use Rattle.report.specs.declared.label.OpLabel.{OpLabel}

-- what the line of a mark says before its number
abbrev pub mark_front : Application → ℕ → List ℕ
mark_front app task = codes "mark " ++ name_of app task ++ codes " "

-- the same of a handler's mark
abbrev pub isr_mark_front : Application → ℕ → List ℕ
isr_mark_front app handler = codes "mark " ++ handler_name_of app handler ++ codes " "

-- all that the line of a task that runs says, with its end
abbrev pub run_front : Application → ℕ → List ℕ
run_front app task = codes "run " ++ name_of app task ++ codes "\n"

-- The label has no text yet, or this one.
pub record IsLabel (label : Label) (front : List ℕ) : Type 0 where
  pub few : label.len ≤ 48
  pub text : 0 < label.len → take label.len label.text ≡ front

-- The label of a call has the front of the call that it names.
abbrev pub IsCallLabel : Application → OpLabel → Type 0
IsCallLabel app call = IsLabel call.label (call_front app call.owner call.op_index)

-- The label of a handler's op has the front of the op that it names.
abbrev pub IsIsrLabel : Application → OpLabel → Type 0
IsIsrLabel app isr = IsLabel isr.label (isr_front app isr.owner isr.op_index)

-- The label at a place of a command that the daemon has done has the front of a `clear` at place 1, and of a `set` elsewhere.
abbrev pub IsObeyedLabel : Application → (place : ℕ) → OpLabel → Type 0
IsObeyedLabel app place command = IsLabel command.label (obeyed_front app command.owner (place == 1))

abbrev pub blank : Label
blank = record { text = replicate 48 0; len = 0 }

abbrev pub blank_op : OpLabel
blank_op = record { owner = 0; op_index = 0; label = blank }

-- Each label is right for what it is the label of.
pub record AreLabels (app : Application) (runs marks : List Label) (calls isrs obeyed : List OpLabel) : Type 0 where
  pub of_runs : (task : ℕ) → IsLabel (slice_index_or runs task blank) (run_front app task)
  pub of_marks : (task : ℕ) → IsLabel (slice_index_or marks task blank) (mark_front app task)
  pub of_calls : (place : ℕ) → IsCallLabel app (slice_index_or calls place blank_op)
  pub of_isrs : (place : ℕ) → IsIsrLabel app (slice_index_or isrs place blank_op)
  pub of_obeyed : (place : ℕ) → IsObeyedLabel app place (slice_index_or obeyed place blank_op)
