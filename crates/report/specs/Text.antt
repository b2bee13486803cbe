-- The text of a run, and of a campaign.
use Rattle.std.specs.Prelude.{ℕ, ◌+◌, Bool, true, false, List, [], ◌∷◌, ◌++◌, codes, decimal, Option, Some, None, option_map}
use Rattle.std.specs.Prelude.{unwrap_or, if◌then◌else◌}
use Rattle.std.specs.List.{flat_map}
use Rattle.model.specs.Application.{Application, op_at}
use Rattle.model.specs.Words.{name_of, isr_op_at, handler_name_of, source_name_of, word_of, word_of_isr}
use Rattle.model.specs.Run.{Run}
use Rattle.model.specs.Campaign.{totals_of}
use Rattle.model.specs.Campaign as campaign
use Rattle.model.specs.declared.event.Event.{Event}
use Rattle.model.specs.declared.event.What.{What}
use Rattle.model.specs.declared.event.What.TheVariants as what
use Rattle.model.specs.declared.event.End.{End}
use Rattle.model.specs.declared.event.End.TheVariants as ending
use Rattle.model.specs.declared.event.Misuse.{Misuse}
use Rattle.model.specs.declared.event.Misuse.TheVariants.{WhileSuspended, NotSuspended, NotHolder, EndedSuspended, WhileCritical}
use Rattle.model.specs.declared.event.Misuse.TheVariants.{NotCritical, EndedCritical}
use Rattle.model.specs.declared.plan.Injection.{Injection}
use Rattle.model.specs.declared.totals.Totals.{Totals}
use Rattle.report.specs.declared.title.Title.{Title}
use Rattle.report.specs.declared.title.Title.TheVariants.{Base, Row}

-- the first word of a task's op of this index; empty if there is no op
abbrev pub word_at : Application → ℕ → ℕ → List ℕ
word_at app task op_index = unwrap_or (option_map word_of (op_at app task op_index)) []

-- what the line of a call says before its result
abbrev pub call_front : Application → (task op_index : ℕ) → List ℕ
call_front app task op_index =
    codes "call " ++ name_of app task ++ codes " " ++ decimal op_index ++ codes " " ++ word_at app task op_index ++ codes " = "

-- the same of a command that the daemon has done, which is printed as an op of index 1 (profile)
abbrev pub obeyed_front : Application → (task : ℕ) → (clear : Bool) → List ℕ
obeyed_front app task clear =
    codes "call " ++ name_of app task ++ codes " 1 " ++ (if clear then codes "clear" else codes "set") ++ codes " = "

-- the first word of a handler's op of this index; empty if there is no op
abbrev pub isr_word_at : Application → ℕ → ℕ → List ℕ
isr_word_at app handler op_index = unwrap_or (option_map word_of_isr (isr_op_at app handler op_index)) []

-- what the line of a handler's op says before its result
abbrev pub isr_front : Application → (handler op_index : ℕ) → List ℕ
isr_front app handler op_index =
    codes "isr " ++ handler_name_of app handler ++ codes " " ++ decimal op_index ++ codes " "
    ++ isr_word_at app handler op_index ++ codes " = "

-- what runs: a task, or idle
abbrev pub runner_text : Application → Option ℕ → List ℕ
runner_text app None = codes "-"
runner_text app (Some task) = name_of app task

-- what an event reports
abbrev pub what_text : Application → What → List ℕ
what_text app (what.Call task op_index answer) = call_front app task op_index ++ decimal answer
what_text app (what.CallNone task op_index) = call_front app task op_index ++ codes "none"
what_text app (what.Obeyed task clear bits) = obeyed_front app task clear ++ decimal bits
what_text app (what.Mark task mark) = codes "mark " ++ name_of app task ++ codes " " ++ decimal mark
what_text app (what.Isr handler op_index answer) = isr_front app handler op_index ++ decimal answer
what_text app (what.IsrNone handler op_index) = isr_front app handler op_index ++ codes "none"
what_text app (what.IsrMark handler mark) = codes "mark " ++ handler_name_of app handler ++ codes " " ++ decimal mark
what_text app (what.Run task) = codes "run " ++ runner_text app task

-- the line of an event: step, tick, and what it reports
abbrev pub event_text : Application → Event → List ℕ
event_text app event =
    decimal event.step ++ codes " " ++ decimal event.tick ++ codes " " ++ what_text app event.what ++ codes "\n"

-- the number of a misuse (profile)
abbrev pub code_of : Misuse → ℕ
code_of WhileSuspended = 1
code_of NotSuspended = 2
code_of NotHolder = 3
code_of EndedSuspended = 4
code_of WhileCritical = 5
code_of NotCritical = 6
code_of EndedCritical = 7

-- the task and the index of the op that brought an end about
abbrev pub op_text : Application → (task op_index : ℕ) → List ℕ
op_text app task op_index = name_of app task ++ codes " " ++ decimal op_index

-- the same of a handler
abbrev pub isr_op_text : Application → (handler op_index : ℕ) → List ℕ
isr_op_text app handler op_index = handler_name_of app handler ++ codes " " ++ decimal op_index

-- how a run ends
abbrev pub verdict_text : Application → End → List ℕ
verdict_text app ending.Pass = codes "pass"
verdict_text app (ending.Check task op_index) = codes "check " ++ op_text app task op_index
verdict_text app (ending.HandlerCheck handler op_index) = codes "check " ++ isr_op_text app handler op_index
verdict_text app (ending.Misuse task op_index kind) =
    codes "misuse " ++ op_text app task op_index ++ codes " " ++ decimal (code_of kind)
verdict_text app ending.Ticks = codes "ticks"
verdict_text app ending.Steps = codes "steps"
verdict_text app ending.Stuck = codes "stuck"

-- an injection: the step, and the name of the handler
abbrev pub injection_text : Application → Injection → List ℕ
injection_text app i = decimal i.step ++ codes " " ++ source_name_of app i.handler

-- one after another
abbrev pub next_text : Application → Injection → List ℕ
next_text app i = codes " " ++ injection_text app i

-- an injection point: its injections, in order
abbrev pub point_text : Application → List Injection → List ℕ
point_text app [] = []
point_text app (i ∷ is) = injection_text app i ++ flat_map (next_text app) is

-- what is said of a point that is not reached
abbrev pub reached_text : (reached : Bool) → List ℕ
reached_text true = []
reached_text false = codes "not reached, "

-- what the report is of: the base run, or the row of this number
abbrev pub title_text : Application → Title → List ℕ
title_text app Base = codes "base: "
title_text app (Row number point reached) =
    codes "row " ++ decimal number ++ codes " at " ++ point_text app point ++ codes ": " ++ reached_text reached

-- the head line of a run
abbrev pub head_text : Application → Title → (steps ticks : ℕ) → End → List ℕ
head_text app title steps ticks end =
    title_text app title ++ verdict_text app end ++ codes " in " ++ decimal steps ++ codes " steps, "
    ++ decimal ticks ++ codes " ticks\n"

-- a run: its head line, and the lines of its events
abbrev pub run_text : Application → Title → Run → List ℕ
run_text app title run = head_text app title run.steps run.ticks run.end ++ flat_map (event_text app) run.events

-- ---- a campaign

-- a row of a campaign, which is the one of this number
abbrev pub row_text : Application → (number : ℕ) → campaign.Row → List ℕ
row_text app number row = run_text app (Row number row.point row.reached) row.run

-- the rows; the first of them has this number
abbrev pub rows_text : Application → (number : ℕ) → List campaign.Row → List ℕ
rows_text app number [] = []
rows_text app number (row ∷ rows) = row_text app number row ++ rows_text app (number + 1) rows

-- the line that ends the report of a campaign
abbrev pub total_text : Totals → List ℕ
total_text t =
    codes "total " ++ decimal t.rows ++ codes ": pass " ++ decimal t.pass ++ codes ", check " ++ decimal t.check
    ++ codes ", misuse " ++ decimal t.misuse ++ codes ", ticks " ++ decimal t.ticks ++ codes ", steps " ++ decimal t.steps
    ++ codes ", stuck " ++ decimal t.stuck ++ codes ", not reached " ++ decimal t.not_reached ++ codes "\n"

-- the report of a campaign: its rows, and how many of them end in which way
abbrev pub campaign_text : Application → List campaign.Row → List ℕ
campaign_text app rows = rows_text app 0 rows ++ total_text (totals_of rows)
