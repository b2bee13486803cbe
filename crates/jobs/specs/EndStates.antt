-- The outcome of a run of a file whose end state is asked for too.
use Rattle.std.specs.Prelude.{◌≡◌, ℕ, List, [], ◌++◌, Option, Result, if◌then◌else◌}
use Rattle.model.specs.declared.event.End.{End}
use Rattle.model.specs.declared.plan.Injection.{Injection}
use Rattle.model.specs.Application.{Application}
use Rattle.model.specs.Run.{Run, state_after}
use Rattle.model.specs.EndStates.{EndState, end_state_of}
use Rattle.report.specs.declared.title.Title.{Title}
use Rattle.report.specs.declared.title.Title.TheVariants.{Base, Row}
use Rattle.report.specs.EndStates.{end_state_text}
use Rattle.report.specs.Text.{run_text}
use Rattle.requests.specs.declared.named_point.NamedPoint.{NamedPoint}
use Rattle.campaign.specs.declared.file.ServeFault.{ServeFault}
use Rattle.campaign.specs.OneRun.{HasFault, IsAsked}
use Rattle.campaign.specs.Serving.{IsFileOf, Serves, Streams}

-- the injections of the run whose report has this title: none of the base run, which is also the row of a point that isn't reached
abbrev pub plan_titled : Title → List Injection
plan_titled Base = []
plan_titled (Row number point reached) = if reached then point else []

-- the state after the last step of this run, whose report has this title
abbrev pub end_state_of_run : Application → Title → Run → EndState
end_state_of_run app title run = end_state_of (state_after app app.limits (plan_titled title) run.steps)

-- The bytes are a file. The run of it that is asked for has this end, and this report, which its end state follows.
pub record IsEndStateReportOf (asked : Option NamedPoint) (bytes report : List ℕ) (end : End) : Type 0 where
  pub app : Application
  pub file : IsFileOf bytes app
  pub title : Title
  pub run : Run
  pub runs : IsAsked asked app title run
  pub ends : run.end ≡ end
  pub text : report ≡ run_text app title run ++ end_state_text app (end_state_of_run app title run)

-- a call that serves the run that is asked for and its end state, and returns how it ends
abbrev pub ServesEndState : Option NamedPoint → Streams → Result End ServeFault → Type 0
ServesEndState asked streams outcome = Serves End (IsEndStateReportOf asked) (HasFault asked) streams outcome
