-- The outcome of one run of a file: the report of the base run, or of row 0, if a handler is injected.
use Rattle.std.specs.Prelude.{◌≡◌, ℕ, Bool, List, [], Option, Some, None, Result, map}
use Rattle.model.specs.Application.{Application}
use Rattle.model.specs.Run.{Run, IsRun, IsRow}
use Rattle.model.specs.declared.event.End.{End}
use Rattle.model.specs.declared.plan.Injection.{Injection}
use Rattle.report.specs.Text.{run_text}
use Rattle.report.specs.declared.title.Title.{Title}
use Rattle.report.specs.declared.title.Title.TheVariants.{Base, Row}
use Rattle.requests.specs.declared.named_point.NamedPoint.{NamedPoint}
use Rattle.requests.specs.Asked.{names_in, pairs_in}
use Rattle.campaign.specs.declared.file.ServeFault.{ServeFault}
use Rattle.campaign.specs.declared.file.ServeFault.TheVariants.{UnknownHandler}
use Rattle.campaign.specs.Named.{IsFirstUnknown, injection_named}
use Rattle.campaign.specs.Serving.{IsFileOf, HasFileFault, Serves, Streams}

-- The run that is asked for, under the limits of the file itself, and what its report is of: the base run, and if a point is
-- asked for, row 0. The handlers of the point's injections have the names.
abbrev pub IsAsked : Option NamedPoint → Application → Title → Run → Type 0
IsAsked None app title run = (title ≡ Base) × IsRun app [] app.limits run
IsAsked (Some named) app title run =
    (point : List Injection) × (map (injection_named app) (pairs_in named.injections) ≡ map Some point)
    × (reached : Bool) × (title ≡ Row 0 point reached) × IsRow app app.limits point reached run

-- the names of handlers in what is asked for
abbrev pub names_asked : Option NamedPoint → List (List ℕ)
names_asked None = []
names_asked (Some named) = names_in (pairs_in named.injections)

-- The bytes have this fault, if this run is asked for.
abbrev pub HasFault : Option NamedPoint → List ℕ → ServeFault → Type 0
HasFault asked bytes (UnknownHandler place) =
    (app : Application) × IsFileOf bytes app × IsFirstUnknown app (names_asked asked) place
HasFault asked bytes fault = HasFileFault bytes fault

-- the bytes are a file whose run, as it is asked for, has this report and this end
pub record IsReportOf (asked : Option NamedPoint) (bytes report : List ℕ) (end : End) : Type 0 where
  pub app : Application
  pub file : IsFileOf bytes app
  pub title : Title
  pub run : Run
  pub runs : IsAsked asked app title run
  pub ends : run.end ≡ end
  pub text : report ≡ run_text app title run

-- a call that serves the run that is asked for, and returns how it ends
abbrev pub ServesRun : Option NamedPoint → Streams → Result End ServeFault → Type 0
ServesRun asked streams outcome = Serves End (IsReportOf asked) (HasFault asked) streams outcome
