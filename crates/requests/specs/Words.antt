-- The words that the program takes.
use Rattle.std.specs.Prelude.{◌≡◌, ◌<◌, ◌≤◌, ◌^◌, ◌⊎◌, IfSome, Bool, true, false, ℕ, List, [], ◌∷◌, map, codes, pos, Option, Some}
use Rattle.std.specs.Prelude.{None, option_map, if◌then◌else◌}
use Rattle.std.specs.Borrow.{Bor}
use Rattle.std.specs.Str.{bytes_eq}
use Rattle.std.specs.Str.Parse.{IsNumeral, digits_value, without_leading_plus}
use Rattle.clap.specs.Words.{App, Kinds, Row, Rule, Text, fault_of, subcommand_of, new_app, new_rule, with_rule, with_subcommand}
use Rattle.clap.specs.Words.{first_of, one_of, app_of, rule_of}
use Rattle.clap.specs.Kinds.{or_else}
use Rattle.clap.specs.Simple.{on_top}
use Rattle.clap.specs.declared.builder.ArgAction.TheVariants.{Set, SetTrue}
use Rattle.clap.specs.declared.builder.value_parser.ValueParser.TheVariants.{Signed}
use Rattle.clap.specs.declared.error.kind.ErrorKind.TheVariants.{ValueValidation}
use Rattle.clap.specs.declared.builder.arg.Arg.{Arg}
use Rattle.clap.specs.declared.builder.command.Command.{Command}
use Rattle.clap.specs.declared.builder.command.Command.TheViews.{out-Command as fields_of}
use Rattle.model.specs.Points.{most_of_point}
use Rattle.model.specs.Scripts.{last_point}
use Rattle.requests.specs.declared.named_point.NamedPoint.{NamedPoint}
use Rattle.requests.specs.declared.options.BadOption.{BadOption}
use Rattle.requests.specs.declared.options.Options.{Options}
use Rattle.requests.specs.Options.{bad_option}
use Rattle.report.specs.Shards.{Shard, undivided}
use Rattle.report.specs.Views.{every_end}
use Rattle.report.specs.declared.view.Ends.{Ends}
use Rattle.report.specs.declared.view.View.{View}
use Rattle.requests.specs.Shown.{ends_of, shard_named}
use Rattle.requests.specs.declared.job.Job.{Job}
use Rattle.requests.specs.declared.job.Job.TheVariants.{Run, RunUnpaired, Campaign, Explore}
use Rattle.grammar.specs.Points.{RawPair}
use Rattle.requests.specs.Asked.{pairs_in, pairs_spelled}
use Rattle.requests.specs.Names.{are_names, names_of}

-- ---- the command

abbrev pub file_rule : Rule
file_rule = record (new_rule (codes "FILE")) { required = true; action = Some Set }

-- a number from 0 to 1000000
abbrev pub at_rule : Rule
at_rule = record (new_rule (codes "at")) {
  long = Some (codes "at");
  value_names = 1;
  action = Some Set;
  parser = Some (Signed (pos 0) (pos 1000000));
}

-- any text
abbrev pub text_rule : (name : Text) → Rule
text_rule name = record (new_rule name) { long = Some name; value_names = 1; action = Some Set }

abbrev pub handler_rule : Rule
handler_rule = text_rule (codes "handler")

-- given or not
abbrev pub flag_rule : (name : Text) → Rule
flag_rule name = record (new_rule name) { long = Some name; action = Some SetTrue }

abbrev pub state_rule : Rule
state_rule = flag_rule (codes "state")

abbrev pub point_rule : Rule
point_rule = text_rule (codes "point")

abbrev pub run_app : App
run_app =
    with_rule (with_rule (with_rule (with_rule (with_rule (new_app (codes "run")) file_rule) at_rule) handler_rule) point_rule)
    state_rule

abbrev pub quiet_rule : Rule
quiet_rule = flag_rule (codes "quiet")

abbrev pub heads_rule : Rule
heads_rule = flag_rule (codes "heads")

abbrev pub only_rule : Rule
only_rule = text_rule (codes "only")

abbrev pub shard_rule : Rule
shard_rule = text_rule (codes "shard")

-- a number of this range, and what it is if it isn't named
abbrev pub option_rule : (name default : Text) → (least greatest : ℕ) → Rule
option_rule name default least greatest = record (new_rule name) {
  long = Some name;
  value_names = 1;
  action = Some Set;
  defaults = default ∷ [];
  parser = Some (Signed (pos least) (pos greatest));
}

abbrev pub workers_rule : Rule
workers_rule = option_rule (codes "workers") (codes "1") 1 64

abbrev pub stride_rule : Rule
stride_rule = option_rule (codes "stride") (codes "64") 1 65536

abbrev pub block_rule : Rule
block_rule = option_rule (codes "block") (codes "512") 1 1000000

abbrev pub campaign_app : App
campaign_app =
    with_rule (with_rule (with_rule (with_rule (with_rule (with_rule (with_rule (with_rule (new_app (codes "campaign")) file_rule)
    only_rule) heads_rule) shard_rule) workers_rule) stride_rule) block_rule) quiet_rule

abbrev pub injections_rule : Rule
injections_rule = option_rule (codes "injections") (codes "1") 0 most_of_point

abbrev pub handlers_rule : Rule
handlers_rule = text_rule (codes "handlers")

abbrev pub explore_app : App
explore_app = with_rule (with_rule (with_rule (new_app (codes "explore")) file_rule) injections_rule) handlers_rule

-- the program without its commands: one of them has to be named
abbrev pub rtosim_top : App
rtosim_top = on_top (λ s. record s { has_version = true; subcommand_required = true }) (new_app (codes "rtosim"))

unfoldable pub rtosim_app : App
rtosim_app = with_subcommand (with_subcommand (with_subcommand rtosim_top run_app.top) campaign_app.top) explore_app.top

-- The command is read as this one, and has no argument that its own commands have too.
pub record IsCommandOf (app : App) (command : Command) : Type 0 where
  pub reads : app_of command ≡ app
  pub is_local : (fields_of command).has_globals ≡ false

pub record IsArgOf (rule : Rule) (a : Arg) : Type 0 where
  pub reads : rule_of a ≡ rule
  pub is_local : a.global ≡ false

-- the texts of the words
abbrev pub texts_of : List (Bor (List ℕ)) → List (List ℕ)
texts_of words = map (λ word. word.now) words

-- ---- the job

-- the number that a text reads as
abbrev pub number_of : Text → ℕ
number_of text = digits_value 10 (without_leading_plus text)

-- The text is decimal digits, after a plus or not, of a number of 32 bits.
abbrev pub IsNumber : Text → Type 0
IsNumber text = IsNumeral 10 (without_leading_plus text) × (number_of text < 2 ^ 32)

-- The step is the one that the words of `run` name, if they name one; it is in its range.
abbrev pub IsStepOf : List Row → Option ℕ → Type 0
IsStepOf rows at = (option_map number_of (one_of (codes "at") rows) ≡ at) × IfSome at (λ step. step ≤ last_point)

-- A flag that is given has the value `true`, one that is not given `false`.
abbrev pub is_given : Option Text → Bool
is_given None = false
is_given (Some text) = bytes_eq text (codes "true")

-- what words ask for: the base run, a point of these injections, half of an injection, or what no job is
pub data Asking : Type 0 where
  Base : Asking
  Injects : List RawPair → Asking
  Half : Asking
  Nothing : Asking

abbrev pub injecting : Option (List RawPair) → Asking
injecting (Some pairs) = Injects pairs
injecting None = Nothing

-- what these ask for: the text of a point, a step, and a handler. A point goes with neither of the others.
abbrev pub asking : (point : Option Text) → (step : Option ℕ) → (handler : Option Text) → Asking
asking None None None = Base
asking None (Some step) (Some handler) = Injects (record { step = step; handler = handler } ∷ [])
asking None step handler = Half
asking (Some point) None None = injecting (pairs_spelled point)
asking (Some point) step handler = Nothing

-- The words of `run` ask for this.
abbrev pub Asks : List Row → Asking → Type 0
Asks rows a =
    (step : Option ℕ) × IsStepOf rows step × (asking (first_of (codes "point") rows) step (first_of (codes "handler") rows) ≡ a)

-- what a run with this point asks for, or one without
abbrev pub asked_by : Option NamedPoint → Asking
asked_by None = Base
asked_by (Some point) = Injects (pairs_in point.injections)

-- The job is to run the file that the words of `run` name, with the injections that they ask for. It writes the end state too, or
-- doesn't. Or it is that of words that name half of an injection.
abbrev pub IsRunOf : List Row → Job → Type 0
IsRunOf rows (Run file point state) =
    (first_of (codes "FILE") rows ≡ Some file.now) × Asks rows (asked_by point) × (is_given (first_of (codes "state") rows) ≡ state)
IsRunOf rows (RunUnpaired file) = (first_of (codes "FILE") rows ≡ Some file.now) × Asks rows Half
IsRunOf rows (Campaign file view shard options quiet) = ⊥
IsRunOf rows (Explore file injections handlers) = ⊥

-- the job of words of `run` that ask for this
abbrev pub IsRunWith : (file : Text) → (state : Bool) → Asking → Option Job → Type 0
IsRunWith file state Base (Some (Run name None with_state)) = (name.now ≡ file) × (with_state ≡ state)
IsRunWith file state (Injects pairs) (Some (Run name (Some point) with_state)) =
    (name.now ≡ file) × (with_state ≡ state) × (pairs_in point.injections ≡ pairs)
IsRunWith file state Half (Some (RunUnpaired name)) = name.now ≡ file
IsRunWith file state Nothing None = Unit {0}
IsRunWith file state a job = ⊥

-- the number of an option
abbrev pub number_in : (name : Text) → List Row → Option ℕ
number_in name rows = option_map number_of (one_of name rows)

-- The options are the numbers that the words of `campaign` name, or their defaults; each is in its range.
pub record AreOptionsOf (rows : List Row) (options : Options) : Type 0 where
  pub workers : number_in (codes "workers") rows ≡ Some options.workers
  pub stride : number_in (codes "stride") rows ≡ Some options.stride
  pub block : number_in (codes "block") rows ≡ Some options.block
  pub within : bad_option options.workers options.stride options.block ≡ None

-- the ends of the rows that are written: those of the list, if one is named, otherwise every end
abbrev pub ends_in : Option Text → Option Ends
ends_in None = Some every_end
ends_in (Some list) = ends_of list

-- the view that the words of `campaign` name, if there is such a one
abbrev pub view_in : List Row → Option View
view_in rows =
    option_map (λ ends. record { ends = ends; heads = is_given (first_of (codes "heads") rows) })
    (ends_in (first_of (codes "only") rows))

-- the shard that is named, if there is such a one; if none is, all rows in one
abbrev pub shard_of_words : Option Text → Option Shard
shard_of_words None = Some undivided
shard_of_words (Some text) = shard_named text

abbrev pub shard_in_rows : List Row → Option Shard
shard_in_rows rows = shard_of_words (first_of (codes "shard") rows)

-- The job is the campaign of the file that the words of `campaign` name, with the view, the shard and the options that they name,
-- quiet or not.
abbrev pub IsCampaignOf : List Row → Job → Type 0
IsCampaignOf rows (Run file point state) = ⊥
IsCampaignOf rows (RunUnpaired file) = ⊥
IsCampaignOf rows (Campaign file view shard options quiet) =
    (first_of (codes "FILE") rows ≡ Some file.now) × (view_in rows ≡ Some view)
    × (shard_in_rows rows ≡ Some shard) × AreOptionsOf rows options
    × (is_given (first_of (codes "quiet") rows) ≡ quiet)
IsCampaignOf rows (Explore file injections handlers) = ⊥

-- They are as many injections as the words of `explore` name, or as many as they have if these name none.
abbrev pub AreInjectionsOf : List Row → ℕ → Type 0
AreInjectionsOf rows injections = (number_in (codes "injections") rows ≡ Some injections) × (injections ≤ most_of_point)

-- the list of handlers that is named, if it is one of names; if none is, there is no list
abbrev pub handlers_in : Option Text → Option (Option Text)
handlers_in None = Some None
handlers_in (Some list) = if are_names (names_of list) then Some (Some list) else None

abbrev pub handlers_in_rows : List Row → Option (Option Text)
handlers_in_rows rows = handlers_in (first_of (codes "handlers") rows)

-- The job is to explore the file that the words of `explore` name, with the injections and the handlers that they name.
abbrev pub IsExploreOf : List Row → Job → Type 0
IsExploreOf rows (Run file point state) = ⊥
IsExploreOf rows (RunUnpaired file) = ⊥
IsExploreOf rows (Campaign file view shard options quiet) = ⊥
IsExploreOf rows (Explore file injections handlers) =
    (first_of (codes "FILE") rows ≡ Some file.now) × AreInjectionsOf rows injections
    × (handlers_in_rows rows ≡ Some (option_map (λ list. list.now) handlers))

-- The job is what the words name, by the command and its own words.
abbrev pub IsJobOf : Option (Text × List Row) → Job → Type 0
IsJobOf None job = ⊥
IsJobOf (Some named) job =
    ((named.0 ≡ codes "run") × IsRunOf named.1 job)
    ⊎ (((named.0 ≡ codes "campaign") × IsCampaignOf named.1 job) ⊎ ((named.0 ≡ codes "explore") × IsExploreOf named.1 job))

-- There is a text, and it is no number.
abbrev pub IsNoNumber : Option Text → Type 0
IsNoNumber None = ⊥
IsNoNumber (Some text) = IsNumber text → ⊥

-- The step that the words of `run` name is no number, or out of its range.
abbrev pub NamesNoStep : List Row → Type 0
NamesNoStep rows =
    IsNoNumber (one_of (codes "at") rows)
    ⊎ ((step : ℕ) × (option_map number_of (one_of (codes "at") rows) ≡ Some step) × (last_point < step))

-- The words of `run` name no file, or no step, or ask for nothing that a job is.
abbrev pub NamesNoRun : List Row → Type 0
NamesNoRun rows = (first_of (codes "FILE") rows ≡ None) ⊎ (NamesNoStep rows ⊎ Asks rows Nothing)

-- An option has no number.
abbrev pub LacksNumber : (name : Text) → List Row → Type 0
LacksNumber name rows = (number_in name rows ≡ None) ⊎ IsNoNumber (one_of name rows)

-- The options of these numbers are out of range.
pub record AreOutOfRange (rows : List Row) : Type 0 where
  pub options : Options
  pub workers : number_in (codes "workers") rows ≡ Some options.workers
  pub stride : number_in (codes "stride") rows ≡ Some options.stride
  pub block : number_in (codes "block") rows ≡ Some options.block
  pub fault : BadOption
  pub bad : bad_option options.workers options.stride options.block ≡ Some fault

-- The words of `campaign` name no options: one of the numbers is none, or out of its range.
abbrev pub NamesNoOptions : List Row → Type 0
NamesNoOptions rows =
    LacksNumber (codes "workers") rows
    ⊎ (LacksNumber (codes "stride") rows ⊎ (LacksNumber (codes "block") rows ⊎ AreOutOfRange rows))

-- The words of `campaign` name no file, no view, no shard, or no options.
abbrev pub NamesNoCampaign : List Row → Type 0
NamesNoCampaign rows =
    (first_of (codes "FILE") rows ≡ None) ⊎ ((view_in rows ≡ None) ⊎ ((shard_in_rows rows ≡ None) ⊎ NamesNoOptions rows))

-- The number of injections that the words of `explore` name is none, or out of its range.
abbrev pub NamesNoInjections : List Row → Type 0
NamesNoInjections rows =
    LacksNumber (codes "injections") rows
    ⊎ ((injections : ℕ) × (number_in (codes "injections") rows ≡ Some injections) × (most_of_point < injections))

-- The words of `explore` name no file, no list of handlers, or no number of injections.
abbrev pub NamesNoExplore : List Row → Type 0
NamesNoExplore rows =
    (first_of (codes "FILE") rows ≡ None) ⊎ ((handlers_in_rows rows ≡ None) ⊎ NamesNoInjections rows)

-- The words name no job.
abbrev pub NamesNoJob : Option (Text × List Row) → Type 0
NamesNoJob None = Unit {0}
NamesNoJob (Some named) =
    (named.0 ≡ codes "run" → NamesNoRun named.1) × (named.0 ≡ codes "campaign" → NamesNoCampaign named.1)
    × (named.0 ≡ codes "explore" → NamesNoExplore named.1)

-- ---- words that are refused

abbrev pub spelled_faults : Option (List RawPair) → Kinds
spelled_faults (Some pairs) = []
spelled_faults None = ValueValidation ∷ []

-- of what kind a fault is of a point, a step and a handler: the point is none, or one of the others is named too
abbrev pub point_faults : (point : Option Text) → (at handler : Option Text) → Kinds
point_faults None at handler = []
point_faults (Some point) None None = spelled_faults (pairs_spelled point)
point_faults (Some point) at handler = ValueValidation ∷ []

-- of what kind a fault is if the view or the shard is none
abbrev pub faults_without : Option View → Option Shard → Kinds
faults_without (Some view) (Some shard) = []
faults_without view shard = ValueValidation ∷ []

-- of what kind a fault is if the handlers are none
abbrev pub handlers_faults : Option (Option Text) → Kinds
handlers_faults (Some handlers) = []
handlers_faults None = ValueValidation ∷ []

abbrev pub run_faults : List Row → Kinds
run_faults rows = point_faults (first_of (codes "point") rows) (one_of (codes "at") rows) (first_of (codes "handler") rows)

-- of what kind the fault of words is that the command takes
abbrev pub value_faults : Option (Text × List Row) → Kinds
value_faults None = []
value_faults (Some named) =
    if bytes_eq named.0 (codes "campaign") then faults_without (view_in named.1) (shard_in_rows named.1)
    else if bytes_eq named.0 (codes "explore") then handlers_faults (handlers_in_rows named.1)
    else if bytes_eq named.0 (codes "run") then run_faults named.1
    else []

-- Of what kinds the fault of the words may be: one of those that the command doesn't take, otherwise that of a list of ends, of a
-- shard, of handlers or of a point. There is none if they name a job.
abbrev pub faults_of : List (List ℕ) → Kinds
faults_of words = or_else (fault_of rtosim_app words) (value_faults (subcommand_of rtosim_app words))
