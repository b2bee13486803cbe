-- What the matches of the words say of the job.
use Rattle.std.proofs.Common.{◌≡◌, ◌≢◌, ◌∙◌, ap, refl, sym, subst, codes, inl, inr, List, [], ◌∷◌, ℕ, Option, Some, None, Result}
use Rattle.std.proofs.Common.{Ok}
use Rattle.std.proofs.Common.{Err, option_map, IsNone}
use Rattle.std.specs.Prelude.{true, MatchResult}
use Rattle.std.specs.Result.{result_ok}
use Rattle.std.specs.Str.Parse.{ParsesUnsigned}
use Rattle.clap.specs.Words.{TriesOne, App, Row, is_simple, fault_of, is_simple_and_free, Kinds, subcommand_of}
use Rattle.clap.specs.Words.{subcommand_rows_of, first_of, one_of, HasKind, HasMatchesOf, IsAmong, kind_of}
use Rattle.clap.specs.Kinds.{or_else}
use Rattle.clap.specs.declared.error.Error.{Error}
use Rattle.clap.specs.declared.error.kind.ErrorKind.{ErrorKind}
use Rattle.clap.specs.declared.error.kind.ErrorKind.TheVariants.{OutOfMemory}
use Rattle.clap.specs.declared.parser.matches.ArgMatches.{ArgMatches}
use Rattle.clap.proofs.OnLiterals.{clap_on_literals}
use Rattle.requests.specs.declared.options.BadOption.{BadOption}
use Rattle.requests.specs.declared.options.Options.{Options}
use Rattle.requests.specs.Options.{bad_option}
use Rattle.requests.specs.declared.job.Job.{Job}
use Rattle.requests.specs.declared.job.Job.TheVariants.{Campaign, Explore, Run, RunUnpaired}
use Rattle.grammar.specs.Points.{RawPair}
use Rattle.requests.specs.declared.named_point.NamedPoint.{NamedPoint}
use Rattle.requests.specs.Asked.{pairs_spelled}
use Rattle.requests.specs.Words.{Asking, Half, Nothing, asked_by}
use Rattle.requests.specs.Words.{asking, injecting, point_faults, spelled_faults}
use Rattle.requests.specs.Words.{IsJobOf, IsNoNumber, NamesNoOptions, faults_of, number_in, number_of, rtosim_app}
use Rattle.requests.specs.Words.{value_faults}

is_simple-rtosim : is_simple rtosim_app ≡ true
unfolding rtosim_app clap_on_literals
is_simple-rtosim = refl

-- the words of a command that were found
pub found_as : (a : App) (words : List (List ℕ)) (m : ArgMatches) → a ≡ rtosim_app
    → HasMatchesOf a words m → subcommand_rows_of m ≡ subcommand_of rtosim_app words
found_as a words m same has = (has (ap is_simple same ∙ is_simple-rtosim)).1 ∙ ap (λ (x : App). subcommand_of x words) same

pub job_as : (a : App) (words : List (List ℕ)) (m : ArgMatches) (job : Job) → a ≡ rtosim_app → HasMatchesOf a words m
    → IsJobOf (subcommand_rows_of m) job → IsJobOf (subcommand_of rtosim_app words) job
job_as a words m job same has is = subst (λ (s : Option (List ℕ × List Row)). IsJobOf s job) (found_as a words m same has) is

is_free-rtosim : is_simple_and_free rtosim_app ≡ true
unfolding rtosim_app clap_on_literals
is_free-rtosim = refl

pub kinds_as : (a : App) (words : List (List ℕ)) (P : Kinds → Type 0) → a ≡ rtosim_app
    → (is_simple_and_free a ≡ true → P (fault_of a words)) → P (fault_of rtosim_app words)
kinds_as a words P same gives = subst (λ (x : App). is_simple_and_free x ≡ true → P (fault_of x words)) same gives is_free-rtosim

-- ---- the values of words that the command takes

-- What a job asks for is asked for in sound words.
some_asked : (point : Option NamedPoint) → asked_by point ≢ Nothing
some_asked None e = cc e
some_asked (Some point) e = cc e

no_spelled_fault : (o : Option (List RawPair)) (a : Asking) → injecting o ≡ a → a ≢ Nothing → spelled_faults o ≡ []
no_spelled_fault (Some pairs) a is some = refl
no_spelled_fault None a is some = absurd (some (sym is))

no_point_fault : (point at handler : Option (List ℕ)) (step : Option ℕ) (a : Asking) → option_map number_of at ≡ step
    → asking point step handler ≡ a → a ≢ Nothing → point_faults point at handler ≡ []
no_point_fault None at handler step a is asked some = refl
no_point_fault (Some point) None None None a is asked some = no_spelled_fault (pairs_spelled point) a asked some
no_point_fault (Some point) None (Some handler) None a is asked some = absurd (some (sym asked))
no_point_fault (Some point) None handler (Some step) a is asked some = absurd (cc is)
no_point_fault (Some point) (Some at) handler None a is asked some = absurd (cc is)
no_point_fault (Some point) (Some at) handler (Some step) a is asked some = absurd (some (sym asked))

-- words that name a job have no fault
no_fault : (named : Option (List ℕ × List Row)) (job : Job) → IsJobOf named job → value_faults named ≡ []
no_fault None job is = absurd is
no_fault (Some named) (Run file point state) (inl is) =
    rw is.0 (no_point_fault (first_of (codes "point") named.1) (one_of (codes "at") named.1) (first_of (codes "handler") named.1)
    is.1.1.0 (asked_by point) is.1.1.1.0 is.1.1.2 (some_asked point))
no_fault (Some named) (RunUnpaired file) (inl is) =
    rw is.0 (no_point_fault (first_of (codes "point") named.1) (one_of (codes "at") named.1) (first_of (codes "handler") named.1)
    is.1.1.0 Half is.1.1.1.0 is.1.1.2 (λ e. cc e))
no_fault (Some named) (Campaign file view shard options quiet) (inl is) = absurd is.1
no_fault (Some named) (Explore file injections handlers) (inl is) = absurd is.1
no_fault (Some named) (Run file point state) (inr (inl is)) = absurd is.1
no_fault (Some named) (RunUnpaired file) (inr (inl is)) = absurd is.1
no_fault (Some named) (Campaign file view shard options quiet) (inr (inl is)) = rw (is.0, is.1.1, is.1.2) refl
no_fault (Some named) (Explore file injections handlers) (inr (inl is)) = absurd is.1
no_fault (Some named) (Run file point state) (inr (inr is)) = absurd is.1
no_fault (Some named) (RunUnpaired file) (inr (inr is)) = absurd is.1
no_fault (Some named) (Campaign file view shard options quiet) (inr (inr is)) = absurd is.1
no_fault (Some named) (Explore file injections handlers) (inr (inr is)) = rw (is.0, is.1.2) refl

pub no_faults : (a : App) (words : List (List ℕ)) (job : Job) → a ≡ rtosim_app → IsJobOf (subcommand_of rtosim_app words) job
    → (is_simple_and_free a ≡ true → fault_of a words ≡ []) → faults_of words ≡ []
no_faults a words job same is gives =
    rw (kinds_as a words (λ kinds. kinds ≡ []) same gives) (no_fault (subcommand_of rtosim_app words) job is)

among_or : (k : ErrorKind) (kinds next : Kinds) → IsAmong k kinds → IsAmong k (or_else kinds next)
among_or k [] next is = absurd is
among_or k (x ∷ xs) next is = is

-- words that the command doesn't take
pub fails_as : (a : App) (words : List (List ℕ)) (e : Error) → a ≡ rtosim_app
    → (is_simple_and_free a ≡ true → HasKind (fault_of a words) e) → HasKind (faults_of words) e
fails_as a words e same gives = elim (kinds_as a words (λ (k : Kinds). HasKind k e) same gives) [
  | inl memory ↦ inl memory
  | inr among ↦ inr (among_or (kind_of e) (fault_of rtosim_app words) (value_faults (subcommand_of rtosim_app words)) among)
]

-- words that it takes, and a value of which is refused
pub value_as : (a : App) (words : List (List ℕ)) (m : ArgMatches) (e : Error) → a ≡ rtosim_app
    → HasMatchesOf a words m → (is_simple_and_free a ≡ true → fault_of a words ≡ [])
    → HasKind (value_faults (subcommand_rows_of m)) e → HasKind (faults_of words) e
value_as a words m e same has gives is =
    rw (kinds_as a words (λ kinds. kinds ≡ []) same gives)
    (subst (λ (s : Option (List ℕ × List Row)). HasKind (value_faults s) e) (found_as a words m same has) is)

pub memory_alone : (kinds : Kinds) (e : Error) → HasKind kinds e → kinds ≡ [] → kind_of e ≡ OutOfMemory
memory_alone kinds e is none = elim (subst (λ (k : Kinds). HasKind k e) none is) [ inl memory ↦ memory | inr among ↦ absurd among ]

-- ---- the job of words of `run`

-- A text that is read as a number is one.
pub number_read : {E : Type 0} (gives : List ℕ → Result ℕ E → Type 0) (text : Option (List ℕ)) (r : Result (Option ℕ) E)
    → ((t : List ℕ) (q : Result ℕ E) → gives t q → ParsesUnsigned 32 10 t q)
    → (text ≡ None → r ≡ Ok None) → ((t : List ℕ) → text ≡ Some t → TriesOne gives t r)
    → MatchResult r (λ n. option_map number_of text ≡ n) (λ _. IsNoNumber text)
number_read gives None r parses none some = rw (none refl) refl
number_read gives (Some t) (Ok (Some n)) parses none some = ap Some (sym (parses t (Ok n) (some t refl)).1)
number_read gives (Some t) (Ok None) parses none some = absurd (some t refl)
number_read gives (Some t) (Err e) parses none some = parses t (Err e) (some t refl)

-- Numbers of which no options are made are out of range.
pub out_of_range : (rows : List Row) (workers stride block : ℕ) (r : Result Options BadOption)
    → number_in (codes "workers") rows ≡ Some workers → number_in (codes "stride") rows ≡ Some stride
    → number_in (codes "block") rows ≡ Some block
    → MatchResult r (λ (options : Options).
    (bad_option workers stride block ≡ None) × (options ≡ record { workers = workers; stride = stride; block = block }))
    (λ fault. bad_option workers stride block ≡ Some fault)
    → IsNone (result_ok r) → NamesNoOptions rows
out_of_range rows workers stride block (Ok options) w s b made none = absurd (cc)
out_of_range rows workers stride block (Err fault) w s b bad none = inr (inr (inr (record {
  options = record { workers = workers; stride = stride; block = block };
  workers = w;
  stride = s;
  block = b;
  fault = fault;
  bad = bad;
})))
