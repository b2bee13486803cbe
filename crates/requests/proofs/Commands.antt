-- A command that is built of others is read as its definition.
use Rattle.std.proofs.Common.{◌∙◌, List, [], ◌∷◌, ap, ap₂, refl, subst, Result, Ok, Err, IfOk}
use Rattle.clap.specs.Words.{App, Rule, AddsArg, AddsInTurn, AddsSubcommand, with_rule, with_subcommand}
use Rattle.clap.specs.declared.builder.arg.Arg.{Arg}
use Rattle.clap.specs.declared.builder.command.Command.{Command}
use Rattle.requests.specs.Words.{IsArgOf, IsCommandOf}

pub with_one_argument : (app : App) (rule : Rule) (old new : Command) (a : Arg)
    → IsCommandOf app old → IsArgOf rule a → AddsArg old a new
    → IsCommandOf (with_rule app rule) new
with_one_argument app rule old new a was is adds = record {
  reads = adds.shape is.is_local ∙ ap₂ with_rule was.reads is.reads;
  is_local = adds.globals ∙ rw (was.is_local, is.is_local) refl;
}

pub with_one : (app below : App) (old sub new : Command) → IsCommandOf app old → IsCommandOf below sub → AddsSubcommand old sub new
    → IsCommandOf (with_subcommand app below.top) new
with_one app below old sub new was is adds = record {
  reads = adds.shape is.is_local ∙ ap₂ with_subcommand was.reads (ap (λ (x : App). x.top) is.reads);
  is_local = adds.globals ∙ rw (was.is_local, is.is_local) refl;
}

pub with_command : {E : Type 0} (r : Result Command E) (app below : App) (old sub : Command)
    → IsCommandOf app old → IsCommandOf below sub
    → IfOk r (λ new. AddsSubcommand old sub new) → IfOk r (λ new. IsCommandOf (with_subcommand app below.top) new)
with_command (Ok new) app below old sub was is adds = with_one app below old sub new was is adds
with_command (Err e) app below old sub was is adds = tt

-- ---- arguments in turn

abbrev pub with_rules : App → List Rule → App
with_rules app [] = app
with_rules app (rule ∷ rules) = with_rules (with_rule app rule) rules

-- each argument is read as the rule of its place
abbrev pub AreArgsOf : List Rule → List Arg → Type 0
AreArgsOf [] [] = Unit {0}
AreArgsOf [] (a ∷ args) = ⊥
AreArgsOf (rule ∷ rules) [] = ⊥
AreArgsOf (rule ∷ rules) (a ∷ args) = IsArgOf rule a × AreArgsOf rules args

pub with_arguments_in_turn : (app : App) (rules : List Rule) (old new : Command) (args : List Arg)
    → IsCommandOf app old → AreArgsOf rules args
    → AddsInTurn AddsArg old args new → IsCommandOf (with_rules app rules) new
with_arguments_in_turn app [] old new [] was are adds = subst (IsCommandOf app) adds was
with_arguments_in_turn app [] old new (a ∷ args) was are adds = absurd are
with_arguments_in_turn app (rule ∷ rules) old new [] was are adds = absurd are
with_arguments_in_turn app (rule ∷ rules) old new (a ∷ args) was are adds =
    with_arguments_in_turn (with_rule app rule) rules adds.0 new args
    (with_one_argument app rule old adds.0 a was are.0 adds.1) are.1 adds.2

pub with_arguments : {E : Type 0} (r : Result Command E) (app : App) (rules : List Rule) (old : Command) (args : List Arg)
    → IsCommandOf app old → AreArgsOf rules args
    → IfOk r (λ new. AddsInTurn AddsArg old args new) → IfOk r (λ new. IsCommandOf (with_rules app rules) new)
with_arguments (Ok new) app rules old args was are adds = with_arguments_in_turn app rules old new args was are adds
with_arguments (Err e) app rules old args was are adds = tt
