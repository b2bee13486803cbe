use Rattle.std.proofs.Common.{◌≡◌, ◌∙◌, [], ◌∷◌, ℕ, Bool, false, Option, None, Result, map, length, ap, sym, subst}
use Rattle.std.specs.Option.{option_and_then}
use Rattle.toml.specs.Data.{Members}
use Rattle.toml.specs.View.{table_view}
use Rattle.model.specs.Application.{Application, Limits}
use Rattle.script.specs.declared.fault.Fault.{Fault}
use Rattle.script.specs.declared.fault.LoadError.{LoadError}
use Rattle.script.specs.declared.place.Section.TheVariants as section
use Rattle.script.specs.Faults.{Loads, first_fault, at_section}
use Rattle.script.specs.Values.{data_of, number_fault, number_or, boolean_fault, boolean_or}
use Rattle.script.specs.Entries.{Entries, all_objects, daemon_of, initial_values, isr_names, source_names, entries_view}
use Rattle.script.specs.Sections.{data_at}
use Rattle.script.specs.Ops.{handler_ops_fault, scripts_fault, with_isr_ops, all_tasks}
use Rattle.script.specs.Interrupts.{interrupts_fault, interrupts_named}
use Rattle.script.specs.Points.{campaign_fault, campaign_named}
use Rattle.script.specs.Load.{tickless_named, limits_fault, limits_named, entries_fault, entries_of, load_fault, app_named}
use Rattle.script.proofs.Steps.{passed}
use Rattle.script.proofs.document.AppFromDocument.from_document.Goals as goal

-- what is still to be checked where these are the entries
abbrev later_fault : Members → Entries → Option Fault
later_fault document entries = first_fault (
    handler_ops_fault entries
    ∷ scripts_fault entries
    ∷ interrupts_fault (isr_names entries) document
    ∷ campaign_fault (source_names entries) document
    ∷ [])

-- the application of these entries
abbrev app_with : Members → Entries → ℕ → Bool → Limits → Application
app_with document entries start tickless limits = record {
  start = start;
  tickless = tickless;
  limits = limits;
  objects = all_objects entries;
  group_count = length entries.groups;
  variables = initial_values entries;
  handlers = map (with_isr_ops entries) entries.handlers;
  interrupts = interrupts_named (isr_names entries) document;
  tasks = all_tasks entries;
  daemon = daemon_of entries;
  points = campaign_named (source_names entries) document;
}

loaded : (document : Members) (entries : Entries) (start : ℕ) (tickless : Bool)
    (limits : Limits) (result : Result Application LoadError)
    → option_and_then (number_fault 0 4294967295 (at_section section.Start)) (data_at section.Start document) ≡ None
    → option_and_then (boolean_fault (at_section section.Tickless)) (data_at section.Tickless document) ≡ None
    → option_and_then (limits_fault tickless) (data_at section.Limits document) ≡ None → entries_fault document ≡ None
    → start ≡ number_or 0 (data_at section.Start document) → tickless ≡ tickless_named document
    → limits ≡ limits_named (data_at section.Limits document) → entries ≡ entries_of document
    → Loads result (later_fault document entries) (app_with document entries start tickless limits)
    → Loads result (load_fault document) (app_named document)
loaded document entries start tickless limits result none_start none_tickless
    none_limits none_entries is_start is_tickless is_limits are made =
    let started = number_or 0 (data_at section.Start document) in
    let idle = tickless_named document in
    let limited = limits_named (data_at section.Limits document) in
    let none_limited : option_and_then (limits_fault idle) (data_at section.Limits document) ≡ None =
    subst (λ b. option_and_then (limits_fault b) (data_at section.Limits document) ≡ None) is_tickless none_limits in
    subst (λ check. Loads result check (app_named document))
    (sym (passed (option_and_then (number_fault 0 4294967295 (at_section section.Start)) (data_at section.Start document))
    _ none_start
    ∙ passed (option_and_then (boolean_fault (at_section section.Tickless)) (data_at section.Tickless document)) _ none_tickless
    ∙ passed (option_and_then (limits_fault idle) (data_at section.Limits document)) _ none_limited
    ∙ passed (entries_fault document) _ none_entries))
    (subst (λ e. Loads result (later_fault document e) (app_with document e started idle limited)) are
    (subst (λ l. Loads result (later_fault document entries) (app_with document entries started idle l)) is_limits
    (subst (λ b. Loads result (later_fault document entries) (app_with document entries started b limits)) is_tickless
    (subst (λ n. Loads result (later_fault document entries) (app_with document entries n tickless limits)) is_start made))))

pub returns : goal.returns
returns c =
    let document = table_view c.args.document.now in
    let start = c.in_ok-start.ensures.checks in
    let tickless = c.in_ok-tickless.ensures in
    let entries = c.in_ok-entries.ensures.checks in
    loaded document (entries_view c.in_ok-entries.entries) c.in_ok-start.start
    c.in_ok-tickless.tickless c.in_ok-limits.limits c.app_of.result
    (subst (λ d. option_and_then (number_fault 0 4294967295 (at_section section.Start)) d ≡ None) c.at_section-value.ensures
    (subst (λ p. option_and_then (number_fault 0 4294967295 p) (data_of c.at_section-value.result) ≡ None)
    c.section.ensures start.0))
    (subst (λ d. option_and_then (boolean_fault (at_section section.Tickless)) d ≡ None) c.at_section-value-2.ensures
    (subst (λ p. option_and_then (boolean_fault p) (data_of c.at_section-value-2.result) ≡ None) c.section-2.ensures tickless.0))
    c.in_ok-limits.ensures.0 entries.0 (start.1 ∙ ap (number_or 0) c.at_section-value.ensures)
    (tickless.1 ∙ ap (boolean_or false) c.at_section-value-2.ensures) c.in_ok-limits.ensures.1 entries.1 c.app_of.ensures
