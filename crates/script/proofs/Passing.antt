-- A document in which no check finds a fault.
use Rattle.std.proofs.Common.{◌≡◌, None}
use Rattle.std.specs.Option.{option_and_then}
use Rattle.toml.specs.Data.{Members}
use Rattle.script.specs.declared.place.Section.TheVariants as section
use Rattle.script.specs.Faults.{at_section}
use Rattle.script.specs.Values.{number_fault, boolean_fault}
use Rattle.script.specs.Entries.{isr_names, source_names}
use Rattle.script.specs.Sections.{data_at}
use Rattle.script.specs.Ops.{handler_ops_fault, scripts_fault}
use Rattle.script.specs.Interrupts.{interrupts_fault}
use Rattle.script.specs.Points.{campaign_fault}
use Rattle.script.specs.Load.{tickless_named, limits_fault, entries_of, entries_fault, load_fault}
use Rattle.script.proofs.Checks.{none_fails}

pub record Passes (document : Members) : Type 0 where
  pub entries : entries_fault document ≡ None
  pub handlers : handler_ops_fault (entries_of document) ≡ None
  pub scripts : scripts_fault (entries_of document) ≡ None
  pub interrupts : interrupts_fault (isr_names (entries_of document)) document ≡ None
  pub campaign : campaign_fault (source_names (entries_of document)) document ≡ None

pub passed : (document : Members) → load_fault document ≡ None → Passes document
passed document none =
    let names = isr_names (entries_of document) in
    let start = option_and_then (number_fault 0 4294967295 (at_section section.Start)) (data_at section.Start document) in
    let tickless = option_and_then (boolean_fault (at_section section.Tickless)) (data_at section.Tickless document) in
    let limits = option_and_then (limits_fault (tickless_named document)) (data_at section.Limits document) in
    let begun = none_fails start _ none in
    let idle = none_fails tickless _ begun.1 in
    let limited = none_fails limits _ idle.1 in
    let entries = none_fails (entries_fault document) _ limited.1 in
    let handlers = none_fails (handler_ops_fault (entries_of document)) _ entries.1 in
    let scripts = none_fails (scripts_fault (entries_of document)) _ handlers.1 in
    let interrupts = none_fails (interrupts_fault names document) _ scripts.1 in
    let campaign = none_fails (campaign_fault (source_names (entries_of document)) document) _ interrupts.1 in
    record {
      entries = entries.0;
      handlers = handlers.0;
      scripts = scripts.0;
      interrupts = interrupts.0;
      campaign = campaign.0;
    }
