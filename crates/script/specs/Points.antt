-- The points of a document's campaign.
use Rattle.std.specs.Prelude.{List, filter_map, Option, is_none, option_and_then}
use Rattle.toml.specs.Data.{Data, Members, as_str, as_table}
use Rattle.model.specs.declared.plan.PointEntry.{PointEntry}
use Rattle.model.specs.Scripts.{most_points}
use Rattle.script.specs.declared.fault.Fault.{Fault}
use Rattle.script.specs.declared.fault.FaultKind.TheVariants.{WrongKind, BadOp, UnknownName}
use Rattle.script.specs.declared.place.Place.{Place}
use Rattle.script.specs.declared.place.Section.TheVariants as section
use Rattle.script.specs.declared.place.Key.TheVariants as key
use Rattle.script.specs.Faults.{at_section, at_element, fault_at, fails_if, need, required}
use Rattle.grammar.specs.Grammar.{Word, words_of}
use Rattle.grammar.specs.Points.{raw_of, entry_from, entry_of}
use Rattle.script.specs.Arrays.{Elements, alike, array_fault, elements_of}
use Rattle.script.specs.Values.{member_of}
use Rattle.script.specs.Sections.{data_at}

-- It is a text, which spells an entry whose handlers are among these.
abbrev pub entry_fault : List Word → Place → Data → Option Fault
entry_fault names p d = need (fault_at WrongKind p) (as_str d) (λ text.
    need (fault_at BadOp p) (raw_of (words_of text)) (λ raw.
    fails_if (is_none (entry_from names raw)) (fault_at UnknownName p)))

-- the entry that it names
abbrev pub entry_named : List Word → Data → Option PointEntry
entry_named names d = option_and_then (λ text. entry_of names (words_of text)) (as_str d)

-- the entries of the array at a place
abbrev pub point_elements : List Word → Place → Elements (Unit {0}) Data
point_elements names p = alike (at_element p) (entry_fault names)

abbrev pub points_fault : List Word → Place → Data → Option Fault
points_fault names p d = array_fault most_points (point_elements names p) tt p d

-- It is a table with points, and may be left out.
unfoldable pub campaign_fault : List Word → Members → Option Fault
campaign_fault names document =
    let p = at_section section.Campaign in
    option_and_then (λ d. need (fault_at WrongKind p) (as_table d) (required p key.Points (points_fault names)))
    (data_at section.Campaign document)

-- the points of the section
unfoldable pub campaign_named : List Word → Members → List PointEntry
campaign_named names document =
    let table = option_and_then as_table (data_at section.Campaign document) in
    filter_map (entry_named names) (elements_of (member_of key.Points table))
