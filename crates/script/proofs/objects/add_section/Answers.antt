use Rattle.std.proofs.Common.{◌≡◌, map, subst, arith}
use Rattle.std.proofs.lemmas.Grind.{common_steps}
use Rattle.toml.specs.View.{table_view}
use Rattle.model.specs.Scripts.{most_objects}
use Rattle.script.specs.Faults.{Judges}
use Rattle.script.specs.Arrays.{section_fault}
use Rattle.script.specs.Entries.{Entries, object_view, entries_view}
use Rattle.script.specs.Sections.{no_entries, data_at, section_of, object_named, object_keys, more_objects_fault}
use Rattle.script.proofs.objects.add_section.Goals as goal

pub returns-clause-checks : goal.returns-clause-checks
unfolding more_objects_fault
returns-clause-checks c =
    let s = c.args.section in
    let none : entries_view c.none-earlier.result ≡ no_entries = grind (arith, common_steps) in
    let here : c.section.result ≡ section_of s = c.section.ensures in
    subst (λ (e : Entries). Judges c.read_section.result
    (section_fault most_objects (section_of s) (object_named s) (object_keys s e) (map object_view c.args.objects.now.items)
    (data_at (section_of s) (table_view c.args.document.now))) tt) none
    (rw here at c.read_section.ensures.checks)
