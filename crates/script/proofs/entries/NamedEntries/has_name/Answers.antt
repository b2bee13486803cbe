use Rattle.std.proofs.Common.{◌≡◌, false, List, map, sym, subst, ◌∙◌}
use Rattle.std.specs.List.{list_any}
use Rattle.std.specs.Str.{bytes_eq}
use Rattle.script.specs.declared.named_object.NamedObject.{NamedObject}
use Rattle.script.specs.declared.named_group.NamedGroup.{NamedGroup}
use Rattle.script.specs.declared.named_variable.NamedVariable.{NamedVariable}
use Rattle.script.specs.declared.raw_handler.RawHandler.{RawHandler}
use Rattle.script.specs.declared.raw_task.RawTask.{RawTask}
use Rattle.script.specs.Entries.{ObjectEntry, GroupEntry, VariableEntry, RawIsr, Raw, object_view, group_view, variable_view}
use Rattle.script.specs.Entries.{isr_view, raw_view, entries_view}
use Rattle.script.proofs.Names.{not_named}
use Rattle.script.proofs.entries.NamedEntries.has_name.Goals as goal

pub returns : goal.returns
returns c =
    let name = bytes_eq c.args.name.now in
    let objects =
    subst (λ (xs : List NamedObject). list_any name (map (λ (o : ObjectEntry). o.name) (map object_view xs)) ≡ false)
    c.as_slice.ensures.value (sym c.has_name.ensures ∙ c.if-has_name.false) in
    let groups =
    subst (λ (xs : List NamedGroup). list_any name (map (λ (g : GroupEntry). g.name) (map group_view xs)) ≡ false)
    c.as_slice-2.ensures.value (sym c.has_name-2.ensures ∙ c.if-has_name-2.false) in
    let variables =
    subst (λ (xs : List NamedVariable). list_any name (map (λ (v : VariableEntry). v.name) (map variable_view xs)) ≡ false)
    c.as_slice-3.ensures.value (sym c.has_name-3.ensures ∙ c.if-has_name-3.false) in
    let handlers =
    subst (λ (xs : List RawHandler). list_any name (map (λ (h : RawIsr). h.name) (map isr_view xs)) ≡ false)
    c.as_slice-4.ensures.value (sym c.has_name-4.ensures ∙ c.if-has_name-4.false) in
    let tasks =
    subst (λ (xs : List RawTask). c.has_name-5.result ≡ list_any name (map (λ (t : Raw). t.name) (map raw_view xs)))
    c.as_slice-5.ensures.value c.has_name-5.ensures in
    tasks ∙ sym (not_named c.args.name.now (entries_view c.args.self.now) objects groups variables handlers)
