use Rattle.std.proofs.Common.{◌≡◌, ◌-◌, ◌<◌, ◌≤◌, ◌++◌, ◌∙◌, [], Some, map, length, ap, sym, subst, refl}
use Rattle.std.specs.Prelude.{unwrap_or, OnOk}
use Rattle.std.specs.Option.{option_and_then}
use Rattle.std.proofs.lemmas.List.{append-nil, length-map}
use Rattle.toml.specs.Data.{Data, as_table}
use Rattle.toml.specs.View.{view}
use Rattle.script.specs.declared.fault.FaultKind.TheVariants.{WrongKind, TooMany}
use Rattle.script.specs.Faults.{Judges, at_section, fault_at}
use Rattle.script.specs.Arrays.{tables, each_fault, array_fault, section_named, elements_of}
use Rattle.script.proofs.Elements.{no_array, too_many, few_enough, too_many_left, few_left}
use Rattle.script.proofs.sections.read_section.Goals as goal

pub returns-in_default : goal.returns-in_default
returns-in_default g c =
    let r = g.R.EntryReader in
    let named = r.named c.args.reader.now in
    let read = map r.shown c.args.read.now.items in
    let none = c.in_default.ensures in
    record {
      checks = (
        ap (λ d. option_and_then
            (array_fault (g.row.N - length read) (tables c.args.section named (r.keys c.args.reader.now))
            read (at_section c.args.section))
            d)
            (sym none),
        refl,
      );
      added = sym (append-nil read) ∙ ap (λ d. read ++ section_named named d) none;
    }

pub returns-in_default-array : goal.returns-in_default-array
returns-in_default-array g c =
    let r = g.R.EntryReader in
    let elements = tables c.args.section (r.named c.args.reader.now) (r.keys c.args.reader.now) in
    let read = map r.shown c.args.read.now.items in
    let here = at_section c.args.section in
    record {
      checks =
          ap (λ d. option_and_then (array_fault (g.row.N - length read) elements read here) d) (sym c.in-Some.ensures)
          ∙ no_array (g.row.N - length read) elements read here (view c.in-Some.value.now) c.in_default-array.ensures
          ∙ ap (λ p. Some (fault_at WrongKind p)) (sym c.section.ensures)
          ∙ ap (λ f. Some f) (sym c.at.ensures);
      added = tt;
    }

pub returns-then-values-remaining_capacity : goal.returns-then-values-remaining_capacity
returns-then-values-remaining_capacity g c =
    let r = g.R.EntryReader in
    let elements = tables c.args.section (r.named c.args.reader.now) (r.keys c.args.reader.now) in
    let items = c.args.read.now.items in
    let read = map r.shown items in
    let here = at_section c.args.section in
    let values = c.in-Some-array.values.now in
    let many =
    too_many_left c.remaining_capacity.result (length items) g.row.N (length values) c.remaining_capacity.ensures
    c.if-values-remaining_capacity.true in
    record {
      checks =
          ap (λ d. option_and_then (array_fault (g.row.N - length read) elements read here) d) (sym c.in-Some.ensures)
          ∙ too_many (g.row.N - length read) elements read here (view c.in-Some.value.now) (map view values) c.in-Some-array.ensures
          (subst (λ n. g.row.N - n < length (map view values)) (sym (length-map items r.shown))
          (subst (λ n. g.row.N - length items < n) (sym (length-map values view)) many))
          ∙ ap (λ p. Some (fault_at TooMany p)) (sym c.section-then-values-remaining_capacity.ensures)
          ∙ ap (λ f. Some f) (sym c.at-then-values-remaining_capacity.ensures);
      added = tt;
    }

pub returns : goal.returns
returns g c =
    let r = g.R.EntryReader in
    let named = r.named c.args.reader.now in
    let elements = tables c.args.section named (r.keys c.args.reader.now) in
    let items = c.args.read.now.items in
    let read = map r.shown items in
    let here = at_section c.args.section in
    let values = c.in-Some-array.values.now in
    let few =
    few_left c.remaining_capacity.result (length items) g.row.N (length values) c.remaining_capacity.ensures
    c.if-values-remaining_capacity.false in
    let all =
    ap (λ d. option_and_then (array_fault (g.row.N - length read) elements read here) d) (sym c.in-Some.ensures)
    ∙ few_enough (g.row.N - length read) elements read here (view c.in-Some.value.now) (map view values)
    (each_fault elements read 0 (map view values)) c.in-Some-array.ensures
    (subst (λ n. length (map view values) ≤ g.row.N - n) (sym (length-map items r.shown))
    (subst (λ n. n ≤ g.row.N - length items) (sym (length-map values view)) few)) refl in
    let found = ap (λ o. unwrap_or o []) c.in-Some-array.ensures ∙ ap (λ o. elements_of o) c.in-Some.ensures in
    record {
      checks = subst (λ check. Judges c.read_each.result check tt) (sym all) c.read_each.ensures.checks;
      added =
          subst (λ ds.
          OnOk c.read_each.result (map r.shown c.read_each.new.read.items ≡ read ++ map (λ (d : Data). named (as_table d)) ds))
          found
          c.read_each.ensures.added;
    }
