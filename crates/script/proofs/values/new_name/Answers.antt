use Rattle.std.proofs.Common.{◌≡◌, ◌++◌, ◌∙◌, [], true, false, Some, None, map, ap, sym, refl}
use Rattle.std.specs.Prelude.{◌||◌, unwrap_or}
use Rattle.std.specs.Option.{option_and_then}
use Rattle.std.specs.List.{list_any}
use Rattle.std.specs.Str.{bytes_eq}
use Rattle.toml.specs.Data.{as_str}
use Rattle.std.proofs.lemmas.List.Folds.{list_any-append}
use Rattle.toml.specs.View.{view, table_view}
use Rattle.grammar.specs.Names.{is_name}
use Rattle.script.specs.declared.place.Key.TheVariants as key
use Rattle.script.specs.Values.{name_fault}
use Rattle.script.specs.Entries.{entries_view, names_of}
use Rattle.script.proofs.Elements.{missing, there, no_text, text}
use Rattle.script.proofs.values.new_name.Goals.{then-has_name-via-then-has_name, then-has_name-via-else-has_name+then-has_name-2}
use Rattle.script.proofs.values.new_name.Goals as goal

pub returns-in_default : goal.returns-in_default
returns-in_default g c =
    let r = g.E.Named in
    let names = names_of (entries_view c.args.earlier.now) ++ map r.name_of (map r.shown c.args.before.now) in
    record {
      checks =
          missing c.args.place key.Name (name_fault names) (table_view c.args.table.now) c.key-place.result c.key-place.ensures
          c.at.result c.in_default.ensures c.at.ensures;
      length = tt;
    }

pub returns-in_default-as_str : goal.returns-in_default-as_str
returns-in_default-as_str g c =
    let r = g.E.Named in
    let names = names_of (entries_view c.args.earlier.now) ++ map r.name_of (map r.shown c.args.before.now) in
    let here = c.key-place.result in
    let d = view c.in-Some.value.now in
    record {
      checks =
          there c.args.place key.Name (name_fault names) (table_view c.args.table.now) here c.key-place.ensures d
          (Some c.at-in_default-as_str.result) c.in-Some.ensures
          (no_text names here d c.in_default-as_str.ensures ∙ ap (λ f. Some f) (sym c.at-in_default-as_str.ensures));
      length = tt;
    }

pub returns-then-not-is_name : goal.returns-then-not-is_name
returns-then-not-is_name g c =
    let r = g.E.Named in
    let names = names_of (entries_view c.args.earlier.now) ++ map r.name_of (map r.shown c.args.before.now) in
    let here = c.key-place.result in
    let d = view c.in-Some.value.now in
    let name = c.in-Some-as_str.name.now in
    let is = ap is_name (sym c.as_bytes.ensures.value) ∙ sym c.is_name.ensures ∙ c.if-not-is_name.true in
    record {
      checks =
          there c.args.place key.Name (name_fault names) (table_view c.args.table.now) here c.key-place.ensures d
          (Some c.at-then-not-is_name.result) c.in-Some.ensures
          (text names here d name false (list_any (bytes_eq name) names) c.in-Some-as_str.ensures is refl
          ∙ ap (λ f. Some f) (sym c.at-then-not-is_name.ensures));
      length = tt;
    }

pub returns-then-has_name : goal.returns-then-has_name
returns-then-has_name g c =
    let r = g.E.Named in
    let earlier = names_of (entries_view c.args.earlier.now) in
    let before = map r.name_of (map r.shown c.args.before.now) in
    let here = c.key-place.result in
    let d = view c.in-Some.value.now in
    let name = c.in-Some-as_str.name.now in
    let is = ap is_name (sym c.as_bytes.ensures.value) ∙ sym c.is_name.ensures ∙ c.if-not-is_name.false in
    let double : list_any (bytes_eq name) (earlier ++ before) ≡ true =
    list_any-append (bytes_eq name) earlier before
    ∙ elim c.then-has_name.branch [
      | then-has_name-via-then-has_name w ↦
          ap (λ b. b || list_any (bytes_eq name) before) (sym c.has_name.ensures ∙ w.if-has_name.true)
      | then-has_name-via-else-has_name+then-has_name-2 w ↦
          ap (λ b. b || list_any (bytes_eq name) before) (sym c.has_name.ensures ∙ w.if-has_name.false)
          ∙ sym w.has_name-else-has_name.ensures
          ∙ w.if-has_name-2.true
    ] in
    record {
      checks =
          there c.args.place key.Name (name_fault (earlier ++ before)) (table_view c.args.table.now) here c.key-place.ensures d
          (Some c.at-then-has_name.result) c.in-Some.ensures
          (text (earlier ++ before) here d name true true c.in-Some-as_str.ensures is double
          ∙ ap (λ f. Some f) (sym c.at-then-has_name.ensures));
      length = tt;
    }

pub returns-clause-checks : goal.returns-clause-checks
returns-clause-checks g c =
    let r = g.E.Named in
    let earlier = names_of (entries_view c.args.earlier.now) in
    let before = map r.name_of (map r.shown c.args.before.now) in
    let here = c.key-place.result in
    let d = view c.in-Some.value.now in
    let name = c.in-Some-as_str.name.now in
    let is = ap is_name (sym c.as_bytes.ensures.value) ∙ sym c.is_name.ensures ∙ c.if-not-is_name.false in
    let single : list_any (bytes_eq name) (earlier ++ before) ≡ false =
    list_any-append (bytes_eq name) earlier before
    ∙ ap (λ b. b || list_any (bytes_eq name) before) (sym c.has_name.ensures ∙ c.if-has_name.false)
    ∙ sym c.has_name-else-has_name.ensures
    ∙ c.if-has_name-2.false in (
      there c.args.place key.Name (name_fault (earlier ++ before))
          (table_view c.args.table.now) here c.key-place.ensures d None c.in-Some.ensures
          (text (earlier ++ before) here d name true false c.in-Some-as_str.ensures is single),
      ap (λ o. unwrap_or o []) c.in-Some-as_str.ensures ∙ ap (λ o. unwrap_or (option_and_then as_str o) []) c.in-Some.ensures,
    )
