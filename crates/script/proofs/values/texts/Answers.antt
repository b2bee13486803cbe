use Rattle.std.proofs.Common.{◌<◌, ◌≤◌, ◌∙◌, [], Some, None, map, length, ap, sym, subst}
use Rattle.std.specs.Prelude.{unwrap_or}
use Rattle.std.proofs.lemmas.List.{length-map}
use Rattle.toml.specs.View.{view, table_view}
use Rattle.script.specs.Faults.{required}
use Rattle.script.specs.Arrays.{elements_of}
use Rattle.script.specs.Values.{text_elements, texts_fault, texts_named}
use Rattle.script.proofs.Steps.{refused_seen, of_none}
use Rattle.script.proofs.Elements.{missing, there, no_array, too_many, few_enough}
use Rattle.script.proofs.values.texts.Goals as goal

pub returns-in_default : goal.returns-in_default
returns-in_default c = record {
  checks =
      missing c.args.place c.args.key (texts_fault c.args.most) (table_view c.args.table.now) c.key-place.result c.key-place.ensures
      c.at.result c.in_default.ensures c.at.ensures;
  few = tt;
}

pub returns-in_default-array : goal.returns-in_default-array
returns-in_default-array c =
    let here = c.key-place.result in
    let d = view c.in-Some.value.now in
    record {
      checks =
          there c.args.place c.args.key (texts_fault c.args.most) (table_view c.args.table.now) here c.key-place.ensures d
          (Some c.at-in_default-array.result) c.in-Some.ensures
          (no_array c.args.most (text_elements here) tt here d c.in_default-array.ensures
          ∙ ap (λ f. Some f) (sym c.at-in_default-array.ensures));
      few = tt;
    }

pub returns-then-values-most : goal.returns-then-values-most
returns-then-values-most c =
    let here = c.key-place.result in
    let d = view c.in-Some.value.now in
    let values = c.in-Some-array.values.now in
    record {
      checks =
          there c.args.place c.args.key (texts_fault c.args.most) (table_view c.args.table.now) here c.key-place.ensures d
          (Some c.at-then-values-most.result) c.in-Some.ensures
          (too_many c.args.most (text_elements here) tt here d (map view values) c.in-Some-array.ensures
          (subst (λ n. c.args.most < n) (sym (length-map values view)) c.if-values-most.true)
          ∙ ap (λ f. Some f) (sym c.at-then-values-most.ensures));
      few = tt;
    }

pub returns-in_err-check_texts : goal.returns-in_err-check_texts
returns-in_err-check_texts c =
    let here = c.key-place.result in
    let d = view c.in-Some.value.now in
    let values = c.in-Some-array.values.now in
    let fault = c.in_err-check_texts.field-0.0 in
    let ms = table_view c.args.table.now in
    record {
      checks =
          refused_seen (λ texts. map view texts.now) c.from_residual.result
          (required c.args.place c.args.key (texts_fault c.args.most) ms)
          (texts_named c.args.key (Some ms)) fault c.from_residual.ensures.1
          (there c.args.place c.args.key (texts_fault c.args.most) ms here c.key-place.ensures d (Some fault) c.in-Some.ensures
          (few_enough c.args.most (text_elements here) tt here d (map view values) (Some fault) c.in-Some-array.ensures
          (subst (λ n. n ≤ c.args.most) (sym (length-map values view)) c.if-values-most.false) c.in_err-check_texts.ensures));
      few = of_none c.from_residual.result fault (λ texts. length texts.now ≤ c.args.most) c.from_residual.ensures.1;
    }

pub returns : goal.returns
returns c =
    let here = c.key-place.result in
    let d = view c.in-Some.value.now in
    let values = c.in-Some-array.values.now in
    record {
      checks = (
        there c.args.place c.args.key (texts_fault c.args.most)
            (table_view c.args.table.now) here c.key-place.ensures d None c.in-Some.ensures
            (few_enough c.args.most (text_elements here) tt here d (map view values) None c.in-Some-array.ensures
            (subst (λ n. n ≤ c.args.most) (sym (length-map values view)) c.if-values-most.false) c.in_ok-check_texts.ensures.0),
        ap (λ o. unwrap_or o []) c.in-Some-array.ensures ∙ ap (λ o. elements_of o) c.in-Some.ensures,
      );
      few = c.if-values-most.false;
    }
