use Rattle.std.proofs.Common.{◌≡◌, ◌+◌, Some, None, map, drop, refl, ap, subst}
use Rattle.toml.specs.View.{view}
use Rattle.script.specs.Arrays.{each_fault}
use Rattle.script.specs.Entries.{source_names, entries_view}
use Rattle.script.specs.Points.{point_elements, entry_fault}
use Rattle.script.proofs.Steps.{left, goes_on, stops, refused, none_left, all_pass}
use Rattle.script.proofs.points.check_all.Goals as goal

pub loop-index-preserved : goal.loop-index-preserved
loop-index-preserved c =
    let names = source_names (entries_view c.args.entries.now) in
    let values = c.args.values.now in
    let i = c.loop-index.index in
    let value = c.index-values-index.result in
    goes_on (point_elements names c.args.place) tt i (view value) (map view (drop i values)) (map view (drop (i + 1) values))
    (ap (map view) (left values i value c.loop-index-test.true c.index-values-index.is))
    (each_fault (point_elements names c.args.place) tt 0 (map view values)) c.loop-index.invariant
    (subst (λ p. entry_fault names p (view value) ≡ None) c.element.ensures c.in_ok-entry.ensures.0)

pub returns : goal.returns
returns c =
    let elements = point_elements (source_names (entries_view c.args.entries.now)) c.args.place in
    let values = c.args.values.now in
    let i = c.loop-index.index in (
      all_pass elements tt i (map view (drop i values)) (each_fault elements tt 0 (map view values))
          c.loop-index.invariant (ap (map view) (none_left values values refl i c.loop-index-test.false)),
      refl,
    )

pub returns-in_err-entry : goal.returns-in_err-entry
returns-in_err-entry c =
    let names = source_names (entries_view c.args.entries.now) in
    let elements = point_elements names c.args.place in
    let values = c.args.values.now in
    let i = c.loop-index.index in
    let value = c.index-values-index.result in
    let fault = c.in_err-entry.field-0.0 in
    let all = each_fault elements tt 0 (map view values) in
    refused c.from_residual.result all tt fault c.from_residual.ensures.1
    (stops elements tt i (view value) (map view (drop i values)) (map view (drop (i + 1) values))
    (ap (map view) (left values i value c.loop-index-test.true c.index-values-index.is)) all fault c.loop-index.invariant
    (subst (λ p. entry_fault names p (view value) ≡ Some fault) c.element.ensures c.in_err-entry.ensures))
