use Rattle.std.proofs.Common.{◌≡◌, ◌≤◌, ◌+◌, Some, None, length, map, drop, refl, ap, sym, subst}
use Rattle.std.specs.List.{filter_map}
use Rattle.toml.specs.View.{view}
use Rattle.script.specs.Arrays.{each_fault}
use Rattle.script.specs.Entries.{source_names, entries_view}
use Rattle.script.specs.Points.{point_elements, entry_fault, entry_named}
use Rattle.script.proofs.Steps.{left, named, counted, goes_on, stops, refused_seen, none_left, all_pass, all_named}
use Rattle.script.proofs.points.push_all.Goals as goal

pub loop-index-preserved : goal.loop-index-preserved
loop-index-preserved c =
    let names = source_names (entries_view c.args.entries.now) in
    let values = c.args.values.now in
    let i = c.loop-index.index in
    let value = c.index-values-index.result in
    let turn = left values i value c.loop-index-test.true c.index-values-index.is in
    let before = c.loop-index.points.items in
    let after = c.push_reserved.new.self.items in
    let new = c.push_reserved.ensures.items in
    let taken = c.in_ok-entry.ensures in
    record {
      checks =
          goes_on (point_elements names c.args.place) tt i (view value) (map view (drop i values)) (map view (drop (i + 1) values))
          (ap (map view) turn) (each_fault (point_elements names c.args.place) tt 0 (map view values)) c.loop-index.invariant.checks
          (subst (λ p. entry_fault names p (view value) ≡ None) c.element.ensures taken.0);
      named =
          named view value (drop i values) (drop (i + 1) values) turn
          (entry_named names) (filter_map (entry_named names) (map view values))
          before after c.in_ok-entry.field-0 c.loop-index.invariant.named (sym taken.1) new;
      count = counted c.in_ok-entry.field-0 before after new i c.loop-index.invariant.count;
      room = subst (λ n. length values ≤ n) (sym c.push_reserved.ensures.capacity) c.loop-index.invariant.room;
    }

pub returns : goal.returns
returns c =
    let names = source_names (entries_view c.args.entries.now) in
    let elements = point_elements names c.args.place in
    let values = c.args.values.now in
    let i = c.loop-index.index in
    let none = none_left values values refl i c.loop-index-test.false in (
      all_pass elements tt i (map view (drop i values)) (each_fault elements tt 0 (map view values)) c.loop-index.invariant.checks
          (ap (map view) none),
      all_named (entry_named names) view (drop i values)
          (filter_map (entry_named names) (map view values)) c.loop-index.points.items
          c.loop-index.invariant.named none,
    )

pub returns-in_err-entry : goal.returns-in_err-entry
returns-in_err-entry c =
    let names = source_names (entries_view c.args.entries.now) in
    let elements = point_elements names c.args.place in
    let values = c.args.values.now in
    let i = c.loop-index.index in
    let value = c.index-values-index.result in
    let fault = c.in_err-entry.field-0.0 in
    let all = each_fault elements tt 0 (map view values) in
    refused_seen (λ v. v.items) c.from_residual.result all
    (filter_map (entry_named names) (map view values)) fault c.from_residual.ensures.1
    (stops elements tt i (view value) (map view (drop i values)) (map view (drop (i + 1) values))
    (ap (map view) (left values i value c.loop-index-test.true c.index-values-index.is)) all fault c.loop-index.invariant.checks
    (subst (λ p. entry_fault names p (view value) ≡ Some fault) c.element.ensures c.in_err-entry.ensures))
