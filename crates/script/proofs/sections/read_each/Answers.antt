use Rattle.std.proofs.Common.{◌≡◌, ◌+◌, ◌++◌, [], ◌∷◌, Some, None, map, drop, length, refl, ap, sym, subst, ◌∙◌}
use Rattle.std.proofs.lemmas.List.{map-append}
use Rattle.toml.specs.Data.{Data, as_table}
use Rattle.toml.specs.View.{view}
use Rattle.script.specs.declared.fault.FaultKind.TheVariants.{WrongKind}
use Rattle.script.specs.Faults.{fault_at, need}
use Rattle.script.specs.Arrays.{each_fault, tables}
use Rattle.script.proofs.Steps.{left, goes_on, stops, refused, not_done, one_made, counted, further, none_left, all_pass, all_made}
use Rattle.script.proofs.sections.read_each.Goals as goal

pub loop-index-preserved : goal.loop-index-preserved
loop-index-preserved g c =
    let r = g.R.EntryReader in
    let keys = r.keys c.args.reader.now in
    let named = r.named c.args.reader.now in
    let elements = tables c.args.section named keys in
    let values = c.args.values.now in
    let i = c.loop-index.index in
    let value = c.index-values-index.result in
    let turn = left values i value c.loop-index-test.true c.index-values-index.is in
    let before = c.loop-index.read.items in
    let after = c.push.new.self.items in
    let entry = c.in_ok-entry.entry in
    let taken = c.in_ok-entry.ensures in
    let new : map r.shown after ≡ map r.shown before ++ r.shown entry ∷ [] =
    ap (map r.shown) c.push.ensures.items ∙ map-append r.shown before (entry ∷ []) in
    let others = map view (drop (i + 1) values) in
    record {
      checks =
          goes_on elements (map r.shown before) i (view value) (map view (drop i values)) others (ap (map view) turn)
          (each_fault elements (map r.shown c.args.read.now.items) 0 (map view values)) c.loop-index.invariant.checks
          (subst (λ p. need (fault_at WrongKind p) (as_table (view value)) (keys (map r.shown before) p) ≡ None) c.entry.ensures
          (subst
          (λ xs. need (fault_at WrongKind c.entry.result) (as_table (view value)) (keys (map r.shown xs) c.entry.result) ≡ None)
          c.as_slice.ensures.value taken.0))
          ∙ ap (λ shown. each_fault elements (map r.shown before ++ shown ∷ []) (i + 1) others) (sym taken.1)
          ∙ ap (λ shown. each_fault elements shown (i + 1) others) (sym new);
      named =
          one_made view value (drop i values) (drop (i + 1) values) turn (λ (d : Data). named (as_table d))
          (map r.shown c.args.read.now.items ++ map (λ (d : Data). named (as_table d)) (map view values))
          (map r.shown before) (map r.shown after)
          (r.shown entry) c.loop-index.invariant.named taken.1 new;
      count =
          counted entry before after c.push.ensures.items (length c.args.read.now.items + i) c.loop-index.invariant.count
          ∙ further (length c.args.read.now.items) i;
    }

pub returns : goal.returns
returns g c =
    let r = g.R.EntryReader in
    let named = r.named c.args.reader.now in
    let elements = tables c.args.section named (r.keys c.args.reader.now) in
    let values = c.args.values.now in
    let i = c.loop-index.index in
    let none = none_left values values refl i c.loop-index-test.false in
    record {
      checks = (
        all_pass elements (map r.shown c.loop-index.read.items) i (map view (drop i values))
            (each_fault elements (map r.shown c.args.read.now.items) 0 (map view values))
            c.loop-index.invariant.checks (ap (map view) none),
        refl,
      );
      added =
          all_made (λ (d : Data). named (as_table d)) view (drop i values)
          (map r.shown c.args.read.now.items ++ map (λ (d : Data). named (as_table d)) (map view values))
          (map r.shown c.loop-index.read.items)
          c.loop-index.invariant.named none;
    }

pub returns-in_err-entry : goal.returns-in_err-entry
returns-in_err-entry g c =
    let r = g.R.EntryReader in
    let keys = r.keys c.args.reader.now in
    let named = r.named c.args.reader.now in
    let elements = tables c.args.section named keys in
    let values = c.args.values.now in
    let i = c.loop-index.index in
    let value = c.index-values-index.result in
    let before = c.loop-index.read.items in
    let fault = c.in_err-entry.field-0.0 in
    let all = each_fault elements (map r.shown c.args.read.now.items) 0 (map view values) in
    record {
      checks =
          refused c.from_residual.result all tt fault c.from_residual.ensures.1
          (stops elements (map r.shown before) i (view value) (map view (drop i values)) (map view (drop (i + 1) values))
          (ap (map view) (left values i value c.loop-index-test.true c.index-values-index.is)) all
          fault c.loop-index.invariant.checks
          (subst (λ p. need (fault_at WrongKind p) (as_table (view value)) (keys (map r.shown before) p) ≡ Some fault)
          c.entry.ensures
          (subst (λ xs.
          need (fault_at WrongKind c.entry.result) (as_table (view value)) (keys (map r.shown xs) c.entry.result) ≡ Some fault)
          c.as_slice.ensures.value c.in_err-entry.ensures)));
      added =
          not_done c.from_residual.result fault
          (map r.shown before ≡ map r.shown c.args.read.now.items ++ map (λ (d : Data). named (as_table d)) (map view values))
          c.from_residual.ensures.1;
    }
