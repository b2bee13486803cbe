use Rattle.std.proofs.Common.{◌≡◌, ◌+◌, ℕ, List, Option, Some, None, true, map, drop, refl, sym, ap, ◌∙◌}
use Rattle.std.specs.Prelude.{is_none}
use Rattle.std.specs.Option.{is_some}
use Rattle.toml.specs.Data.{as_str}
use Rattle.toml.specs.View.{view}
use Rattle.script.specs.declared.fault.Fault.{Fault}
use Rattle.script.specs.declared.fault.FaultKind.TheVariants.{WrongKind}
use Rattle.script.specs.Faults.{fails_if, fault_at, at_element}
use Rattle.script.specs.Arrays.{each_fault}
use Rattle.script.specs.Values.{text_elements}
use Rattle.script.proofs.Steps.{left, goes_on, none_left, all_pass}
use Rattle.script.proofs.values.check_texts.Goals as goal

taken : (text : Option (List ℕ)) (fault : Fault) → is_some text ≡ true → fails_if (is_none text) fault ≡ None
taken None fault is = cc
taken (Some text) fault is = refl

pub loop-index-preserved : goal.loop-index-preserved
loop-index-preserved c =
    let values = c.args.values.now in
    let i = c.loop-index.index in
    let value = c.index-values-index.result in
    goes_on (text_elements c.args.place) tt i (view value) (map view (drop i values)) (map view (drop (i + 1) values))
    (ap (map view) (left values i value c.loop-index-test.true c.index-values-index.is))
    (each_fault (text_elements c.args.place) tt 0 (map view values)) c.loop-index.invariant
    (taken (as_str (view value)) (fault_at WrongKind (at_element c.args.place i)) (sym c.is_str.ensures ∙ c.if-not-is_str.false))

pub returns : goal.returns
returns c =
    let values = c.args.values.now in
    let i = c.loop-index.index in (
      all_pass (text_elements c.args.place) tt i (map view (drop i values))
          (each_fault (text_elements c.args.place) tt 0 (map view values))
          c.loop-index.invariant (ap (map view) (none_left values values refl i c.loop-index-test.false)),
      refl,
    )
