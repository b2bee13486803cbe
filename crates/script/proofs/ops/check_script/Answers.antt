use Rattle.std.proofs.Common.{◌≡◌, ◌+◌, ◌∙◌, map, drop, length, Some, None, [], ap, sym, subst, refl}
use Rattle.std.specs.List.{fold}
use Rattle.toml.specs.View.{view}
use Rattle.script.specs.declared.fault.FaultKind.TheVariants.{BadNesting}
use Rattle.script.specs.Faults.{fault_at, at_element}
use Rattle.script.specs.Arrays.{each_fault}
use Rattle.script.specs.Entries.{entries_view}
use Rattle.script.specs.Ops.{op_elements, op_fault, blocks_with, script_fault}
use Rattle.script.proofs.Steps.{left, goes_on, stops, found, refused, none_left, all_pass}
use Rattle.script.proofs.Elements.{closed}
use Rattle.script.proofs.ops.check_script.Goals as goal

pub loop-index-preserved : goal.loop-index-preserved
loop-index-preserved g c =
    let ops = g.O.TextOp.ops in
    let entries = entries_view c.args.entries.now in
    let texts = c.args.texts.now in
    let i = c.loop-index.index in
    let blocks = c.loop-index.blocks in
    let text = c.index-texts-index.result in
    let turn = left texts i text c.loop-index-test.true c.index-texts-index.is in
    let taken = c.in_ok-pass_op.ensures in
    let others = map view (drop (i + 1) texts) in
    record {
      checks =
          goes_on (op_elements ops entries c.args.place) blocks i (view text) (map view (drop i texts)) others (ap (map view) turn)
          (each_fault (op_elements ops entries c.args.place) [] 0 (map view texts)) c.loop-index.invariant.checks
          (subst (λ p. op_fault ops entries blocks p (view text) ≡ None) c.element.ensures taken.checks.0)
          ∙ ap (λ n. each_fault (op_elements ops entries c.args.place) n (i + 1) others) (sym taken.passed);
      blocks =
          c.loop-index.invariant.blocks
          ∙ ap (λ xs. fold (blocks_with ops entries) blocks (map view xs)) turn
          ∙ ap (λ n. fold (blocks_with ops entries) n others) (sym taken.passed);
    }

pub returns : goal.returns
returns g c =
    let ops = g.O.TextOp.ops in
    let entries = entries_view c.args.entries.now in
    let elements = op_elements ops entries c.args.place in
    let texts = c.args.texts.now in
    let i = c.loop-index.index in
    let blocks = c.loop-index.blocks in
    let none = none_left texts texts refl i c.loop-index-test.false in (
      closed (each_fault elements [] 0 (map view texts)) (fold (blocks_with ops entries) [] (map view texts)) blocks
          (fault_at BadNesting (at_element c.args.place (length (map view texts))))
          (all_pass elements blocks i (map view (drop i texts))
          (each_fault elements [] 0 (map view texts)) c.loop-index.invariant.checks
          (ap (map view) none))
          (c.loop-index.invariant.blocks ∙ ap (λ xs. fold (blocks_with ops entries) blocks (map view xs)) none)
          (sym c.if-not-is_empty.false ∙ c.is_empty.ensures),
      refl,
    )

pub returns-in_err-pass_op : goal.returns-in_err-pass_op
returns-in_err-pass_op g c =
    let ops = g.O.TextOp.ops in
    let entries = entries_view c.args.entries.now in
    let elements = op_elements ops entries c.args.place in
    let texts = c.args.texts.now in
    let i = c.loop-index.index in
    let blocks = c.loop-index.blocks in
    let text = c.index-texts-index.result in
    let fault = c.in_err-pass_op.field-0.0 in
    let all = each_fault elements [] 0 (map view texts) in
    refused c.from_residual.result (script_fault ops entries c.args.place (map view texts)) tt fault c.from_residual.ensures.1
    (found all _ fault
    (stops elements blocks i (view text) (map view (drop i texts)) (map view (drop (i + 1) texts))
    (ap (map view) (left texts i text c.loop-index-test.true c.index-texts-index.is)) all fault c.loop-index.invariant.checks
    (subst (λ p. op_fault ops entries blocks p (view text) ≡ Some fault) c.element.ensures c.in_err-pass_op.ensures.checks)))
