use Rattle.std.proofs.Common.{◌≡◌, ◌+◌, ◌∙◌, Some, None, map, drop, ap, refl, subst}
use Rattle.toml.specs.View.{view}
use Rattle.script.specs.declared.place.Place.{Place}
use Rattle.script.specs.declared.place.Key.TheVariants as key
use Rattle.script.specs.Faults.{at_key}
use Rattle.script.specs.Entries.{RawIsr, isr_view, entries_view}
use Rattle.script.specs.Ops.{handler_ops, script_fault, handler_ops_fault, handler_scripts}
use Rattle.script.proofs.Steps.{left_in, goes_on, stops, refused, none_left, all_pass}
use Rattle.script.proofs.ops.check_handlers.Goals as goal

pub loop-entry-preserved : goal.loop-entry-preserved
loop-entry-preserved c =
    let entries = entries_view c.args.entries.now in
    let handlers = c.args.entries.now.handlers.items in
    let texts = λ (entry : RawIsr). entry.ops in
    let seen = c.as_slice-handler-items in
    let i = c.loop-entry.entry in
    let handler = c.handler-item.result in
    let place : c.key-place.result ≡ (handler_scripts entries).at i =
    c.key-place.ensures ∙ ap (λ (p : Place). at_key p key.Ops) c.entry.ensures in
    goes_on (handler_scripts entries) tt i (map view handler.ops.now)
    (map texts (map isr_view (drop i handlers))) (map texts (map isr_view (drop (i + 1) handlers)))
    (ap (λ rest. map texts (map isr_view rest))
    (left_in seen.result.now handlers seen.ensures.value i handler c.loop-entry-test.true c.handler-item.is))
    (handler_ops_fault entries) c.loop-entry.invariant
    (subst (λ p. script_fault handler_ops entries p (map view handler.ops.now) ≡ None) place c.in_ok-check_script.ensures.0)

pub returns : goal.returns
returns c =
    let entries = entries_view c.args.entries.now in
    let handlers = c.args.entries.now.handlers.items in
    let texts = λ (entry : RawIsr). entry.ops in
    let seen = c.as_slice-handler-items in
    let i = c.loop-entry.entry in (
      all_pass (handler_scripts entries) tt i (map texts (map isr_view (drop i handlers)))
          (handler_ops_fault entries) c.loop-entry.invariant
          (ap (λ rest. map texts (map isr_view rest))
          (none_left seen.result.now handlers seen.ensures.value i c.loop-entry-test.false)),
      refl,
    )

pub returns-in_err-check_script : goal.returns-in_err-check_script
returns-in_err-check_script c =
    let entries = entries_view c.args.entries.now in
    let handlers = c.args.entries.now.handlers.items in
    let texts = λ (entry : RawIsr). entry.ops in
    let seen = c.as_slice-handler-items in
    let i = c.loop-entry.entry in
    let handler = c.handler-item.result in
    let fault = c.in_err-check_script.field-0.0 in
    let place : c.key-place.result ≡ (handler_scripts entries).at i =
    c.key-place.ensures ∙ ap (λ (p : Place). at_key p key.Ops) c.entry.ensures in
    refused c.from_residual.result (handler_ops_fault entries) tt fault c.from_residual.ensures.1
    (stops (handler_scripts entries) tt i (map view handler.ops.now) (map texts (map isr_view (drop i handlers)))
    (map texts (map isr_view (drop (i + 1) handlers)))
    (ap (λ rest. map texts (map isr_view rest))
    (left_in seen.result.now handlers seen.ensures.value i handler c.loop-entry-test.true c.handler-item.is))
    (handler_ops_fault entries) fault c.loop-entry.invariant
    (subst (λ p. script_fault handler_ops entries p (map view handler.ops.now) ≡ Some fault) place c.in_err-check_script.ensures))
