use Rattle.std.proofs.Common.{◌≡◌, ◌+◌, ◌∙◌, Some, None, map, drop, ap, refl, subst}
use Rattle.toml.specs.View.{view}
use Rattle.script.specs.declared.place.Place.{Place}
use Rattle.script.specs.declared.place.Key.TheVariants as key
use Rattle.script.specs.Faults.{at_key}
use Rattle.script.specs.Entries.{Raw, raw_view, entries_view}
use Rattle.script.specs.Ops.{task_ops, script_fault, scripts_fault, task_scripts}
use Rattle.script.proofs.Steps.{left_in, goes_on, stops, refused, none_left, all_pass}
use Rattle.script.proofs.ops.check_scripts.Goals as goal

pub loop-entry-preserved : goal.loop-entry-preserved
loop-entry-preserved c =
    let entries = entries_view c.args.entries.now in
    let tasks = c.args.entries.now.tasks.items in
    let texts = λ (entry : Raw). entry.script in
    let seen = c.as_slice-task-items in
    let i = c.loop-entry.entry in
    let task = c.task-item.result in
    let place : c.key-place.result ≡ (task_scripts entries).at i =
    c.key-place.ensures ∙ ap (λ (p : Place). at_key p key.Script) c.entry.ensures in
    goes_on (task_scripts entries) tt i (map view task.script.now)
    (map texts (map raw_view (drop i tasks))) (map texts (map raw_view (drop (i + 1) tasks)))
    (ap (λ rest. map texts (map raw_view rest))
    (left_in seen.result.now tasks seen.ensures.value i task c.loop-entry-test.true c.task-item.is))
    (scripts_fault entries) c.loop-entry.invariant
    (subst (λ p. script_fault task_ops entries p (map view task.script.now) ≡ None) place c.in_ok-check_script.ensures.0)

pub returns : goal.returns
returns c =
    let entries = entries_view c.args.entries.now in
    let tasks = c.args.entries.now.tasks.items in
    let texts = λ (entry : Raw). entry.script in
    let seen = c.as_slice-task-items in
    let i = c.loop-entry.entry in (
      all_pass (task_scripts entries) tt i (map texts (map raw_view (drop i tasks))) (scripts_fault entries) c.loop-entry.invariant
          (ap (λ rest. map texts (map raw_view rest))
          (none_left seen.result.now tasks seen.ensures.value i c.loop-entry-test.false)),
      refl,
    )

pub returns-in_err-check_script : goal.returns-in_err-check_script
returns-in_err-check_script c =
    let entries = entries_view c.args.entries.now in
    let tasks = c.args.entries.now.tasks.items in
    let texts = λ (entry : Raw). entry.script in
    let seen = c.as_slice-task-items in
    let i = c.loop-entry.entry in
    let task = c.task-item.result in
    let fault = c.in_err-check_script.field-0.0 in
    let place : c.key-place.result ≡ (task_scripts entries).at i =
    c.key-place.ensures ∙ ap (λ (p : Place). at_key p key.Script) c.entry.ensures in
    refused c.from_residual.result (scripts_fault entries) tt fault c.from_residual.ensures.1
    (stops (task_scripts entries) tt i (map view task.script.now) (map texts (map raw_view (drop i tasks)))
    (map texts (map raw_view (drop (i + 1) tasks)))
    (ap (λ rest. map texts (map raw_view rest))
    (left_in seen.result.now tasks seen.ensures.value i task c.loop-entry-test.true c.task-item.is))
    (scripts_fault entries) fault c.loop-entry.invariant
    (subst (λ p. script_fault task_ops entries p (map view task.script.now) ≡ Some fault) place c.in_err-check_script.ensures))
