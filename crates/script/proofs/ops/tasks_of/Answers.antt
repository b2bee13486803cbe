use Rattle.std.proofs.Common.{◌+◌, [], map, drop, sym, subst, ◌≤◌}
use Rattle.std.proofs.Math.Nat.{le_trans}
use Rattle.model.specs.Application.{Definition}
use Rattle.model.specs.Blocks.{Nests, edges_of}
use Rattle.model.specs.Scripts.{IsDefinition, most_tasks}
use Rattle.script.specs.Entries.{raw_view, entries_view}
use Rattle.script.specs.Ops.{with_script}
use Rattle.script.proofs.Steps.{left_in, one_made, all_left, all_grown, counted, none_left, all_made}
use Rattle.script.proofs.ops.tasks_of.Goals as goal

pub task_of-requires : goal.task_of-requires
task_of-requires c =
    let entries = entries_view c.args.entries.now in
    let tasks = c.args.entries.now.tasks.items in
    let i = c.loop-task.task-index in
    let task = c.task-item.result in
    (all_left raw_view task (drop i tasks) (drop (i + 1) tasks)
    (left_in c.as_slice-task-items.result.now tasks c.as_slice-task-items.ensures.value i task c.loop-task-test.true c.task-item.is)
    (with_script entries) (λ (t : Definition). Nests [] (edges_of t.script)) c.loop-task.invariant.nest).0

pub loop-task-preserved : goal.loop-task-preserved
loop-task-preserved c =
    let entries = entries_view c.args.entries.now in
    let tasks = c.args.entries.now.tasks.items in
    let i = c.loop-task.task-index in
    let task = c.task-item.result in
    let turn =
    left_in c.as_slice-task-items.result.now tasks c.as_slice-task-items.ensures.value
    i task c.loop-task-test.true c.task-item.is in
    let before = c.loop-task.definitions.items in
    let after = c.push.new.self.items in
    let new = c.in_ok-push.ensures.items in
    let definition = c.in_ok-definition.definition in
    record {
      nest =
          (all_left raw_view task (drop i tasks) (drop (i + 1) tasks) turn (with_script entries)
          (λ (t : Definition). Nests [] (edges_of t.script)) c.loop-task.invariant.nest).1;
      named =
          one_made raw_view task (drop i tasks) (drop (i + 1) tasks) turn
          (with_script entries) (map (with_script entries) (map raw_view tasks))
          before after definition c.loop-task.invariant.named c.in_ok-definition.ensures.task new;
      formed = all_grown definition before after new IsDefinition c.loop-task.invariant.formed c.in_ok-definition.ensures.formed;
      count = counted definition before after new i c.loop-task.invariant.count;
    }

pub returns : goal.returns
returns c =
    let entries = entries_view c.args.entries.now in
    let tasks = c.args.entries.now.tasks.items in
    let seen = c.as_slice-task-items in
    let i = c.loop-task.task-index in
    record {
      tasks =
          all_made (with_script entries) raw_view (drop i tasks)
          (map (with_script entries) (map raw_view tasks)) c.loop-task.definitions.items
          c.loop-task.invariant.named (none_left seen.result.now tasks seen.ensures.value i c.loop-task-test.false);
      formed = c.loop-task.invariant.formed;
      few =
          subst (λ n. n ≤ most_tasks) (sym c.loop-task.invariant.count)
          (le_trans c.loop-task.auto.task-index-end seen.ensures.fits);
    }
