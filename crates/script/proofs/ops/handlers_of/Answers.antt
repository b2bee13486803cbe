use Rattle.std.proofs.Common.{◌+◌, ◌≤◌, map, drop, sym, subst}
use Rattle.std.proofs.Math.Nat.{le_trans}
use Rattle.model.specs.Scripts.{most_handlers}
use Rattle.script.specs.Entries.{isr_view, entries_view}
use Rattle.script.specs.Ops.{IsLimited, with_isr_ops}
use Rattle.script.proofs.Steps.{left_in, one_made, all_grown, counted, none_left, all_made}
use Rattle.script.proofs.ops.handlers_of.Goals as goal

pub loop-handler-preserved : goal.loop-handler-preserved
loop-handler-preserved c =
    let entries = entries_view c.args.entries.now in
    let handlers = c.args.entries.now.handlers.items in
    let seen = c.as_slice-handler-items in
    let i = c.loop-handler.handler-index in
    let handler = c.handler-item.result in
    let before = c.loop-handler.definitions.items in
    let after = c.push.new.self.items in
    let new = c.in_ok-push.ensures.items in
    let definition = c.in_ok-definition.definition in
    record {
      named =
          one_made isr_view handler (drop i handlers) (drop (i + 1) handlers)
          (left_in seen.result.now handlers seen.ensures.value i handler c.loop-handler-test.true c.handler-item.is)
          (with_isr_ops entries) (map (with_isr_ops entries) (map isr_view handlers))
          before after definition c.loop-handler.invariant.named c.in_ok-definition.ensures.handler new;
      formed =
          all_grown definition before after new IsLimited c.loop-handler.invariant.formed c.in_ok-definition.ensures.formed;
      count = counted definition before after new i c.loop-handler.invariant.count;
    }

pub returns : goal.returns
returns c =
    let entries = entries_view c.args.entries.now in
    let handlers = c.args.entries.now.handlers.items in
    let seen = c.as_slice-handler-items in
    let i = c.loop-handler.handler-index in
    record {
      handlers =
          all_made (with_isr_ops entries) isr_view (drop i handlers) (map (with_isr_ops entries) (map isr_view handlers))
          c.loop-handler.definitions.items c.loop-handler.invariant.named
          (none_left seen.result.now handlers seen.ensures.value i c.loop-handler-test.false);
      formed = c.loop-handler.invariant.formed;
      few =
          subst (λ n. n ≤ most_handlers) (sym c.loop-handler.invariant.count)
          (le_trans c.loop-handler.auto.handler-index-end seen.ensures.fits);
    }
