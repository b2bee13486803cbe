use Rattle.std.proofs.Common.{◌∙◌, ◌+◌, refl, sym, map, drop, length}
use Rattle.std.proofs.Math.Nat.{le_trans}
use Rattle.toml.specs.View.{view}
use Rattle.script.specs.Finding.{among}
use Rattle.script.specs.Entries.{entries_view}
use Rattle.script.specs.Ops.{handler_ops, op_in, ops_named}
use Rattle.script.proofs.Steps.{left, named, passed_over, grown, kept, none_left, all_named}
use Rattle.script.proofs.ops.ops_of.Goals as goal

pub loop-text-preserved : goal.loop-text-preserved
loop-text-preserved c =
    let entries = entries_view c.args.entries.now in
    let texts = c.args.texts.now in
    let i = c.loop-text.text-index in
    let ops = c.loop-text.ops.items in
    let after = c.push.new.self.items in
    let new = c.in_ok-push.ensures.items in
    record {
      named =
          named view c.text-item.result (drop i texts) (drop (i + 1) texts)
          (left texts i c.text-item.result c.loop-text-test.true c.text-item.is)
          (op_in handler_ops (among entries)) (ops_named handler_ops entries (map view texts)) ops after c.in-Some.op
          c.loop-text.invariant.named (sym c.op_in.ensures ∙ c.in-Some.is) new;
      few = grown c.in-Some.op ops after new i c.loop-text.invariant.few;
    }

pub loop-text-preserved-in_default : goal.loop-text-preserved-in_default
loop-text-preserved-in_default c =
    let entries = entries_view c.args.entries.now in
    let texts = c.args.texts.now in
    let i = c.loop-text.text-index in
    let ops = c.loop-text.ops.items in
    record {
      named =
          passed_over view c.text-item.result (drop i texts) (drop (i + 1) texts)
          (left texts i c.text-item.result c.loop-text-test.true c.text-item.is)
          (op_in handler_ops (among entries)) (ops_named handler_ops entries (map view texts)) ops
          c.loop-text.invariant.named (sym c.op_in.ensures ∙ c.in_default.is);
      few = kept (length ops) i c.loop-text.invariant.few;
    }

pub returns : goal.returns
returns c =
    let entries = entries_view c.args.entries.now in
    let texts = c.args.texts.now in
    let i = c.loop-text.text-index in
    record {
      ops =
          all_named (op_in handler_ops (among entries)) view (drop i texts) (ops_named handler_ops entries (map view texts))
          c.loop-text.ops.items c.loop-text.invariant.named (none_left texts texts refl i c.loop-text-test.false);
      few = le_trans c.loop-text.invariant.few (le_trans c.loop-text.auto.text-index-end c.requires);
    }
