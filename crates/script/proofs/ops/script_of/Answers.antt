use Rattle.std.proofs.Common.{◌+◌, ◌++◌, [], ◌∷◌, Some, None, map, drop, length, refl, sym, ap, subst, ◌∙◌}
use Rattle.toml.specs.View.{view}
use Rattle.toml.specs.Data.{as_str}
use Rattle.model.specs.Blocks.{Nests, edges_of, ending, open_behind, with_ends}
use Rattle.model.specs.Scripts.{most_ops}
use Rattle.script.specs.Finding.{among}
use Rattle.script.specs.Entries.{entries_view}
use Rattle.script.specs.Ops.{task_ops, op_in, ops_named, script_named}
use Rattle.script.proofs.Scripts.{spelled_in_range, comes_next, others_nest, others_left}
use Rattle.script.proofs.Steps.{left, next_named, grown, kept, room, none_left}
use Rattle.script.proofs.ops.script_of.Goals as goal

pub push-requires : goal.push-requires
push-requires c =
    let entries = entries_view c.args.entries.now in
    let texts = c.args.texts.now in
    let i = c.loop-text.text-index in
    let op = c.in-Some.op in
    let builder = c.loop-text.builder in
    let spelled = sym c.op_in.ensures ∙ c.in-Some.is in
    let next =
    next_named view c.text-item.result (drop i texts) (drop (i + 1) texts)
    (left texts i c.text-item.result c.loop-text-test.true c.text-item.is)
    (op_in task_ops (among entries)) (Some op) spelled in
    record {
      range = spelled_in_range (among entries) (as_str (view c.text-item.result)) op spelled;
      room = room (length builder) i (length texts) most_ops c.loop-text.invariant.few c.loop-text-test.true c.requires.few;
      stands =
          comes_next builder (builder ++ op ∷ []) op (ops_named task_ops entries (map view (drop i texts)))
          (ops_named task_ops entries (map view (drop (i + 1) texts))) next c.loop-text.invariant.nests;
    }

pub loop-text-preserved : goal.loop-text-preserved
loop-text-preserved c =
    let entries = entries_view c.args.entries.now in
    let texts = c.args.texts.now in
    let i = c.loop-text.text-index in
    let before = c.loop-text.builder in
    let after = c.push.new.builder in
    let new = c.in_ok-push.ensures in
    let op = c.in-Some.op in
    let spelled = sym c.op_in.ensures ∙ c.in-Some.is in
    let turn = left texts i c.text-item.result c.loop-text-test.true c.text-item.is in
    let rest = ops_named task_ops entries (map view (drop i texts)) in
    let others = ops_named task_ops entries (map view (drop (i + 1) texts)) in
    let next =
    next_named view c.text-item.result (drop i texts) (drop (i + 1) texts)
    turn (op_in task_ops (among entries)) (Some op) spelled in
    record {
      nests = others_nest before after op rest others next c.loop-text.invariant.nests new;
      named = others_left before after op rest others next (script_named entries (map view texts)) c.loop-text.invariant.named new;
      few = grown (ending (open_behind before) op) before after new i c.loop-text.invariant.few;
    }

pub loop-text-preserved-in_default : goal.loop-text-preserved-in_default
loop-text-preserved-in_default c =
    let entries = entries_view c.args.entries.now in
    let texts = c.args.texts.now in
    let i = c.loop-text.text-index in
    let builder = c.loop-text.builder in
    let spelled = sym c.op_in.ensures ∙ c.in_default.is in
    let turn = left texts i c.text-item.result c.loop-text-test.true c.text-item.is in
    let next =
    next_named view c.text-item.result (drop i texts) (drop (i + 1) texts) turn (op_in task_ops (among entries)) None spelled in
    record {
      nests =
          subst (λ ops. Nests (open_behind builder) (edges_of (with_ends (open_behind builder) ops)))
          next c.loop-text.invariant.nests;
      named = c.loop-text.invariant.named ∙ ap (λ ops. builder ++ with_ends (open_behind builder) ops) next;
      few = kept (length builder) i c.loop-text.invariant.few;
    }

pub finish-requires : goal.finish-requires
finish-requires c =
    let entries = entries_view c.args.entries.now in
    let texts = c.args.texts.now in
    let i = c.loop-text.text-index in
    let builder = c.loop-text.builder in
    let blocks = open_behind builder in
    record {
      closed =
          subst (λ rest. Nests blocks (edges_of (with_ends blocks (ops_named task_ops entries (map view rest)))))
          (none_left texts texts refl i c.loop-text-test.false) c.loop-text.invariant.nests;
    }
