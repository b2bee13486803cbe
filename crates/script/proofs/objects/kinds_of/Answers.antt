use Rattle.std.proofs.Common.{◌+◌, map, drop, refl}
use Rattle.model.specs.Scripts.{IsObjectKind}
use Rattle.script.specs.Entries.{ObjectEntry, object_view}
use Rattle.script.proofs.Steps.{left, one_made, all_grown, none_left, all_made}
use Rattle.script.proofs.objects.kinds_of.Goals as goal

pub loop-object-preserved : goal.loop-object-preserved
loop-object-preserved c =
    let objects = c.args.objects.now in
    let i = c.loop-object.object-index in
    let object = c.object-item.result in
    let before = c.loop-object.kinds.items in
    let after = c.push.new.self.items in
    let new = c.in_ok-push.ensures.items in
    let kind_of = λ (o : ObjectEntry). o.kind in
    record {
      kinds =
          one_made object_view object (drop i objects) (drop (i + 1) objects)
          (left objects i object c.loop-object-test.true c.object-item.is)
          kind_of (map kind_of (map object_view objects)) before after object.kind c.loop-object.invariant.kinds refl new;
      formed = all_grown object.kind before after new IsObjectKind c.loop-object.invariant.formed object.formed;
    }

pub returns : goal.returns
returns c =
    let objects = c.args.objects.now in
    let i = c.loop-object.object-index in
    let kind_of = λ (o : ObjectEntry). o.kind in
    record {
      kinds =
          all_made kind_of object_view (drop i objects) (map kind_of (map object_view objects)) c.loop-object.kinds.items
          c.loop-object.invariant.kinds (none_left objects objects refl i c.loop-object-test.false);
      formed = c.loop-object.invariant.formed;
    }
