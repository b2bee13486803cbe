use Rattle.std.proofs.Common.{◌≡◌, ◌<◌, ◌∙◌, List, get_or, length, subst, sym}
use Rattle.model.specs.State.{State}
use Rattle.machine.specs.declared.machine.Machine.{Machine}
use Rattle.machine.specs.StandsFor.{Stands}
use Rattle.explorer.specs.declared.layer.Node.{Node}
use Rattle.explorer.proofs.layer.Layer.find.Goals as goal

pub returns-then-is_at : goal.returns-then-is_at
returns-then-is_at c =
    let node = c.in_ok-node.node.now in
    let number = c.loop.number in
    let lookup = c.in_ok-node.ensures.lookup in
    record {
      node = node;
      within = subst (λ (ns : List Node). number < length ns) c.deref-in-loop.ensures.value lookup.3.0;
      is = sym (subst (λ (ns : List Node). node ≡ get_or ns number node) c.deref-in-loop.ensures.value lookup.1);
      long = sym c.len.ensures ∙ c.if-len-length.true;
      steps =
          subst (λ (k : Machine). c.args.kernel.now.steps ≡ k.steps) c.deref-then-len-length.ensures
          (c.is_at.ensures.steps c.if-is_at.true);
      stands =
          subst (λ (k : Machine). (s : State) → Stands c.args.kernel.now s → Stands k s) c.deref-then-len-length.ensures
          (c.is_at.ensures.stands c.if-is_at.true);
    }
