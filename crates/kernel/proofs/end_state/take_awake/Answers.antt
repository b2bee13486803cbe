use Rattle.std.proofs.Common.{◌≡◌, ◌∙◌, None, ap, sym}
use Rattle.model.specs.Waiting.{unlock}
use Rattle.objects.specs.Objects.{locked_by}
use Rattle.ops.proofs.Unlocking.{none_by}
use Rattle.kernel.proofs.EndStates.{none_is_awake, others_stay, woken_are}
use Rattle.kernel.proofs.end_state.take_awake.Goals as goal

pub returns-in-Some : goal.returns-in-Some
returns-in-Some c = λ s h at.
    let a = c.in-Some.ensures.awakened s h in
    record {
      woken = woken_are s a.0 a.1 at _ _ a.2.0 a.2.1;
      opened = unlock s;
      stands = c.in-Some.ensures.stands s h;
      others = others_stay s at;
    }

pub returns-in-None : goal.returns-in-None
returns-in-None c = λ s h at.
    let free : s.locked ≡ None = sym h.locked ∙ ap locked_by (none_by c.args.objects.now.lock c.in-None.ensures.locked.1) in
    record {
      woken = λ i. rw (c.nobody.ensures.0, c.nobody.ensures.1) (none_is_awake s free at i);
      opened = unlock s;
      stands = c.in-None.ensures.stands s h;
      others = others_stay s at;
    }
