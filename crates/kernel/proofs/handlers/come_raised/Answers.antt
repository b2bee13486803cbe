use Rattle.std.proofs.Common.{◌≡◌, ◌∙◌, ℕ, false, List, ap, arith, get_or, subst, sym}
use Rattle.std.specs.List.{range_with_len}
use Rattle.model.specs.State.{for_each}
use Rattle.model.specs.Handlers.{come}
use Rattle.machine.specs.StandsFor.{At, AtAny}
use Rattle.machine.proofs.Pending.{none_past}
use Rattle.machine.proofs.Renewed.{stood_after}
use Rattle.ops.proofs.Calling.{leaves_both}
use Rattle.kernel.proofs.Handling.{come_if, each_if, each_next, room_after}
use Rattle.kernel.proofs.handlers.come_raised.Goals as goal

pub come_if-requires-clause-stands : goal.come_if-requires-clause-stands
come_if-requires-clause-stands g c =
    stood_after _ c.args.machine.now c.loop-number.machine _ _ _ c.requires.stands c.loop-number.invariant.any

pub come_if-requires-clause-objects : goal.come_if-requires-clause-objects
come_if-requires-clause-objects g c =
    room_after c.args.app.now c.args.machine.now c.loop-number.machine c.requires.objects c.loop-number.invariant.leaves

pub loop-number-preserved : goal.loop-number-preserved
loop-number-preserved g c =
    let so = c.loop-number.invariant in
    record {
      does = record {
        at = λ s h.
            subst (At c.come_if.new.machine (g.L.Log.logged c.come_if.new.log).told)
            (sym (each_next (come_if c.args.app.now c.args.raised.now) c.loop-number.number s))
            (c.come_if.ensures.does.at _ (so.does.at s h));
        few = let a = so.does.few in let b = c.come_if.ensures.does.few in omega arith;
        before = c.come_if.ensures.does.before ∙ so.does.before;
      };
      any = record {
        at = λ s h.
            subst (AtAny c.come_if.new.machine (g.L.Log.logged c.come_if.new.log).told)
            (sym (each_next (come_if c.args.app.now c.args.raised.now) c.loop-number.number s))
            (c.come_if.ensures.any.at _ (so.any.at s h));
        few = let a = so.any.few in let b = c.come_if.ensures.any.few in omega arith;
        before = c.come_if.ensures.any.before ∙ so.any.before;
      };
      leaves = leaves_both c.args.machine.now c.loop-number.machine c.come_if.new.machine so.leaves c.come_if.ensures.leaves;
    }

pub returns-clause-does : goal.returns-clause-does
returns-clause-does g c =
    let so = c.loop-number.invariant in
    let few = c.until-number-end.ensures.few in
    let all : c.loop-number.number ≡ c.until-number-end.result =
    (let a = c.loop-number.auto.number-end in let b = c.loop-number-test.false in omega arith) in
    record {
      at = λ s h.
          subst (At c.loop-number.machine (g.L.Log.logged c.loop-number.log).told)
          (ap (λ (n : ℕ). for_each (come_if c.args.app.now c.args.raised.now) (range_with_len 0 n) s) all
          ∙ sym (each_if (come c.args.app.now) (λ source. get_or c.args.raised.now source false)
          (range_with_len 0 c.until-number-end.result) s)
          ∙ ap (λ (sources : List ℕ). for_each (come c.args.app.now) sources s)
          (sym (none_past (λ source. get_or c.args.raised.now source false) 0 c.until-number-end.result 17
          (λ j l. c.until-number-end.ensures.past j (omega (arith, l))) few)))
          (so.does.at s h);
      few = let a = so.does.few in omega (arith, all, few);
      before = so.does.before;
    }

pub returns-clause-any : goal.returns-clause-any
returns-clause-any g c =
    let so = c.loop-number.invariant in
    let few = c.until-number-end.ensures.few in
    let all : c.loop-number.number ≡ c.until-number-end.result =
    (let a = c.loop-number.auto.number-end in let b = c.loop-number-test.false in omega arith) in
    record {
      at = λ s h.
          subst (AtAny c.loop-number.machine (g.L.Log.logged c.loop-number.log).told)
          (ap (λ (n : ℕ). for_each (come_if c.args.app.now c.args.raised.now) (range_with_len 0 n) s) all
          ∙ sym (each_if (come c.args.app.now) (λ source. get_or c.args.raised.now source false)
          (range_with_len 0 c.until-number-end.result) s)
          ∙ ap (λ (sources : List ℕ). for_each (come c.args.app.now) sources s)
          (sym (none_past (λ source. get_or c.args.raised.now source false) 0 c.until-number-end.result 17
          (λ j l. c.until-number-end.ensures.past j (omega (arith, l))) few)))
          (so.any.at s h);
      few = let a = so.any.few in omega (arith, all, few);
      before = so.any.before;
    }
