use Rattle.std.proofs.Common.{ℕ, List, ◌-◌, ◌+◌, arith, subst, ◌∙◌, take_all}
use Rattle.model.specs.State.{for_each}
use Rattle.model.specs.Handlers.{inject}
use Rattle.machine.specs.StandsFor.{AtAny}
use Rattle.kernel.proofs.Coming.{come_after_injected, come_fewer, most_room}
use Rattle.kernel.proofs.Handling.{one_more, so_all, so_more}
use Rattle.kernel.proofs.handlers.inject_all.Goals as goal

pub inject-came-requires-clause-room : goal.inject-came-requires-clause-room
inject-came-requires-clause-room g c =
    let a = c.loop-source.invariant.any.few in
    let room = c.requires.room in
    let few = c.requires.few in
    let one = c.loop-source-test.true in
    let most = most_room c.args.app.now c.source-item.result in
    omega arith

pub inject-came-requires-clause-can : goal.inject-came-requires-clause-can
inject-came-requires-clause-can g c =
    let few = c.requires.few in
    let one = c.loop-source-test.true in
    come_fewer c.args.app.now c.well_formed-2.ensures _ 1 c.loop-source.machine (omega arith) c.loop-source.invariant.can

pub loop-source-preserved : goal.loop-source-preserved
loop-source-preserved g c =
    let so = c.loop-source.invariant in
    let few = c.requires.few in
    let one = c.loop-source-test.true in
    let most = most_room c.args.app.now c.source-item.result in
    record {
      any = record {
        at = λ s h.
            one_more (inject c.args.app.now) (AtAny c.inject-came.new.machine (g.L.Log.logged c.inject-came.new.log).told)
            c.args.sources.now s c.loop-source.source-index c.source-item.result
            c.loop-source-test.true c.source-item.is (c.inject-came.ensures.does.at _ (so.any.at s h));
        few = let a = so.any.few in let b = c.inject-came.ensures.does.few in omega arith;
        before = c.inject-came.ensures.does.before ∙ so.any.before;
      };
      can =
          come_after_injected c.args.app.now c.well_formed-2.ensures c.source-item.result (3 - c.loop-source.source-index)
          (3 - (c.loop-source.source-index + 1)) (omega arith) _ c.loop-source.machine c.inject-came.new.machine _ _ so.can
          c.inject-came.ensures.does;
      came = λ s h.
          so_more (inject c.args.app.now) c.args.sources.now c.loop-source.source-index s c.source-item.result
          c.loop-source-test.true c.source-item.is c.loop-source.all c.inject-came.result
          (c.inject-came.ensures.came _ (so.any.at s h).stands) (so.came s h);
    }

pub returns-clause-does : goal.returns-clause-does
returns-clause-does g c =
    let so = c.loop-source.invariant in
    record {
      at = λ s h.
          subst (λ (hs : List ℕ).
          AtAny c.loop-source.machine (g.L.Log.logged c.loop-source.log).told (for_each (inject c.args.app.now) hs s))
          (take_all _ _ c.loop-source-test.false) (so.any.at s h);
      few = let a = so.any.few in let l = c.loop-source.auto.source-index-end in let few = c.requires.few in omega arith;
      before = so.any.before;
    }

pub returns-clause-came : goal.returns-clause-came
returns-clause-came g c = λ s h.
    so_all (inject c.args.app.now) c.args.sources.now c.loop-source.source-index s c.loop-source-test.false c.loop-source.all
    (c.loop-source.invariant.came s h)
