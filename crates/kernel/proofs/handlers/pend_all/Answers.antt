use Rattle.std.proofs.Common.{ℕ, List, refl, subst, take_all}
use Rattle.model.specs.State.{for_each}
use Rattle.model.specs.Handlers.{pend}
use Rattle.machine.specs.StandsFor.{AtAny}
use Rattle.kernel.proofs.Handling.{one_more, so_all, so_more}
use Rattle.kernel.proofs.handlers.pend_all.Goals as goal

pub loop-source-preserved : goal.loop-source-preserved
loop-source-preserved c =
    let so = c.loop-source.invariant in
    record {
      any = λ log s h.
          one_more (pend c.args.app.now) (AtAny c.pend.new.self log) c.args.sources.now s c.loop-source.source-index
          c.source-item.result c.loop-source-test.true c.source-item.is
          (c.pend.ensures.does c.args.app.now c.apart.ensures log _ (so.any log s h));
      came = λ s h.
          so_more (pend c.args.app.now) c.args.sources.now c.loop-source.source-index s c.source-item.result
          c.loop-source-test.true c.source-item.is c.loop-source.all c.can_come-can.result
          (c.can_come-can.ensures _ (so.any s.log s (record { stands = h; log = refl })).stands) (so.came s h);
    }

pub returns-clause-does : goal.returns-clause-does
returns-clause-does c = λ log s h.
    subst (λ (hs : List ℕ). AtAny c.loop-source.machine log (for_each (pend c.args.app.now) hs s))
    (take_all _ _ c.loop-source-test.false) (c.loop-source.invariant.any log s h)

pub returns-clause-came : goal.returns-clause-came
returns-clause-came c = λ s h.
    so_all (pend c.args.app.now) c.args.sources.now c.loop-source.source-index s c.loop-source-test.false c.loop-source.all
    (c.loop-source.invariant.came s h)
