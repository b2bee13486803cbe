use Rattle.std.proofs.Common.{slice_index_or, sym, subst, arith}
use mir.Syntax.{of_param}
use denote.Param.Send.{shr_slice_sync}
use Rattle.std.proofs.alloc.Global.TheSendSync as global
use Rattle.std.proofs.sync.atomic.AtomicU64.TheSendSync as atomic
use Rattle.model.specs.contracts.plan.Point as points
use Rattle.model.proofs.app.App.TheSendSync as app
use Rattle.model.proofs.plan.Point.TheSendSync as point
use Rattle.report.proofs.view.View.TheSendSync as view
use Rattle.deal.proofs.Crossing.{tally_sync}
use Rattle.campaign.specs.declared.worker.Job.{Job}
use Rattle.campaign.specs.Setup.{work_of}
use Rattle.campaign.specs.Working.{IsDone}
use Rattle.shelf.proofs.shelf.Shelf.TheSendSync as shelf
use Rattle.campaign.proofs.Whole.{done_each}
use Rattle.campaign.proofs.all_rows.run_all.Goals as goal

-- All that a worker borrows may be shared: the runtime, the allocator, the setup, the gate and the word that stops it.
pub map_vec-requires-sync-F : goal.map_vec-requires-sync-F
map_vec-requires-sync-F g c κs within = record {
  shared = λ x b o κ.
      let s = x.2.now in
      let there = κs.1.1.1.1.1.1.1.1.1.1.0 in (
        (
          ((λ q. tt), c.type_bounds.sync-R.shared x.0.now x.0.ref_ptr.0 x.0.ref_ptr.1 κs.1.1.1.1.1.1.1.0),
          (
            ((λ q. tt), global.the_sync.shared x.1.now x.1.ref_ptr.0 x.1.ref_ptr.1 κ),
            (
              (
                (λ q. tt),
                (
                  (
                    ((λ q. tt), app.the_sync.shared s.app.now s.app.ref_ptr.0 s.app.ref_ptr.1 there),
                    (
                      ((λ q. tt), shelf.the_sync.shared s.shelf.now s.shelf.ref_ptr.0 s.shelf.ref_ptr.1 there),
                      (
                        ((λ q. tt), view.the_sync.shared s.view.now s.view.ref_ptr.0 s.view.ref_ptr.1 there),
                        (
                          (
                            (λ q. (tt, (tt, tt))),
                            ((shr_slice_sync (of_param 0) there points.the_row point.the_sync).shared s.points b o there).1,
                          ),
                          (((λ q. tt), tally_sync.shared s.tally.now s.tally.ref_ptr.0 s.tally.ref_ptr.1 there), tt),
                        ),
                      ),
                    ),
                  ),
                  λ q. tt,
                ),
              ),
              (
                ((λ q. tt), c.type_bounds.sync-G.shared x.3.now x.3.ref_ptr.0 x.3.ref_ptr.1 κs.1.1.1.1.1.1.1.1.1.1.1.0),
                (((λ q. tt), atomic.the_sync.shared x.4.now x.4.ref_ptr.0 x.4.ref_ptr.1 κs.1.1.1.1.1.1.1.1.1.1.1.1.0), tt),
              ),
            ),
          ),
        ),
        λ q. tt,
      );
}

pub returns-in-Ok : goal.returns-in-Ok
returns-in-Ok g c deal are =
    let setup = c.args.setup.now in
    done_each setup deal _ _ c.args.jobs.items c.in-Ok.dones.items
    (omega (arith, c.in-Ok.ensures.len, c.in-Ok.dones.ok, c.args.jobs.ok))
    (λ i j d l.
    let k = (c.in-Ok.ensures.each i d l).1 in
    subst (λ (job : Job). IsDone (work_of setup job.lane.game.lengths) job (slice_index_or c.in-Ok.dones.items i d))
    (sym (k.job_is j)) k.call.met)
    are
