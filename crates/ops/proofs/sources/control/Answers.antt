use Rattle.std.proofs.Common.{◌≡◌, ◌∙◌, ◌<◌, ℕ, ap, refl, subst, sym}
use Rattle.model.specs.declared.source.SourceOp.{SourceOp}
use Rattle.model.specs.declared.source.SourceOp.TheVariants.{Arm, Disarm, Raise, Cancel}
use Rattle.model.specs.Ops.{complete, control, do_to_source}
use Rattle.model.specs.State.{State, Progress, progress_at}
use Rattle.machine.specs.declared.machine.Machine.{Machine}
use Rattle.machine.specs.StandsFor.{At, progress_in}
use Rattle.sched.specs.Schedule.{is_ready}
use Rattle.ops.proofs.sources.control.Goals as goal

same_progress : (task handler : ℕ) (op : SourceOp) (s : State) → progress_at (do_to_source handler op s) task ≡ progress_at s task
same_progress task handler Arm s = refl
same_progress task handler Disarm s = refl
same_progress task handler (Raise ticks) s = refl
same_progress task handler Cancel s = refl

pub complete-requires : goal.complete-requires
complete-requires c =
    let is = c.do_to_source.ensures.rest in
    record {
      current = ap (λ (k : Machine). k.sched.current) is ∙ c.requires.current;
      ready = ap (λ (k : Machine). is_ready k.sched c.args.task) is ∙ c.requires.ready;
      op_index = subst (λ (k : Machine). (progress_in k.progress c.args.task).op_index < 256) (sym is) c.requires.op_index;
    }

pub returns : goal.returns
unfolding control
returns c = λ log s h.
    let done : State = do_to_source c.args.handler c.args.op s in
    subst (λ (p : Progress). At c.complete.new.self log (complete c.args.app.now c.args.task p done))
    (same_progress c.args.task c.args.handler c.args.op s)
    (c.complete.ensures.does log done (c.do_to_source.ensures.does log s h))
