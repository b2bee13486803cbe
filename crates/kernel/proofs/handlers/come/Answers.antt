use Rattle.std.proofs.Common.{refl, subst, sym, ◌∙◌}
use Rattle.model.specs.State.{State}
use Rattle.model.specs.Handlers.{come, note_coming}
use Rattle.machine.specs.Can.{Leaves}
use Rattle.ops.specs.Can.{HasObjects}
use Rattle.kernel.proofs.handlers.come.Goals as goal

pub handle-requires-clause-stands : goal.handle-requires-clause-stands
handle-requires-clause-stands g c =
    let s : State = c.requires.stands.0 in (
      note_coming c.args.app.now c.args.handler s,
      (c.note_coming.ensures.any c.args.app.now c.apart.ensures s.log s
          (record { stands = c.requires.stands.1; log = refl })).stands,
    )

pub handle-requires-clause-objects : goal.handle-requires-clause-objects
handle-requires-clause-objects g c =
    subst (HasObjects c.args.app.now) (sym c.note_coming.ensures.rest) (λ o a fit. c.requires.objects o a fit)

pub returns-clause-does : goal.returns-clause-does
unfolding come
returns-clause-does g c = record {
  at = λ s h. c.handle.ensures.does.at _ (c.note_coming.ensures.does c.args.app.now c.apart.ensures _ s h);
  few = c.handle.ensures.does.few;
  before = c.handle.ensures.does.before;
}

pub returns-clause-any : goal.returns-clause-any
unfolding come
returns-clause-any g c = record {
  at = λ s h. c.handle.ensures.any.at _ (c.note_coming.ensures.any c.args.app.now c.apart.ensures _ s h);
  few = c.handle.ensures.any.few;
  before = c.handle.ensures.any.before;
}

pub returns-clause-leaves : goal.returns-clause-leaves
returns-clause-leaves g c =
    let l = c.handle.ensures.leaves in
    let noted : Leaves c.args.machine.now c.note_coming.new.self =
    subst (Leaves c.args.machine.now) (sym c.note_coming.ensures.rest) (record { depth = refl; objects = λ o a h. h }) in
    record { depth = l.depth ∙ noted.depth; objects = λ o a h. l.objects o a (noted.objects o a h) }
