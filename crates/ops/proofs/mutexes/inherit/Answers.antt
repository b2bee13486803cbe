use Rattle.std.proofs.Common.{[]}
use Rattle.machine.specs.StandsFor.{At}
use Rattle.machine.proofs.Acting.{agrees_after}
use Rattle.ops.proofs.Ranking.{inherited, inherited_nothing, still_decides}
use Rattle.ops.proofs.mutexes.inherit.Goals as goal

pub returns-in-Some-clause-does : goal.returns-in-Some-clause-does
returns-in-Some-clause-does c = λ log s h.
    inherited (At c.inherit_from.new.machine log) s c.args.task c.args.object c.in-Some.holder
    (c.in-Some.ensures.stands s _ h.stands.rest.objects)
    (c.inherit_from.ensures.does log s h (c.in-Some.ensures.known s _ h.stands.rest.objects))

pub returns-in-Some-clause-can : goal.returns-in-Some-clause-can
returns-in-Some-clause-can c =
    still_decides c.args.machine.now c.inherit_from.new.machine c.args.task c.inherit_from.ensures.reranks c.requires
    (agrees_after c.args.machine.now c.inherit_from.new.machine [] []
    c.requires.agrees _ (λ s h. returns-in-Some-clause-does c [] s h))

pub returns-in_default-clause-does : goal.returns-in_default-clause-does
returns-in_default-clause-does c = λ log s h.
    inherited_nothing (At c.args.machine.now log) s c.args.task c.args.object
    (c.in_default.ensures.stands s _ h.stands.rest.objects) h
