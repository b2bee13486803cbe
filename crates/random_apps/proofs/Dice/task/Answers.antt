use Rattle.std.proofs.Common.{ap, sym, subst}
use Rattle.model.specs.Application.{Definition}
use Rattle.random_apps.specs.Known.{AreKnown}
use Rattle.random_apps.proofs.Dice.task.Goals as goal

pub returns-clause-known : goal.returns-clause-known
returns-clause-known c =
    subst (AreKnown c.args.objects.now) (sym (ap (λ (d : Definition). d.script) c.new.ensures.value)) c.in_ok-script.ensures.known
