use Rattle.std.proofs.Common.{rules, sym, subst}
use Rattle.model.specs.Application.{Handler}
use Rattle.random_apps.specs.Known.{IsKnownHandler}
use Rattle.random_apps.proofs.Known.{known_handler}
use Rattle.random_apps.proofs.Dice.handler.Goals as goal

pub returns : goal.returns
returns c =
    let ops = c.in_ok-ops.ensures in
    let arrival = c.arrival-armed.result in
    subst (IsKnownHandler c.args.has_daemon c.args.objects.now) (sym c.arriving.ensures)
    (subst
    (λ (h : Handler). IsKnownHandler c.args.has_daemon c.args.objects.now (record h { armed = arrival.0; apart = arrival.1 }))
    (sym c.new.ensures)
    (known_handler c.args.has_daemon c.args.objects.now _ (search rules) ops.few c.arrival-armed.ensures ops.nests ops.known))
