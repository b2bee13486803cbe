use Rattle.std.proofs.Common.{◌≡◌, [], ◌∷◌, ◌++◌, List}
use Rattle.model.specs.Application.{Definition}
use Rattle.random_apps.proofs.Known.{if_ok}
use Rattle.random_apps.proofs.WithDaemon.{daemon_pushed}
use Rattle.random_apps.proofs.Dice.all_tasks.Goals as goal

pub returns : goal.returns
returns c =
    let all : List Definition = c.in_ok-tasks.tasks.items ++ c.in_ok-daemon.daemon ∷ [] in
    let pushed : c.push.new.self.items ≡ all =
    if_ok c.push.result c.push.new.self.items all c.in_ok-tasks.tasks.items
    c.in_ok-ok.field-0 c.in_ok-ok.ensures.value c.push.ensures.items in
    daemon_pushed c.args.has_daemon c.args.objects.now c.in_ok-tasks.tasks.items
    c.push.new.self.items c.in_ok-daemon.daemon c.if-not-has_daemon.false pushed
    c.in_ok-tasks.ensures.four c.in_ok-tasks.ensures.tasks c.in_ok-tasks.ensures.known c.in_ok-daemon.ensures
