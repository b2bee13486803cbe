use Rattle.random_apps.proofs.Known.{few-pushed, known-pushed}
use Rattle.random_apps.proofs.Dice.unlock_last.Goals as goal

pub returns-in-Some-clause-few : goal.returns-in-Some-clause-few
returns-in-Some-clause-few c = few-pushed _ c.push.new.self c.in-Some.op c.push.result c.push.ensures.ok c.push.ensures.err

pub returns-in-Some-clause-known : goal.returns-in-Some-clause-known
returns-in-Some-clause-known c =
    known-pushed _ _ c.push.new.self c.in-Some.op c.push.result c.push.ensures.ok
    c.push.ensures.err c.requires.known c.in-Some.ensures.known
