use Rattle.objects.specs.Together.{objects_of_all}
use Rattle.objects.proofs.Resetting.{objects_fresh, stands_reset}
use Rattle.objects.proofs.objects.Objects.new.Goals as goal

pub returns-clause-objects : goal.returns-clause-objects
returns-clause-objects c =
    objects_fresh c.args.objects.now c.new.result c.new-2.result c.new-3.result c.requires.few
    c.new.ensures.empty c.new-2.ensures.max_counts c.new-2.ensures.counts c.new-3.ensures.free

pub returns-clause-stands : goal.returns-clause-stands
returns-clause-stands c = λ app own few.
    stands_reset app c.args.objects.now (objects_of_all c.new.result c.new-2.result c.new-3.result)
    c.new-4.result own few (returns-clause-objects c) c.new-4.ensures.stand
