use Rattle.std.proofs.Common.{arith, ◌≡◌, true, false, refl}
use Rattle.std.proofs.lemmas.Grind.{common_steps}
use Rattle.model.proofs.Plans.{falls_from, in_order, falls_not}
use Rattle.model.proofs.plan.falls.Goals as goal

pub returns-then-injection-last : goal.returns-then-injection-last
returns-then-injection-last c =
    let found : falls_from 0 c.args.injections.now ≡ true = grind (arith, common_steps) in
    (λ h. absurd (cc), λ rising. let isnt = falls_not c.args.injections.now rising in absurd (cc))

pub returns : goal.returns
returns c =
    let isnt : falls_from 0 c.args.injections.now ≡ false = grind (arith, common_steps) in
    (λ h. in_order c.args.injections.now isnt, λ h. refl)
