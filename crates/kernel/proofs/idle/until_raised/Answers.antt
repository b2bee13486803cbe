use Rattle.std.proofs.Common.{◌∙◌, ◌-◌, ℕ, List, Some, None, ap, fold, min, sym}
use Rattle.machine.specs.StandsFor.Stands.{Placed}
use Rattle.kernel.proofs.Raised.{least_to_raised, none_later}
use Rattle.kernel.proofs.idle.until_raised.Goals as goal

pub returns-in-None-clause-least : goal.returns-in-None-clause-least
returns-in-None-clause-least c = λ s h.
    ap (λ (xs : List ℕ). fold min c.args.most xs) (sym (none_later c.args.machine.now s (Placed h) c.in-None.ensures))

pub returns-in-Some-clause-least : goal.returns-in-Some-clause-least
returns-in-Some-clause-least c = λ s h.
    c.min.ensures
    ∙ ap (λ (n : ℕ). min c.args.most n)
    (c.saturating_sub.ensures ∙ ap (λ (n : ℕ). c.in-Some.tick - n) (c.elapsed.ensures.stands s h.rest.clock))
    ∙ sym (least_to_raised c.args.machine.now s (Placed h) c.in-Some.tick c.in-Some.ensures c.args.most)
