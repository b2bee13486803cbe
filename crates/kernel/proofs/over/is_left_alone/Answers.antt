use Rattle.std.proofs.Common.{◌&&◌, Bool, ap, sym, ◌∙◌}
use Rattle.model.specs.Run.{are_all_ended}
use Rattle.kernel.proofs.over.is_left_alone.Goals as goal

pub returns-then-not-is_endless : goal.returns-then-not-is_endless
returns-then-not-is_endless c = λ s h.
    sym (ap (λ (b : Bool). b && are_all_ended c.args.app.now s) (sym c.is_endless.ensures ∙ c.if-not-is_endless.true))

pub returns-then-is_awaited : goal.returns-then-is_awaited
returns-then-is_awaited c = λ s h.
    sym (ap (λ (b : Bool). b && are_all_ended c.args.app.now s) (sym c.is_endless.ensures ∙ c.if-not-is_endless.false)
    ∙ c.is_awaited.ensures s h c.if-is_awaited.true)

pub returns : goal.returns
returns c = λ s h.
    c.are_others_ended.ensures s h
    ∙ sym (ap (λ (b : Bool). b && are_all_ended c.args.app.now s) (sym c.is_endless.ensures ∙ c.if-not-is_endless.false))
