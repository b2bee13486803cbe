use Rattle.std.proofs.Common.{ℕ, List, subst, sym, ◌≡◌, ◌≤◌, []}
use Rattle.model.specs.declared.plan.Injection.{Injection}
use Rattle.model.specs.Run.{injected}
use Rattle.explorer.proofs.GoingFar.{none_more}
use Rattle.explorer.proofs.settling.go_on_far.Goals as goal

pub go_far-requires-clause-past : goal.go_far-requires-clause-past
go_far-requires-clause-past c =
    subst (λ (plan : List Injection). (n : ℕ) → c.args.kernel.now.steps ≤ n → injected plan n ≡ [])
    (sym c.as_slice.ensures.value) (none_more c.args.batch.now.least c.args.kernel.now.steps c.requires.within.way.below)
