use Rattle.std.proofs.Common.{◌≡◌, ◌+◌, ◌∙◌, ℕ, List, ◌++◌, ap, arith, refl, subst, sym}
use Rattle.model.specs.declared.plan.Injection.{Injection}
use Rattle.model.specs.Placements.{before_this}
use Rattle.explorer.specs.Layers.{AreAt, HasWay, each_followed}
use Rattle.explorer.specs.Questions.{app_in, levels_in, limits_in}
use Rattle.explorer.proofs.Passing.{takes_missed, takes_next}
use Rattle.explorer.proofs.Results.{on_ok}
use Rattle.explorer.proofs.Stepping.{all_follow, can, next_steps, none_follows, stepped, way_next}
use Rattle.explorer.proofs.advance.step_by.Goals as goal

pub step-came-requires-clause-going : goal.step-came-requires-clause-going
step-came-requires-clause-going c =
    let block = c.args.block.now in
    can (app_in block) c.well_formed-2.ensures (limits_in block) c.well_formed-3.ensures c.args.kernel.now c.requires.going.goes

pub keep-requires-clause-within : goal.keep-requires-clause-within
keep-requires-clause-within c =
    let app = app_in c.args.block.now in
    let limits = limits_in c.args.block.now in
    let k = c.args.kernel.now in
    let now = c.args.now.now in
    let plan = c.args.batch.now.least in
    let going = c.requires.going in
    let least : plan ++ before_this k.steps now ≡ c.followed_by.result =
    ap (λ (m : ℕ). plan ++ before_this m now) (sym c.steps-step.ensures) ∙ sym c.followed_by.ensures in
    let next =
    next_steps app c.well_formed-2.ensures limits c.well_formed-3.ensures k going.goes k.steps refl now c.step-came.new.self
    c.step-came.ensures.stands plan going.way in
    let ahead = going.ahead in
    record {
      way =
          subst (HasWay app limits c.step-came.new.self) least
          (way_next app c.well_formed-2.ensures limits c.well_formed-3.ensures k going.goes k.steps refl now c.step-came.new.self
          c.step-came.ensures.stands plan going.way);
      ahead = omega (arith, next, ahead);
    }

pub returns-clause-takes : goal.returns-clause-takes
returns-clause-takes c =
    let block = c.args.block.now in
    let app = app_in block in
    let limits = limits_in block in
    let k = c.args.kernel.now in
    let batch = c.args.batch.now in
    let now = c.args.now.now in
    let longer = c.followed_by.result in
    on_ok c.keep.result
    (λ takes.
    takes_next app limits (levels_in block) block.until k batch.count batch.least c.step-came.new.self longer now
    c.args.frontier.now c.keep.new.frontier takes
    (λ n more at.
    let least : batch.least ++ before_this n now ≡ longer =
    ap (λ (m : ℕ). batch.least ++ before_this m now) (sym at.here ∙ sym c.steps-step.ensures) ∙ sym c.followed_by.ensures in
    subst (λ (ps : List (List Injection)). AreAt app limits (n + 1) c.step-came.new.self batch.count longer ps)
    (sym (all_follow app limits k now c.step-came.result c.step-came.ensures.came n batch.count batch.least more at
    c.if-not-came.false))
    (subst (λ (l : List Injection). AreAt app limits (n + 1) c.step-came.new.self batch.count l (each_followed n more now)) least
    (stepped app c.well_formed-2.ensures limits c.well_formed-3.ensures k c.requires.going.goes n at.here now c.step-came.new.self
    c.step-came.ensures.stands batch.count batch.least more at))))
    c.keep.ensures.takes

pub returns-then-not-came-clause-takes : goal.returns-then-not-came-clause-takes
returns-then-not-came-clause-takes c =
    let block = c.args.block.now in
    let app = app_in block in
    let limits = limits_in block in
    let k = c.args.kernel.now in
    let batch = c.args.batch.now in
    let now = c.args.now.now in
    takes_missed app limits (levels_in block) block.until k batch.count batch.least now c.args.frontier.now
    (λ n more at. none_follows app limits k now c.step-came.result c.step-came.ensures.came n batch.count batch.least more at
    c.if-not-came.true)
