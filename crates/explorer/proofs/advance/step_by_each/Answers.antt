use Rattle.std.proofs.Common.{◌≡◌, ◌∙◌, ◌≤◌, ◌+◌, ◌*◌, ◌^◌, ℕ, List, [], ◌∷◌, ◌++◌, ap, arith, length, refl, subst, sym, take}
use Rattle.std.proofs.lemmas.List.{take_more}
use Rattle.machine.specs.declared.machine.Machine.{Machine}
use Rattle.explorer.specs.Frontiers.{number_in}
use Rattle.explorer.specs.Questions.{GoOnBy, app_in, levels_in, limits_in}
use Rattle.explorer.proofs.Passing.{all_get, room_of, take_whole, takes_as, takes_none, takes_then}
use Rattle.explorer.proofs.advance.step_by_each.Goals as goal

pub step_by-requires-clause-few : goal.step_by-requires-clause-few
step_by-requires-clause-few c =
    let least = c.args.batch.now.least in
    subst (λ (now : List ℕ). length least + length now ≤ 3) (sym (c.as_slice.ensures ∙ c.now-item.is))
    (all_get (λ now. length least + length now ≤ 3) c.args.level.now c.loop-now.now-index c.now-item.result c.loop-now-test.true
    c.requires.few)

pub step_by-requires-clause-room : goal.step_by-requires-clause-room
step_by-requires-clause-room c =
    let count = c.args.batch.now.count in
    let base = number_in c.args.frontier.now in
    let i = c.loop-now.now-index in
    let on = c.loop-now-test.true in
    let sum = room_of i 1 (length c.args.level.now) count base (2 ^ 128) (omega (arith, on)) c.requires.room in
    let so_far = c.loop-now.invariant.count in
    omega (arith, sum, so_far)

pub loop-now-init : goal.loop-now-init
loop-now-init c =
    let block = c.args.block.now in
    let batch = c.args.batch.now in
    record {
      base = refl;
      takes =
          takes_none (app_in block) (limits_in block) (levels_in block) block.until
          c.args.stepper.now.base batch.count batch.least c.args.frontier.now;
      count = omega arith;
    }

pub loop-now-preserved : goal.loop-now-preserved
loop-now-preserved c =
    let block = c.args.block.now in
    let app = app_in block in
    let limits = limits_in block in
    let batch = c.args.batch.now in
    let base = c.args.stepper.now.base in
    let level = c.args.level.now in
    let i = c.loop-now.now-index in
    let now = c.as_slice.result.now in
    let old = c.args.frontier.now in
    let mid = c.loop-now.frontier in
    let new = c.step_by.new.frontier in
    let one_more : take i level ++ now ∷ [] ≡ take (i + 1) level =
    ap (λ (n : List ℕ). take i level ++ n ∷ []) (c.as_slice.ensures ∙ c.now-item.is)
    ∙ sym (take_more level i c.now-item.result c.loop-now-test.true) in
    let so_far = c.loop-now.invariant.count in
    let more = c.in_ok-step_by.ensures.count in
    record {
      base = c.loop-now.invariant.base;
      takes =
          takes_as app limits (levels_in block) block.until base batch.count batch.least
          (take i level ++ now ∷ []) (take (i + 1) level) old new one_more
          (takes_then app limits (levels_in block) block.until base batch.count batch.least
          (take i level) (now ∷ []) old mid new c.loop-now.invariant.takes
          (subst (λ (k : Machine). GoOnBy block k batch (now ∷ []) mid new) (c.set_from.ensures ∙ c.loop-now.invariant.base)
          c.in_ok-step_by.ensures.takes));
      count = omega (arith, so_far, more);
    }

pub returns-clause-takes : goal.returns-clause-takes
returns-clause-takes c =
    let block = c.args.block.now in
    let batch = c.args.batch.now in
    takes_as (app_in block) (limits_in block) (levels_in block) block.until
    c.args.stepper.now.base batch.count batch.least (take c.loop-now.now-index c.args.level.now)
    c.args.level.now c.args.frontier.now c.loop-now.frontier
    (take_whole c.args.level.now c.loop-now.now-index c.loop-now-test.false) c.loop-now.invariant.takes

pub returns-clause-count : goal.returns-clause-count
returns-clause-count c =
    let over = c.loop-now-test.false in
    let within = c.loop-now.auto.now-index-end in
    let all : c.loop-now.now-index ≡ length c.args.level.now = omega (arith, over, within) in
    subst (λ (n : ℕ). number_in c.loop-now.frontier ≤ number_in c.args.frontier.now + n * c.args.batch.now.count)
    all c.loop-now.invariant.count
