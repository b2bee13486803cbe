use Rattle.std.proofs.Common.{◌≡◌, ◌∙◌, ◌<◌, ◌≤◌, ◌+◌, ◌-◌, ◌*◌, ◌^◌, ℕ, List, [], ◌∷◌, ◌++◌, ap, ap₂, arith, length}
use Rattle.std.proofs.Common.{length-append, refl, subst, sym, take}
use Rattle.std.specs.List.{AllByRecursion, flat_map}
use Rattle.machine.specs.declared.machine.Machine.{Machine}
use Rattle.explorer.specs.Frontiers.{number_in}
use Rattle.explorer.specs.Questions.{AreGoingOn, GoOnBy, app_in, levels_in, limits_in, nows_in}
use Rattle.explorer.proofs.Passing.{all_get, first_flat, first_room, level_fits, level_on, others_few, others_room, take_whole}
use Rattle.explorer.proofs.Passing.{takes_as, takes_none, takes_then, takes_turned}
use Rattle.explorer.proofs.Results.{on_ok}
use Rattle.explorer.proofs.advance.go_on.Goals as goal

pub step_by_each-requires : goal.step_by_each-requires
step_by_each-requires c =
    let block = c.args.block.now in
    let batch = c.args.batch.now in
    let choices = block.question.now.choices.now in
    let levels = choices.levels.items in
    let handlers = choices.handlers.items in
    let part = c.split_at.result.0.now in
    let some = c.split_at-2.result.1.now in
    let i = c.loop-level.level-index in
    let number : c.len.result - c.len-2.result ≡ length levels - length batch.least = (
    let all = c.len.ensures in
    let of_least = c.len-2.ensures in
    let long = choices.levels.ok.0 in
    omega (arith, all, of_least, long)) in
    let is : part ≡ take (length levels - length batch.least) levels =
    c.split_at.ensures.front ∙ ap₂ (λ (n : ℕ) (ls : List (List (List ℕ))). take n ls) number c.as_slice.ensures.value in
    let fit = λ (now : List ℕ). length batch.least + length now ≤ 3 in
    let all_fit : AllByRecursion (λ (level : List (List ℕ)). AllByRecursion fit level) some =
    subst (AllByRecursion (λ (level : List (List ℕ)). AllByRecursion fit level)) (sym c.split_at-2.ensures.back)
    (others_few handlers levels c.requires.choices.levels c.requires.choices.few batch.least c.requires.left part is) in
    let room : number_in c.args.frontier.now + length (flat_map (λ (ns : List (List ℕ)). ns) some) * batch.count < 2 ^ 128 =
    subst (λ (ls : List (List (List ℕ))). number_in c.args.frontier.now + length (flat_map (λ (ns : List (List ℕ)). ns) ls)
    * batch.count < 2 ^ 128) (sym c.split_at-2.ensures.back)
    (others_room handlers levels c.requires.choices.levels c.requires.choices.few batch.least c.requires.left part is
    (number_in c.args.frontier.now) batch.count (2 ^ 128) c.requires.room) in
    let level : c.as_slice-in-loop-level.result.now ≡ _ = c.as_slice-in-loop-level.ensures ∙ c.level-item.is in
    record {
      going = subst (λ (k : Machine). AreGoingOn block k batch) (sym c.loop-level.invariant.base) c.requires.going;
      few =
          subst (AllByRecursion fit) (sym level)
          (all_get (AllByRecursion fit) some i c.level-item.result c.loop-level-test.true all_fit);
      room =
          subst (λ (ns : List (List ℕ)). number_in c.loop-level.frontier + length ns * batch.count < 2 ^ 128) (sym level)
          (level_fits some i c.level-item.result c.loop-level-test.true (number_in c.loop-level.frontier)
          (number_in c.args.frontier.now) batch.count (2 ^ 128) c.loop-level.invariant.count room);
    }

pub loop-level-init : goal.loop-level-init
loop-level-init c =
    let block = c.args.block.now in
    let batch = c.args.batch.now in
    record {
      base = refl;
      takes =
          takes_none (app_in block) (limits_in block) (levels_in block) block.until c.args.stepper.now.base batch.count batch.least
          c.args.frontier.now;
      count = omega arith;
    }

pub loop-level-preserved : goal.loop-level-preserved
loop-level-preserved c =
    let block = c.args.block.now in
    let app = app_in block in
    let limits = limits_in block in
    let batch = c.args.batch.now in
    let base = c.args.stepper.now.base in
    let some = c.split_at-2.result.1.now in
    let i = c.loop-level.level-index in
    let nows = c.as_slice-in-loop-level.result.now in
    let old = c.args.frontier.now in
    let mid = c.loop-level.frontier in
    let new = c.step_by_each.new.frontier in
    let so_far = flat_map (λ (ls : List (List ℕ)). ls) (take i some) in
    let one_more : so_far ++ nows ≡ flat_map (λ (ls : List (List ℕ)). ls) (take (i + 1) some) =
    ap (λ (ns : List (List ℕ)). so_far ++ ns) (c.as_slice-in-loop-level.ensures ∙ c.level-item.is)
    ∙ sym (level_on some i c.level-item.result c.loop-level-test.true) in
    let count = c.loop-level.invariant.count in
    let more = c.in_ok-step_by_each.ensures.count in
    record {
      base = c.step_by_each.ensures.base ∙ c.loop-level.invariant.base;
      takes =
          takes_as app limits (levels_in block) block.until base batch.count batch.least (so_far ++ nows) _ old new one_more
          (takes_then app limits (levels_in block) block.until base batch.count batch.least so_far nows old mid new
          c.loop-level.invariant.takes
          (subst (λ (k : Machine). GoOnBy block k batch nows mid new) c.loop-level.invariant.base
          c.in_ok-step_by_each.ensures.takes));
      count =
          subst (λ (ns : List (List ℕ)). number_in new ≤ number_in old + length ns * batch.count) one_more
          (let sum : length (so_far ++ nows) * batch.count ≡ length so_far * batch.count + length nows * batch.count =
          ap (λ (n : ℕ). n * batch.count) (length-append so_far nows) ∙ omega arith in
          omega (arith, count, more, sum));
    }

pub step_by-requires : goal.step_by-requires
step_by-requires c =
    let block = c.args.block.now in
    let batch = c.args.batch.now in
    let choices = block.question.now.choices.now in
    let levels = choices.levels.items in
    let handlers = choices.handlers.items in
    let part = c.split_at.result.0.now in
    let some = c.split_at-2.result.1.now in
    let number : c.len.result - c.len-2.result ≡ length levels - length batch.least = (
    let all = c.len.ensures in
    let of_least = c.len-2.ensures in
    let long = choices.levels.ok.0 in
    omega (arith, all, of_least, long)) in
    let is : part ≡ take (length levels - length batch.least) levels =
    c.split_at.ensures.front ∙ ap₂ (λ (n : ℕ) (ls : List (List (List ℕ))). take n ls) number c.as_slice.ensures.value in
    let left = c.requires.left in
    let few = c.requires.choices.few in
    let whole = take_whole some c.loop-level.level-index c.loop-level-test.false in
    record {
      going = subst (λ (k : Machine). AreGoingOn block k batch) (sym c.loop-level.invariant.base) c.requires.going;
      few = omega (arith, left, few);
      room =
          first_room handlers levels c.requires.choices.levels c.requires.choices.few batch.least c.requires.left part is
          (number_in c.loop-level.frontier) (number_in c.args.frontier.now) batch.count (2 ^ 128)
          (subst (λ (ls : List (List (List ℕ))). number_in c.loop-level.frontier
          ≤ number_in c.args.frontier.now + length (flat_map (λ (ns : List (List ℕ)). ns) ls) * batch.count)
          (whole ∙ c.split_at-2.ensures.back) c.loop-level.invariant.count) c.requires.room;
    }

pub returns : goal.returns
returns c =
    let block = c.args.block.now in
    let app = app_in block in
    let limits = limits_in block in
    let batch = c.args.batch.now in
    let choices = block.question.now.choices.now in
    let levels = choices.levels.items in
    let handlers = choices.handlers.items in
    let k = c.args.stepper.now.base in
    let old = c.args.frontier.now in
    let mid = c.loop-level.frontier in
    let new = c.step_by.new.frontier in
    let part = c.split_at.result.0.now in
    let some = c.split_at-2.result.1.now in
    let number : c.len.result - c.len-2.result ≡ length levels - length batch.least = (
    let all = c.len.ensures in
    let of_least = c.len-2.ensures in
    let long = choices.levels.ok.0 in
    omega (arith, all, of_least, long)) in
    let is : part ≡ take (length levels - length batch.least) levels =
    c.split_at.ensures.front ∙ ap₂ (λ (n : ℕ) (ls : List (List (List ℕ))). take n ls) number c.as_slice.ensures.value in
    let none : List ℕ = [] in
    let flat = λ (ls : List (List (List ℕ))). flat_map (λ (ns : List (List ℕ)). ns) ls in
    let whole = take_whole some c.loop-level.level-index c.loop-level-test.false in
    on_ok c.step_by.result
    (λ takes.
    takes_as app limits (levels_in block) block.until k batch.count batch.least ((none ∷ []) ++ flat some)
    (nows_in block batch.least) old new
    (ap (λ (ls : List (List (List ℕ))). (none ∷ []) ++ flat ls) c.split_at-2.ensures.back
    ∙ first_flat handlers levels c.requires.choices.levels c.requires.choices.few batch.least c.requires.left part is)
    (takes_turned app limits (levels_in block) block.until k batch.count batch.least (flat some) (none ∷ []) old new
    (takes_then app limits (levels_in block) block.until k batch.count batch.least (flat some) (none ∷ []) old mid new
    (takes_as app limits (levels_in block) block.until k batch.count batch.least
    (flat (take c.loop-level.level-index some)) (flat some) old mid (ap flat whole) c.loop-level.invariant.takes)
    (subst (λ (j : Machine). GoOnBy block j batch (none ∷ []) mid new) c.loop-level.invariant.base takes))))
    c.step_by.ensures.takes
