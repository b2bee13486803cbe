use Rattle.std.proofs.Common.{◌≡◌, ◌<◌, ◌-◌, ◌^◌, ◌∙◌, ℕ, Global, List, Vec, ap, arith, length, subst, sym}
use Rattle.model.specs.Placements.{IsExplored, Placed}
use Rattle.explorer.specs.declared.findings.Found.{Found}
use Rattle.explorer.specs.Sorting.{IsSortedOf}
use Rattle.explorer.specs.Tallies.{AreTallied}
use Rattle.explorer.specs.Totals.{placements_in}
use Rattle.explorer.proofs.Results.{if_ok}
use Rattle.explorer.proofs.Sorted.{explored, explored_all}
use Rattle.explorer.proofs.Totals.{all_counted}
use Rattle.explorer.proofs.exploring.explore.Goals as goal

pub returns : goal.returns
returns g c =
    let choices = c.in_ok-choices.choices in
    let found = c.in_ok-found.found.items in
    let long = c.in_ok-choices.ensures.long in
    let number : length choices.levels.items - 1 ≡ c.args.most = omega (arith, long) in
    let tallied : AreTallied c.args.app.now c.args.limits.now choices.handlers.items c.args.most found =
    subst (λ (m : ℕ). AreTallied c.args.app.now c.args.limits.now choices.handlers.items m found) number c.in_ok-found.ensures in
    let all : (sorted : Vec Found Global) → IsSortedOf found sorted.items
    → IsExplored c.args.app.now c.args.limits.now c.args.handlers.now c.args.most sorted.items =
    λ sorted order.
    explored c.args.app.now c.args.limits.now c.args.handlers.now choices.handlers.items c.args.most found sorted.items
    c.in_ok-choices.ensures.set tallied order in
    record {
      explored =
          if_ok {P = λ (sorted : Vec Found Global). IsSortedOf found sorted.items}
          {Q = λ (sorted : Vec Found Global).
          IsExplored c.args.app.now c.args.limits.now c.args.handlers.now c.args.most sorted.items} c.in_order.result all
          c.in_order.ensures;
      few =
          if_ok {P = λ (sorted : Vec Found Global). IsSortedOf found sorted.items}
          {Q = λ (sorted : Vec Found Global). placements_in sorted.items < 2 ^ 128} c.in_order.result
          (λ sorted order.
          subst (λ (n : ℕ). n < 2 ^ 128)
          (sym (all_counted c.args.app.now c.args.limits.now c.args.handlers.now c.args.most sorted.items (all sorted order)
          ∙ ap (λ (ps : List Placed). length ps)
          (explored_all c.args.app.now c.args.limits.now c.args.handlers.now choices.handlers.items c.args.most found sorted.items
          c.in_ok-choices.ensures.set tallied order)))
          tallied.few) c.in_order.ensures;
    }
