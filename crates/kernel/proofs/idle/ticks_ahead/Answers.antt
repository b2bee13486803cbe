use Rattle.std.proofs.Common.{◌≡◌, ◌≤◌, ◌+◌, ◌-◌, ◌++◌, ◌∙◌, ℕ, fold, max, min, ap, sym, arith, true, false, leb}
use Rattle.std.proofs.Math.Nat.{max_comm}
use Rattle.lists.proofs.Entries.{Each-imp}
use Rattle.model.specs.Application.{Limits}
use Rattle.model.specs.Handlers.{ticks_to_interrupt, ticks_to_raised, ticks_to_wake}
use Rattle.model.proofs.Sorting.{by_test}
use Rattle.std.proofs.lemmas.List.Sums.{fold-append}
use Rattle.std.proofs.lemmas.Bool.{leb-false, leb-true}
use Rattle.kernel.proofs.idle.ticks_ahead.Goals as goal

pub returns-clause-ahead : goal.returns-clause-ahead
returns-clause-ahead c = λ s h.
    let app = c.args.app.now in
    let limits = c.args.limits.now in
    let left : c.saturating_sub-left.result ≡ limits.ticks - s.elapsed =
    c.saturating_sub-left.ensures
    ∙ ap (λ (n : ℕ). n - c.elapsed.result) (ap (λ (x : Limits). x.ticks) c.limits.view_is)
    ∙ ap (λ (n : ℕ). limits.ticks - n) (c.elapsed.ensures.stands s h.rest.clock) in
    let wake = ticks_to_wake s in
    let interrupt = ticks_to_interrupt app s in
    let most : ℕ = limits.ticks - s.elapsed in
    c.max.ensures ∙ max_comm c.until_raised.result 1
    ∙ ap (λ (n : ℕ). max 1 n) (c.until_raised.ensures.least s h
    ∙ ap (λ (n : ℕ). fold min n (ticks_to_raised s)) (c.until_interrupt-before.ensures.least s h
    ∙ ap (λ (n : ℕ). fold min n interrupt) (c.until_wake.ensures.least s h ∙ ap (λ (n : ℕ). fold min n wake) left))
    ∙ ap (λ (n : ℕ). fold min n (ticks_to_raised s)) (sym (fold-append min most wake interrupt))
    ∙ sym (fold-append min most (wake ++ interrupt) (ticks_to_raised s)))

pub returns-clause-soon : goal.returns-clause-soon
returns-clause-soon c =
    let t = c.args.machine.now.clock in
    let is = c.max.ensures in
    let less = c.until_interrupt-before.ensures.less in
    let last = c.until_raised.ensures.less in
    by_test (leb 1 c.until_raised.result)
    (λ some. Each-imp (λ e. t.now + c.until_wake.result ≤ e.1) (λ e. t.now + c.max.result ≤ e.1) t.delayed_list
    (λ e l. let one = leb-true 1 c.until_raised.result some in omega arith) c.until_wake.ensures.soon)
    (λ none. Each-imp (λ e. t.now + 1 ≤ e.1) (λ e. t.now + c.max.result ≤ e.1) t.delayed_list
    (λ e l. let one = leb-false 1 c.until_raised.result none in omega arith) c.until_wake.ensures.later)

pub returns-clause-within : goal.returns-clause-within
returns-clause-within c =
    let is = c.max.ensures in
    let last = c.until_raised.ensures.less in
    let first = c.until_interrupt-before.ensures.less in
    let second = c.until_wake.ensures.less in
    let third = c.saturating_sub-left.ensures in
    let limit = ap (λ (x : Limits). x.ticks) c.limits.view_is in
    omega arith

pub returns-clause-unslept : goal.returns-clause-unslept
returns-clause-unslept c = λ long.
    let is = c.max.ensures in
    let less = c.until_interrupt-before.ensures.less in
    let last = c.until_raised.ensures.less in
    c.until_wake.ensures.unslept (omega arith)
