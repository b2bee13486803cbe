use Rattle.std.proofs.Common.{◌≤◌, ◌+◌, ℕ, List, fold, min, ap, sym, ◌∙◌, arith}
use Rattle.lists.proofs.Entries.{Each-imp}
use Rattle.clock.proofs.Nearest.{first_sleeper, least_to_wake, none_to_wake}
use Rattle.kernel.proofs.idle.until_wake.Goals as goal

pub returns-in-Some-clause-least : goal.returns-in-Some-clause-least
returns-in-Some-clause-least c = λ s h.
    let t = c.args.machine.now.clock in
    let first = first_sleeper t c.in-Some.ticks c.in-Some.ensures.nearest in
    c.min.ensures
    ∙ sym (least_to_wake t s h.rest.clock c.in-Some.ticks first.0 c.args.most first.1 first.2 c.in-Some.ensures.ahead.1)

pub returns-in-Some-clause-soon : goal.returns-in-Some-clause-soon
returns-in-Some-clause-soon c =
    let t = c.args.machine.now.clock in
    let least = c.min.ensures in
    Each-imp (λ e. t.now + c.in-Some.ticks ≤ e.1) (λ e. t.now + c.min.result ≤ e.1)
    t.delayed_list (λ e l. omega (arith, l, least)) c.in-Some.ensures.ahead.1

pub returns-in-None-clause-least : goal.returns-in-None-clause-least
returns-in-None-clause-least c = λ s h.
    ap (λ (xs : List ℕ). fold min c.args.most xs)
    (sym (none_to_wake c.args.machine.now.clock s h.rest.clock c.in-None.ensures.ahead))

pub returns-in-Some-clause-later : goal.returns-in-Some-clause-later
returns-in-Some-clause-later c =
    let t = c.args.machine.now.clock in
    let some = c.in-Some.ensures.ahead.0 in
    Each-imp (λ e. t.now + c.in-Some.ticks ≤ e.1) (λ e. t.now + 1 ≤ e.1)
    t.delayed_list (λ e l. omega (arith, l, some)) c.in-Some.ensures.ahead.1

pub returns-in-Some-clause-unslept : goal.returns-in-Some-clause-unslept
returns-in-Some-clause-unslept c = λ long. absurd (let least = c.min.ensures in omega arith)

pub returns-in-None-clause-later : goal.returns-in-None-clause-later
returns-in-None-clause-later c = rw c.in-None.ensures.ahead tt
