use Rattle.std.proofs.Common.{◌≡◌, ◌<◌, ◌≤◌, ◌+◌, ◌-◌, ℕ, true, false, leb, length, get_or, sym, ap, arith}
use Rattle.std.proofs.lemmas.Bool.{ltb-false, ltb-true}
use Rattle.model.specs.Application.{Interrupt}
use Rattle.kernel.proofs.Ended.{leb-no, leb-yes}
use Rattle.kernel.proofs.Ticking.{next_is_later, none_before_next, none_between, some_at_next}
use Rattle.kernel.proofs.quiet.ticks_before_next.Goals as goal

pub overflow_sub-result : goal.overflow_sub-result
overflow_sub-result c =
    let xs = c.args.interrupts.now in
    let rises = c.requires in
    let early : (k : ℕ) (d : Interrupt) → 0 ≤ k → k < c.next_after-next.result
    → leb (get_or xs k d).tick c.args.tick ≡ true = λ k d z l.
    leb-yes (get_or xs k d).tick c.args.tick (c.next_after-next.ensures.early k d l) in
    let late : (k : ℕ) (d : Interrupt) → c.next_after-next.result ≤ k
    → k < length xs → leb (get_or xs k d).tick c.args.tick ≡ false = λ k d l m.
    leb-no (get_or xs k d).tick c.args.tick (c.next_after-next.ensures.late k d l m) in
    let found = c.in-Some.ensures.lookup in
    let within : c.next_after-next.result < length xs = ltb-true c.next_after-next.result (length xs) (sym found.0) in
    let tick : c.interrupt.inside.tick ≡ c.in-Some.interrupt.now.tick = ap (λ (i : Interrupt). i.tick) c.interrupt.view_is in
    let later =
    next_is_later (λ (i : Interrupt). i.tick) xs c.next_after-next.result
    c.args.tick c.in-Some.interrupt.now within found.1 rises early late in
    omega arith

pub overflow_sub-result-in-Some : goal.overflow_sub-result-in-Some
overflow_sub-result-in-Some c =
    let xs = c.args.interrupts.now in
    let rises = c.requires in
    let early : (k : ℕ) (d : Interrupt) → 0 ≤ k → k < c.next_after-next.result
    → leb (get_or xs k d).tick c.args.tick ≡ true = λ k d z l.
    leb-yes (get_or xs k d).tick c.args.tick (c.next_after-next.ensures.early k d l) in
    let late : (k : ℕ) (d : Interrupt) → c.next_after-next.result ≤ k
    → k < length xs → leb (get_or xs k d).tick c.args.tick ≡ false = λ k d l m.
    leb-no (get_or xs k d).tick c.args.tick (c.next_after-next.ensures.late k d l m) in
    let found = c.in-Some.ensures.lookup in
    let within : c.next_after-next.result < length xs = ltb-true c.next_after-next.result (length xs) (sym found.0) in
    let tick : c.interrupt.inside.tick ≡ c.in-Some.interrupt.now.tick = ap (λ (i : Interrupt). i.tick) c.interrupt.view_is in
    let later =
    next_is_later (λ (i : Interrupt). i.tick) xs c.next_after-next.result
    c.args.tick c.in-Some.interrupt.now within found.1 rises early late in
    omega arith

pub returns-in-None-clause-none : goal.returns-in-None-clause-none
returns-in-None-clause-none c = λ t more less.
    let xs = c.args.interrupts.now in
    let rises = c.requires in
    let early : (k : ℕ) (d : Interrupt) → 0 ≤ k → k < c.next_after-next.result
    → leb (get_or xs k d).tick c.args.tick ≡ true = λ k d z l.
    leb-yes (get_or xs k d).tick c.args.tick (c.next_after-next.ensures.early k d l) in
    let late : (k : ℕ) (d : Interrupt) → c.next_after-next.result ≤ k
    → k < length xs → leb (get_or xs k d).tick c.args.tick ≡ false = λ k d l m.
    leb-no (get_or xs k d).tick c.args.tick (c.next_after-next.ensures.late k d l m) in
    let past : length xs ≤ c.next_after-next.result =
    ltb-false c.next_after-next.result (length xs) (sym c.in-None.ensures.lookup.0) in
    none_between (λ (i : Interrupt). i.tick) xs c.next_after-next.result
    c.args.tick t t early (λ k d l m. absurd (omega arith)) more (omega arith)

pub returns-in-Some-clause-none : goal.returns-in-Some-clause-none
returns-in-Some-clause-none c = λ t more less.
    let xs = c.args.interrupts.now in
    let rises = c.requires in
    let early : (k : ℕ) (d : Interrupt) → 0 ≤ k → k < c.next_after-next.result
    → leb (get_or xs k d).tick c.args.tick ≡ true = λ k d z l.
    leb-yes (get_or xs k d).tick c.args.tick (c.next_after-next.ensures.early k d l) in
    let late : (k : ℕ) (d : Interrupt) → c.next_after-next.result ≤ k
    → k < length xs → leb (get_or xs k d).tick c.args.tick ≡ false = λ k d l m.
    leb-no (get_or xs k d).tick c.args.tick (c.next_after-next.ensures.late k d l m) in
    let found = c.in-Some.ensures.lookup in
    let within : c.next_after-next.result < length xs = ltb-true c.next_after-next.result (length xs) (sym found.0) in
    let tick : c.interrupt.inside.tick ≡ c.in-Some.interrupt.now.tick = ap (λ (i : Interrupt). i.tick) c.interrupt.view_is in
    let later =
    next_is_later (λ (i : Interrupt). i.tick) xs c.next_after-next.result
    c.args.tick c.in-Some.interrupt.now within found.1 rises early late in
    none_before_next (λ (i : Interrupt). i.tick) xs c.next_after-next.result c.args.tick
    c.in-Some.interrupt.now within found.1 rises early late t more (omega arith)

pub returns-in-Some-clause-next : goal.returns-in-Some-clause-next
returns-in-Some-clause-next c = λ small none.
    let xs = c.args.interrupts.now in
    let rises = c.requires in
    let early : (k : ℕ) (d : Interrupt) → 0 ≤ k → k < c.next_after-next.result
    → leb (get_or xs k d).tick c.args.tick ≡ true = λ k d z l.
    leb-yes (get_or xs k d).tick c.args.tick (c.next_after-next.ensures.early k d l) in
    let late : (k : ℕ) (d : Interrupt) → c.next_after-next.result ≤ k
    → k < length xs → leb (get_or xs k d).tick c.args.tick ≡ false = λ k d l m.
    leb-no (get_or xs k d).tick c.args.tick (c.next_after-next.ensures.late k d l m) in
    let found = c.in-Some.ensures.lookup in
    let within : c.next_after-next.result < length xs = ltb-true c.next_after-next.result (length xs) (sym found.0) in
    let tick : c.interrupt.inside.tick ≡ c.in-Some.interrupt.now.tick = ap (λ (i : Interrupt). i.tick) c.interrupt.view_is in
    let later =
    next_is_later (λ (i : Interrupt). i.tick) xs c.next_after-next.result
    c.args.tick c.in-Some.interrupt.now within found.1 rises early late in
    let t : ℕ = c.args.tick + (c.interrupt.inside.tick - c.args.tick - 1) + 1 in
    let is : t ≡ c.in-Some.interrupt.now.tick = omega arith in
    some_at_next (λ (i : Interrupt). i.tick) xs c.next_after-next.result c.args.tick
    c.in-Some.interrupt.now within found.1 rises early late t is none
