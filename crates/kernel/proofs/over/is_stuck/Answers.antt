use Rattle.std.proofs.Common.{◌≡◌, ◌∙◌, ◌||◌, ℕ, Bool, true, false, ltb, ap, sym, refl}
use Rattle.std.specs.List.{list_any}
use Rattle.std.specs.Option.{is_none, is_some}
use Rattle.model.specs.Application.{Interrupt}
use Rattle.model.specs.State.{Source}
use Rattle.model.specs.Run.{is_interrupt_to_come}
use Rattle.machine.proofs.Either.{elapsed_is}
use Rattle.kernel.proofs.Ending.{idle_by, stuck_by}
use Rattle.kernel.proofs.Raised.{any_raised}
use Rattle.kernel.proofs.over.is_stuck.Goals as goal

pub returns-then-not-is_quiet : goal.returns-then-not-is_quiet
returns-then-not-is_quiet c = λ s h.
    let idle : true ≡ is_none c.args.machine.now.sched.current =
    idle_by _ (ap is_some (sym c.current.ensures.current) ∙ sym c.is_some.ensures ∙ c.if-is_some.false) in
    rw c.if-not-is_quiet.true at (stuck_by c.args.app.now c.args.machine.now s true c.is_quiet.result
    (is_interrupt_to_come c.args.app.now s) h idle c.is_quiet.ensures.quiet refl)

-- A handler is raised.
or_later : (a b : Bool) → true ≡ b → true ≡ a || b
or_later true b t = refl
or_later false b t = t

-- None is.
or_never : (a b : Bool) → false ≡ b → a ≡ a || b
or_never true b f = refl
or_never false b f = f

pub returns-then-is_some-2 : goal.returns-then-is_some-2
returns-then-is_some-2 c = λ s h.
    let idle : true ≡ is_none c.args.machine.now.sched.current =
    idle_by _ (ap is_some (sym c.current.ensures.current) ∙ sym c.is_some.ensures ∙ c.if-is_some.false) in
    let some : true ≡ list_any (λ (x : Source). is_some x.raised) s.sources =
    sym c.if-is_some-2.true ∙ c.is_some-2.ensures ∙ ap is_some c.first_raised.ensures ∙ any_raised c.args.machine.now s h in
    rw c.if-not-is_quiet.false at (stuck_by c.args.app.now c.args.machine.now s true
    c.is_quiet.result true h idle c.is_quiet.ensures.quiet
    (or_later (list_any (λ (i : Interrupt). ltb s.elapsed i.tick) c.args.app.now.interrupts) _ some))

pub returns : goal.returns
returns c = λ s h.
    let idle : true ≡ is_none c.args.machine.now.sched.current =
    idle_by _ (ap is_some (sym c.current.ensures.current) ∙ sym c.is_some.ensures ∙ c.if-is_some.false) in
    let none : false ≡ list_any (λ (x : Source). is_some x.raised) s.sources =
    sym c.if-is_some-2.false ∙ c.is_some-2.ensures ∙ ap is_some c.first_raised.ensures ∙ any_raised c.args.machine.now s h in
    let later : c.has_interrupt_after.result ≡ is_interrupt_to_come c.args.app.now s =
    c.has_interrupt_after.ensures
    ∙ ap (λ (n : ℕ). list_any (λ (i : Interrupt). ltb n i.tick) c.args.app.now.interrupts)
    (c.elapsed.ensures.elapsed ∙ elapsed_is c.args.machine.now s h)
    ∙ or_never (list_any (λ (i : Interrupt). ltb s.elapsed i.tick) c.args.app.now.interrupts) _ none in
    rw c.if-not-is_quiet.false at (stuck_by c.args.app.now c.args.machine.now s true
    c.is_quiet.result c.has_interrupt_after.result h idle c.is_quiet.ensures.quiet later)
