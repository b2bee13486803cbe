use Rattle.std.proofs.Common.{◌≡◌, ◌+◌, ℕ, List, length, map, take, arith, ap, sym, subst, ◌∙◌, take_all}
use Rattle.std.proofs.lemmas.List.{length-map}
use Rattle.model.specs.Application.{Interrupt, interrupts_at}
use Rattle.model.specs.State.{for_each}
use Rattle.model.specs.Handlers.{come}
use Rattle.machine.specs.StandsFor.{At, AtAny}
use Rattle.machine.proofs.Either.{elapsed_is}
use Rattle.machine.proofs.Renewed.{stood_after}
use Rattle.ops.proofs.Calling.{leaves_both}
use Rattle.kernel.proofs.Handling.{room_after, mapped_at, one_more}
use Rattle.kernel.proofs.handlers.come_each.Goals as goal

pub come-requires-clause-room : goal.come-requires-clause-room
come-requires-clause-room g c =
    let a = c.loop-interrupt.invariant.does.few in
    let room = c.requires.room in
    let one = c.loop-interrupt-test.true in
    let few = c.well_formed-2.ensures.few_at_once (c.args.machine.now.clock.age + c.args.machine.now.clock.held) in
    let many : length c.args.due.now
    ≡ length (interrupts_at c.args.app.now (c.args.machine.now.clock.age + c.args.machine.now.clock.held)) =
    sym (length-map c.args.due.now (λ (i : Interrupt). i.handler)) ∙ ap (λ (hs : List ℕ). length hs) c.requires.due in
    omega arith

pub come-requires-clause-stands : goal.come-requires-clause-stands
come-requires-clause-stands g c =
    stood_after _ c.args.machine.now c.loop-interrupt.machine _ _ _ c.requires.stands c.loop-interrupt.invariant.any

pub come-requires-clause-objects : goal.come-requires-clause-objects
come-requires-clause-objects g c =
    room_after c.args.app.now c.args.machine.now c.loop-interrupt.machine c.requires.objects c.loop-interrupt.invariant.leaves

pub loop-interrupt-preserved : goal.loop-interrupt-preserved
loop-interrupt-preserved g c =
    let so = c.loop-interrupt.invariant in
    let xs : List Interrupt = c.args.due.now in
    record {
      does = record {
        at = λ s h.
            one_more (come c.args.app.now) (At c.come.new.machine (g.L.Log.logged c.come.new.log).told)
            (map (λ (i : Interrupt). i.handler) xs) s c.loop-interrupt.interrupt-index c.interrupt-item.result.handler
            (rw length-map c.loop-interrupt-test.true)
            (mapped_at (λ (i : Interrupt). i.handler) xs c.loop-interrupt.interrupt-index
            c.interrupt-item.result c.loop-interrupt-test.true c.interrupt-item.is)
            (let T : ℕ → Type 0 = λ n.
            At c.come.new.machine (g.L.Log.logged c.come.new.log).told
            (come c.args.app.now n (for_each (come c.args.app.now)
            (take c.loop-interrupt.interrupt-index (map (λ (i : Interrupt). i.handler) xs)) s)) in
            subst T (ap (λ (i : Interrupt). i.handler) c.interrupt.view_is) (c.come.ensures.does.at _ (so.does.at s h)));
        few = let a = so.does.few in let b = c.come.ensures.does.few in omega arith;
        before = c.come.ensures.does.before ∙ so.does.before;
      };
      any = record {
        at = λ s h.
            one_more (come c.args.app.now) (AtAny c.come.new.machine (g.L.Log.logged c.come.new.log).told)
            (map (λ (i : Interrupt). i.handler) xs) s c.loop-interrupt.interrupt-index c.interrupt-item.result.handler
            (rw length-map c.loop-interrupt-test.true)
            (mapped_at (λ (i : Interrupt). i.handler) xs c.loop-interrupt.interrupt-index
            c.interrupt-item.result c.loop-interrupt-test.true c.interrupt-item.is)
            (let T : ℕ → Type 0 = λ n.
            AtAny c.come.new.machine (g.L.Log.logged c.come.new.log).told
            (come c.args.app.now n (for_each (come c.args.app.now)
            (take c.loop-interrupt.interrupt-index (map (λ (i : Interrupt). i.handler) xs)) s)) in
            subst T (ap (λ (i : Interrupt). i.handler) c.interrupt.view_is) (c.come.ensures.any.at _ (so.any.at s h)));
        few = let a = so.any.few in let b = c.come.ensures.any.few in omega arith;
        before = c.come.ensures.any.before ∙ so.any.before;
      };
      leaves = leaves_both c.args.machine.now c.loop-interrupt.machine c.come.new.machine so.leaves c.come.ensures.leaves;
    }

pub returns-clause-does : goal.returns-clause-does
returns-clause-does g c =
    let so = c.loop-interrupt.invariant in
    let app = c.args.app.now in
    let many : length c.args.due.now ≡ length (interrupts_at app (c.args.machine.now.clock.age + c.args.machine.now.clock.held)) =
    sym (length-map c.args.due.now (λ (i : Interrupt). i.handler)) ∙ ap (λ (hs : List ℕ). length hs) c.requires.due in
    record {
      at = λ s h.
          let P : List ℕ → Type 0 = λ hs.
          At c.loop-interrupt.machine (g.L.Log.logged c.loop-interrupt.log).told (for_each (come app) hs s) in
          let all : take c.loop-interrupt.interrupt-index (map (λ (i : Interrupt). i.handler) c.args.due.now)
          ≡ interrupts_at app s.elapsed =
          take_all _ _ (rw length-map c.loop-interrupt-test.false)
          ∙ c.requires.due ∙ ap (interrupts_at app) h.stands.rest.clock.age in
          subst P all (so.does.at s h);
      few =
          let a = so.does.few in
          let l = c.loop-interrupt.auto.interrupt-index-end in
          let few = c.well_formed-2.ensures.few_at_once (c.args.machine.now.clock.age + c.args.machine.now.clock.held) in
          omega (arith, many);
      before = so.does.before;
    }

pub returns-clause-any : goal.returns-clause-any
returns-clause-any g c =
    let so = c.loop-interrupt.invariant in
    let app = c.args.app.now in
    let many : length c.args.due.now ≡ length (interrupts_at app (c.args.machine.now.clock.age + c.args.machine.now.clock.held)) =
    sym (length-map c.args.due.now (λ (i : Interrupt). i.handler)) ∙ ap (λ (hs : List ℕ). length hs) c.requires.due in
    record {
      at = λ s h.
          let P : List ℕ → Type 0 = λ hs.
          AtAny c.loop-interrupt.machine (g.L.Log.logged c.loop-interrupt.log).told (for_each (come app) hs s) in
          let all : take c.loop-interrupt.interrupt-index (map (λ (i : Interrupt). i.handler) c.args.due.now)
          ≡ interrupts_at app s.elapsed =
          take_all _ _ (rw length-map c.loop-interrupt-test.false)
          ∙ c.requires.due ∙ ap (interrupts_at app) (elapsed_is c.args.machine.now s h.stands) in
          subst P all (so.any.at s h);
      few =
          let a = so.any.few in
          let l = c.loop-interrupt.auto.interrupt-index-end in
          let few = c.well_formed-2.ensures.few_at_once (c.args.machine.now.clock.age + c.args.machine.now.clock.held) in
          omega (arith, many);
      before = so.any.before;
    }
