use Rattle.std.proofs.Common.{◌≡◌, ◌∙◌, ◌-◌, ◌+◌, ℕ, List, arith, ap, refl, subst, sym}
use Rattle.std.specs.List.{filter, range_with_len}
use Rattle.model.specs.State.{for_each}
use Rattle.model.specs.Handlers.{none_pending, pending_of, serve, serve_pending}
use Rattle.machine.specs.Sources.{is_pending}
use Rattle.machine.specs.StandsFor.{AtAny}
use Rattle.kernel.proofs.Coming.{all_room, come_after_if, come_after_taken, come_fewer, one_more_room}
use Rattle.kernel.proofs.Handling.{each_if, each_next, serve_if}
use Rattle.kernel.proofs.handlers.serve_each_pending.Goals as goal

pub loop-number-init : goal.loop-number-init
loop-number-init g c = record {
  any = record {
    at = λ s h. c.take_pending-pending.ensures.does _ s h;
    few = omega arith;
    before = refl;
  };
  can =
      come_after_taken c.args.app.now c.well_formed-2.ensures 20 c.args.machine.now _ c.requires.can
      c.take_pending-pending.ensures.does;
}

pub serve_if_pending-requires-clause-room : goal.serve_if_pending-requires-clause-room
serve_if_pending-requires-clause-room g c =
    let few = c.loop-number.invariant.any.few in
    let room = c.requires.room in
    let l = c.loop-number-test.true in
    let one = one_more_room c.args.app.now c.loop-number.number in
    let most = all_room c.args.app.now (c.loop-number.number + 1) in
    omega arith

pub serve_if_pending-requires-clause-can : goal.serve_if_pending-requires-clause-can
serve_if_pending-requires-clause-can g c =
    let l = c.loop-number-test.true in
    come_fewer c.args.app.now c.well_formed-2.ensures _ 1 c.loop-number.machine (omega arith) c.loop-number.invariant.can

pub loop-number-preserved : goal.loop-number-preserved
loop-number-preserved g c =
    let so = c.loop-number.invariant in
    let l = c.loop-number-test.true in
    record {
      any = record {
        at = λ s h.
            subst (AtAny c.serve_if_pending.new.machine (g.L.Log.logged c.serve_if_pending.new.log).told)
            (sym (each_next (serve_if c.args.app.now c.take_pending-pending.result) c.loop-number.number (none_pending s)))
            (c.serve_if_pending.ensures.at _ (so.any.at s h));
        few =
            let a = so.any.few in
            let b = c.serve_if_pending.ensures.few in
            let one = one_more_room c.args.app.now c.loop-number.number in
            omega arith;
        before = c.serve_if_pending.ensures.before ∙ so.any.before;
      };
      can =
          come_after_if c.args.app.now c.well_formed-2.ensures c.take_pending-pending.result c.loop-number.number
          (20 - c.loop-number.number) (20 - (c.loop-number.number + 1)) (omega arith) _ c.loop-number.machine
          c.serve_if_pending.new.machine _ _ so.can c.serve_if_pending.ensures;
    }

pub returns-clause-does : goal.returns-clause-does
unfolding serve_pending
returns-clause-does g c =
    let so = c.loop-number.invariant in
    let all : c.loop-number.number ≡ 17 = (let a = c.loop-number.auto.number-end in let b = c.loop-number-test.false in omega arith)
    in
    record {
      at = λ s h.
          let were : pending_of s ≡ filter (λ source. is_pending c.take_pending-pending.result source) (range_with_len 0 17) =
          c.take_pending-pending.ensures.were s h.stands in
          subst (AtAny c.loop-number.machine (g.L.Log.logged c.loop-number.log).told)
          (ap (λ (n : ℕ). for_each (serve_if c.args.app.now c.take_pending-pending.result) (range_with_len 0 n) (none_pending s))
          all
          ∙ sym (each_if (serve c.args.app.now) (λ source. is_pending c.take_pending-pending.result source) (range_with_len 0 17)
          (none_pending s))
          ∙ ap (λ (is : List ℕ). for_each (serve c.args.app.now) is (none_pending s)) (sym were))
          (so.any.at s h);
      few = let a = so.any.few in let most = all_room c.args.app.now c.loop-number.number in omega (arith, all);
      before = so.any.before;
    }

pub returns-clause-can : goal.returns-clause-can
returns-clause-can g c =
    let a = c.loop-number.auto.number-end in
    come_fewer c.args.app.now c.well_formed-2.ensures _ 3 c.loop-number.machine (omega arith) c.loop-number.invariant.can
