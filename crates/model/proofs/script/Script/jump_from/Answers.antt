use Rattle.std.proofs.Common.{◌≡◌, ◌<◌, ◌≤◌, ◌+◌, ◌∙◌, ap, length, slice_index_or, subst, sym}
use Rattle.std.proofs.lemmas.Bool.{ltb-true, ltb-false}
use Rattle.model.specs.Blocks.{jump_from}
use Rattle.model.proofs.Nesting.{jump_told, none_jumps}
use Rattle.model.proofs.script.Script.jump_from.Goals as goal

pub returns-in-Some : goal.returns-in-Some
returns-in-Some c =
    let here : c.args.op_index < length c.deref.result.now = ltb-true _ _ (sym c.in-Some.ensures.lookup.0) in
    subst (λ ops. c.in-Some.next.now ≡ jump_from ops c.args.op_index) c.self.view_is
    (c.in-Some.ensures.lookup.1
    ∙ ap (λ js. slice_index_or js c.args.op_index c.in-Some.next.now) c.deref.ensures.value
    ∙ jump_told c.self.inside.ops.items c.self.inside.jumps.items c.args.op_index
    c.in-Some.next.now c.self.invariant (rw (← c.deref.ensures.value) here))

pub returns-in-None : goal.returns-in-None
returns-in-None c =
    let past : length c.deref.result.now ≤ c.args.op_index = ltb-false _ _ (sym c.in-None.ensures.lookup.0) in
    subst (λ ops. c.args.op_index + 1 ≡ jump_from ops c.args.op_index) c.self.view_is
    (none_jumps c.self.inside.ops.items c.self.inside.jumps.items
    c.args.op_index c.self.invariant (rw (← c.deref.ensures.value) past))
