use Rattle.std.proofs.Common.{◌≡◌, ◌+◌, ◌∷◌, List, [], ap, arith, drop, refl, ◌∙◌}
use Rattle.std.proofs.lemmas.List.{drop_all}
use Rattle.model.specs.declared.op.IsrOp.{IsrOp}
use Rattle.model.specs.Blocks.{edge_of_isr, isr_edges_of, past_branch}
use Rattle.kernel.proofs.Branching.{one_counted}
use Rattle.kernel.proofs.handler_flow.past_branch.Goals as goal

pub loop-passed-init : goal.loop-passed-init
loop-passed-init c = record { few = omega arith; is = omega arith }

pub loop-passed-preserved : goal.loop-passed-preserved
loop-passed-preserved c =
    let so = c.loop-passed.invariant in
    let edges = isr_edges_of (drop (c.loop-passed.passed + 1) c.args.ops.now) in
    let one =
    one_counted c.args.ops.now c.loop-passed.passed c.index-ops-passed.result
    c.loop-passed-test.true c.index-ops-passed.is _ c.loop-passed.inner so.is in
    let on : past_branch c.loop-passed.inner (edge_of_isr c.index-ops-passed.result ∷ edges)
    ≡ past_branch c.in-Some.behind edges + 1 =
    rw (← c.edge.ensures) (c.in-Some.ensures.more edges) in
    record { few = let a = so.few in let b = c.in-Some.ensures.few in omega arith; is = omega (arith, one, on) }

pub returns-in-None : goal.returns-in-None
returns-in-None c =
    let edges = isr_edges_of (drop (c.loop-passed.passed + 1) c.args.ops.now) in
    let one =
    one_counted c.args.ops.now c.loop-passed.passed c.index-ops-passed.result c.loop-passed-test.true
    c.index-ops-passed.is _ c.loop-passed.inner c.loop-passed.invariant.is in
    let end : past_branch c.loop-passed.inner (edge_of_isr c.index-ops-passed.result ∷ edges) ≡ 1 =
    rw (← c.edge.ensures) (c.in-None.ensures.ends refl edges) in
    omega (arith, one, end)

pub returns : goal.returns
returns c =
    let l = c.loop-passed.auto.passed-end in
    let all : drop c.loop-passed.passed c.args.ops.now ≡ [] =
    drop_all c.loop-passed.passed c.args.ops.now (omega (arith, c.loop-passed-test.false)) in
    let none =
    c.loop-passed.invariant.is
    ∙ ap (λ (xs : List IsrOp). past_branch c.loop-passed.inner (isr_edges_of xs) + c.loop-passed.passed) all in
    omega (arith, none, c.loop-passed-test.false)
