use Rattle.std.proofs.Common.{arith}
use Rattle.report.proofs.text.push_injections.Goals as goal

pub push_array-requires : goal.push_array-requires
push_array-requires c =
    let few = c.requires.few in
    let one = c.in-Some.ensures.cases.1 in
    let room = c.requires.room in
    let first = c.push_injection.ensures.size in
    let size = c.loop-other.invariant.size in
    let more = c.loop-other-test.true in
    omega arith

pub push_injection-requires-in-loop-other : goal.push_injection-requires-in-loop-other
push_injection-requires-in-loop-other c =
    let few = c.requires.few in
    let one = c.in-Some.ensures.cases.1 in
    let room = c.requires.room in
    let first = c.push_injection.ensures.size in
    let size = c.loop-other.invariant.size in
    let more = c.loop-other-test.true in
    let space = c.push_array.ensures.size in
    omega arith

pub returns-clause-size : goal.returns-clause-size
returns-clause-size c =
    let few = c.requires.few in
    let one = c.in-Some.ensures.cases.1 in
    let first = c.push_injection.ensures.size in
    let size = c.loop-other.invariant.size in
    let all = c.loop-other.auto.other-index-end in
    omega arith
