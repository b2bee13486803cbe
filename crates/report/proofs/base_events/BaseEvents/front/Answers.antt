use Rattle.std.proofs.Common.{arith, ◌≤◌, length}
use Rattle.report.proofs.Rendering.{first_text, first_within}
use Rattle.report.proofs.base_events.BaseEvents.front.Goals as goal

pub slice_bounds-result-end-2 : goal.slice_bounds-result-end-2
slice_bounds-result-end-2 c =
    let rendered = c.in-Some.rendered in
    let is = rw c.in-Some.is at c.self.invariant in
    let within : c.min-count.result ≤ length rendered.ends.items = grind arith in
    rw c.deref.ensures.value (first_within c.self.inside.app.now c.self.inside.events.now rendered.text.items
    rendered.ends.items is c.min-count.result c.end_of-end.result within c.end_of-end.ensures)

pub returns-clause-text : goal.returns-clause-text
returns-clause-text c =
    let rendered = c.in-Some.rendered in
    let is = rw c.in-Some.is at c.self.invariant in
    let within : c.min-count.result ≤ length rendered.ends.items = grind arith in
    rw (← c.self.view_is, c.deref.ensures.value) (first_text c.self.inside.app.now c.self.inside.events.now
    rendered.text.items rendered.ends.items is c.min-count.result c.end_of-end.result within c.end_of-end.ensures)
