use Rattle.std.proofs.Common.{arith, ◌≡◌, ◌≤◌, ◌∙◌, ap, length}
use Rattle.std.proofs.lemmas.List.{take_rest}
use Rattle.std.specs.List.{flat_map, slice_range}
use Rattle.report.specs.Text.{event_text}
use Rattle.report.proofs.Rendering.{first_low, others_text, in_two_parts}
use Rattle.report.proofs.base_events.BaseEvents.tail.Goals as goal

pub slice_bounds-result-count : goal.slice_bounds-result-count
slice_bounds-result-count c =
    let rendered = c.in-Some.rendered in
    let is = rw c.in-Some.is at c.self.invariant in
    let within : c.args.from ≤ length rendered.ends.items = grind arith in
    rw c.deref.ensures.value (first_low c.self.inside.app.now c.self.inside.events.now rendered.text.items
    rendered.ends.items is c.args.from c.end_of.result within c.end_of.ensures)

pub slice_bounds-result-start : goal.slice_bounds-result-start
slice_bounds-result-start c =
    let rendered = c.in-Some.rendered in
    let is = rw c.in-Some.is at c.self.invariant in
    let within : c.args.from ≤ length rendered.ends.items = grind arith in
    rw c.deref.ensures.value (first_low c.self.inside.app.now c.self.inside.events.now rendered.text.items
    rendered.ends.items is c.args.from c.end_of.result within c.end_of.ensures)

pub returns-in-Some : goal.returns-in-Some
returns-in-Some c =
    let app = c.self.inside.app.now in
    let events = c.self.inside.events.now in
    let rendered = c.in-Some.rendered in
    let count = c.len-in-Some.result in
    let is = rw c.in-Some.is at c.self.invariant in
    let within : c.args.from ≤ length rendered.ends.items = grind arith in
    let all : length rendered.ends.items ≡ count = grind arith in
    let low : c.args.from ≤ count = omega (arith, within, all) in
    let text = take_rest rendered.text.items c.end_of.result
    ∙ others_text app events rendered.text.items rendered.ends.items is c.args.from c.end_of.result within c.end_of.ensures
    ∙ ap (λ n. flat_map (event_text app) (slice_range events c.args.from n)) all in
    rw (← c.self.view_is, c.deref.ensures.value, text, take_rest events count)
    (in_two_parts (event_text app) events c.args.from count low)
