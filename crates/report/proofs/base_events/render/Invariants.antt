use Rattle.std.proofs.Common.{◌≡◌, length}
use Rattle.report.specs.Writing.{IsRendered}
use Rattle.report.proofs.base_events.render.Given as goal

abbrev pub invariant-loop-number : goal.invariant-loop-number
invariant-loop-number l = record {
  app : l.lines ≡ l.fn.lines;
  as_many : length l.rendered.ends.items ≡ l.number;
  is : IsRendered l.fn.lines l.events l.rendered.text.items l.rendered.ends.items;
}
