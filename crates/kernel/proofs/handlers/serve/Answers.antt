use Rattle.std.proofs.Common.{◌∙◌, sym}
use Rattle.model.specs.Handlers.{serve}
use Rattle.kernel.proofs.Coming.{come_objects, come_stands}
use Rattle.kernel.proofs.handlers.serve.Goals as goal

pub serve_tick-requires-clause-room : goal.serve_tick-requires-clause-room
serve_tick-requires-clause-room g c = rw (sym c.is_tick.ensures ∙ c.if-is_tick.true) at c.requires.room

pub serve_handler-requires-clause-room : goal.serve_handler-requires-clause-room
serve_handler-requires-clause-room g c = rw (sym c.is_tick.ensures ∙ c.if-is_tick.false) at c.requires.room

pub serve_handler-requires-clause-stands : goal.serve_handler-requires-clause-stands
serve_handler-requires-clause-stands g c = come_stands c.args.app.now c.well_formed-2.ensures 1 c.args.machine.now c.requires.can

pub serve_handler-requires-clause-objects : goal.serve_handler-requires-clause-objects
serve_handler-requires-clause-objects g c = come_objects c.args.app.now c.well_formed-2.ensures 1 c.args.machine.now c.requires.can

pub returns-then-is_tick : goal.returns-then-is_tick
unfolding serve
returns-then-is_tick g c =
    let yes = sym c.is_tick.ensures ∙ c.if-is_tick.true in
    record {
      at = λ s h. rw yes (c.serve_tick.ensures.at s h);
      few = rw yes c.serve_tick.ensures.few;
      before = c.serve_tick.ensures.before;
    }

pub returns-else-is_tick : goal.returns-else-is_tick
unfolding serve
returns-else-is_tick g c =
    let no = sym c.is_tick.ensures ∙ c.if-is_tick.false in
    record {
      at = λ s h. rw no (c.serve_handler.ensures.at s h);
      few = rw no c.serve_handler.ensures.few;
      before = c.serve_handler.ensures.before;
    }
