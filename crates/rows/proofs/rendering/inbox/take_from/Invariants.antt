use Rattle.std.proofs.Common.{◌≡◌, length}
use Rattle.rows.specs.Pieces.{GoOn}
use Rattle.rows.proofs.rendering.inbox.take_from.Given as goal

abbrev pub invariant-loop-inbox : goal.invariant-loop-inbox
invariant-loop-inbox l = record {
  on : GoOn l.fn.inboxes l.inboxes;
  count : length l.inboxes ≡ length l.fn.inboxes;
}
