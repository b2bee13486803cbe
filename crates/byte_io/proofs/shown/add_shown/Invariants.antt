use Rattle.std.proofs.Common.{◌≡◌, false, ◌++◌, drop, length}
use Rattle.std.specs.List.{flat_map}
use Rattle.std.specs.Str.{chars}
use Rattle.byte_io.specs.Bytes.{Sent}
use Rattle.byte_io.specs.Shown.{shown_char}
use Rattle.byte_io.proofs.shown.add_shown.Given as goal

abbrev pub invariant-loop-c : goal.invariant-loop-c
invariant-loop-c g l = record {
  sent : Sent (g.W.Sink.held l.fn.writer) (g.W.Sink.held l.writer)
      (l.fn.page ++ flat_map (shown_char l.lines) (chars l.text))
      (l.page ++ flat_map (shown_char l.lines) (drop (length l.yielded) (chars l.text)));
  working : g.W.Sink.has_failed l.writer ≡ false;
}
