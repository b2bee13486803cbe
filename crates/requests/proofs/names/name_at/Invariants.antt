use denote.Shadow.{shadow}
use denote.Text.{Utf8}
use Rattle.std.proofs.Common.{◌≡◌, length}
use Rattle.requests.specs.Names.{name_at, names_of}
use Rattle.requests.proofs.names.name_at.Given as goal

abbrev pub invariant-loop-name : goal.invariant-loop-name
invariant-loop-name l = record {
  is_text : shadow (Utf8 l.rest);
  so_far : name_at l.left (names_of l.rest) ≡ name_at l.place (names_of l.list);
}

abbrev pub decreases-loop-name : goal.decreases-loop-name
decreases-loop-name l = length l.rest
