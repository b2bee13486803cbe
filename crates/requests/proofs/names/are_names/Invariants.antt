use denote.Shadow.{shadow}
use denote.Text.{Utf8}
use Rattle.std.proofs.Common.{◌≡◌, length}
use Rattle.requests.specs.Names.{are_names, names_of}
use Rattle.requests.proofs.names.are_names.Given as goal

abbrev pub invariant-loop-name : goal.invariant-loop-name
invariant-loop-name l = record {
  is_text : shadow (Utf8 l.rest);
  so_far : are_names (names_of l.rest) ≡ are_names (names_of l.list);
}

abbrev pub decreases-loop-name : goal.decreases-loop-name
decreases-loop-name l = length l.rest
