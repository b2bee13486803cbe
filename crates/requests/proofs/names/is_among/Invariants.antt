use denote.Shadow.{shadow}
use denote.Text.{Utf8}
use Rattle.std.proofs.Common.{◌≡◌, length}
use Rattle.requests.specs.Names.{is_among, names_of}
use Rattle.requests.proofs.names.is_among.Given as goal

abbrev pub invariant-loop-other : goal.invariant-loop-other
invariant-loop-other l = record {
  is_text : shadow (Utf8 l.rest);
  so_far : is_among l.name (names_of l.rest) ≡ is_among l.name (names_of l.list);
}

abbrev pub decreases-loop-other : goal.decreases-loop-other
decreases-loop-other l = length l.rest
