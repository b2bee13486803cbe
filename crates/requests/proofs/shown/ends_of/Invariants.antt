use denote.Shadow.{shadow}
use denote.Text.{Utf8}
use Rattle.std.proofs.Common.{◌≡◌, length, option_map}
use Rattle.requests.specs.Shown.{either, ends_of}
use Rattle.requests.proofs.shown.ends_of.Given as goal

abbrev pub invariant-loop-word : goal.invariant-loop-word
invariant-loop-word l = record {
  is_text : shadow (Utf8 l.rest);
  so_far : option_map (either l.ends) (ends_of l.rest) ≡ ends_of l.list;
}

abbrev pub decreases-loop-word : goal.decreases-loop-word
decreases-loop-word l = length l.rest
