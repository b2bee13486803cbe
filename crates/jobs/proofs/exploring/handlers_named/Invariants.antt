use denote.Shadow.{shadow}
use denote.Text.{Utf8}
use Rattle.std.proofs.Common.{◌≡◌, ◌++◌, Some, length, map}
use Rattle.model.specs.Words.{source_named}
use Rattle.requests.specs.Names.{names_of}
use Rattle.jobs.proofs.exploring.handlers_named.Given as goal

abbrev pub invariant-loop-name : goal.invariant-loop-name
invariant-loop-name l = record {
  is_text : shadow (Utf8 l.rest);
  known : map (source_named l.app) (names_of l.list)
      ≡ map Some l.handlers.items ++ map (source_named l.app) (names_of l.rest);
}

abbrev pub decreases-loop-name : goal.decreases-loop-name
decreases-loop-name l = length l.rest
