use denote.Shadow.{shadow}
use denote.Text.{Utf8}
use Rattle.std.proofs.Common.{◌≡◌, ◌++◌, [], decimal, drop, map, string_bytes}
use Rattle.requests.specs.Processors.{meant_after}
use Rattle.requests.proofs.Meaning.{meant_from}
use Rattle.requests.proofs.processors.push_meant.Given as goal

abbrev pub invariant-loop-word : goal.invariant-loop-word
invariant-loop-word l = record {
  is_text : shadow (Utf8 l.before);
  meant : map string_bytes l.meant.items
      ++ meant_from l.is_verbatim (decimal l.workers) l.before (map string_bytes (drop l.word-index l.words))
      ≡ map string_bytes l.fn.meant.items ++ meant_after (decimal l.workers) [] (map string_bytes l.words);
}
