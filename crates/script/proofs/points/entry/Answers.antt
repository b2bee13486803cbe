use Rattle.std.proofs.Common.{◌≡◌, Some, rules}
use Rattle.grammar.specs.Grammar.{words_of}
use Rattle.grammar.specs.Points.{raw_of, raw_view}
use Rattle.grammar.proofs.PointTexts.{formed}
use Rattle.script.proofs.points.entry.Goals as goal

pub known_entry-requires : goal.known_entry-requires
known_entry-requires c =
    let read : raw_of (words_of c.as_bytes.result.now) ≡ Some (raw_view c.in-Some-read_point.raw) = search rules in
    formed (words_of c.as_bytes.result.now) (raw_view c.in-Some-read_point.raw) read
