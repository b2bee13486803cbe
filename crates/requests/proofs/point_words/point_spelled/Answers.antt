use Rattle.std.proofs.Common.{◌≡◌, Some, ap, map, sym, true, subst}
use Rattle.std.specs.Prelude.{List}
use Rattle.grammar.specs.Grammar.{words_of}
use Rattle.grammar.specs.Points.{RawOne, RawPair, pair_view, raw_of}
use Rattle.requests.specs.Asked.{is_rising}
use Rattle.requests.proofs.Pointing.{may_rise, views_may, views_named}
use Rattle.requests.proofs.point_words.point_spelled.Goals as goal

pub injections_of-injections-requires-clause-names : goal.injections_of-injections-requires-clause-names
injections_of-injections-requires-clause-names c =
    let read : Some (RawOne (map pair_view c.in-Some-One.pairs.items)) ≡ raw_of (words_of c.as_bytes.result.now) =
    rw c.in-Some-One.field-0-is at c.in-Some-One.ensures in
    views_named (words_of c.as_bytes.result.now) c.in-Some-One.pairs.items c.as_slice.result.now read c.as_slice.ensures.value

pub injections_of-injections-requires-clause-point : goal.injections_of-injections-requires-clause-point
injections_of-injections-requires-clause-point c =
    let read : Some (RawOne (map pair_view c.in-Some-One.pairs.items)) ≡ raw_of (words_of c.as_bytes.result.now) =
    rw c.in-Some-One.field-0-is at c.in-Some-One.ensures in
    views_may (words_of c.as_bytes.result.now) c.in-Some-One.pairs.items c.as_slice.result.now read c.as_slice.ensures.value

pub invariant_of-result : goal.invariant_of-result
invariant_of-result c =
    let read : Some (RawOne (map pair_view c.in-Some-One.pairs.items)) ≡ raw_of (words_of c.as_bytes.result.now) =
    rw c.in-Some-One.field-0-is at c.in-Some-One.ensures in
    let may = views_may (words_of c.as_bytes.result.now) c.in-Some-One.pairs.items c.as_slice.result.now read
    c.as_slice.ensures.value in
    record {
      in_order =
          subst (λ (ps : List RawPair). is_rising ps ≡ true) (sym c.injections_of-injections.ensures)
          (may_rise (map pair_view c.as_slice.result.now) may);
    }
