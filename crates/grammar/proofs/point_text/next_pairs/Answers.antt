use Rattle.std.proofs.Common.{◌≡◌, ◌∙◌, ◌≤◌, ◌∷◌, ◌++◌, [], List, None, ap, arith, length, map, rules, sym}
use Rattle.std.specs.Prelude.{option_and_then}
use Rattle.std.proofs.lemmas.List.{length-map, map-append}
use Rattle.grammar.specs.Points.{RawPair, if_point, pair_view, raw_pairs}
use Rattle.grammar.proofs.PointTexts.{behind, behind_none, behind_nothing, one_more, too_many}
use Rattle.grammar.proofs.point_text.next_pairs.Goals as goal

pub returns-then-is_full : goal.returns-then-is_full
returns-then-is_full c =
    let ps : List RawPair = map pair_view c.loop-pairs.pairs.items in
    let as_many = length-map c.loop-pairs.pairs.items pair_view in
    let full : 3 ≤ length ps = search (rules, arith) in
    let some : c.loop-pairs.words ≡ [] → ⊥ = search rules in
    ap (option_and_then if_point) c.loop-pairs.invariant ∙ too_many ps c.loop-pairs.words full some

pub returns-in_err-next_pair : goal.returns-in_err-next_pair
returns-in_err-next_pair c =
    let ps : List RawPair = map pair_view c.loop-pairs.pairs.items in
    let none : raw_pairs c.args.words.now ≡ None =
    c.loop-pairs.invariant ∙ ap (behind ps) c.in_err-next_pair.ensures ∙ behind_none ps in
    rw c.from_residual.ensures (ap (option_and_then if_point) none)

pub loop-pairs-preserved : goal.loop-pairs-preserved
loop-pairs-preserved c =
    let items = c.loop-pairs.pairs.items in
    let pair = c.in_ok-next_pair.field-0 in
    let after : c.push.new.self.items ≡ items ++ pair ∷ [] = search rules in
    let more : map pair_view c.push.new.self.items ≡ map pair_view items ++ pair_view pair ∷ [] =
    ap (map pair_view) after ∙ map-append pair_view items (pair ∷ []) in
    c.loop-pairs.invariant ∙ ap (behind (map pair_view items)) c.in_ok-next_pair.ensures
    ∙ one_more (map pair_view items) (pair_view pair) (raw_pairs c.next_pair.new.words)
    ∙ ap (λ ps. behind ps (raw_pairs c.next_pair.new.words)) (sym more)

pub returns : goal.returns
returns c =
    let end : c.loop-pairs.words ≡ [] = search rules in
    c.loop-pairs.invariant ∙ ap (λ ws. behind (map pair_view c.loop-pairs.pairs.items) (raw_pairs ws)) end
    ∙ behind_nothing (map pair_view c.loop-pairs.pairs.items)
