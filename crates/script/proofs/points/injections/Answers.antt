use Rattle.std.proofs.Common.{◌≡◌, ◌∙◌, ◌+◌, ◌++◌, ◌∷◌, [], Option, Some, ap, arith, drop, map, option_map, refl, rules, sym}
use Rattle.model.specs.declared.plan.Injection.{Injection}
use Rattle.grammar.specs.Names.{index_of}
use Rattle.grammar.specs.Points.{all_known, all_there, injection_at, known, pair_view}
use Rattle.grammar.proofs.PointTexts.{behind, behind_nothing, one_more}
use Rattle.script.specs.Entries.{source_names, entries_view}
use Rattle.script.proofs.Steps.{left, none_left}
use Rattle.script.proofs.points.injections.Goals as goal

pub loop-pair-preserved : goal.loop-pair-preserved
loop-pair-preserved c =
    let names = source_names (entries_view c.args.entries.now) in
    let items = c.loop-pair.injections.items in
    let i = c.loop-pair.pair-index in
    let pair = c.pair-item.result in
    let rest = all_known names (map pair_view (drop (i + 1) c.args.pairs.now)) in
    let turn = left c.args.pairs.now i pair c.loop-pair-test.true c.pair-item.is in
    let index : index_of pair.handler.now names ≡ Some c.in_ok-handler.handler = search rules in
    let injection : Injection = injection_at pair.step c.in_ok-handler.handler in
    let there : known names (pair_view pair) ≡ Some injection = ap (option_map (injection_at pair.step)) index in
    let after : c.push.new.self.items ≡ items ++ injection ∷ [] = search rules in
    let known_so_far =
    c.loop-pair.invariant.0
    ∙ ap (λ ps. behind items (all_known names (map pair_view ps))) turn
    ∙ ap (λ (o : Option Injection). behind items (all_there o rest)) there
    ∙ one_more items injection rest
    ∙ ap (λ xs. behind xs rest) (sym after) in
    (known_so_far, search (rules, arith))

pub returns : goal.returns
returns c =
    let names = source_names (entries_view c.args.entries.now) in
    let items = c.loop-pair.injections.items in
    let end = none_left c.args.pairs.now c.args.pairs.now refl c.loop-pair.pair-index c.loop-pair-test.false in
    sym (c.loop-pair.invariant.0 ∙ ap (λ ps. behind items (all_known names (map pair_view ps))) end ∙ behind_nothing items)
