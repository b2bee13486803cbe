use Rattle.std.proofs.Common.{◌≡◌, ◌∙◌, Some, map, sym}
use Rattle.model.specs.Points.{IsPoint}
use Rattle.grammar.specs.Points.{all_known, pair_view}
use Rattle.grammar.proofs.PointTexts.{is_point, known_sound}
use Rattle.script.specs.Entries.{source_names, entries_view}
use Rattle.script.proofs.Pointing.{made_point}
use Rattle.script.proofs.points.point_of.Goals as goal

pub returns : goal.returns
returns c =
    let names = source_names (entries_view c.args.entries.now) in
    let ps = map pair_view c.args.pairs.now in
    let is = c.in_ok-injections.injections.items in
    let known : all_known names ps ≡ Some is = sym c.in_ok-injections.ensures in
    let point : IsPoint is = is_point names ps is (known_sound names ps is known) c.requires in
    let same : c.as_slice.result.now ≡ is = c.as_slice.ensures.value in
    let e = c.new.ensures in
    c.ok.ensures.value
    ∙ made_point c.new.result is point (rw same at e.value) (rw same at e.empty) (rw same at e.many) (rw same at e.falling)
    ∙ sym known
