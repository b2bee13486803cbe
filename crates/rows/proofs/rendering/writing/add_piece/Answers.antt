use Rattle.std.proofs.Common.{◌≡◌, ◌≤◌, ◌∙◌, ◌+◌, ◌-◌, ◌++◌, List, sym, subst, arith}
use Rattle.std.proofs.lemmas.Result.{MatchResult-from_err}
use Rattle.byte_io.specs.Bytes.{Sent, SentFront}
use Rattle.model.specs.Campaign.{Row}
use Rattle.report.specs.Views.{shown_rows}
use Rattle.rows.specs.Report.{whole}
use Rattle.rows.specs.Pieces.{some_of}
use Rattle.rows.proofs.Pieces.{some_sent, some_stopped}
use Rattle.rows.proofs.rendering.writing.add_piece.Goals as goal

pub loop-cursor-preserved : goal.loop-cursor-preserved
loop-cursor-preserved g c =
    let i = c.loop-cursor.invariant in
    let e = c.take-place.ensures in
    let rows = c.args.rows.now in
    let app = c.args.text.now.app in
    let piece = c.args.piece in
    let place = c.take-place.result in
    let number = c.loop-cursor.cursor.number in
    let text =
    subst (λ (rs : List Row).
    Sent (g.W.Sink.held c.loop-cursor.writer) (g.W.Sink.held c.add_place.new.writer)
    (c.loop-cursor.text.page ++ shown_rows app rows.view (rows.first + number) rs) c.add_place.new.text.page)
    e.rows (rw i.app at c.in_ok-add_place.ensures.text) in
    let low = i.low in
    let high : number + place.count ≤ piece.from.number + piece.count = omega (arith, e.few, c.loop-cursor-test.true) in
    record {
      app = c.in_ok-add_place.ensures.app ∙ i.app;
      at = e.at;
      low = omega (arith, e.number, i.low);
      high = omega (arith, e.number, high);
      sent =
          rw e.number (some_sent app rows.view rows.first (whole rows) piece.from.number number place.count
          piece.count low high c.requires.piece.within _ _ _ c.args.text.now.page _ i.sent _ text);
      working = c.in_ok-add_place.ensures.failed;
    }

pub returns-in_err-add_place-clause-text : goal.returns-in_err-add_place-clause-text
returns-in_err-add_place-clause-text g c =
    let i = c.loop-cursor.invariant in
    let e = c.take-place.ensures in
    let rows = c.args.rows.now in
    let app = c.args.text.now.app in
    let piece = c.args.piece in
    let place = c.take-place.result in
    let number = c.loop-cursor.cursor.number in
    let text =
    subst (λ (rs : List Row).
    SentFront (g.W.Sink.held c.loop-cursor.writer) (g.W.Sink.held c.add_place.new.writer)
    (c.loop-cursor.text.page ++ shown_rows app rows.view (rows.first + number) rs))
    e.rows (rw i.app at c.in_err-add_place.ensures.text) in
    let high : number + place.count ≤ piece.from.number + piece.count = omega (arith, e.few, c.loop-cursor-test.true) in
    MatchResult-from_err c.from_residual.result _ _ c.from_residual.ensures.0
    (λ y.
    some_stopped app rows.view rows.first (whole rows) piece.from.number number place.count
    piece.count i.low high c.requires.piece.within _ _ _ c.args.text.now.page _ i.sent text)

pub take-place-requires : goal.take-place-requires
take-place-requires g c =
    let i = c.loop-cursor.invariant in
    record {
      sound = c.requires.sound;
      at = i.at;
      more = omega (arith, c.loop-cursor-test.true, c.requires.piece.within);
      some = omega (arith, c.loop-cursor-test.true);
    }

pub add_place-requires : goal.add_place-requires
add_place-requires g c =
    let i = c.loop-cursor.invariant in
    let e = c.take-place.ensures in
    record {
      working = i.working;
      app = c.requires.app ∙ sym i.app;
      rows = c.requires.rows;
      sound = c.requires.sound;
      place = e.place;
      few = omega (arith, e.few, c.loop-cursor-test.true, c.requires.piece.within, c.requires.sound.few);
    }

pub returns-clause-text : goal.returns-clause-text
returns-clause-text g c =
    let i = c.loop-cursor.invariant in
    let rows = c.args.rows.now in
    let piece = c.args.piece in
    let app = c.args.text.now.app in
    let all : c.loop-cursor.cursor.number - piece.from.number ≡ piece.count =
    omega (arith, i.low, i.high, c.loop-cursor-test.false) in
    subst (λ n.
    Sent (g.W.Sink.held c.args.writer.now) (g.W.Sink.held c.loop-cursor.writer)
    (c.args.text.now.page ++ shown_rows app rows.view (rows.first + piece.from.number) (some_of (whole rows) piece.from.number n))
    c.loop-cursor.text.page)
    all i.sent
